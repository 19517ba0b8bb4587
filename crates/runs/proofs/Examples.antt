-- The definitions are tried: antt computes document 01's session, from its bytes to the bytes of its output (from record 9 on as Q-6
-- has it), and the ends of the input. All of that is closed, and its proof is refl.
use Rattle.std.specs.Prelude.{◌≡◌, refl, List, [], ◌∷◌, ◌++◌, ℕ, ◌/◌, length, take, replicate}
use Rattle.std.proofs.Common.{sym, ap, ◌∙◌, arith, take_all, take_at}
use Rattle.rules.specs.Unfolded.{the_rules}
use Rattle.entries.specs.Entries.{decode}
use Rattle.steps.specs.Session.{before, refused, accepted, passed, blank, perform, step}
use Rattle.lines.specs.Lines.{digits, number, line, none, noted, ending}
use Rattle.runs.specs.Run.{rest, run, bytes_read, transcript}

-- (op, x, y, i, v) of document 01, v as four bytes
abbrev input : List ℕ
input =
    0 ∷ 0 ∷ 0 ∷ 6 ∷ 8 ∷ 0 ∷ 0 ∷ 0 ∷
    1 ∷ 0 ∷ 1 ∷ 3 ∷ 0 ∷ 0 ∷ 0 ∷ 0 ∷
    1 ∷ 2 ∷ 0 ∷ 3 ∷ 0 ∷ 0 ∷ 0 ∷ 0 ∷
    1 ∷ 1 ∷ 0 ∷ 4 ∷ 0 ∷ 0 ∷ 0 ∷ 0 ∷
    1 ∷ 3 ∷ 0 ∷ 2 ∷ 0 ∷ 0 ∷ 0 ∷ 0 ∷
    3 ∷ 2 ∷ 0 ∷ 2 ∷ 77 ∷ 0 ∷ 0 ∷ 0 ∷
    2 ∷ 0 ∷ 2 ∷ 0 ∷ 0 ∷ 0 ∷ 0 ∷ 0 ∷
    1 ∷ 4 ∷ 0 ∷ 0 ∷ 0 ∷ 0 ∷ 0 ∷ 0 ∷
    7 ∷ 0 ∷ 0 ∷ 0 ∷ 0 ∷ 0 ∷ 0 ∷ 0 ∷
    7 ∷ 0 ∷ 0 ∷ 0 ∷ 0 ∷ 0 ∷ 0 ∷ 0 ∷
    5 ∷ 0 ∷ 1 ∷ 0 ∷ 2 ∷ 0 ∷ 0 ∷ 0 ∷
    5 ∷ 1 ∷ 0 ∷ 0 ∷ 255 ∷ 255 ∷ 255 ∷ 255 ∷
    7 ∷ 0 ∷ 0 ∷ 0 ∷ 0 ∷ 0 ∷ 0 ∷ 0 ∷
    5 ∷ 1 ∷ 0 ∷ 0 ∷ 0 ∷ 0 ∷ 0 ∷ 0 ∷
    7 ∷ 0 ∷ 0 ∷ 0 ∷ 0 ∷ 0 ∷ 0 ∷ 0 ∷
    4 ∷ 2 ∷ 0 ∷ 2 ∷ 0 ∷ 0 ∷ 0 ∷ 0 ∷
    4 ∷ 0 ∷ 0 ∷ 0 ∷ 0 ∷ 0 ∷ 0 ∷ 0 ∷ []

-- "Whole output", line by line
abbrev output : List ℕ
output =
    48 ∷ 32 ∷ 48 ∷ 32 ∷ 48 ∷ 10 ∷
    49 ∷ 32 ∷ 48 ∷ 32 ∷ 56 ∷ 10 ∷
    50 ∷ 32 ∷ 48 ∷ 32 ∷ 49 ∷ 50 ∷ 10 ∷
    51 ∷ 32 ∷ 48 ∷ 32 ∷ 49 ∷ 54 ∷ 10 ∷
    52 ∷ 32 ∷ 48 ∷ 32 ∷ 50 ∷ 49 ∷ 10 ∷
    53 ∷ 32 ∷ 48 ∷ 32 ∷ 48 ∷ 10 ∷
    54 ∷ 32 ∷ 48 ∷ 32 ∷ 48 ∷ 10 ∷
    55 ∷ 32 ∷ 51 ∷ 32 ∷ 48 ∷ 10 ∷
    56 ∷ 32 ∷ 48 ∷ 32 ∷ 49 ∷ 54 ∷ 10 ∷
    57 ∷ 32 ∷ 48 ∷ 32 ∷ 57 ∷ 10 ∷
    49 ∷ 48 ∷ 32 ∷ 48 ∷ 32 ∷ 49 ∷ 56 ∷ 10 ∷
    49 ∷ 49 ∷ 32 ∷ 48 ∷ 32 ∷ 55 ∷ 10 ∷
    49 ∷ 50 ∷ 32 ∷ 48 ∷ 32 ∷ 49 ∷ 49 ∷ 10 ∷
    49 ∷ 51 ∷ 32 ∷ 48 ∷ 32 ∷ 50 ∷ 52 ∷ 10 ∷
    49 ∷ 52 ∷ 32 ∷ 48 ∷ 32 ∷ 51 ∷ 10 ∷
    49 ∷ 53 ∷ 32 ∷ 48 ∷ 32 ∷ 55 ∷ 55 ∷ 10 ∷
    49 ∷ 54 ∷ 32 ∷ 48 ∷ 32 ∷ 50 ∷ 56 ∷ 10 ∷
    101 ∷ 110 ∷ 100 ∷ 32 ∷ 49 ∷ 55 ∷ 32 ∷ 49 ∷ 54 ∷ 32 ∷ 49 ∷ 10 ∷ []

-- Q-2: an object at 8 of 4 words in root 0. Looked up are its start, its last word, the word behind it and, modulo 2^32, the one
-- before it. Operation 9 is none.
abbrev looked : List ℕ
looked =
    0 ∷ 0 ∷ 0 ∷ 6 ∷ 8 ∷ 0 ∷ 0 ∷ 0 ∷
    1 ∷ 0 ∷ 0 ∷ 3 ∷ 0 ∷ 0 ∷ 0 ∷ 0 ∷
    8 ∷ 0 ∷ 0 ∷ 0 ∷ 0 ∷ 0 ∷ 0 ∷ 0 ∷
    8 ∷ 0 ∷ 0 ∷ 0 ∷ 3 ∷ 0 ∷ 0 ∷ 0 ∷
    8 ∷ 0 ∷ 0 ∷ 0 ∷ 4 ∷ 0 ∷ 0 ∷ 0 ∷
    8 ∷ 0 ∷ 0 ∷ 0 ∷ 255 ∷ 255 ∷ 255 ∷ 255 ∷
    9 ∷ 0 ∷ 0 ∷ 0 ∷ 0 ∷ 0 ∷ 0 ∷ 0 ∷ []

abbrev told : List ℕ
told =
    48 ∷ 32 ∷ 48 ∷ 32 ∷ 48 ∷ 10 ∷
    49 ∷ 32 ∷ 48 ∷ 32 ∷ 56 ∷ 10 ∷
    50 ∷ 32 ∷ 48 ∷ 32 ∷ 56 ∷ 10 ∷
    51 ∷ 32 ∷ 49 ∷ 48 ∷ 32 ∷ 56 ∷ 10 ∷
    52 ∷ 32 ∷ 52 ∷ 32 ∷ 48 ∷ 10 ∷
    53 ∷ 32 ∷ 52 ∷ 32 ∷ 48 ∷ 10 ∷
    54 ∷ 32 ∷ 57 ∷ 32 ∷ 48 ∷ 10 ∷
    101 ∷ 110 ∷ 100 ∷ 32 ∷ 55 ∷ 32 ∷ 51 ∷ 32 ∷ 52 ∷ 10 ∷ []

-- a start, one with T 2, which is refused 1, an allocation, operation 9, and one byte more
abbrev mixed : List ℕ
mixed =
    0 ∷ 0 ∷ 0 ∷ 6 ∷ 8 ∷ 0 ∷ 0 ∷ 0 ∷
    0 ∷ 0 ∷ 0 ∷ 2 ∷ 8 ∷ 0 ∷ 0 ∷ 0 ∷
    1 ∷ 0 ∷ 0 ∷ 3 ∷ 0 ∷ 0 ∷ 0 ∷ 0 ∷
    9 ∷ 0 ∷ 0 ∷ 0 ∷ 0 ∷ 0 ∷ 0 ∷ 0 ∷
    1 ∷ []

record Examples : Type 0 where
  document01 : transcript input ≡ output
  look_up : transcript looked ≡ told
  -- "Empty input": `end 0 0 0`
  empty : transcript [] ≡ 101 ∷ 110 ∷ 100 ∷ 32 ∷ 48 ∷ 32 ∷ 48 ∷ 32 ∷ 48 ∷ 10 ∷ []
  -- seven bytes: `0 9 0` and `end 1 0 1`
  seven : transcript (take 7 input) ≡ 48 ∷ 32 ∷ 57 ∷ 32 ∷ 48 ∷ 10 ∷ 101 ∷ 110 ∷ 100 ∷ 32 ∷ 49 ∷ 32 ∷ 48 ∷ 32 ∷ 49 ∷ 10 ∷ []
  -- every line has its own number, the partial record's too, and the tally counts each refusal
  numbered : transcript mixed
      ≡ line 0 0 0 ++ line 1 1 0 ++ line 2 0 8 ++ line 3 9 0 ++ line 4 9 0 ++ ending (record { records = 5; accepted = 2; refused = 3 })
  -- "a lent buffer of at most 8,000 records": 64,000 bytes
  at_most : length (bytes_read (replicate 64001 7)) ≡ 64000

examples : Examples
unfolding the_rules decode before refused accepted passed blank perform step digits number line noted ending rest run transcript
examples = record {
  document01 = refl;
  look_up = refl;
  empty = refl;
  seven = refl;
  numbered = refl;
  at_most = refl;
}

-- "later bytes are not read", of any input: what stands behind the 64,000th makes no difference
later_bytes : (first later : List ℕ) → length first ≡ 64000 → transcript (first ++ later) ≡ transcript first
unfolding transcript
later_bytes first later e =
    let all : take 64000 first ≡ first = take_all 64000 first (omega arith) in
    ap (λ (bytes : List ℕ). run (length bytes / 8) bytes 0 before none) (take_at first later 64000 e ∙ sym all)
