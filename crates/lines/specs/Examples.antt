-- The definitions are tried: antt computes numbers, lines and the tally. Everything here is closed, and every proof is refl.
-- Bytes: 48 to 57 are the digits, 32 is a space and 10 a line's end.
use Rattle.std.specs.Prelude.{◌≡◌, refl, [], ◌∷◌, ℕ}
use Rattle.lines.specs.declared.tally.Tally.{Tally}
use Rattle.lines.specs.Lines.{digits, number, line, none, noted, ending}

abbrev tally : ℕ → ℕ → ℕ → Tally
tally n a r = record { records = n; accepted = a; refused = r }

record Examples : Type 0 where
  -- one digit, two, and the ten of the largest number of 32 bits; what stands behind comes behind
  small : number 0 (7 ∷ []) ≡ 48 ∷ 7 ∷ []
  one_digit : number 9 (7 ∷ []) ≡ 57 ∷ 7 ∷ []
  two_digits : number 10 (7 ∷ []) ≡ 49 ∷ 48 ∷ 7 ∷ []
  largest : number 4294967295 (7 ∷ []) ≡ 52 ∷ 50 ∷ 57 ∷ 52 ∷ 57 ∷ 54 ∷ 55 ∷ 50 ∷ 57 ∷ 53 ∷ 7 ∷ []
  -- "single spaces between": `1 23 456`
  three : line 1 23 456 ≡ 49 ∷ 32 ∷ 50 ∷ 51 ∷ 32 ∷ 52 ∷ 53 ∷ 54 ∷ 10 ∷ []
  -- the tally begins with zeros; every refusal counts as refused, 1 too
  begins : none ≡ tally 0 0 0
  accepts : noted (tally 5 3 2) 0 ≡ tally 6 4 2
  refuses : noted (tally 5 3 2) 1 ≡ tally 6 3 3
  -- "after the word `end`": `end 5 3 2`
  last : ending (tally 5 3 2) ≡ 101 ∷ 110 ∷ 100 ∷ 32 ∷ 53 ∷ 32 ∷ 51 ∷ 32 ∷ 50 ∷ 10 ∷ []

examples : Examples
unfolding digits number line noted ending
examples = record {
  small = refl;
  one_digit = refl;
  two_digits = refl;
  largest = refl;
  three = refl;
  begins = refl;
  accepts = refl;
  refuses = refl;
  last = refl;
}
