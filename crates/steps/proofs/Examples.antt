-- The definitions are tried: antt computes what each step answers, and the session after it. Everything here is closed, and
-- every proof is refl.
use Rattle.std.specs.Prelude.{◌≡◌, ℕ, true, false, List, [], ◌∷◌, ◌++◌, map, replicate, slice_set, refl}
use Rattle.rules.specs.Header.{header_of}
use Rattle.rules.specs.Lent.{Lent, lent}
use Rattle.rules.specs.Calls.{Outcome, allocate}
use Rattle.rules.specs.Collect.{CollectOutcome, collect}
use Rattle.rules.specs.Unfolded.{the_rules}
use Rattle.rules.specs.Heaps.{control, page}
use Rattle.entries.specs.declared.Operand.TheVariants.{Root, Number}
use Rattle.entries.specs.declared.Step.TheVariants.{Start, Allocate, Store, Load, Hint, Clear, Collect, LookUp, Bad}
use Rattle.steps.specs.Session.{Session, before, Stepped, refused, accepted, holding, hinting, passed, collected}
use Rattle.steps.specs.Session.{blank, begin, operand_of, root_plus, perform, step}

-- P 8, T 6. Page 1, which is open: an object of 4 words with two references, and one of 2
abbrev memory : Lent
memory = lent (page [] ++ page (header_of 3 2 ∷ 12 ∷ 0 ∷ 21 ∷ header_of 1 0 ∷ 5 ∷ []) ++ replicate 32 0)
    (0 ∷ 1 ∷ 0 ∷ 0 ∷ 0 ∷ 0 ∷ []) (replicate 6 0) (control 8 6 1 1 6)

-- roots 0 to 3 hold the first, the second, nil and the second; hint 0 holds 1, which is on page 0, and hint 1 the number 2
abbrev roots : List ℕ
roots = 8 ∷ 12 ∷ 0 ∷ 12 ∷ replicate 12 0

abbrev hints : List ℕ
hints = 1 ∷ 2 ∷ replicate 14 0

abbrev with : Lent → List ℕ → List ℕ → Session
with m rs hs = record { begun = true; lent = m; roots = rs; hints = hs }

abbrev s : Session
s = with memory roots hints

-- the memory with v in word a
abbrev written : ℕ → ℕ → Lent
written a v = lent (slice_set memory.heap a v) memory.labels memory.links memory.rec

-- refusal, value, and the session after it
abbrev answers : ℕ → ℕ → Session → Stepped
answers e v t = record { refusal = e; value = v; session = t }

-- outcomes of calls, made up
abbrev came : ℕ → ℕ → Outcome
came e v = record { refusal = e; value = v; lent = written 9 0 }

abbrev came_of_collect : ℕ → CollectOutcome
came_of_collect e = record { refusal = e; hinted = 2; taken = 3; objects = 4; words = 5; kept = 6; fillers = 0; lent = written 9 0; roots = 7 ∷ [] }

-- what an accepted start of P 8 and T 3 leaves
abbrev started : Session
started = with (lent (replicate 24 0) (replicate 3 0) (replicate 3 0) (control 8 3 1 0 8)) (replicate 16 0) (replicate 16 0)

record Examples : Type 0 where
  -- before any start nothing is lent, and cells and hints are 0
  begins : before ≡ record { begun = false; lent = lent [] [] [] (control 0 0 0 0 0); roots = replicate 16 0; hints = replicate 16 0 }
  -- only what is named becomes another
  holds : holding before memory roots ≡ record { begun = false; lent = memory; roots = roots; hints = replicate 16 0 }
  hints_to : hinting before hints ≡ record { begun = false; lent = before.lent; roots = before.roots; hints = hints }
  -- only an accepted call changes the session: 1, the least refusal, and 0
  passes : (passed s 1 7 started ≡ answers 1 7 s) × (passed s 0 7 started ≡ answers 0 7 started)
  -- of collect's counts "words copied" is printed
  collects_so : collected s (came_of_collect 0) ≡ answers 0 5 (with (written 9 0) (7 ∷ []) hints)
  collects_not : collected s (came_of_collect 1) ≡ answers 1 5 s
  -- a start lends zeros, as many as P and T ask for
  lends : blank 8 3 (control 4 5 6 7 8) ≡ lent (replicate 24 0) (replicate 3 0) (replicate 3 0) (control 4 5 6 7 8)
  -- "P·T exceeds 8,192": the refusal is 9, after 1; else cells and hints are 0
  begins_at_most : begin s (came 0 0) 8192 ≡ answers 0 0 (with (written 9 0) (replicate 16 0) (replicate 16 0))
  begins_no_more : begin s (came 0 0) 8193 ≡ answers 9 0 s
  begins_not : begin s (came 1 0) 8193 ≡ answers 1 0 s
  -- a root or a number; the sum wraps at 2^32, and not below
  operands : (operand_of roots (Root 1) ≡ 12) × (operand_of roots (Number 1) ≡ 1)
  sums : map (root_plus roots 0) (1 ∷ 4294967287 ∷ 4294967288 ∷ 4294967289 ∷ []) ≡ 9 ∷ 4294967295 ∷ 0 ∷ 1 ∷ []
  -- the operations. A start clears root cells and hint words; T is the number of pages
  starts : step s (Start 8 3) ≡ answers 0 0 started
  -- refused 1, it leaves the session as it was
  starts_not : step s (Start 8 2) ≡ answers 1 0 s
  -- 8,192 words, and a page more; Q-5: T times the size that P 0 means
  starts_most : ((step s (Start 64 128)).refusal ≡ 0) × ((step s (Start 64 129)).refusal ≡ 9) × ((step s (Start 0 129)).refusal ≡ 9)
  -- the address goes into root x; where the call is refused root x stays
  allocates : step s (Allocate 2 1 0) ≡ answers 0 14 (with (allocate memory 1 0).lent (8 ∷ 12 ∷ 14 ∷ 12 ∷ replicate 12 0) hints)
  allocates_not : step s (Allocate 1 8 0) ≡ answers 2 0 s
  -- a root's value and a number, at index i of the object in root x
  stores : step s (Store 0 1 (Root 3)) ≡ answers 0 0 (with (written 10 12) roots hints)
  stores_number : step s (Store 0 2 (Number 99)) ≡ answers 0 0 (with (written 11 99) roots hints)
  stores_not : step s (Store 0 1 (Number 9)) ≡ answers 6 0 s
  -- the word
  loads : step s (Load 0 2) ≡ answers 0 21 s
  loads_again : step s (Load 1 0) ≡ answers 0 5 s
  -- hint x becomes root y plus v
  hint : step s (Hint 2 1 5) ≡ answers 0 17 (with memory roots (1 ∷ 2 ∷ 17 ∷ replicate 13 0))
  -- root x becomes 0
  clears : step s (Clear 1) ≡ answers 0 0 (with memory (8 ∷ 0 ∷ 0 ∷ 12 ∷ replicate 12 0) hints)
  -- words copied; roots follow, and hints stay. With root 1 for a hint the page stays
  collects : step s Collect ≡ answers 0 6 (with (collect memory roots hints).lent (16 ∷ 20 ∷ 0 ∷ 20 ∷ replicate 12 0) hints)
  collects_hinted : (step (with memory roots (12 ∷ [])) Collect).value ≡ 0
  -- root x plus v, modulo 2^32
  looks_up : (step s (LookUp 1 0) ≡ answers 0 12 s) × (step s (LookUp 1 4294967295) ≡ answers 10 8 s)
  -- "Refusal 9 comes first": an operation above 8, a slot above 15, before any accepted start
  refuses : (step s Bad ≡ answers 9 0 s) × (step s (Load 16 99) ≡ answers 9 0 s) × (step before (Clear 0) ≡ answers 9 0 before)
  performs_bad : perform s Bad ≡ answers 9 0 s

examples : Examples
unfolding the_rules before refused accepted passed blank perform step
examples = record {
  begins = refl;
  holds = refl;
  hints_to = refl;
  passes = (refl, refl);
  collects_so = refl;
  collects_not = refl;
  lends = refl;
  begins_at_most = refl;
  begins_no_more = refl;
  begins_not = refl;
  operands = (refl, refl);
  sums = refl;
  starts = refl;
  starts_not = refl;
  starts_most = (refl, refl, refl);
  allocates = refl;
  allocates_not = refl;
  stores = refl;
  stores_number = refl;
  stores_not = refl;
  loads = refl;
  loads_again = refl;
  hint = refl;
  clears = refl;
  collects = refl;
  collects_hinted = refl;
  looks_up = (refl, refl);
  refuses = (refl, refl, refl);
  performs_bad = refl;
}
