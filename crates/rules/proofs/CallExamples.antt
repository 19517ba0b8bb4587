-- Examples of Calls: whole outcomes, so that nothing which a call answers or leaves is out of sight. Each line watches the
-- clause that its comment names.
use Rattle.std.specs.Prelude.{◌≡◌, refl, [], ◌∷◌, ◌++◌, ℕ, ◌*◌, set, replicate}
use Rattle.rules.specs.Header.{header_of}
use Rattle.rules.specs.Lent.{Lent, lent}
use Rattle.rules.specs.Calls.{Outcome, outcome, start, allocate, look_up, load, store}
use Rattle.rules.specs.Unfolded.{the_rules}
use Rattle.rules.specs.Heaps.{control, held, page, memory, under, older}

-- refusal, value, and what is left
abbrev answers : ℕ → ℕ → Lent → Outcome
answers e v m = record { refusal = e; value = v; lent = m }

-- P 8, T 6, label 2 is current, and page 3 is open with fill 3. Every word and link is 7, so that it shows what is written.
-- Page 0 has a label, which no count takes in.
abbrev dirty : Lent
dirty = lent (replicate 48 7) (2 ∷ 0 ∷ 0 ∷ 2 ∷ 0 ∷ 0 ∷ []) (replicate 6 7) (control 8 6 2 3 3)

-- P 8, T 3. Page 1: an object of 4 words with two references, and one of one word. Page 2, which is open: one of 2 words
abbrev sample : Lent
sample = lent (page [] ++ page (header_of 3 2 ∷ 8 ∷ 0 ∷ 21 ∷ header_of 0 0 ∷ []) ++ page (header_of 1 0 ∷ 5 ∷ []))
    (0 ∷ 1 ∷ 1 ∷ []) (4 ∷ 5 ∷ 6 ∷ []) (control 8 3 1 2 2)

-- its record has fill 0, which is wrong
abbrev bad : Lent
bad = under sample (control 8 3 1 2 0)

-- with v in word a
abbrev written : ℕ → ℕ → Lent
written a v = lent (set sample.heap a v) (0 ∷ 1 ∷ 1 ∷ []) (4 ∷ 5 ∷ 6 ∷ []) (control 8 3 1 2 2)

-- T pages of which the first k behind page 0 are in use, and the rest free
abbrev in_use : ℕ → ℕ → Lent
in_use k free = memory (0 ∷ replicate k 1 ++ replicate free 0) (page [] ++ replicate (k * 8) 7 ++ replicate (free * 8) 0)

record CallExamples : Type 0 where
  -- the code's answer, part by part
  answer : outcome (record { refusal = 1; value = 2; rec = control 3 4 5 6 7 }) (8 ∷ []) (9 ∷ []) (10 ∷ [])
      ≡ answers 1 2 (lent (8 ∷ []) (9 ∷ []) (10 ∷ []) (control 3 4 5 6 7))
  -- "Start zeroes heap, labels and links; current label 1, no open page", and takes any record
  starts : start (held 8 3) 8 3 ≡ answers 0 0 (lent (replicate 24 0) (replicate 3 0) (replicate 3 0) (control 8 3 1 0 8))
  -- refused 1, it leaves all as it was
  starts_not : start (held 8 3) 8 4 ≡ answers 1 0 (held 8 3)
  -- Q-5: whoever names 128 has what the default was; 0 means 64
  named : (start (held 128 3) 128 3).lent ≡ older
  default : (start (held 64 3) 0 3).lent.rec ≡ control 64 3 1 0 64
  -- allocate at fill: the header and d zeros, and nothing else
  at_fill : allocate dirty 2 1 ≡ answers 0 27
      (lent (replicate 27 7 ++ (header_of 2 1 ∷ 0 ∷ 0 ∷ replicate 18 7)) dirty.labels dirty.links (control 8 6 2 3 6))
  -- 5 words just fit; 6 go to the lowest free page, which gets the current label
  just_fits : (allocate dirty 4 4).lent.rec ≡ control 8 6 2 3 8
  new_page : allocate dirty 5 2 ≡ answers 0 8
      (lent (replicate 8 7 ++ (header_of 5 2 ∷ replicate 5 0 ++ replicate 34 7)) (2 ∷ 2 ∷ 0 ∷ 2 ∷ 0 ∷ 0 ∷ []) dirty.links (control 8 6 2 1 6))
  -- d is at most P - 1, and p at most d
  longest : ((allocate dirty 7 7).refusal ≡ 0) × (allocate dirty 8 0 ≡ answers 2 0 dirty)
  references : ((allocate dirty 2 2).refusal ≡ 0) × (allocate dirty 2 3 ≡ answers 2 0 dirty)
  -- 3k + 2 is N, and one too many; where more than P pages are in use; where the last one is
  room : ((allocate (in_use 1 4) 7 0).refusal ≡ 0) × (allocate (in_use 1 3) 7 0 ≡ answers 3 0 (in_use 1 3))
  room_far : ((allocate (in_use 8 18) 7 0).value ≡ 72) × ((allocate (in_use 8 17) 7 0).refusal ≡ 3)
  room_last : (allocate (memory (0 ∷ 0 ∷ 0 ∷ 1 ∷ []) (replicate 32 0)) 7 0).refusal ≡ 3
  -- 1 comes before 2, and 2 before 3
  allocate_order : (allocate bad 8 0 ≡ answers 1 0 bad) × ((allocate (in_use 1 3) 8 0).refusal ≡ 2)
  -- Q-2: "0 and the start, 10 and s, or 4 and 0", and 1 before all
  look_start : (look_up sample 8 ≡ answers 0 8 sample) × (look_up sample 12 ≡ answers 0 12 sample)
  look_inside : (look_up sample 9 ≡ answers 10 8 sample) × (look_up sample 17 ≡ answers 10 16 sample)
  look_nothing : (look_up sample 13 ≡ answers 4 0 sample) × (look_up sample 7 ≡ answers 4 0 sample)
  look_first : look_up bad 9 ≡ answers 1 0 bad
  -- "Load returns payload word i": the first and the last; index d is refused 5, of an object with no payload too
  loads : (load sample 8 0 ≡ answers 0 8 sample) × (load sample 8 2 ≡ answers 0 21 sample)
  loads_index : (load sample 8 3 ≡ answers 5 0 sample) × (load sample 12 0 ≡ answers 5 0 sample)
  -- look-up's answer comes before the index, and 1 before all
  loads_inside : (load sample 9 99 ≡ answers 10 8 sample) × (load sample 13 99 ≡ answers 4 0 sample)
  loads_first : load bad 9 99 ≡ answers 1 0 bad
  -- "Store writes it": 0 and an object start into the references, any number into the data word right behind them
  stores : (store sample 8 0 0 ≡ answers 0 0 (written 9 0)) × (store sample 8 1 16 ≡ answers 0 0 (written 10 16))
  stores_data : store sample 8 2 9 ≡ answers 0 0 (written 11 9)
  -- a value inside an object is no reference; there 10 is not passed on
  stores_bad : (store sample 8 0 9 ≡ answers 6 0 sample) × (store sample 8 1 9 ≡ answers 6 0 sample)
  -- index d is refused 5
  stores_index : (store sample 8 3 9 ≡ answers 5 0 sample) × (store sample 12 0 0 ≡ answers 5 0 sample)
  -- look-up's answer comes before index and value, and 1 before all
  stores_inside : (store sample 9 99 9 ≡ answers 10 8 sample) × (store sample 13 99 9 ≡ answers 4 0 sample)
  stores_first : store bad 9 99 9 ≡ answers 1 0 bad

call_examples : CallExamples
unfolding the_rules
call_examples = record {
  answer = refl;
  starts = refl;
  starts_not = refl;
  named = refl;
  default = refl;
  at_fill = refl;
  just_fits = refl;
  new_page = refl;
  longest = (refl, refl);
  references = (refl, refl);
  room = (refl, refl);
  room_far = (refl, refl);
  room_last = refl;
  allocate_order = (refl, refl);
  look_start = (refl, refl);
  look_inside = (refl, refl);
  look_nothing = (refl, refl);
  look_first = refl;
  loads = (refl, refl);
  loads_index = (refl, refl);
  loads_inside = (refl, refl);
  loads_first = refl;
  stores = (refl, refl);
  stores_data = refl;
  stores_bad = (refl, refl);
  stores_index = (refl, refl);
  stores_inside = (refl, refl);
  stores_first = refl;
}
