-- Examples of Sound, the test: one sound heap, and for each clause heaps that are sound but for that clause. The crate `laws`
-- proves of every heap that the test and the proposition agree, so a clause of the proposition is watched there.
use Rattle.std.specs.Prelude.{◌≡◌, refl, Bool, true, false, List, [], ◌∷◌, ◌++◌, map, ℕ, set, replicate}
use Rattle.rules.specs.Header.{header_of}
use Rattle.rules.specs.Lent.{Lent, lent}
use Rattle.rules.specs.Sound.{is_blank, is_sound, refs, payload}
use Rattle.rules.specs.Unfolded.{the_rules}
use Rattle.rules.specs.Heaps.{control, page, memory, under}

-- P 8, T 5. Page 1: an object of 4 words with two references, and behind them a data word that is none; and one of 2 with a
-- reference to itself. Page 2, which is open: one of 3 words. Page 3 is free. Page 4: one of 8 words with a reference.
abbrev good : Lent
good = under (memory (0 ∷ 1 ∷ 1 ∷ 0 ∷ 1 ∷ []) (page [] ++ page (header_of 3 2 ∷ 16 ∷ 0 ∷ 17 ∷ header_of 1 1 ∷ 12 ∷ [])
    ++ page (header_of 2 0 ∷ 3 ∷ 4 ∷ []) ++ page [] ++ page (header_of 7 1 ∷ 8 ∷ 1 ∷ 2 ∷ 3 ∷ 4 ∷ 5 ∷ 6 ∷ []))) (control 8 5 1 2 3)

-- is it sound with v in word a, with these labels, with this open page and fill?
abbrev word : ℕ → ℕ → Bool
word a v = is_sound (lent (set good.heap a v) good.labels good.links good.rec)

abbrev labelled : List ℕ → Bool
labelled labels = is_sound (lent good.heap labels good.links good.rec)

abbrev opened : ℕ → ℕ → Bool
opened g f = is_sound (under good (control 8 5 1 g f))

record SoundExamples : Type 0 where
  -- from a up to e - 1
  blank : is_blank (1 ∷ 0 ∷ 0 ∷ 1 ∷ []) 1 3 ≡ true
  blank_ends : (is_blank (1 ∷ 0 ∷ 0 ∷ 1 ∷ []) 0 3 ≡ false) × (is_blank (1 ∷ 0 ∷ 0 ∷ 1 ∷ []) 1 4 ≡ false)
  all : is_sound good ≡ true
  -- "the record is valid": a link is missing
  valid : is_sound (lent good.heap good.labels (0 ∷ 0 ∷ 0 ∷ 0 ∷ []) good.rec) ≡ false
  -- "page 0 is free"
  page0 : labelled (1 ∷ 1 ∷ 1 ∷ 0 ∷ 1 ∷ []) ≡ false
  -- "page 0 and every free page hold only zeros", from the first word to the last
  page0_zeros : map (λ a. word a 2) (0 ∷ 7 ∷ []) ≡ false ∷ false ∷ []
  free_zeros : map (λ a. word a 2) (24 ∷ 31 ∷ []) ≡ false ∷ false ∷ []
  -- "every label is 0 or current": a label 2 among labels 1, and the other way round
  labels : labelled (0 ∷ 1 ∷ 1 ∷ 0 ∷ 2 ∷ []) ≡ false
  labels_new : is_sound (lent good.heap (0 ∷ 2 ∷ 2 ∷ 0 ∷ 2 ∷ []) good.links (control 8 5 2 2 3)) ≡ true
  labels_old : is_sound (lent good.heap (0 ∷ 2 ∷ 2 ∷ 0 ∷ 1 ∷ []) good.links (control 8 5 2 2 3)) ≡ false
  -- "on each page in use the walk meets at least one object"
  some : labelled (0 ∷ 1 ∷ 1 ∷ 1 ∷ 1 ∷ []) ≡ false
  -- "and only zeros stand from its stop on", on the page's last word too; on the open page too
  tail : map (λ a. word a 2) (14 ∷ 15 ∷ 19 ∷ 23 ∷ []) ≡ false ∷ false ∷ false ∷ false ∷ []
  -- "on the open page it stops exactly at fill": 3 words; and any page that is full may be open
  fill : map (opened 2) (2 ∷ 3 ∷ 4 ∷ []) ≡ false ∷ true ∷ false ∷ []
  fill_elsewhere : (opened 4 8 ≡ true) × (opened 4 7 ≡ false) × (opened 0 8 ≡ true)
  -- "every reference is 0 or an object start": the first, with nil, itself, an object of the last page; inside an object, on
  -- a free page, on page 0
  first_reference : map (word 9) (0 ∷ 8 ∷ 32 ∷ 9 ∷ 24 ∷ 1 ∷ []) ≡ true ∷ true ∷ true ∷ false ∷ false ∷ false ∷ []
  -- the last, of the second object, and on the last page
  last_reference : map (word 10) (12 ∷ 13 ∷ []) ≡ true ∷ false ∷ []
  second_object : map (word 13) (8 ∷ 13 ∷ []) ≡ true ∷ false ∷ []
  last_page : map (word 33) (12 ∷ 13 ∷ []) ≡ true ∷ false ∷ []
  -- data words may be anything: the one behind the references, and one on the last page
  data_words : (word 11 18 ≡ true) × (word 34 18 ≡ true)
  -- every page up to T - 1, where T is more than P
  every_page : is_sound (memory (replicate 10 0) (replicate 79 0 ++ (2 ∷ []))) ≡ false
  -- how many references, and the payload, which the proposition and the demands speak of
  words : (refs good 8 ≡ 2) × (map (payload good 8) (0 ∷ 1 ∷ 2 ∷ []) ≡ 16 ∷ 0 ∷ 17 ∷ [])

sound_examples : SoundExamples
unfolding the_rules
sound_examples = record {
  blank = refl;
  blank_ends = (refl, refl);
  all = refl;
  valid = refl;
  page0 = refl;
  page0_zeros = refl;
  free_zeros = refl;
  labels = refl;
  labels_new = refl;
  labels_old = refl;
  some = refl;
  tail = refl;
  fill = refl;
  fill_elsewhere = (refl, refl, refl);
  first_reference = refl;
  last_reference = refl;
  second_object = refl;
  last_page = refl;
  data_words = (refl, refl);
  every_page = refl;
  words = (refl, refl);
}
