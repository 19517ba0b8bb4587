-- Examples of Lent: the lengths, and the record field by field. Each line watches the clause that its comment names.
use Rattle.std.specs.Prelude.{◌≡◌, refl, Bool, true, false, [], ◌∷◌, ◌++◌, map, ℕ}
use Rattle.rules.specs.Lent.{Lent, lent, opening, relabelled, is_laid_out, is_label, is_open, is_valid}
use Rattle.rules.specs.Header.{header_of}
use Rattle.rules.specs.Unfolded.{the_rules}
use Rattle.rules.specs.Heaps.{control, page, memory, under}

-- is this open page with this fill right? P 8, T 4 and label 1 is current; page 2 has the other label, and page 4 is none
abbrev opens : ℕ → ℕ → Bool
opens g f = is_open (0 ∷ 1 ∷ 2 ∷ 1 ∷ 1 ∷ []) (control 8 4 1 g f)

-- P 8, T 3: an object of 4 words on page 1, which is open
abbrev one : Lent
one = under (memory (0 ∷ 1 ∷ 0 ∷ []) (page [] ++ page (header_of 3 0 ∷ []) ++ page [])) (control 8 3 1 1 4)

-- the same with a record or links that are wrong
abbrev wrong : ℕ → ℕ → ℕ → ℕ → ℕ → Bool
wrong P T l g f = is_valid (under one (control P T l g f))

record LentExamples : Type 0 where
  -- each part stands in its place
  parts : (lent (1 ∷ []) (2 ∷ []) (3 ∷ []) (control 4 5 6 7 8)).heap ≡ 1 ∷ []
  parts_labels : (lent (1 ∷ []) (2 ∷ []) (3 ∷ []) (control 4 5 6 7 8)).labels ≡ 2 ∷ []
  parts_links : (lent (1 ∷ []) (2 ∷ []) (3 ∷ []) (control 4 5 6 7 8)).links ≡ 3 ∷ []
  opening_moves : opening (control 1 2 3 4 5) 6 7 ≡ control 1 2 3 6 7
  relabelled_moves : relabelled (control 1 2 3 4 5) 6 ≡ control 1 2 6 4 5
  -- "Heap length is exactly P·T, the other two exactly T": a word, a label or a link more or less; with good P and T
  lengths : is_laid_out 24 3 3 8 3 ≡ true
  heap_length : (is_laid_out 23 3 3 8 3 ≡ false) × (is_laid_out 25 3 3 8 3 ≡ false)
  labels_length : (is_laid_out 24 2 3 8 3 ≡ false) × (is_laid_out 24 4 3 8 3 ≡ false)
  links_length : (is_laid_out 24 3 2 8 3 ≡ false) × (is_laid_out 24 3 4 8 3 ≡ false)
  good_shape : (is_laid_out 12 3 3 4 3 ≡ false) × (is_laid_out 16 2 2 8 2 ≡ false)
  -- "current label, 1 or 2"
  label : map is_label (0 ∷ 1 ∷ 2 ∷ 3 ∷ []) ≡ false ∷ true ∷ true ∷ false ∷ []
  -- "Open page 0 goes with fill P."
  open_none : map (opens 0) (0 ∷ 1 ∷ 7 ∷ 8 ∷ 9 ∷ []) ≡ false ∷ false ∷ false ∷ true ∷ false ∷ []
  -- "Otherwise the open page is 1 to T-1 with the current label": not the page with the other one, nor page T
  open_page : map (λ g. opens g 5) (1 ∷ 2 ∷ 3 ∷ 4 ∷ []) ≡ true ∷ false ∷ true ∷ false ∷ []
  -- nor a free page, nor one with label 1 where 2 is current
  open_free : is_open (0 ∷ 0 ∷ 0 ∷ []) (control 8 3 1 1 5) ≡ false
  open_old : is_open (0 ∷ 1 ∷ 2 ∷ []) (control 8 3 2 1 5) ≡ false
  -- "and fill is 1 to P"
  open_fill : map (opens 1) (0 ∷ 1 ∷ 8 ∷ 9 ∷ []) ≡ false ∷ true ∷ true ∷ false ∷ []
  -- a record is valid where all of it is: lengths and P and T, label, open page, fill
  valid : is_valid one ≡ true
  valid_labels : is_valid (lent one.heap (0 ∷ 1 ∷ []) one.links one.rec) ≡ false
  valid_links : is_valid (lent one.heap one.labels (0 ∷ 0 ∷ []) one.rec) ≡ false
  valid_record : (wrong 8 3 1 0 8 ≡ true) × (wrong 4 6 1 1 4 ≡ false) × (wrong 8 3 3 0 8 ≡ false) × (wrong 8 3 1 1 0 ≡ false)

lent_examples : LentExamples
unfolding the_rules
lent_examples = record {
  parts = refl;
  parts_labels = refl;
  parts_links = refl;
  opening_moves = refl;
  relabelled_moves = refl;
  lengths = refl;
  heap_length = (refl, refl);
  labels_length = (refl, refl);
  links_length = (refl, refl);
  good_shape = (refl, refl);
  label = refl;
  open_none = refl;
  open_page = refl;
  open_free = refl;
  open_old = refl;
  open_fill = refl;
  valid = refl;
  valid_labels = refl;
  valid_links = refl;
  valid_record = (refl, refl, refl, refl);
}
