-- Examples of Collect: its tests and their order, what it answers, the figure of Q-3; and the papers' own cases of a
-- collection (document 01's edges, Q-1, Q-3, Q-6), which name what is seen from outside.
use Rattle.std.specs.Prelude.{◌≡◌, refl, true, List, [], ◌∷◌, ◌++◌, map, ℕ, take, drop, replicate}
use Rattle.rules.specs.Ranges.{at}
use Rattle.rules.specs.Header.{header_of}
use Rattle.rules.specs.Lent.{Lent, lent}
use Rattle.rules.specs.Sound.{is_sound}
use Rattle.rules.specs.Calls.{allocate, store}
use Rattle.rules.specs.Collection.{plainly, collection}
use Rattle.rules.specs.Collect.{pages_unhinted, words_unhinted, needed_for, CollectOutcome, collect_outcome, collect}
use Rattle.rules.specs.Unfolded.{the_rules}
use Rattle.rules.specs.Heaps.{control, fresh, page, memory, under}
use Rattle.rules.proofs.Examples.{record8, roots8}

-- ---- memory

-- an object with a reference to itself, and a data word that looks like an address
abbrev itself : Lent
itself = (store (store (allocate fresh 2 1).lent 8 0 8).lent 8 1 8).lent

-- P 8, T 6. Page 1 is full, with a reference to an object of 2 words on page 2, which is open; behind that stands this word
abbrev across_with : ℕ → Lent
across_with w = lent (page [] ++ page (header_of 7 1 ∷ 16 ∷ []) ++ page (header_of 1 0 ∷ 0 ∷ w ∷ []) ++ replicate 24 0)
    (0 ∷ 1 ∷ 1 ∷ 0 ∷ 0 ∷ 0 ∷ []) (replicate 6 7) (control 8 6 1 2 2)

abbrev across : Lent
across = across_with 0

-- a word that must not be there, and a fill of 0 besides
abbrev stray : Lent
stray = across_with 2

abbrev bad : Lent
bad = under stray (control 8 6 1 2 0)

-- P 8, T 5: pages 1 and 2 are full, each with a reference to an object on page 3; word 16 is where the first ends and the
-- second begins
abbrev boundary : Lent
boundary = memory (0 ∷ 1 ∷ 1 ∷ 1 ∷ 0 ∷ []) (page [] ++ page (header_of 7 1 ∷ 24 ∷ []) ++ page (header_of 7 1 ∷ 27 ∷ [])
    ++ page (header_of 2 0 ∷ 1 ∷ 2 ∷ header_of 2 0 ∷ 3 ∷ 4 ∷ []) ++ page [])

-- Q-3: objects of 4, 5 and 4 words, none of which fits behind the one before: each is copied to a page of its own. Two pages
-- are free
abbrev spread : Lent
spread = (collect (allocate (allocate (allocate fresh 3 0).lent 3 0).lent 4 0).lent (8 ∷ 16 ∷ 12 ∷ []) []).lent

abbrev scattered : List ℕ
scattered = 24 ∷ 32 ∷ 40 ∷ []

-- P 8, T 10: an object of 2 words on every page but the last, and page 0 is labelled too
abbrev filled : Lent
filled =
    let two = page (header_of 1 0 ∷ 5 ∷ []) in
    memory (replicate 9 1 ++ (0 ∷ [])) (two ++ two ++ two ++ two ++ two ++ two ++ two ++ two ++ two ++ page [])

-- Q-6: P 8, T 4, page 3 is free. On page 1 an object of 4 words and one with a reference to it, on page 2 one of 5 words with
-- references to both
abbrev crowded : Lent
crowded = memory (0 ∷ 1 ∷ 1 ∷ 0 ∷ []) (page [] ++ page (header_of 3 0 ∷ 7 ∷ 7 ∷ 7 ∷ header_of 3 1 ∷ 8 ∷ 5 ∷ 6 ∷ [])
    ++ page (header_of 4 2 ∷ 8 ∷ 12 ∷ 1 ∷ 2 ∷ []) ++ page [])

-- the first object is copied to page 3; the third fits nowhere, and keeps page 2; it refers to the second, which keeps page 1
abbrev relieved : CollectOutcome
relieved = collect crowded (8 ∷ 16 ∷ []) []

-- ---- what is answered

-- pages hinted and taken, objects and words copied, pages kept and fillers
abbrev answers : ℕ → List ℕ → Lent → List ℕ → CollectOutcome
answers e counts m roots = record {
  refusal = e;
  hinted = at counts 0;
  taken = at counts 1;
  objects = at counts 2;
  words = at counts 3;
  kept = at counts 4;
  fillers = at counts 5;
  lent = m;
  roots = roots;
}

record CollectExamples : Type 0 where
  -- the code's answer, part by part
  answer : collect_outcome (record { refusal = 1; hinted = 2; taken = 3; objects = 4; words = 5; kept = 6; fillers = 7; rec = control 8 9 10 11 12 })
      (13 ∷ []) (14 ∷ []) (15 ∷ []) (16 ∷ [])
      ≡ answers 1 (2 ∷ 3 ∷ 4 ∷ 5 ∷ 6 ∷ 7 ∷ []) (lent (13 ∷ []) (14 ∷ []) (15 ∷ []) (control 8 9 10 11 12)) (16 ∷ [])
  -- accepted: the lists are counted
  accepts : collect crowded (8 ∷ 16 ∷ []) (5 ∷ []) ≡ answers 0 (0 ∷ 1 ∷ 1 ∷ 4 ∷ 2 ∷ 1 ∷ []) relieved.lent (24 ∷ 16 ∷ [])
  -- "collect tests 1, 7, 6": each alone or with those behind it. Six zeros, and memory and roots as they were
  tests_6 : collect across (0 ∷ 9 ∷ []) (8 ∷ []) ≡ answers 6 [] across (0 ∷ 9 ∷ [])
  tests_7 : collect stray (0 ∷ 9 ∷ []) (8 ∷ []) ≡ answers 7 [] stray (0 ∷ 9 ∷ [])
  tests_1 : collect bad (0 ∷ 9 ∷ []) (8 ∷ []) ≡ answers 1 [] bad (0 ∷ 9 ∷ [])
  -- every root is tested, the last one too; nil is a good one
  tests_roots : ((collect across (9 ∷ 8 ∷ []) []).refusal ≡ 6) × ((collect across (8 ∷ 0 ∷ []) []).refusal ≡ 0)
  -- "Two root cells with one address end with one address."
  shared : (collect itself (8 ∷ 8 ∷ []) []).roots ≡ 16 ∷ 16 ∷ []
  shared_once : (collect itself (8 ∷ 8 ∷ []) []).objects ≡ 1
  -- "A reference to its own object follows the copy", and a data word that looks like an address is left alone
  self : drop 16 (take 19 (collect itself (8 ∷ []) []).lent.heap) ≡ header_of 2 1 ∷ 16 ∷ 8 ∷ []
  -- a hinted page stays, and its reference follows the copy
  hinted : (collect across [] (9 ∷ [])).lent.labels ≡ 0 ∷ 2 ∷ 0 ∷ 2 ∷ 0 ∷ 0 ∷ []
  hinted_reference : at (collect across [] (9 ∷ [])).lent.heap 9 ≡ 24
  -- Q-1: word 48, past the last page, keeps page 5 in place
  past_the_end : (collect record8.lent roots8 (48 ∷ 34 ∷ [])).hinted ≡ 2
  -- a word at a boundary keeps both pages, its own first: so what page 2 refers to is copied first
  both : (collect boundary [] (16 ∷ [])).lent.labels ≡ 0 ∷ 2 ∷ 2 ∷ 0 ∷ 2 ∷ []
  own_first : map (at (collect boundary [] (16 ∷ [])).lent.heap) (17 ∷ 9 ∷ []) ≡ 32 ∷ 35 ∷ []
  -- Q-3: with the 5 words hinted 8 are left: they need one page, where 2k' - 1 is three
  eight : (words_unhinted spread (33 ∷ []) ≡ 8) × (pages_unhinted spread (33 ∷ []) ≡ 2) × (needed_for spread (33 ∷ []) ≡ 1)
  eight_taken : ((collect spread scattered (33 ∷ [])).taken ≡ 1) × ((collect spread scattered (33 ∷ [])).words ≡ 8)
  -- one word more may need three: here it takes the two that are free; all of it takes them and keeps a page (Q-6); and with
  -- every page hinted there is nothing to copy
  nine : (words_unhinted spread (25 ∷ []) ≡ 9) × (needed_for spread (25 ∷ []) ≡ 3)
  nine_taken : ((collect spread scattered (25 ∷ [])).taken ≡ 2) × ((collect spread scattered (25 ∷ [])).kept ≡ 0)
  thirteen : (words_unhinted spread [] ≡ 13) × ((collect spread scattered []).taken ≡ 2) × ((collect spread scattered []).kept ≡ 1)
  nothing : (words_unhinted spread scattered ≡ 0) × ((collect spread scattered scattered).taken ≡ 0)
  -- W and k' count the pages from 1 to T - 1, whatever P is; hints name among those
  words_on_all : (words_unhinted filled [] ≡ 16) × (pages_unhinted filled [] ≡ 8)
  words_hinted : (words_unhinted filled (8 ∷ 67 ∷ []) ≡ 12) × (pages_unhinted filled (8 ∷ 67 ∷ []) ≡ 6)
  -- Q-6: two pages are kept, in order, and a filler stands where the object that was copied had been; the object behind it is
  -- swept
  crowded_sound : is_sound crowded ≡ true
  keeps_in_order : (collection plainly crowded (8 ∷ 16 ∷ []) []).kept ≡ 2 ∷ 1 ∷ []
  keeps_labels : relieved.lent.labels ≡ 0 ∷ 2 ∷ 2 ∷ 2 ∷ []
  fills : drop 8 (take 16 relieved.lent.heap) ≡ header_of 3 0 ∷ 0 ∷ 0 ∷ 0 ∷ header_of 3 1 ∷ 24 ∷ 5 ∷ 6 ∷ []
  follows : drop 16 (take 21 relieved.lent.heap) ≡ header_of 4 2 ∷ 24 ∷ 12 ∷ 1 ∷ 2 ∷ []
  relieved_sound : is_sound relieved.lent ≡ true
  -- once the roots let go, all of it is free again
  comes_free : (collect relieved.lent (0 ∷ 0 ∷ []) []).lent.labels ≡ 0 ∷ 0 ∷ 0 ∷ 0 ∷ []

collect_examples : CollectExamples
unfolding the_rules
collect_examples = record {
  answer = refl;
  accepts = refl;
  tests_6 = refl;
  tests_7 = refl;
  tests_1 = refl;
  tests_roots = (refl, refl);
  shared = refl;
  shared_once = refl;
  self = refl;
  hinted = refl;
  hinted_reference = refl;
  past_the_end = refl;
  both = refl;
  own_first = refl;
  eight = (refl, refl, refl);
  eight_taken = (refl, refl);
  nine = (refl, refl);
  nine_taken = (refl, refl);
  thirteen = (refl, refl, refl);
  nothing = (refl, refl);
  words_on_all = (refl, refl);
  words_hinted = (refl, refl);
  crowded_sound = refl;
  keeps_in_order = refl;
  keeps_labels = refl;
  fills = refl;
  follows = refl;
  relieved_sound = refl;
  comes_free = refl;
}
