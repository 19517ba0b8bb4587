-- Examples of Collection, its four steps: two whole collections, one with hints and room enough and one that keeps pages, of
-- which everything that is left is written out; and small cases beside them. Each line watches what its comment names.
use Rattle.std.specs.Prelude.{◌≡◌, refl, true, false, [], ◌∷◌, ◌++◌, map, ℕ, replicate}
use Rattle.rules.specs.Ranges.{at}
use Rattle.rules.specs.Header.{header_of}
use Rattle.rules.specs.Lent.{Lent, lent}
use Rattle.rules.specs.Collection.{Move, logged, plainly, Plan, Pages, hint_page, take_page, put, keep_page, forward}
use Rattle.rules.specs.Collection.{is_left, size_at_copy, Collection, collection}
use Rattle.rules.specs.Unfolded.{the_rules}
use Rattle.rules.specs.Heaps.{control, page, memory}

abbrev move : ℕ → ℕ → Move
move a b = record { from = a; to = b }

-- ---- hints and room enough

-- P 8, T 12. Word 9 names page 1 and word 74 page 9, which is open; 66 is on a free page, 10 on page 1 again. On page 1 are
-- objects of 3, 4 and one word; data words there look like addresses. The first object of page 2, right behind it, and those
-- of pages 6 and 7 are not reached.
abbrev busy : Lent
busy = lent (page [] ++ page (header_of 2 1 ∷ 24 ∷ 8 ∷ header_of 3 2 ∷ 32 ∷ 8 ∷ 24 ∷ header_of 0 0 ∷ [])
    ++ page (header_of 1 1 ∷ 48 ∷ header_of 4 2 ∷ 32 ∷ 0 ∷ 1 ∷ 2 ∷ []) ++ page (header_of 1 1 ∷ 26 ∷ header_of 4 1 ∷ 40 ∷ 3 ∷ 4 ∷ 5 ∷ [])
    ++ page (header_of 6 1 ∷ 24 ∷ 1 ∷ 2 ∷ 3 ∷ 4 ∷ 5 ∷ header_of 0 0 ∷ []) ++ page (header_of 2 1 ∷ 24 ∷ 9 ∷ [])
    ++ page (header_of 7 0 ∷ []) ++ page (header_of 0 0 ∷ []) ++ page [] ++ page (header_of 1 1 ∷ 15 ∷ []) ++ page [] ++ page [])
    (0 ∷ 1 ∷ 1 ∷ 1 ∷ 1 ∷ 1 ∷ 1 ∷ 1 ∷ 0 ∷ 1 ∷ 0 ∷ 0 ∷ []) (replicate 12 7) (control 8 12 1 9 2)

-- Roots first: 5 words go to page 8, one behind them; the object at 15 stays, and a second root finds the copy. Then the queue:
-- from page 1 an object of 2 words, which fills page 8, and one of 7, on page 10. From page 8 one of 5, on page 11; from there
-- one of 3 behind it, which is swept in its turn.
abbrev busy_after : Collection
busy_after = record {
  lent = lent (page [] ++ page (header_of 2 1 ∷ 70 ∷ 8 ∷ header_of 3 2 ∷ 80 ∷ 8 ∷ 24 ∷ header_of 0 0 ∷ []) ++ replicate 48 0
      ++ page (header_of 4 2 ∷ 80 ∷ 0 ∷ 1 ∷ 2 ∷ header_of 0 0 ∷ header_of 1 1 ∷ 88 ∷ []) ++ page (header_of 1 1 ∷ 15 ∷ [])
      ++ page (header_of 6 1 ∷ 70 ∷ 1 ∷ 2 ∷ 3 ∷ 4 ∷ 5 ∷ []) ++ page (header_of 4 1 ∷ 93 ∷ 3 ∷ 4 ∷ 5 ∷ header_of 2 1 ∷ 70 ∷ 9 ∷ []))
      (0 ∷ 2 ∷ 0 ∷ 0 ∷ 0 ∷ 0 ∷ 0 ∷ 0 ∷ 2 ∷ 2 ∷ 2 ∷ 2 ∷ []) (replicate 12 0) (control 8 12 2 11 8);
  roots = 64 ∷ 0 ∷ 69 ∷ 15 ∷ 64 ∷ [];
  hinted = 2;
  taken = 8 ∷ 10 ∷ 11 ∷ [];
  objects = 6;
  words = 23;
  kept = [];
  fillers = [];
  moves = move 18 64 ∷ move 39 69 ∷ move 24 70 ∷ move 32 80 ∷ move 26 88 ∷ move 40 93 ∷ [];
}

-- ---- Q-6: pages are kept

-- P 8, T 10, label 2; page 4 is free. On page 1 are objects of 1, 2, 2, 2 and 1 words, on page 2 two of 2 words, on page 3 one
-- of 2 and one of 4, on page 5 one of 7 and one of one word. What is on the others is not reached.
abbrev stuck : Lent
stuck = lent (page [] ++ page (header_of 0 0 ∷ header_of 1 1 ∷ 24 ∷ header_of 1 0 ∷ 6 ∷ header_of 1 1 ∷ 8 ∷ header_of 0 0 ∷ [])
    ++ page (header_of 1 0 ∷ 7 ∷ header_of 1 1 ∷ 48 ∷ []) ++ page (header_of 1 0 ∷ 9 ∷ header_of 3 1 ∷ 9 ∷ 1 ∷ 2 ∷ [])
    ++ page [] ++ page (header_of 6 1 ∷ 26 ∷ 1 ∷ 2 ∷ 3 ∷ 4 ∷ 5 ∷ header_of 0 0 ∷ []) ++ page (header_of 7 0 ∷ []) ++ page (header_of 7 0 ∷ [])
    ++ page (header_of 7 0 ∷ []) ++ page (header_of 7 0 ∷ []))
    (0 ∷ 2 ∷ 2 ∷ 2 ∷ 0 ∷ 2 ∷ 2 ∷ 2 ∷ 2 ∷ 2 ∷ []) (replicate 10 7) (control 8 10 2 0 8)

-- Five roots fill page 4: three of page 1, the first of page 2, the first of page 3. The sixth, at the end of page 5, keeps that
-- page; the object beside it refers to page 3, which is kept too, and from there a reference keeps page 1. Fillers stand at 24,
-- 8, 11 and 15; what else is on these pages stays, and its references follow. Page 2 comes free, though a place was left at its
-- start, where page 1 ends.
abbrev stuck_after : Collection
stuck_after = record {
  lent = lent (page [] ++ page (header_of 0 0 ∷ header_of 1 1 ∷ 38 ∷ header_of 1 0 ∷ 0 ∷ header_of 1 1 ∷ 32 ∷ header_of 0 0 ∷ []) ++ page []
      ++ page (header_of 1 0 ∷ 0 ∷ header_of 3 1 ∷ 9 ∷ 1 ∷ 2 ∷ [])
      ++ page (header_of 0 0 ∷ header_of 1 0 ∷ 6 ∷ header_of 0 0 ∷ header_of 1 0 ∷ 7 ∷ header_of 1 0 ∷ 9 ∷ [])
      ++ page (header_of 6 1 ∷ 26 ∷ 1 ∷ 2 ∷ 3 ∷ 4 ∷ 5 ∷ header_of 0 0 ∷ []) ++ replicate 32 0)
      (0 ∷ 1 ∷ 0 ∷ 1 ∷ 1 ∷ 1 ∷ 0 ∷ 0 ∷ 0 ∷ 0 ∷ []) (replicate 10 0) (control 8 10 1 4 8);
  roots = 32 ∷ 33 ∷ 35 ∷ 36 ∷ 38 ∷ 47 ∷ [];
  hinted = 0;
  taken = 4 ∷ [];
  objects = 5;
  words = 8;
  kept = 5 ∷ 3 ∷ 1 ∷ [];
  fillers = 24 ∷ 8 ∷ 11 ∷ 15 ∷ [];
  moves = move 8 32 ∷ move 11 33 ∷ move 15 35 ∷ move 16 36 ∷ move 24 38 ∷ [];
}

-- ---- small cases

-- P 8, T 4, and this label is current: page 1 is the only free one. On page 2 is an object of 2 words, on page 3 are four of one
-- word and one that refers to page 2
abbrev first_free : ℕ → Lent
first_free l = lent (page [] ++ page [] ++ page (header_of 1 0 ∷ 5 ∷ [])
    ++ page (header_of 0 0 ∷ header_of 0 0 ∷ header_of 0 0 ∷ header_of 0 0 ∷ header_of 1 1 ∷ 16 ∷ []))
    (0 ∷ 0 ∷ l ∷ l ∷ []) (replicate 4 0) (control 8 4 l 0 8)

-- P 8, T 4: eight objects of one word on page 1, and one of 7 words on page 2
abbrev ones : Lent
ones = memory (0 ∷ 1 ∷ 1 ∷ 0 ∷ []) (page [] ++ replicate 8 (header_of 0 0) ++ page (header_of 6 0 ∷ []) ++ page [])

-- P 8, T 12: on each of the pages 1 to 9 an object that refers to the one on page 10; page 11 is free
abbrev many : Lent
many =
    let refers = page (header_of 1 1 ∷ 80 ∷ []) in
    memory (0 ∷ replicate 10 1 ++ (0 ∷ [])) (page [] ++ refers ++ refers ++ refers ++ refers ++ refers ++ refers ++ refers ++ refers
    ++ refers ++ page (header_of 1 0 ∷ 5 ∷ []) ++ page [])

-- the pages at some point of a collection from label 1 to label 2; the numbers only have to differ
abbrev plan : Plan
plan = record { page = 8; lo = 1; hi = 3; old = 1; new = 2; logs = true }

abbrev midway : Pages
midway = record { labels = 0 ∷ 1 ∷ 0 ∷ []; queue = 9 ∷ []; copy = 4; fill = 5; kept = 6 }

record CollectionExamples : Type 0 where
  busy_whole : collection logged busy (18 ∷ 0 ∷ 39 ∷ 15 ∷ 18 ∷ []) (9 ∷ 66 ∷ 74 ∷ 10 ∷ []) ≡ busy_after
  stuck_whole : collection logged stuck (8 ∷ 11 ∷ 15 ∷ 16 ∷ 24 ∷ 47 ∷ []) [] ≡ stuck_after
  -- the moves are written down only where they are asked for
  no_moves : (collection plainly (first_free 1) (16 ∷ []) []).moves ≡ []
  -- page 1 can be hinted where label 2 is current
  hints_first : (collection plainly stuck [] (9 ∷ [])).hinted ≡ 1
  -- hinting, taking and keeping a page leave what they do not name, and so does a copy
  hints_only : hint_page plan 1 midway ≡ record { labels = 0 ∷ 2 ∷ 0 ∷ []; queue = 9 ∷ 1 ∷ []; copy = 4; fill = 5; kept = 6 }
  takes_only : take_page plan midway ≡ record { labels = 0 ∷ 1 ∷ 2 ∷ []; queue = 9 ∷ 2 ∷ []; copy = 2; fill = 0; kept = 6 }
  keeps_only : keep_page plan 1 midway ≡ record { labels = 0 ∷ 2 ∷ 0 ∷ []; queue = 9 ∷ 1 ∷ []; copy = 4; fill = 5; kept = 7 }
  puts_only : (put plan 2 0 midway (record { heap = []; pages = midway; objects = 0; words = 0; moves = [] })).pages
      ≡ record { labels = 0 ∷ 1 ∷ 0 ∷ []; queue = 9 ∷ []; copy = 4; fill = 7; kept = 6 }
  -- with nothing to copy there is no open page, whether a page was hinted or not
  opens_none : (collection plainly (first_free 1) [] []).lent.rec ≡ control 8 4 2 0 8
  opens_none_hinted : (collection plainly (first_free 1) [] (17 ∷ [])).lent.rec ≡ control 8 4 2 0 8
  -- page 1 is taken where it is the only one, whatever the labels are
  takes_first : (collection plainly (first_free 1) (16 ∷ []) []).taken ≡ 1 ∷ []
  takes_first_again : (collection plainly (first_free 2) (16 ∷ []) []).taken ≡ 1 ∷ []
  -- the fifth object of a page is swept, where T is 4
  fifth : at (collection plainly (first_free 1) [] (25 ∷ [])).lent.heap 29 ≡ 8
  -- the eighth, of one word, leaves a filler: page 3 is full then, and the first keeps their page
  eighth : (collection plainly ones (16 ∷ 15 ∷ 8 ∷ []) []).fillers ≡ 15 ∷ []
  -- the ninth page of the queue is swept, where P is 8
  ninth : at (collection plainly many [] (8 ∷ 17 ∷ 25 ∷ 33 ∷ 41 ∷ 49 ∷ 57 ∷ 65 ∷ 73 ∷ [])).lent.heap 73 ≡ 88
  -- "Forwarding 0 gives 0", whatever stands at 0
  forward_0 : (forward plan 0 (record { heap = 6 ∷ []; pages = midway; objects = 0; words = 0; moves = [] })).value ≡ 0
  -- a place was left where an even word but 0 stands before the page's end; the length is the copy's
  left : map (λ w. is_left w 1) (0 ∷ 1 ∷ 2 ∷ 3 ∷ []) ≡ false ∷ false ∷ true ∷ false ∷ []
  left_end : is_left 2 0 ≡ false
  left_size : size_at_copy (0 ∷ header_of 4 0 ∷ header_of 2 0 ∷ []) 4 ≡ 3

collection_examples : CollectionExamples
unfolding the_rules
collection_examples = record {
  busy_whole = refl;
  stuck_whole = refl;
  no_moves = refl;
  hints_first = refl;
  hints_only = refl;
  takes_only = refl;
  keeps_only = refl;
  puts_only = refl;
  opens_none = refl;
  opens_none_hinted = refl;
  takes_first = refl;
  takes_first_again = refl;
  fifth = refl;
  eighth = refl;
  ninth = refl;
  forward_0 = refl;
  left = refl;
  left_end = refl;
  left_size = refl;
}
