-- Examples of Walk: what the walk meets, where it stops, and what is found at an address. Each line watches the clause that
-- its comment names.
use Rattle.std.specs.Prelude.{◌≡◌, refl, true, false, [], ◌∷◌, ◌++◌, map, replicate}
use Rattle.rules.specs.declared.Found.TheVariants.{Start, Inside, Nothing}
use Rattle.rules.specs.Header.{header_of}
use Rattle.rules.specs.Lent.{Lent}
use Rattle.rules.specs.Walk.{walk, behind, starts, stop, words_on, is_in_use, is_start, is_reference, landing, found}
use Rattle.rules.specs.Unfolded.{the_rules}
use Rattle.rules.specs.Heaps.{control, page, memory, under}

-- Page 1: objects of 4 and 3 words. Page 2: one of 4, and a header whose 5 words would end a word past the page. Page 3: a
-- header of 9 words. Page 4: eight objects of one word. Pages 0, 5 and 6: an object of 2 words each, but label 1 on page 0,
-- 2 on page 5, and page 6 is free. There is an eighth label, and a record for seven pages, of which page 1 is open.
abbrev mixed : Lent
mixed = under (memory (1 ∷ 1 ∷ 1 ∷ 1 ∷ 1 ∷ 2 ∷ 0 ∷ 1 ∷ [])
    (page (header_of 1 0 ∷ []) ++ page (header_of 3 1 ∷ 0 ∷ 0 ∷ 0 ∷ header_of 2 0 ∷ [])
    ++ page (header_of 3 0 ∷ 0 ∷ 0 ∷ 0 ∷ header_of 4 0 ∷ []) ++ page (header_of 8 0 ∷ []) ++ replicate 8 (header_of 0 0)
    ++ page (header_of 1 0 ∷ []) ++ page (header_of 1 0 ∷ []) ++ page (header_of 1 0 ∷ []))) (control 8 7 1 1 7)

record WalkExamples : Type 0 where
  -- "From a header the walk goes n words on", and stops "at the first word that is no header"
  meets : starts mixed 1 ≡ 8 ∷ 12 ∷ []
  -- "or at the page's end": eight objects are as many as a page holds
  meets_all : starts mixed 4 ≡ 32 ∷ 33 ∷ 34 ∷ 35 ∷ 36 ∷ 37 ∷ 38 ∷ 39 ∷ []
  -- what goes past the page's end is no header, behind another object or first
  meets_no_longer : (starts mixed 2 ≡ 16 ∷ []) × (starts mixed 3 ≡ [])
  -- at most f of them
  at_most : (walk 1 mixed.heap 8 8 ≡ 8 ∷ []) × (walk 2 mixed.heap 8 8 ≡ 8 ∷ 12 ∷ [])
  -- the stop is behind the last object; the page's first word, where there is none
  stops : map (stop mixed) (1 ∷ 2 ∷ 3 ∷ 4 ∷ []) ≡ 15 ∷ 20 ∷ 24 ∷ 40 ∷ []
  -- it goes by the objects alone, from the first to the last
  stops_behind : behind mixed.heap 8 (8 ∷ 12 ∷ []) ≡ 15
  -- Q-3: headers count with their objects
  words : map (words_on mixed) (1 ∷ 2 ∷ 3 ∷ 4 ∷ []) ≡ 7 ∷ 4 ∷ 0 ∷ 8 ∷ []
  -- "on a page 1 to T-1 with the current label": not page 0, nor with the other label, nor free, nor page T
  in_use : map (is_in_use mixed) (0 ∷ 1 ∷ 4 ∷ 5 ∷ 6 ∷ 7 ∷ []) ≡ false ∷ true ∷ true ∷ false ∷ false ∷ false ∷ []
  -- label 1 where 2 is current
  in_use_old : is_in_use (under mixed (control 8 7 2 0 8)) 1 ≡ false
  -- an object start is one that the walk meets: the first and the second, and none beside them
  start : map (is_start mixed) (7 ∷ 8 ∷ 9 ∷ 12 ∷ 15 ∷ []) ≡ false ∷ true ∷ false ∷ true ∷ false ∷ []
  -- the first and the last of a page are on it
  start_ends : map (is_start mixed) (32 ∷ 39 ∷ []) ≡ true ∷ true ∷ []
  -- on a page in use
  start_elsewhere : map (is_start mixed) (0 ∷ 40 ∷ 48 ∷ 56 ∷ []) ≡ false ∷ false ∷ false ∷ false ∷ []
  -- a reference is 0 or an object start
  reference : map (is_reference mixed) (0 ∷ 1 ∷ 8 ∷ 9 ∷ 40 ∷ []) ≡ true ∷ false ∷ true ∷ false ∷ false ∷ []
  -- what is found, word by word: an object start with its header, inside the object that starts there, nothing
  found_first : (found mixed 8 ≡ Start (header_of 3 1)) × (found mixed 9 ≡ Inside 8) × (found mixed 11 ≡ Inside 8)
  found_second : (found mixed 12 ≡ Start (header_of 2 0)) × (found mixed 13 ≡ Inside 12) × (found mixed 14 ≡ Inside 12)
  found_behind : (found mixed 15 ≡ Nothing) × (found mixed 7 ≡ Nothing)
  -- on a page in use
  found_elsewhere : (found mixed 0 ≡ Nothing) × (found mixed 40 ≡ Nothing) × (found mixed 49 ≡ Nothing)
  -- an address before the objects is not inside them
  lands_before : landing mixed.heap 10 (12 ∷ []) ≡ Nothing

walk_examples : WalkExamples
unfolding the_rules
walk_examples = record {
  meets = refl;
  meets_all = refl;
  meets_no_longer = (refl, refl);
  at_most = (refl, refl);
  stops = refl;
  stops_behind = refl;
  words = refl;
  in_use = refl;
  in_use_old = refl;
  start = refl;
  start_ends = refl;
  start_elsewhere = refl;
  reference = refl;
  found_first = (refl, refl, refl);
  found_second = (refl, refl, refl);
  found_behind = (refl, refl);
  found_elsewhere = (refl, refl, refl);
  lands_before = refl;
}
