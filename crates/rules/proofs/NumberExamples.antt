-- Examples of Ranges, Header and Pages. Each line watches the clause that its comment names.
use Rattle.std.specs.Prelude.{◌≡◌, refl, true, false, [], ◌∷◌, map, ◌+◌, ◌*◌, leb}
use Rattle.rules.specs.Ranges.{at, from, block, each, has, count, sum, first}
use Rattle.rules.specs.Header.{header_of, size_of, refs_of, is_header}
use Rattle.rules.specs.Pages.{is_page_size, page_at_start, is_shape, page_named, page_named_before, pages_named}
use Rattle.rules.specs.Pages.{lowest_free, pages_used, pages_needed, other_label}
use Rattle.rules.specs.Pages.{page_named_to_c, page_named_before_to_c, pages_needed_to_c}
use Rattle.rules.specs.Unfolded.{the_rules}

record RangeExamples : Type 0 where
  -- past a list's end stands 0
  places : map (at (5 ∷ 6 ∷ [])) (0 ∷ 1 ∷ 2 ∷ []) ≡ 5 ∷ 6 ∷ 0 ∷ []
  -- n numbers; the last of a block is hi - 1, and a block that ends before it begins is empty
  numbers : from 3 2 ≡ 3 ∷ 4 ∷ []
  blocks : (block 3 5 ≡ 3 ∷ 4 ∷ []) × (block 5 3 ≡ [])
  -- the test is asked of the first member and of the last
  all_pass : (each (leb 2) (2 ∷ 3 ∷ []) ≡ true) × (each (leb 2) (1 ∷ 2 ∷ []) ≡ false) × (each (leb 2) (2 ∷ 1 ∷ []) ≡ false)
  member : (has 2 (2 ∷ 3 ∷ []) ≡ true) × (has 3 (2 ∷ 3 ∷ []) ≡ true) × (has 4 (2 ∷ 3 ∷ []) ≡ false)
  passing : count (leb 2) (2 ∷ 1 ∷ 3 ∷ []) ≡ 2
  added : sum (at (5 ∷ 6 ∷ 7 ∷ [])) (0 ∷ 2 ∷ []) ≡ 12
  -- the first that passes, and e where none does
  first_one : (first (leb 2) (1 ∷ 2 ∷ 3 ∷ []) 9 ≡ 2) × (first (leb 2) (1 ∷ 0 ∷ []) 9 ≡ 9)

record HeaderExamples : Type 0 where
  -- n is what stands above the low 16 bits, p the half of these
  words : map size_of (65535 ∷ 65536 ∷ 131071 ∷ 131072 ∷ []) ≡ 0 ∷ 1 ∷ 1 ∷ 2 ∷ []
  references : map refs_of (65537 ∷ 65538 ∷ 65539 ∷ 131071 ∷ []) ≡ 0 ∷ 1 ∷ 1 ∷ 32767 ∷ []
  -- d 1 and p 1 with just enough room, and with a word too little
  fits : (is_header (header_of 1 1) 2 ≡ true) × (is_header (header_of 1 1) 1 ≡ false)
  -- "odd"; "n is at least 1": the smallest, and n 0; "p is at most n - 1": p = n
  even : is_header (2 * 65536) 8 ≡ false
  smallest : (is_header (header_of 0 0) 1 ≡ true) × (is_header 1 8 ≡ false)
  p_of_n : is_header (2 * 65536 + 2 * 2 + 1) 8 ≡ false
  -- p at its largest: n is not touched by it
  p_largest : (is_header (32767 * 65536 + 65535) 32767 ≡ false) × (is_header (32768 * 65536 + 65535) 32768 ≡ true)

record PageExamples : Type 0 where
  -- "a power of two from 8 to 1,024": these eight, and no other
  sizes : each is_page_size (8 ∷ 16 ∷ 32 ∷ 64 ∷ 128 ∷ 256 ∷ 512 ∷ 1024 ∷ []) ≡ true
  no_other : count is_page_size (block 0 2050) ≡ 8
  -- only 0 means the default
  default : map page_at_start (0 ∷ 1 ∷ 8 ∷ 128 ∷ []) ≡ 64 ∷ 1 ∷ 8 ∷ 128 ∷ []
  -- "T is 3 to 4,096", and P is looked at too
  pages : map (is_shape 8) (2 ∷ 3 ∷ 4096 ∷ 4097 ∷ []) ≡ false ∷ true ∷ true ∷ false ∷ []
  sizes_too : (is_shape 4 3 ≡ false) × (is_shape 12 3 ≡ false) × (is_shape 1024 3 ≡ true) × (is_shape 2048 3 ≡ false)
  -- the pages from lo to hi - 1 are named by their words, first to last
  named : map (page_named 8 2 4) (15 ∷ 16 ∷ 31 ∷ 32 ∷ []) ≡ 0 ∷ 2 ∷ 3 ∷ 0 ∷ []
  -- by the word behind them too; and lo may be 0
  named_before : map (page_named_before 8 2 4) (0 ∷ 16 ∷ 17 ∷ 32 ∷ 33 ∷ []) ≡ 0 ∷ 0 ∷ 2 ∷ 3 ∷ 0 ∷ []
  named_from_0 : page_named_before 8 0 4 9 ≡ 1
  -- each word in order, its own page first
  hints : pages_named 8 2 4 (15 ∷ 16 ∷ 24 ∷ 32 ∷ 33 ∷ []) ≡ 0 ∷ 0 ∷ 2 ∷ 0 ∷ 3 ∷ 2 ∷ 0 ∷ 3 ∷ 0 ∷ 0 ∷ []
  -- the lowest of two; none before page 3
  lowest : (lowest_free (0 ∷ 1 ∷ 0 ∷ 0 ∷ []) 1 4 ≡ 2) × (lowest_free (0 ∷ 1 ∷ 2 ∷ 0 ∷ []) 1 3 ≡ 3)
  -- any label but 0 counts, on pages lo to hi - 1 alone
  used : (pages_used (9 ∷ 1 ∷ 0 ∷ 2 ∷ 1 ∷ []) 1 4 ≡ 2) × (pages_used (0 ∷ 1 ∷ 0 ∷ 2 ∷ []) 1 4 ≡ 2)
  -- one word needs a page; P + 1 need three, and 2(P + 1) five
  needed : map (pages_needed 8) (0 ∷ 1 ∷ 8 ∷ 9 ∷ 17 ∷ 18 ∷ []) ≡ 0 ∷ 1 ∷ 1 ∷ 3 ∷ 3 ∷ 5 ∷ []
  other : map other_label (1 ∷ 2 ∷ []) ≡ 2 ∷ 1 ∷ []
  -- for C: T 3, and then T 2, P 4 and P 0, which are bad
  to_c : map (λ w. page_named_to_c w 8 3) (7 ∷ 8 ∷ 23 ∷ 24 ∷ []) ≡ 0 ∷ 1 ∷ 2 ∷ 0 ∷ []
  to_c_bad : (page_named_to_c 9 8 2 ≡ 0) × (page_named_to_c 9 4 6 ≡ 0) × (page_named_to_c 9 0 6 ≡ 0)
  before_to_c : map (λ w. page_named_before_to_c w 8 3) (8 ∷ 9 ∷ 17 ∷ 24 ∷ 25 ∷ []) ≡ 0 ∷ 1 ∷ 2 ∷ 2 ∷ 0 ∷ []
  before_to_c_bad : (page_named_before_to_c 9 8 2 ≡ 0) × (page_named_before_to_c 9 4 6 ≡ 0) × (page_named_before_to_c 9 0 6 ≡ 0)
  needed_to_c : (pages_needed_to_c 17 16 ≡ 3) × (pages_needed_to_c 17 4 ≡ 4294967295)

range_examples : RangeExamples
unfolding the_rules
range_examples = record {
  places = refl;
  numbers = refl;
  blocks = (refl, refl);
  all_pass = (refl, refl, refl);
  member = (refl, refl, refl);
  passing = refl;
  added = refl;
  first_one = (refl, refl);
}

header_examples : HeaderExamples
unfolding the_rules
header_examples = record {
  words = refl;
  references = refl;
  fits = (refl, refl);
  even = refl;
  smallest = (refl, refl);
  p_of_n = refl;
  p_largest = (refl, refl);
}

page_examples : PageExamples
unfolding the_rules
page_examples = record {
  sizes = refl;
  no_other = refl;
  default = refl;
  pages = refl;
  sizes_too = (refl, refl, refl, refl);
  named = refl;
  named_before = refl;
  named_from_0 = refl;
  hints = refl;
  lowest = (refl, refl);
  used = (refl, refl);
  needed = refl;
  other = refl;
  to_c = refl;
  to_c_bad = (refl, refl, refl);
  before_to_c = refl;
  before_to_c_bad = (refl, refl, refl);
  needed_to_c = (refl, refl);
}
