-- Pages: their size and number, which one a word names, which are free, how many a collection may need.
use Rattle.std.specs.Prelude.{Bool, cond, not, ◌&&◌, List, [], ◌∷◌, ◌++◌, ℕ, ◌+◌, ◌*◌, ◌-◌, ◌/◌, eqb, leb, ltb}
use Rattle.rules.specs.Ranges.{at, block, has, count, first}

-- "P is a power of two from 8 to 1,024": Valid of Sound.antt says it as 2 ^ e, and the laws that both are one
abbrev pub page_sizes : List ℕ
page_sizes = 8 ∷ 16 ∷ 32 ∷ 64 ∷ 128 ∷ 256 ∷ 512 ∷ 1024 ∷ []

unfoldable pub is_page_size : ℕ → Bool
is_page_size P = has P page_sizes

-- "at start only", and Q-5: "From now on P = 0 at start means 64."
unfoldable pub page_at_start : ℕ → ℕ
page_at_start P = cond (eqb P 0) 64 P

-- "P is a power of two from 8 to 1,024 .. T is 3 to 4,096."
unfoldable pub is_shape : ℕ → ℕ → Bool
is_shape P T = is_page_size P && (leb 3 T && leb T 4096)

-- the page that a word names among those from lo to hi - 1; 0 for none. "An address is a word's place in the heap; its
-- page is the address divided by P, rounded down. Page 0 is never given out."
unfoldable pub page_named : ℕ → ℕ → ℕ → ℕ → ℕ
page_named P lo hi w = cond (leb lo (w / P) && ltb (w / P) hi) (w / P) 0

-- Q-1: "if w is at least 1, the page of w - 1", under the same conditions; 0 for none
unfoldable pub page_named_before : ℕ → ℕ → ℕ → ℕ → ℕ
page_named_before P lo hi w = cond (leb 1 w) (page_named P lo hi (w - 1)) 0

-- Q-1: "A hint word w names its own page first and then, if w is at least 1, the page of w - 1"
unfoldable pub pages_of_hint : ℕ → ℕ → ℕ → ℕ → List ℕ
pages_of_hint P lo hi w = page_named P lo hi w ∷ page_named_before P lo hi w ∷ []

-- the pages that hint words name, each word in order; 0 stands where none is named
unfoldable pub pages_named : ℕ → ℕ → ℕ → List ℕ → List ℕ
pages_named P lo hi [] = []
pages_named P lo hi (w ∷ ws) = pages_of_hint P lo hi w ++ pages_named P lo hi ws

-- "Label 0 is free."
unfoldable pub is_free : List ℕ → ℕ → Bool
is_free labels g = eqb (at labels g) 0

-- "the lowest-numbered page (from 1) with label 0", of those from lo to hi - 1; hi where none is free
unfoldable pub lowest_free : List ℕ → ℕ → ℕ → ℕ
lowest_free labels lo hi = first (is_free labels) (block lo hi) hi

-- k: "nonzero labels among pages" lo to hi - 1
unfoldable pub pages_used : List ℕ → ℕ → ℕ → ℕ
pages_used labels lo hi = count (λ g. not (is_free labels g)) (block lo hi)

-- Q-3: to copy W words "a collection takes at most 2·floor(W / (P + 1)) + 1 pages if W is at least 1, else none"
unfoldable pub pages_needed : ℕ → ℕ → ℕ
pages_needed P W = cond (leb 1 W) (2 * (W / (P + 1)) + 1) 0

-- "Pages in use carry the current label, 1 or 2; a collection gives the other one to what it retains."
unfoldable pub other_label : ℕ → ℕ
other_label label = cond (eqb label 1) 2 1

-- The three calls on plain numbers, for C. "The first takes word, P and T and looks at no label; bad P or T gives 0 ..
-- Here P = 0 is bad."
unfoldable pub page_named_to_c : ℕ → ℕ → ℕ → ℕ
page_named_to_c w P T = cond (is_shape P T) (page_named P 1 T w) 0

-- Q-1: "the C call for naming a page answers for w alone, and a second one for w - 1 (0 at w = 0)"
unfoldable pub page_named_before_to_c : ℕ → ℕ → ℕ → ℕ
page_named_before_to_c w P T = cond (is_shape P T) (page_named_before P 1 T w) 0

-- Q-3: "The C call for pages needed takes W and P instead; a bad P gives 4,294,967,295."
unfoldable pub pages_needed_to_c : ℕ → ℕ → ℕ
pages_needed_to_c W P = cond (is_page_size P) (pages_needed P W) 4294967295
