-- Lists and ranges of numbers: the few words that the other definitions are written in. A test is a Bool.
use Rattle.std.specs.Prelude.{Bool, true, false, cond, ◌&&◌, ◌||◌, List, [], ◌∷◌, ℕ, zero, suc, ◌+◌, ◌-◌, get_or, eqb}

-- the number at place i of a list; 0 past its end
abbrev pub at : List ℕ → ℕ → ℕ
at l i = get_or l i 0

-- n numbers from lo on
unfoldable pub from : ℕ → ℕ → List ℕ
from lo zero = []
from lo (suc n) = lo ∷ from (suc lo) n

-- the numbers lo to hi - 1: pages of a block, words of a part of the heap
unfoldable pub block : ℕ → ℕ → List ℕ
block lo hi = from lo (hi - lo)

-- each member passes the test
unfoldable pub each : (ℕ → Bool) → List ℕ → Bool
each f [] = true
each f (x ∷ xs) = f x && each f xs

-- a is a member
unfoldable pub has : ℕ → List ℕ → Bool
has a [] = false
has a (x ∷ xs) = eqb a x || has a xs

-- how many members pass the test
unfoldable pub count : (ℕ → Bool) → List ℕ → ℕ
count f [] = 0
count f (x ∷ xs) = cond (f x) 1 0 + count f xs

-- what f gives for each member, added up
unfoldable pub sum : (ℕ → ℕ) → List ℕ → ℕ
sum f [] = 0
sum f (x ∷ xs) = f x + sum f xs

-- the first member that passes the test, or e where none does
unfoldable pub first : (ℕ → Bool) → List ℕ → ℕ → ℕ
first f [] e = e
first f (x ∷ xs) e = cond (f x) x (first f xs e)
