-- The walk of a page, object starts, and what is found at an address.
use Rattle.std.specs.Prelude.{Bool, cond, ◌&&◌, ◌||◌, List, [], ◌∷◌, ℕ, zero, suc, ◌+◌, ◌*◌, ◌-◌, ◌/◌, eqb, leb, ltb}
use Rattle.rules.specs.declared.Found.{Found}
use Rattle.rules.specs.declared.Found.TheVariants.{Start, Inside, Nothing}
use Rattle.rules.specs.Ranges.{at, has, sum}
use Rattle.rules.specs.Header.{size_of, is_header}
use Rattle.rules.specs.Lent.{Lent}

-- The addresses that the walk from address a on meets as headers, at most f of them, where there are `room` words before
-- the page's end. "From a header the walk goes n words on. The walk of a page stops at the first word that is no header,
-- or at the page's end."
unfoldable pub walk : ℕ → List ℕ → ℕ → ℕ → List ℕ
walk zero h a room = []
walk (suc f) h a room =
    let n = size_of (at h a) in
    let rest = a ∷ walk f h (a + n) (room - n) in
    cond (is_header (at h a) room) rest []

-- the address behind the last object of a walk from a that met these
unfoldable pub behind : List ℕ → ℕ → List ℕ → ℕ
behind h a [] = a
behind h a (x ∷ xs) = behind h (x + size_of (at h x)) xs

-- "Begin at the page's first word." What the walk of page g meets (no more than P objects: each takes a word or more)
unfoldable pub starts : Lent → ℕ → List ℕ
starts m g = walk m.rec.page m.heap (g * m.rec.page) m.rec.page

-- the walk's stop on page g
unfoldable pub stop : Lent → ℕ → ℕ
stop m g = behind m.heap (g * m.rec.page) (starts m g)

-- Q-3: "the words in objects" on page g, their headers with them
unfoldable pub words_on : Lent → ℕ → ℕ
words_on m g = sum (λ x. size_of (at m.heap x)) (starts m g)

-- "on a page 1 to T-1 with the current label"
unfoldable pub is_in_use : Lent → ℕ → Bool
is_in_use m g = leb 1 g && (ltb g m.rec.pages && eqb (at m.labels g) m.rec.label)

-- "An object start is an address that the walk meets as a header, on a page 1 to T-1 with the current label."
unfoldable pub is_start : Lent → ℕ → Bool
is_start m a = is_in_use m (a / m.rec.page) && has a (starts m (a / m.rec.page))

-- "neither 0 nor an object start" is what a reference may not be
unfoldable pub is_reference : Lent → ℕ → Bool
is_reference m v = eqb v 0 || is_start m v

-- where a lands among these objects
unfoldable pub landing : List ℕ → ℕ → List ℕ → Found
landing h a [] = Nothing
landing h a (x ∷ xs) =
    cond (eqb a x) (Start (at h x))
    (cond (ltb x a && ltb a (x + size_of (at h x))) (Inside x)
    (landing h a xs))

-- what is found at an address (Q-2): "an object start", with its header, "inside the object that starts at s, or nothing"
unfoldable pub found : Lent → ℕ → Found
found m a = cond (is_in_use m (a / m.rec.page)) (landing m.heap a (starts m (a / m.rec.page))) Nothing
