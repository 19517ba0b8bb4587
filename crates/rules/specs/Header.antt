-- An object's header word.
use Rattle.std.specs.Prelude.{Bool, ◌&&◌, ℕ, ◌+◌, ◌*◌, ◌-◌, ◌/◌, ◌%◌, eqb, leb}

-- "An object of d payload words, the first p of them references, takes n = d + 1 words. Its address is that of its
-- header, n·65,536 + 2p + 1."
unfoldable pub header_of : ℕ → ℕ → ℕ
header_of d p = (d + 1) * 65536 + 2 * p + 1

-- n
unfoldable pub size_of : ℕ → ℕ
size_of w = w / 65536

-- "p is the low 16 bits halved, rounded down"
unfoldable pub refs_of : ℕ → ℕ
refs_of w = w % 65536 / 2

-- "A word is a header if it is odd, n is at least 1, p is at most n - 1, and n words fit before the page's end":
-- there are `room` words before it, this one included
unfoldable pub is_header : ℕ → ℕ → Bool
is_header w room = eqb (w % 2) 1 && (leb 1 (size_of w) && (leb (refs_of w) (size_of w - 1) && leb (size_of w) room))
