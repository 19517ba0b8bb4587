-- What the code of this crate asks of its callers.
use Rattle.std.specs.Prelude.{List, ℕ, ◌+◌, ◌≤◌, length}

-- an object of d payload words, p of them references, has room at an address of this heap, and its header fits a word
pub record Room (heap : List ℕ) (address d p : ℕ) : Type 0 where
  pub small : d ≤ 1023
  pub within : p ≤ d
  pub inside : address + (d + 1) ≤ length heap
