-- What filling leaves, as the code has it.
use Rattle.std.specs.Prelude.{◌≡◌, List, ℕ, length}
use Rattle.rules.specs.Collection.{Filled}

-- the heap, and as many places as are counted
pub record FilledAs (s : Filled) (h : List ℕ) (n : ℕ) : Type 0 where
  pub heap : h ≡ s.heap
  pub places : n ≡ length s.places
