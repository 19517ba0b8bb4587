-- Every slot of a list is one, as the library says it and as the definition does. Assumes nothing.
use Rattle.std.proofs.Common.{◌≡◌, ℕ, List, [], ◌∷◌, refl}
use Rattle.std.specs.List.{list_all}
use Rattle.rules.specs.Ranges.{each}
use Rattle.entries.specs.Entries.{is_slot}

pub all_slots : (l : List ℕ) → list_all is_slot l ≡ each is_slot l
unfolding each
all_slots [] = refl
all_slots (x ∷ xs) = simp (all_slots xs)
