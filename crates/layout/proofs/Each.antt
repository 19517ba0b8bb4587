-- That a test holds of each item of a list, as the library says it and as the definitions do. Assumes nothing.
use Rattle.std.proofs.Common.{◌≡◌, ℕ, List, [], ◌∷◌, Bool, ◌&&◌, refl, ap}
use Rattle.std.specs.List.{list_all}
use Rattle.rules.specs.Ranges.{each}

pub all_each : (F : ℕ → Bool) (l : List ℕ) → list_all F l ≡ each F l
unfolding each
all_each F [] = refl
all_each F (x ∷ xs) = ap {B = Bool} (λ b. F x && b) (all_each F xs)
