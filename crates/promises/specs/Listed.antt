-- The objects of a small heap one by one: what holds of each that the walks of its pages in use meet, holds of every
-- object.
use Rattle.std.specs.Prelude.{◌≡◌, refl, ◌⊎◌, ℕ, ◌/◌}
use Rattle.std.proofs.Common.{inl, inr, eq-eqb, le-leb, lt-ltb}
use mathlib.Core.List.Memᴰ
use mathlib.Core.List.{List, [], ◌∷◌, Memᴰ}
use Rattle.rules.specs.Ranges.{block}
use Rattle.rules.specs.Lent.{Lent}
use Rattle.rules.specs.Walk.{starts, is_in_use}
use Rattle.rules.specs.Sound.{IsObject}
use Rattle.laws.specs.Lists.{block_mem}
use Rattle.theory.specs.Sums.{gather, gather_mem}

-- each of the list is so
unfoldable pub Each : (ℕ → Type 0) → List ℕ → Type 0
Each Q [] = Unit {0}
Each Q (x ∷ xs) = Q x × Each Q xs

pub each_of : (Q : ℕ → Type 0) (xs : List ℕ) → Each Q xs → (x : ℕ) → Memᴰ x xs → Q x
unfolding Each
each_of Q [] all x k = absurd (Memᴰ.not-nil k)
each_of Q (y ∷ ys) (q, all) x k = go (each_of Q ys all x) (Memᴰ.cases_cons k)
  where
    go : (Memᴰ x ys → Q x) → (x ≡ y) ⊎ Memᴰ x ys → Q x
    go ih (inl e) = rw e q
    go ih (inr j) = ih j

-- the objects, page by page
unfoldable pub objects : Lent → List ℕ
objects m = gather (is_in_use m) (starts m) (block 1 m.rec.pages)

pub each_object : (m : Lent) (Q : ℕ → Type 0) → Each Q (objects m) → (x : ℕ) → IsObject m x → Q x
unfolding objects is_in_use
each_object m Q all x ob =
    let u = ob.in_use in
    let g : ℕ = x / m.rec.page in
    each_of Q (objects m) all x
    (gather_mem (is_in_use m) (starts m) (block 1 m.rec.pages) g x (block_mem 1 m.rec.pages g u.low u.high)
    (rw (le-leb 1 g u.low, lt-ltb g m.rec.pages u.high, eq-eqb _ _ u.label) refl) ob.met)
