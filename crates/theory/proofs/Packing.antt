-- How many pages copies take: the bound that specs/Packing.antt states, and that copies keep to it.
use Rattle.std.specs.Prelude.{◌≡◌, ℕ, zero, suc, ◌+◌, ◌/◌, ◌≤◌, ◌<◌}
use Rattle.std.proofs.Common.{le-div_iff_mul-le, arith}
use Rattle.std.proofs.Math.Decide.{ℕ_discrete}
use Rattle.rules.specs.Pages.{pages_needed}
use Rattle.laws.specs.Room.{needed_none, needed_some}
use Rattle.theory.specs.Packing.{Packed, even, odd, PackedBound}

packed_bound : {P m f v : ℕ} (w : ℕ) → PackedBound P m f v w
packed_bound {P} w le (even j e h) =
    let k : j ≤ w / (P + 1) = (le-div_iff_mul-le {k = P + 1} {x = j} {y = w} (omega arith)).1 (omega arith) in omega arith
packed_bound {P} w le (odd j e h) =
    let k : j ≤ w / (P + 1) = (le-div_iff_mul-le {k = P + 1} {x = j} {y = w} (omega arith)).1 (omega arith) in omega arith

-- v words of w at most took no more; no words took no page, where a page that is taken holds some
pub packed_enough : {P m f v : ℕ} (w : ℕ) → v ≤ w → 0 < f → Packed P m f v → m ≤ pages_needed P w
packed_enough {P} {m} {f} {v} w le pos K = go (ℕ_discrete w 0)
  where
    nothing : v ≡ 0 → Packed P m f v → m ≤ 0
    nothing e (even zero q h) = omega arith
    nothing e (even (suc j) q h) = absurd (omega arith)
    nothing e (odd j q h) = absurd (omega arith)

    go : Dec (w ≡ 0) → m ≤ pages_needed P w
    go (yes e) = rw (e, needed_none) (nothing (omega arith) K)
    go (no n) = rw (needed_some P w (omega arith)) (packed_bound w le K)
