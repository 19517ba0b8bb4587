-- How many pages copies take. "Two copy pages in a row hold at least P + 1 words": so w words take at most
-- 2·floor(w / (P + 1)) + 1 pages.
use Rattle.std.specs.Prelude.{◌≡◌, refl, ℕ, suc, ◌+◌, ◌*◌, ◌/◌, ◌≤◌, ◌<◌}
use Rattle.std.proofs.Common.{arith}

-- m pages taken, f words used on the last, w words copied: by pairs of pages
pub data Packed (P m f w : ℕ) : Type 0 where
  even : (j : ℕ) → m ≡ 2 * j → j * (P + 1) ≤ w → Packed P m f w
  odd : (j : ℕ) → m ≡ 2 * j + 1 → j * (P + 1) + f ≤ w → Packed P m f w

pub packed_none : (P f : ℕ) → Packed P 0 f 0
packed_none P f = even 0 refl (omega arith)

-- n words more on the same page
pub packed_same : {P m f w : ℕ} (n : ℕ) → Packed P m f w → Packed P m (f + n) (w + n)
packed_same n (even j e h) = even j e (omega arith)
packed_same n (odd j e h) = odd j e (omega arith)

-- n words that do not fit, on a page taken for them
pub packed_new : {P m f w : ℕ} (n : ℕ) → P < f + n → Packed P m f w → Packed P (m + 1) n (w + n)
packed_new n lt (even j e h) = odd j (omega arith) (omega arith)
packed_new n lt (odd j e h) = even (suc j) (omega arith) (omega arith)

-- the bound, where v words of w at most were copied; proofs/Packing.antt proves it
abbrev pub PackedBound : ℕ → ℕ → ℕ → ℕ → ℕ → Type 0
PackedBound P m f v w = v ≤ w → Packed P m f v → m ≤ 2 * (w / (P + 1)) + 1
