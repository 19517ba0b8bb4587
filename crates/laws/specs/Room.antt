-- Laws of the room that a collection may need: the words of k pages need no more than 2k - 1. So Q-3's figure never exceeds document 01's.
use Rattle.std.specs.Prelude.{◌≡◌, refl, List, ℕ, zero, suc, ◌+◌, ◌*◌, ◌-◌, ◌/◌, ◌≤◌, ◌<◌}
use Rattle.std.proofs.Math.Bool.{not}
use Rattle.std.proofs.Common.{zero-le, le_trans, mul-le-mul_right, le-div_iff_mul-le, div-lt_iff_lt-mul, arith, le-leb}
use Rattle.std.proofs.Math.Decide.{ℕ_discrete}
use Rattle.rules.specs.Tests.{and_left}
use Rattle.rules.specs.Ranges.{block}
use Rattle.rules.specs.Pages.{is_free, pages_used, pages_needed}
use Rattle.rules.specs.Lent.{Lent}
use Rattle.rules.specs.Walk.{words_on}
use Rattle.rules.specs.Collect.{is_unhinted, pages_unhinted, words_unhinted, needed_for}
use Rattle.laws.specs.Lists.{sum_most}
use Rattle.laws.specs.Walk.{words_on_page}
use Rattle.laws.specs.FreePages.{count_fewer}

-- ---- the figure

pub needed_none : (P : ℕ) → pages_needed P 0 ≡ 0
unfolding pages_needed
needed_none P = refl

pub needed_some : (P W : ℕ) → 0 < W → pages_needed P W ≡ 2 * (W / (P + 1)) + 1
unfolding pages_needed
needed_some P W h = rw (le-leb 1 W (omega arith))

whole : (P w : ℕ) → w / (P + 1) * (P + 1) ≤ w
whole P w = (le-div_iff_mul-le {k = P + 1} {x = w / (P + 1)} {y = w} (omega arith)).0 (omega arith)

-- every number of words has a figure that is a word
pub needed_fits : (P w : ℕ) → 8 ≤ P → 9 * (w / (P + 1)) ≤ w
needed_fits P w h =
    let q : 9 * (w / (P + 1)) ≤ (P + 1) * (w / (P + 1)) = mul-le-mul_right (w / (P + 1)) (omega arith) in
    omega (arith, whole P w)

-- words that k pages have room for
pub needed_pages : (P W k : ℕ) → W ≤ k * P → pages_needed P W ≤ 2 * k - 1
needed_pages P W k le = go (ℕ_discrete W 0)
  where
    below : (k : ℕ) → 0 < W → W ≤ k * P → W < k * (P + 1)
    below zero pos h = absurd (omega arith)
    below (suc k) pos h = omega arith

    go : Dec (W ≡ 0) → pages_needed P W ≤ 2 * k - 1
    go (yes e) = rw (e, needed_none) zero-le
    go (no n) =
        let q : W / (P + 1) < k = (div-lt_iff_lt-mul {k = P + 1} {x = W} {y = k} (omega arith)).1 (below k (omega arith) le) in
        rw (needed_some P W (omega arith)) (omega arith)

-- ---- the words on unhinted pages

module _ (m : Lent) (hints : List ℕ) where
  -- they are on k' pages
  pub words_unhinted_lem : words_unhinted m hints ≤ pages_unhinted m hints * m.rec.page
  unfolding words_unhinted pages_unhinted
  words_unhinted_lem = sum_most (is_unhinted m hints) (words_on m) m.rec.page (words_on_page m) (block 1 m.rec.pages)

  -- no more pages are unhinted than are in use
  unhinted_used : pages_unhinted m hints ≤ pages_used m.labels 1 m.rec.pages
  unfolding pages_unhinted pages_used is_unhinted
  unhinted_used = count_fewer (λ g. not (is_free m.labels g)) _ (λ g q. and_left (not (is_free m.labels g)) _ q) (block 1 m.rec.pages)

  pub words_used : words_unhinted m hints ≤ pages_used m.labels 1 m.rec.pages * m.rec.page
  words_used = le_trans words_unhinted_lem (mul-le-mul_right m.rec.page unhinted_used)

  -- "this never exceeds the old figure"
  pub needed_never_more : needed_for m hints ≤ 2 * pages_unhinted m hints - 1
  needed_never_more = needed_pages m.rec.page (words_unhinted m hints) (pages_unhinted m hints) words_unhinted_lem
