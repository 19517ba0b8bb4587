-- How objects lie: on their pages, and apart from each other.
use Rattle.std.specs.Prelude.{◌≡◌, refl, ◌≢◌, ℕ, ◌+◌, ◌*◌, ◌/◌, ◌≤◌, ◌<◌}
use Rattle.std.proofs.Common.{sym, ◌∙◌, subst, arith}
use mathlib.Core.List.{Memᴰ}
use Rattle.std.proofs.Math.Decide.{ℕ_discrete, dec_lt}
use Rattle.rules.specs.Ranges.{at}
use Rattle.rules.specs.Lent.{Lent}
use Rattle.rules.specs.Walk.{starts}
use Rattle.rules.specs.Sound.{InUse, IsObject, Valid}
use Rattle.laws.specs.Pages.{on_page, page_on, page_end}
use Rattle.laws.specs.Valid.{valid_layout, label_pos}
use Rattle.laws.specs.Walk.{met_apart, size, page_steps, Met, met}

-- a page has words
pub page_pos : (m : Lent) → Valid m → 0 < m.rec.page
page_pos m v = omega (arith, (valid_layout m v).page_low)

-- a page in use is not free
pub label_used : (m : Lent) → Valid m → (g : ℕ) → InUse m g → at m.labels g ≢ 0
label_used m v g u z = label_pos m v (sym u.label ∙ z)

module _ (m : Lent) (pos : 0 < m.rec.page) where
  -- what the walk of page g meets is on page g
  pub met_page : (g a : ℕ) → Memᴰ a (starts m g) → a / m.rec.page ≡ g
  met_page g a k = let M = met m.heap (page_steps m g) a k in on_page pos a g M.from M.upto

  -- and an object, if the page is in use
  pub met_object : (g a : ℕ) → InUse m g → Memᴰ a (starts m g) → IsObject m a
  met_object g a u k =
      let e : a / m.rec.page ≡ g = met_page g a k in
      record { in_use = subst (InUse m) (sym e) u; met = subst (λ (j : ℕ). Memᴰ a (starts m j)) (sym e) k }

  -- the words of an object are on its page
  pub object_page : (x i : ℕ) → IsObject m x → i < size m.heap x → (x + i) / m.rec.page ≡ x / m.rec.page
  object_page x i o h =
      let M = met m.heap (page_steps m (x / m.rec.page)) x o.met in
      on_page pos (x + i) (x / m.rec.page) (omega (arith, M.from)) (omega (arith, M.upto, M.header.fits))

  -- two objects do not meet
  pub objects_apart : (x y : ℕ) → IsObject m x → IsObject m y → x < y → x + size m.heap x ≤ y
  objects_apart x y ox oy lt = go (ℕ_discrete (x / m.rec.page) (y / m.rec.page)) (dec_lt (x / m.rec.page) (y / m.rec.page))
    where
      mx : Met m.heap (x / m.rec.page * m.rec.page) m.rec.page x
      mx = met m.heap (page_steps m (x / m.rec.page)) x ox.met

      go : Dec (x / m.rec.page ≡ y / m.rec.page) → Dec (x / m.rec.page < y / m.rec.page) → x + size m.heap x ≤ y
      go (yes e) d = met_apart m.heap (page_steps m (y / m.rec.page)) x y (subst (λ (g : ℕ). Memᴰ x (starts m g)) e ox.met) oy.met lt
      go (no n) (yes l) = omega (arith, page_end _ m.rec.page _ l, mx.upto, mx.header.fits, (page_on pos y _ refl).0)
      go (no n) (no l) = absurd (let q : y / m.rec.page < x / m.rec.page = omega arith in omega (arith, page_end _ m.rec.page _ q, mx.from, (page_on pos y _ refl).1))
