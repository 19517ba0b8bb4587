-- What soundness tells of objects, pages and labels, as a collection uses it; and the objects that a collection may have to copy.
use Rattle.std.specs.Prelude.{◌≡◌, refl, ◌≢◌, ◌⊎◌, Bool, true, false, not, ℕ, ◌+◌, ◌*◌, ◌/◌, ◌%◌, ◌≤◌}
use Rattle.std.proofs.Common.{sym, ◌∙◌, arith}
use Rattle.std.proofs.Math.Path.{ap}
use Rattle.std.proofs.Math.Logic.{inl, inr}
use mathlib.Core.List.{List, Memᴰ}
use Rattle.std.proofs.Math.Nat.{zero-div}
use Rattle.rules.specs.Ranges.{at, block, has, sum}
use Rattle.rules.specs.Pages.{pages_named, is_free, other_label}
use Rattle.rules.specs.Lent.{Lent}
use Rattle.rules.specs.Walk.{starts, words_on}
use Rattle.rules.specs.Sound.{InUse, IsObject, Sound}
use Rattle.rules.specs.Collect.{is_unhinted, words_unhinted}
use Rattle.laws.specs.Lists.{has_mem}
use Rattle.laws.specs.Pages.{split_page}
use Rattle.laws.specs.Valid.{Layout, valid_layout, label_pos}
use Rattle.laws.specs.Walk.{size, page_steps, Met, met, met_first}
use Rattle.laws.specs.LookUp.{placed}
use Rattle.laws.specs.Words.{in_range}
use Rattle.theory.specs.Sums.{gather, gather_sum}
use Rattle.laws.specs.Objects.{page_pos, met_object}

module _ (m : Lent) (S : Sound m) where
  pub layout : Layout m m.rec.page m.rec.pages
  layout = valid_layout m S.valid

  -- ---- labels

  pub other_label_lem : ((m.rec.label ≡ 1) × (other_label m.rec.label ≡ 2)) ⊎ ((m.rec.label ≡ 2) × (other_label m.rec.label ≡ 1))
  unfolding other_label
  other_label_lem = go S.valid.label
    where
      go : (m.rec.label ≡ 1) ⊎ (m.rec.label ≡ 2)
          → ((m.rec.label ≡ 1) × (other_label m.rec.label ≡ 2)) ⊎ ((m.rec.label ≡ 2) × (other_label m.rec.label ≡ 1))
      go (inl e) = inl (e, ap other_label e)
      go (inr e) = inr (e, ap other_label e)

  pub other≢0 : other_label m.rec.label ≢ 0
  other≢0 = go other_label_lem
    where
      go : ((m.rec.label ≡ 1) × (other_label m.rec.label ≡ 2)) ⊎ ((m.rec.label ≡ 2) × (other_label m.rec.label ≡ 1)) → other_label m.rec.label ≢ 0
      go (inl (a, b)) = omega arith
      go (inr (a, b)) = omega arith

  pub other≢label : other_label m.rec.label ≢ m.rec.label
  other≢label = go other_label_lem
    where
      go : ((m.rec.label ≡ 1) × (other_label m.rec.label ≡ 2)) ⊎ ((m.rec.label ≡ 2) × (other_label m.rec.label ≡ 1)) → other_label m.rec.label ≢ m.rec.label
      go (inl (a, b)) = omega arith
      go (inr (a, b)) = omega arith

  pub in_use : (g : ℕ) → at m.labels g ≡ m.rec.label → InUse m g
  in_use g e =
      let nz : g ≢ 0 = λ q. label_pos m S.valid (sym e ∙ ap (at m.labels) q ∙ S.zero) in
      record { low = omega arith; high = omega (arith, in_range m.labels g (λ q. label_pos m S.valid (sym e ∙ q)), layout.labels); label = e }

  -- ---- objects

  pub met_of : (x : ℕ) → IsObject m x → Met m.heap (x / m.rec.page * m.rec.page) m.rec.page x
  met_of x ob = met m.heap (page_steps m (x / m.rec.page)) x ob.met

  pub object_fits : (x : ℕ) → IsObject m x → x % m.rec.page + size m.heap x ≤ m.rec.page
  object_fits x ob = omega (arith, (placed m x layout ob).fits, split_page m.rec.page x)

  pub object_nonzero : (x : ℕ) → IsObject m x → x ≢ 0
  object_nonzero x ob q =
      label_pos m S.valid (sym ob.in_use.label ∙ ap (λ (k : ℕ). at m.labels (k / m.rec.page)) q ∙ ap (at m.labels) (zero-div m.rec.page) ∙ S.zero)

  -- the first word of a page in use is an object start
  pub first_object : (g : ℕ) → InUse m g → IsObject m (g * m.rec.page)
  first_object g u = let (a, mem) = S.some g u in met_object m (page_pos m S.valid) g (g * m.rec.page) u (met_first m.heap (page_steps m g) mem)

-- ---- the objects on pages in use that no hint names

unfoldable pub objects_unhinted : Lent → List ℕ → List ℕ
objects_unhinted m hints = gather (is_unhinted m hints) (starts m) (block 1 m.rec.pages)

-- their words are W
pub words_are : (m : Lent) (hints : List ℕ) → sum (size m.heap) (objects_unhinted m hints) ≡ words_unhinted m hints
unfolding objects_unhinted words_unhinted words_on
words_are m hints = gather_sum (is_unhinted m hints) (starts m) (size m.heap) (block 1 m.rec.pages)

pub unhinted_is : (m : Lent) (hints : List ℕ) (g : ℕ) → is_free m.labels g ≡ false → (Memᴰ g (pages_named m.rec.page 1 m.rec.pages hints) → ⊥)
    → is_unhinted m hints g ≡ true
unfolding is_unhinted
unhinted_is m hints g e n = rw e (go (has g (pages_named m.rec.page 1 m.rec.pages hints)) refl)
  where
    go : (b : Bool) → has g (pages_named m.rec.page 1 m.rec.pages hints) ≡ b → not b ≡ true
    go false q = refl
    go true q = absurd (n (has_mem g _ q))
