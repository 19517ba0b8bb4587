-- Collect accepts or refuses by its tests, and equals one of two outcomes. It accepts exactly a sound heap with good roots.
use Rattle.std.specs.Prelude.{◌≡◌, refl, ◌≢◌, Bool, true, false, cond, List, ℕ}
use Rattle.std.proofs.Math.Path.{sym, ap}
use Rattle.std.proofs.Common.{◌∙◌, arith, eq-eqb, ne_eqb}
use Rattle.std.proofs.Math.Decide.{ℕ_discrete}
use Rattle.rules.specs.Ranges.{each}
use Rattle.rules.specs.Lent.{Lent, is_valid}
use Rattle.rules.specs.Walk.{is_reference}
use Rattle.rules.specs.Sound.{is_sound, Sound}
use Rattle.rules.specs.Collection.{plainly, collection}
use Rattle.rules.specs.Collect.{CollectOutcome, refusal_of_collect, accepted_collect, refused_collect, collect}
use Rattle.rules.specs.Demands.{GoodRoots}
use Rattle.laws.specs.Lists.{each_true, true_each}
use Rattle.laws.specs.Valid.{valid_is}
use Rattle.laws.specs.LookUp.{reference_says, reference_is}
use Rattle.laws.specs.Sound.{sound_says, sound_is}

-- all that a collection asks for
pub record Ready (m : Lent) (cells : List ℕ) : Type 0 where
  pub sound : Sound m
  pub roots : GoodRoots m cells

pub ready_says : (m : Lent) (cells : List ℕ) → refusal_of_collect m cells ≡ 0 → Ready m cells
unfolding refusal_of_collect
ready_says m cells = go (is_valid m) (is_sound m) refl (each (is_reference m) cells) refl
  where
    go : (x y : Bool) → is_sound m ≡ y → (z : Bool) → each (is_reference m) cells ≡ z → ◌≡◌ {A = ℕ} (cond x (cond y (cond z 0 6) 7) 1) 0 → Ready m cells
    go false y b z d q = absurd (omega arith)
    go true false b z d q = absurd (omega arith)
    go true true b false d q = absurd (omega arith)
    go true true b true d q = record { sound = sound_says m b; roots = λ r k. reference_says m r (each_true (is_reference m) cells d r k) }

pub ready_is : (m : Lent) (cells : List ℕ) → Ready m cells → refusal_of_collect m cells ≡ 0
unfolding refusal_of_collect
ready_is m cells R = rw (valid_is m R.sound.valid, sound_is m R.sound, true_each (is_reference m) cells (λ r k. reference_is m r (R.roots r k)))

module _ (m : Lent) (roots hints : List ℕ) where
  pub collect_accepts : refusal_of_collect m roots ≡ 0 → collect m roots hints ≡ accepted_collect (collection plainly m roots hints)
  unfolding collect
  collect_accepts e = rw (eq-eqb (refusal_of_collect m roots) 0 e)

  pub collect_refuses : refusal_of_collect m roots ≢ 0 → collect m roots hints ≡ refused_collect (refusal_of_collect m roots) m roots
  unfolding collect
  collect_refuses n = rw (ne_eqb (refusal_of_collect m roots) 0 n)

  -- the number that the call answers is that of the tests
  pub collect_refusal : (collect m roots hints).refusal ≡ refusal_of_collect m roots
  unfolding accepted_collect refused_collect
  collect_refusal = go (ℕ_discrete (refusal_of_collect m roots) 0)
    where
      go : Dec (refusal_of_collect m roots ≡ 0) → (collect m roots hints).refusal ≡ refusal_of_collect m roots
      go (yes e) = ap (λ (o : CollectOutcome). o.refusal) (collect_accepts e) ∙ sym e
      go (no n) = ap (λ (o : CollectOutcome). o.refusal) (collect_refuses n)
