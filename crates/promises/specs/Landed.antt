-- What look-up tells since Q-2, in a user's words: of a valid record it answers 0 exactly at an object's start, 10 exactly inside
-- an object, with that object's start, and 4 exactly where there is no object; load and store pass its refusals on.
use Rattle.std.specs.Prelude.{◌≡◌, ◌≢◌, Bool, ℕ}
use Rattle.std.proofs.Math.Path.{refl}
use Rattle.std.proofs.Math.Bool.{true, false, cond}
use Rattle.std.proofs.Common.{arith}
use Rattle.rules.specs.declared.Found.{Found}
use Rattle.rules.specs.declared.Found.TheVariants.{Start, Inside, Nothing}
use Rattle.rules.specs.Lent.{Lent, is_valid}
use Rattle.rules.specs.Walk.{found}
use Rattle.rules.specs.Sound.{IsObject, Valid}
use Rattle.rules.specs.Calls.{Outcome, refused, inside, accepted, told, look_up, on_start, load, store}
use Rattle.rules.specs.Demands.{LiesInside}
use Rattle.laws.specs.Valid.{valid_is}
use Rattle.laws.specs.LookUp.{start_is, found_start}
use Rattle.laws.specs.Landed.{Apart, found_nothing, inside_found, nothing_found}
use Rattle.kept.specs.Refusals.{number_at, look_up_refusal, look_up_refused}
use Rattle.kept.specs.Accepted.{look_up_says}

module _ (m : Lent) (a : ℕ) where
  -- ---- what each number tells

  pub tells_start : (look_up m a).refusal ≡ 0 → IsObject m a
  tells_start z = (look_up_says m a z).object

  pub tells_inside : (look_up m a).refusal ≡ 10 → LiesInside m a (look_up m a).value
  tells_inside z = (look_up_refused m a (omega arith)).inside z

  pub tells_nothing : (look_up m a).refusal ≡ 4 → (s : ℕ) → IsObject m s → Apart m a s
  tells_nothing z = go (is_valid m) (found m a) refl (look_up_refusal m a)
    where
      go : (b : Bool) (f : Found) → found m a ≡ f → (look_up m a).refusal ≡ cond b (number_at f 0) 1 → (s : ℕ) → IsObject m s → Apart m a s
      go true (Start w) e q = absurd (omega arith)
      go true (Inside s) e q = absurd (omega arith)
      go true Nothing e q = found_nothing m a e
      go false f e q = absurd (omega arith)

  -- ---- and when it is given

  module _ (v : Valid m) where
    look_up_is : {f : Found} → found m a ≡ f → look_up m a ≡ told f a m
    unfolding look_up
    look_up_is e = rw (valid_is m v, e)

    pub at_start : IsObject m a → look_up m a ≡ accepted a m
    at_start o = look_up_is (found_start m a (start_is m a o))

    pub at_inside : (s : ℕ) → LiesInside m a s → look_up m a ≡ inside s m
    at_inside s L = look_up_is (inside_found m a s L)

    pub at_nothing : ((s : ℕ) → IsObject m s → Apart m a s) → look_up m a ≡ refused 4 m
    at_nothing none = look_up_is (nothing_found m a none)

  -- ---- "Load and store pass this on"

  -- what goes on from an object start does not matter where there is none
  passes : (go : ℕ → Outcome) → (look_up m a).refusal ≢ 0 → cond (is_valid m) (on_start (found m a) a m go) (refused 1 m) ≡ look_up m a
  unfolding look_up accepted
  passes go = by (is_valid m) (found m a)
    where
      by : (b : Bool) (f : Found) → (cond b (told f a m) (refused 1 m)).refusal ≢ 0 → cond b (on_start f a m go) (refused 1 m) ≡ cond b (told f a m) (refused 1 m)
      by true (Start w) n = absurd (n refl)
      by true (Inside s) n = refl
      by true Nothing n = refl
      by false f n = refl

  pub load_passes : (i : ℕ) → (look_up m a).refusal ≢ 0 → load m a i ≡ look_up m a
  unfolding load
  load_passes i = passes _

  pub store_passes : (i v : ℕ) → (look_up m a).refusal ≢ 0 → store m a i v ≡ look_up m a
  unfolding store
  store_passes i v = passes _
