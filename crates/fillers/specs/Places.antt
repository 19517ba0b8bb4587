-- The places of a page as the sweep and the filling meet them, which go over the same ones: a header, a place that an object left,
-- or neither, where the walk stops.
use Rattle.std.specs.Prelude.{◌≡◌, refl, ◌≢◌, Bool, cond, List, ℕ, zero, suc, ◌+◌, ◌-◌, ◌≤◌, ◌<◌}
use Rattle.std.proofs.Common.{◌∙◌, arith}
use Rattle.std.proofs.Math.Bool.{true, false}
use Rattle.rules.specs.Collection.{is_left, size_at_copy}
use Rattle.laws.specs.Safe.{SafeStep}

-- the length at the copy of a place that an object left, and 0 of any other
unfoldable pub left_size : List ℕ → ℕ → ℕ → ℕ
left_size h w room = cond (is_left w room) (size_at_copy h w) 0

-- a walk goes on by n words, over a place that an object left
pub record LeftBy (h : List ℕ) (w room n : ℕ) : Type 0 where
  pub left : is_left w room ≡ true
  pub size : n ≡ size_at_copy h w
  pub some : 1 ≤ n
  pub fits : n ≤ room

module _ (h : List ℕ) (w room n : ℕ) (e : n ≡ left_size h w room) (S : is_left w room ≡ true → SafeStep h w room) where
  go : (b : Bool) → is_left w room ≡ b → (is_left w room ≡ true → SafeStep h w room) → (n ≡ 0 → b ≡ false) × (n ≢ 0 → LeftBy h w room n)
  unfolding left_size
  go true q S =
      let t = S q in
      let m : n ≡ size_at_copy h w = e ∙ rw q in
      ((λ z. absurd (omega (arith, t.some, m))), (λ z. record { left = q; size = m; some = omega (arith, t.some, m); fits = omega (arith, t.fits, m) }))
  go false q S = ((λ z. refl), (λ z. absurd (z (e ∙ rw q))))

  -- what the length tells: the walk stops, or goes on by it
  pub left_none : n ≡ 0 → is_left w room ≡ false
  left_none z = (go (is_left w room) refl S).0 z

  pub left_on : n ≢ 0 → LeftBy h w room n
  left_on z = (go (is_left w room) refl S).1 z

-- Where a walk is: at x, on a page that ends at e, with `room` words and at least as many turns left.
pub record Turns (e x turns room : ℕ) : Type 0 where
  pub enough : room ≤ turns
  pub place : room ≡ e - x

pub turns_first : (base P : ℕ) → Turns (base + P) base P P
turns_first base P = record { enough = omega arith; place = omega arith }

pub turns_none : {e x room : ℕ} → Turns e x zero room → x < e → ⊥
turns_none T p = omega (arith, T.enough, T.place)

-- one turn, over n words
pub turns_on : {e x f room : ℕ} → Turns e x (suc f) room → (n : ℕ) → 1 ≤ n → Turns e (x + n) f (room - n)
turns_on T n p = record { enough = omega (arith, T.enough); place = omega (arith, T.place) }
