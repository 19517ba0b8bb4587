-- Laws of tests: what a test of two halves tells when it passes, and how it passes.
use Rattle.std.specs.Prelude.{◌≡◌, refl, Bool, true, false, ◌&&◌}

pub and_left : (a b : Bool) → (a && b) ≡ true → a ≡ true
and_left true b e = refl
and_left false b e = e

pub and_right : (a b : Bool) → (a && b) ≡ true → b ≡ true
and_right true b e = e
and_right false true e = refl
and_right false false e = e

-- the first half passes, so the test is the second
pub and_is : {a b x : Bool} → a ≡ true → b ≡ x → (a && b) ≡ x
and_is {a} {b} {x} p q = rw p q
