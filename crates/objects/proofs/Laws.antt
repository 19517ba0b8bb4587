-- Laws of the definitions as the code of this crate meets them: what is found. Assumes nothing.
use mathlib.Core.Path.{◌≡◌, refl, ap}
use mathlib.Core.Bool.{true}
use Prim.Native.Nat.{ℕ, ◌+◌, ◌≤◌}
use native.Mathlib.Omega.{arith}
use lib.ListN.{length}
use Rattle.std.specs.Prelude.{Ok, Err}
use Rattle.rules.specs.declared.Found.{Found}
use Rattle.rules.specs.declared.Found.TheVariants.{Start, Inside, Nothing}
use Rattle.rules.specs.Header.{size_of}
use Rattle.rules.specs.Lent.{Lent, is_valid}
use Rattle.rules.specs.Walk.{found}
use Rattle.rules.specs.Calls.{Outcome, outcome, refused, inside, accepted, told, on_start}
use Rattle.laws.specs.Valid.{valid_laid}
use Rattle.laws.specs.LookUp.{placed, found_object}
use Rattle.answers.specs.declared.Refusal.{Refusal}
use Rattle.answers.specs.declared.Accepted.{Accepted}
use Rattle.answers.specs.Answers.{answer}
use Rattle.answers.proofs.Laws.{refused_some}
use Rattle.objects.specs.Code.{go_on}

-- an object that was found has a size, and lies in the heap
pub found_within : (m : Lent) (a w : ℕ) → is_valid m ≡ true → found m a ≡ Start w → (1 ≤ size_of w) × (a + size_of w ≤ length m.heap)
found_within m a w v f =
    let o = found_object m a w f in
    let P = placed m a (valid_laid m v) o.0 in
    rw o.1 (omega (arith, P.shape), P.inside)

-- ---- by look-up's answer, which `answers::told` gives

-- it is accepted where an object starts, and there alone
pub told_start : (f : Found) (a : ℕ) (m : Lent) (x : Accepted) → outcome (answer m.rec (Ok x)) m.heap m.labels m.links ≡ told f a m → (w : ℕ) × (f ≡ Start w)
unfolding refused inside
told_start (Start w) a m x e = (w, refl)
told_start (Inside s) a m x e = absurd (let z : 0 ≡ 10 = ap {B = ℕ} (λ y. y.refusal) e in omega arith)
told_start Nothing a m x e = absurd (let z : 0 ≡ 4 = ap {B = ℕ} (λ y. y.refusal) e in omega arith)

-- where it is a refusal, a call that goes on from an object's start has the same
pub told_refused : (f : Found) (a : ℕ) (m : Lent) (e : Refusal) → outcome (answer m.rec (Err e)) m.heap m.labels m.links ≡ told f a m → (go : ℕ → Outcome) → go_on m (Err e) go ≡ on_start f a m go
unfolding accepted
told_refused (Start w) a m e q go = absurd (refused_some e (ap {B = ℕ} (λ y. y.refusal) q))
told_refused (Inside s) a m e q go = q
told_refused Nothing a m e q go = q
