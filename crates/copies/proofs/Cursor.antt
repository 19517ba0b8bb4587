-- The cursor: no page of the block below it is free, whatever page is labelled meanwhile.
use Rattle.std.proofs.Common.{◌≡◌, ◌≢◌, refl, sym, ◌∙◌, Bool, true, false, List, ℕ, zero, suc, ◌+◌, ◌≤◌, ◌<◌, length, arith}
use lib.ListN.{set}
use native.Mathlib.Decide.{ℕ_discrete}
use lib.Seq.{get_or-set_same, get_or-set_other}
use borrow.Author.Tests.{ne_eqb}
use Rattle.rules.specs.Ranges.{block, first}
use Rattle.rules.specs.Pages.{is_free, lowest_free}
use Rattle.laws.specs.Lists.{first_here, first_step}

module _ (f : ℕ → Bool) (e hi : ℕ) where
  -- pages that fail the test may be skipped
  first_skip : (n i : ℕ) → i + n ≤ hi → ((x : ℕ) → i ≤ x → x < i + n → f x ≡ false) → first f (block i hi) e ≡ first f (block (i + n) hi) e
  first_skip zero i le fails = let z : i + 0 ≡ i = omega arith in rw z
  first_skip (suc n) i le fails =
      let z : i + suc n ≡ i + 1 + n = omega arith in
      rw z (first_step f i hi e (omega arith) (fails i (omega arith) (omega arith)) ∙ first_skip n (i + 1) (omega arith) (λ x a b. fails x (omega arith) (omega arith)))

  -- below the first page that passes it, each fails it
  first_below : (n i : ℕ) → hi ≤ i + n → (x : ℕ) → i ≤ x → x < hi → x < first f (block i hi) e → f x ≡ false
  first_below zero i le x a b c = absurd (omega arith)
  first_below (suc n) i le x a b c = go (f i) refl (ℕ_discrete x i) (first_below n (i + 1) (omega arith) x)
    where
      go : (t : Bool) → f i ≡ t → Dec (x ≡ i) → (i + 1 ≤ x → x < hi → x < first f (block (i + 1) hi) e → f x ≡ false) → f x ≡ false
      go true y d ih = absurd (let z = first_here f i hi e (omega arith) y in omega arith)
      go false y (yes d) ih = rw d y
      go false y (no d) ih = ih (omega arith) b (let z = first_step f i hi e (omega arith) y in omega arith)

-- once the lowest free page has a label, the lowest free one is past it
pub cursor_moves : (labels : List ℕ) (new hi q : ℕ) → new ≢ 0 → q ≡ lowest_free labels 1 hi → q < hi → q < length labels
    → lowest_free (set labels q new) (q + 1) hi ≡ lowest_free (set labels q new) 1 hi
unfolding lowest_free is_free
cursor_moves labels new hi q nz e p l =
    let z : q + 1 ≡ 1 + q = omega arith in
    rw z (sym (first_skip (is_free (set labels q new)) hi hi q 1 (omega arith) (λ x a b. used x a b (ℕ_discrete x q))))
  where
    used : (x : ℕ) → 1 ≤ x → x < 1 + q → Dec (x ≡ q) → is_free (set labels q new) x ≡ false
    used x a b (yes d) = rw (d, get_or-set_same labels q new 0 l) (ne_eqb new 0 nz)
    used x a b (no d) = rw (get_or-set_other labels q x new 0 d) (first_below (is_free labels) hi hi hi 1 (omega arith) x a (omega arith) (omega arith))
