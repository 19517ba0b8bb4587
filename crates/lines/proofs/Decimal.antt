-- The digits that the library writes are those of the definition, ten or fewer. Assumes nothing.
use Rattle.std.proofs.Common.{◌≡◌, ◌∙◌, refl, ap, sym, ℕ, zero, suc, ◌+◌, ◌/◌, ◌%◌, ◌^◌, ◌<◌, List, [], ◌∷◌, ◌++◌, Bool, true, false, cond, ltb, arith}
use Rattle.std.specs.Fmt.{decimal}
use Rattle.std.proofs.lemmas.Fmt.{decimal_digit, decimal_step}
use native.Mathlib.Nat.{pow-suc, pow-zero}
use borrow.Author.Tests.{ltb-true, ltb-false}
use Rattle.lines.specs.Lines.{digits, number}

spelled : (f n : ℕ) → n < 10 ^ suc f → n < 2 ^ 64 → decimal n ≡ digits f n
unfolding digits
spelled zero n k h = decimal_digit n (omega (arith, pow-suc 10 0, pow-zero 10))
spelled (suc f) n k h = go (ltb n 10) refl (spelled f (n / 10) (omega (arith, pow-suc 10 (suc f))) (omega arith))
  where
    go : (b : Bool) → ltb n 10 ≡ b → decimal (n / 10) ≡ digits f (n / 10) → decimal n ≡ cond b ((48 + n) ∷ []) (digits f (n / 10) ++ ((48 + n % 10) ∷ []))
    go true e front = decimal_digit n (ltb-true n 10 e)
    go false e front = decimal_step n (ltb-false n 10 e) h ∙ ap (λ (l : List ℕ). l ++ ((48 + n % 10) ∷ [])) front

-- a number of 32 bits, with what stands behind it
pub numbered : (n : ℕ) (end : List ℕ) → n < 2 ^ 32 → number n end ≡ decimal n ++ end
unfolding number
numbered n end h = ap (λ (l : List ℕ). l ++ end) (sym (spelled 9 n (omega arith) (omega arith)))
