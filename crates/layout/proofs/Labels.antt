-- What a table of labels holds of the pages from g to hi - 1, by its own part of them: how many are in use, and the lowest that is free.
-- Assumes nothing.
use Rattle.std.proofs.Common.{◌≡◌, refl, sym, ap, ◌∙◌, ◌⊎◌, inl, inr, Bool, true, false, cond, not, List, ◌∷◌, ℕ, zero, suc, ◌+◌, ◌-◌, ◌≤◌, ◌<◌, min, length, take, drop, nat_eq, nat_lt, add-one, drop-cons, arith, take_all, length-take, Option, Some, None, eqb-true}
use Rattle.std.proofs.Math.Decide.{dec_lt}
use Rattle.std.proofs.lemmas.Bool.{eqb-false}
use borrow.Author.Tests.{lt-ltb, le-ltb, ltb-false}
use Rattle.std.proofs.lemmas.List.Sums.{sum_by-cons, count_by-le-length, prefix_len-le-length}
use Rattle.std.specs.List.{count_by, position_or_len, position}
use Rattle.std.specs.Option.{unwrap_or}
use Rattle.std.specs.Bool.{then_some}
use Rattle.rules.specs.Ranges.{at}
use Rattle.rules.specs.Pages.{lowest_free, pages_used}
use Rattle.laws.specs.FreePages.{used_past, used_more, used_free, lowest_past, lowest_here, lowest_unlabelled, lowest_step}

past : (a b g : ℕ) → min a b ≤ g → (b ≤ g) ⊎ (a ≤ g)
past a b g h = go (dec_lt a b)
  where
    go : Dec (a < b) → (b ≤ g) ⊎ (a ≤ g)
    go (yes l) = inr (omega arith)
    go (no l) = inl (omega arith)

abbrev pub is_zero : ℕ → Bool
is_zero x = nat_eq x 0

abbrev pub is_used : ℕ → Bool
is_used x = not (nat_eq x 0)

module _ (labels : List ℕ) (hi : ℕ) where
  abbrev pub part : ℕ → ℕ → List ℕ
  part n g = take n (drop g labels)

  -- the part begins with g's label
  step : (n g : ℕ) → g < length labels → part (suc n) g ≡ at labels g ∷ part n (g + 1)
  step n g h = rw (drop-cons labels g 0, add-one)

  pub used_is : (n g : ℕ) → n ≡ min (length labels) hi - g → count_by is_used (part n g) ≡ pages_used labels g hi
  used_is zero g e = sym (used_past labels g hi (past (length labels) hi g (omega arith)))
  used_is (suc n) g e = rw (step n g (omega arith), sum_by-cons (λ x. cond (not (nat_eq x 0)) 1 0)) (go (nat_eq (at labels g) 0) refl (used_is n (g + 1) (omega arith)))
    where
      rest : ℕ
      rest = count_by is_used (part n (g + 1))

      go : (b : Bool) → nat_eq (at labels g) 0 ≡ b → rest ≡ pages_used labels (g + 1) hi → cond (not b) 1 0 + rest ≡ pages_used labels g hi
      go true q ih = omega (arith, used_free labels g hi (omega arith) (eqb-true _ _ q))
      go false q ih = omega (arith, used_more labels g hi (omega arith) (eqb-false _ _ q))

  pub lowest_is : (n g : ℕ) → n ≡ min (length labels) hi - g → min (g + position_or_len is_zero (part n g)) hi ≡ lowest_free labels g hi
  lowest_is zero g e = go (dec_lt g hi)
    where
      go : Dec (g < hi) → min (g + 0) hi ≡ lowest_free labels g hi
      go (yes l) = omega (arith, lowest_unlabelled labels g hi l (past (length labels) hi g (omega arith)))
      go (no l) = omega (arith, lowest_past labels g hi (omega arith))
  lowest_is (suc n) g e = rw (step n g (omega arith)) (go (nat_eq (at labels g) 0) refl (lowest_is n (g + 1) (omega arith)))
    where
      rest : ℕ
      rest = position_or_len is_zero (part n (g + 1))

      go : (b : Bool) → nat_eq (at labels g) 0 ≡ b → min (g + 1 + rest) hi ≡ lowest_free labels (g + 1) hi → min (g + cond (not b) (1 + rest) 0) hi ≡ lowest_free labels g hi
      go true q ih = omega (arith, lowest_here labels g hi (omega arith) (eqb-true _ _ q))
      go false q ih = omega (arith, lowest_step labels g hi (omega arith) (eqb-false _ _ q))

  -- as the code finds them: its loop has been through the part, or its search has
  pub used_part : (g i used : ℕ) (xs : List ℕ) → xs ≡ part (min (length labels) hi - g) g → length xs ≤ i → used ≡ count_by is_used (take i xs)
      → (used ≡ pages_used labels g hi) × (used ≤ hi - g)
  used_part g i used xs e end u =
      (u ∙ rw (take_all i xs end, e) (used_is (min (length labels) hi - g) g refl), omega (arith, count_by-le-length is_used (take i xs), length-take i xs, ap {B = ℕ} length e, length-take (min (length labels) hi - g) (drop g labels)))

  pub lowest_part : (g i : ℕ) (xs : List ℕ) (r : Option ℕ) → xs ≡ part (min (length labels) hi - g) g → r ≡ position is_zero xs → i ≡ unwrap_or r (length xs)
      → unwrap_or (then_some (nat_lt (g + i) hi) (g + i)) hi ≡ lowest_free labels g hi
  lowest_part g i xs r ex er e = go (dec_lt (g + i) hi)
    where
      before : (b : Bool) → nat_lt (position_or_len is_zero xs) (length xs) ≡ b → unwrap_or (cond b (Some (position_or_len is_zero xs)) None) (length xs) ≡ position_or_len is_zero xs
      before true q = refl
      before false q = omega (arith, prefix_len-le-length (λ x. not (is_zero x)) xs, ltb-false _ _ q)

      found : min (g + i) hi ≡ lowest_free labels g hi
      found = rw (rw er at e ∙ before _ refl, ex) (lowest_is (min (length labels) hi - g) g refl)

      go : Dec (g + i < hi) → unwrap_or (then_some (nat_lt (g + i) hi) (g + i)) hi ≡ lowest_free labels g hi
      go (yes l) = rw (lt-ltb (g + i) hi l) (omega (arith, found))
      go (no l) = rw (le-ltb (g + i) hi (omega arith)) (omega (arith, found))
