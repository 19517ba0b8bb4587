-- Laws of zeros as `is_blank` meets them: by the chunks of 32 words that a part of the heap begins with, and the words behind those.
-- Assumes nothing.
use Rattle.std.proofs.Common.{◌≡◌, refl, sym, ap, ◌∙◌, Bool, ◌&&◌, List, [], ◌∷◌, ◌++◌, ℕ, zero, suc, ◌*◌, ◌-◌, min, length, take, drop, eqb, arith}
use Rattle.std.proofs.Math.Bool.{and_assoc}
use Rattle.std.proofs.Math.Nat.{suc-mul, zero-mul}
use Rattle.std.proofs.lemmas.List.{drop-drop, take-append-drop}
use Rattle.std.specs.List.{list_all}
use Rattle.std.specs.Simd.{first_chunks}
use Rattle.rules.specs.Ranges.{each}
use Rattle.rules.specs.Sound.{is_blank}
use Rattle.sound.proofs.Laws.{part_each}

module _ (F : ℕ → Bool) where
  each_append : (xs ys : List ℕ) → each F (xs ++ ys) ≡ (each F xs && each F ys)
  unfolding each
  each_append [] ys = refl
  each_append (x ∷ xs) ys = ap {B = Bool} (λ b. F x && b) (each_append xs ys) ∙ sym (and_assoc (F x) (each F xs) (each F ys))

  -- k chunks of n items, and then the rest
  each_chunks : (n k : ℕ) (xs : List ℕ) → (list_all (each F) (first_chunks n k xs) && each F (drop (k * n) xs)) ≡ each F xs
  each_chunks n zero xs = ap {B = Bool} (λ i. each F (drop i xs)) (zero-mul n)
  each_chunks n (suc k) xs =
      rw rest (and_assoc (each F (take n xs)) (list_all (each F) (first_chunks n k (drop n xs))) (each F (drop (k * n) (drop n xs)))
      ∙ ap {B = Bool} (λ b. each F (take n xs) && b) (each_chunks n k (drop n xs))
      ∙ sym (each_append (take n xs) (drop n xs))
      ∙ ap {B = Bool} (each F) (take-append-drop n xs))
    where
      rest : drop (suc k * n) xs ≡ drop (k * n) (drop n xs)
      rest = ap {B = List ℕ} (λ i. drop i xs) (omega (arith, suc-mul k n)) ∙ sym (drop-drop (k * n) n xs)

-- as the code finds them: its search has been through the chunks, and b is what it answers
pub blank_chunks : (h : List ℕ) (a e n k : ℕ) (xs : List ℕ) → xs ≡ take (min (length h) e - a) (drop a h) → (chunks : List (List ℕ)) → chunks ≡ first_chunks n k xs → (rest : List ℕ) → rest ≡ drop (k * n) xs
    → (b : Bool) → b ≡ list_all (each (λ w. eqb w 0)) chunks → (b && each (λ w. eqb w 0) rest) ≡ is_blank h a e
unfolding is_blank
blank_chunks h a e n k xs is-xs chunks is-chunks rest is-rest b is-b =
    rw (is-b, is-chunks, is-rest, each_chunks (λ w. eqb w 0) n k xs, is-xs) (part_each (λ w. eqb w 0) h e refl _ a refl)
