-- Words of a list after stores into it: those stored, and all the others. Nothing here knows of pages or objects.
use Rattle.std.specs.Prelude.{◌≡◌, refl, ◌⊎◌, ◌≢◌, List, [], ◌∷◌, ◌++◌, ℕ, zero, suc, ◌+◌, ◌≤◌, ◌<◌, length, set, replicate, take, drop}
use Rattle.std.proofs.Common.{ap, ◌∙◌, inl, inr, append-nil, add-zero, arith, drop_of_length-le, length-set, length-take, length-drop, get_or-set_same, get_or-set_other, get_or-take, get_or-drop}
use Rattle.std.proofs.Math.ListN.{get_or-eq_default}
use Rattle.std.proofs.lemmas.List.Edits.{sets}
use Rattle.rules.specs.Ranges.{at}
use Rattle.std.proofs.Math.Decide.{dec_lt}

-- every word of a list of zeros is 0, and so is what stands past its end
pub zeros_at : (n w : ℕ) → at (replicate n 0) w ≡ 0
zeros_at zero w = refl
zeros_at (suc n) zero = refl
zeros_at (suc n) (suc w) = zeros_at n w

-- a word before the first stored, or behind the last, stays
pub sets_other : (l : List ℕ) (i : ℕ) (vs : List ℕ) (w : ℕ) → (w < i) ⊎ (i + length vs ≤ w) → at (sets l i vs) w ≡ at l w
sets_other l i [] w h = refl
sets_other l i (v ∷ vs) w (inl h) = sets_other (set l i v) (suc i) vs w (inl (omega arith)) ∙ get_or-set_other l i w v 0 (omega arith)
sets_other l i (v ∷ vs) w (inr h) = sets_other (set l i v) (suc i) vs w (inr (omega arith)) ∙ get_or-set_other l i w v 0 (omega arith)

-- the k-th word stored stands k words on
pub sets_in : (l : List ℕ) (i : ℕ) (vs : List ℕ) (k : ℕ) → k < length vs → i + length vs ≤ length l → at (sets l i vs) (i + k) ≡ at vs k
sets_in l i [] k h f = absurd (omega arith)
sets_in l i (v ∷ vs) zero h f =
    rw add-zero (sets_other (set l i v) (suc i) vs i (inl (omega arith)) ∙ get_or-set_same l i v 0 (omega arith))
sets_in l i (v ∷ vs) (suc k) h f =
    let e : i + suc k ≡ suc i + k = omega arith in
    rw e (sets_in (set l i v) (suc i) vs k (omega arith) (rw length-set (omega arith)))

-- a block of n words copied from x to y, where the two do not meet
pub copied_in : (h : List ℕ) (x y n i : ℕ) → i < n → x + n ≤ length h → y + n ≤ length h → at (sets h y (take n (drop x h))) (y + i) ≡ at h (x + i)
copied_in h x y n i hi hx hy =
    let len : length (take n (drop x h)) ≡ n = rw (length-take, length-drop) (omega arith) in
    sets_in h y (take n (drop x h)) i (omega arith) (omega arith) ∙ get_or-take n (drop x h) i 0 hi ∙ get_or-drop x h i 0

pub copied_out : (h : List ℕ) (x y n w : ℕ) → (w < y) ⊎ (y + n ≤ w) → x + n ≤ length h → at (sets h y (take n (drop x h))) w ≡ at h w
copied_out h x y n w (inl o) hx = sets_other h y (take n (drop x h)) w (inl o)
copied_out h x y n w (inr o) hx =
    let len : length (take n (drop x h)) ≡ n = rw (length-take, length-drop) (omega arith) in
    sets_other h y (take n (drop x h)) w (inr (omega arith))

-- a place that does not hold 0 is inside
pub in_range : (l : List ℕ) (g : ℕ) → at l g ≢ 0 → g < length l
in_range l g h = go (dec_lt g (length l))
  where
    go : Dec (g < length l) → g < length l
    go (yes p) = p
    go (no q) = absurd (h (get_or-eq_default l 0 (omega arith)))

-- a slice that is filled to its end
pub filled : (i : ℕ) (d : List ℕ) → length d ≤ i → i ≤ length d → replicate i 0 ++ drop i d ≡ replicate (length d) 0
filled i d a b =
    let e : i ≡ length d = omega arith in
    rw (drop_of_length-le d a) (append-nil (replicate i 0) ∙ ap (λ (n : ℕ). replicate n 0) e)
