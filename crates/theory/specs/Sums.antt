-- What the members of a list add up to: those of a list without repeats to no more than those of a list that has them all. For
-- words in objects; and, each counting 1, for how many pages a queue can hold.
use Rattle.std.specs.Prelude.{◌≡◌, ◌≢◌, ◌⊎◌, Bool, false, length}
use Rattle.std.proofs.Math.Path.{refl, ap}
use Rattle.std.proofs.Common.{sym, ◌∙◌, inl, inr, arith}
use Rattle.std.proofs.Math.Bool.{true, cond}
use mathlib.Core.List.{List, [], ◌∷◌, ◌++◌, Memᴰ}
use Prim.Native.Nat.{ℕ, zero, suc, ◌+◌, ◌≤◌, ◌<◌, zero-le}
use Rattle.rules.specs.Ranges.{at, block, sum}
use Rattle.rules.specs.Demands.{Once}
use Rattle.laws.specs.Lists.{block_mem}
use Rattle.laws.specs.FreePages.{block_length}

sum_append : (f : ℕ → ℕ) (xs ys : List ℕ) → sum f (xs ++ ys) ≡ sum f xs + sum f ys
unfolding sum
sum_append f [] ys = omega arith
sum_append f (x ∷ xs) ys = omega (arith, sum_append f xs ys)

pub sum_snoc : (f : ℕ → ℕ) (xs : List ℕ) (x : ℕ) → sum f (xs ++ (x ∷ [])) ≡ sum f xs + f x
unfolding sum
sum_snoc f [] x = omega arith
sum_snoc f (y ∷ xs) x = omega (arith, sum_snoc f xs x)

-- each counting 1
pub sum_length : (xs : List ℕ) → sum (λ x. 1) xs ≡ length xs
unfolding sum
sum_length [] = refl
sum_length (x ∷ xs) = omega (arith, sum_length xs)

-- ---- without repeats

abbrev pub Distinct : List ℕ → Type 0
Distinct [] = Unit {0}
Distinct (x ∷ xs) = (Memᴰ x xs → ⊥) × Distinct xs

pub distinct_snoc : (xs : List ℕ) (x : ℕ) → Distinct xs → (Memᴰ x xs → ⊥) → Distinct (xs ++ (x ∷ []))
distinct_snoc [] x d n = (mathlib.Core.List.Memᴰ.not-nil, tt)
distinct_snoc (y ∷ xs) x d n = (go, distinct_snoc xs x d.1 (λ m. n (mathlib.Core.List.Memᴰ.tail m)))
  where
    go : Memᴰ y (xs ++ (x ∷ [])) → ⊥
    go h = then (mathlib.Core.List.Memᴰ.append_cases xs h)
      where
        then : Memᴰ y xs ⊎ Memᴰ y (x ∷ []) → ⊥
        then (inl a) = d.0 a
        then (inr b) = n (mathlib.Core.List.Memᴰ.head (sym (mathlib.Core.List.Memᴰ.eq_of_singleton b)))

pub distinct_append : (xs ys : List ℕ) → Distinct xs → Distinct ys → ((z : ℕ) → Memᴰ z xs → Memᴰ z ys → ⊥) → Distinct (xs ++ ys)
distinct_append [] ys d e n = e
distinct_append (x ∷ xs) ys d e n = (go, distinct_append xs ys d.1 e (λ z a b. n z (mathlib.Core.List.Memᴰ.tail a) b))
  where
    go : Memᴰ x (xs ++ ys) → ⊥
    go h = then (mathlib.Core.List.Memᴰ.append_cases xs h)
      where
        then : Memᴰ x xs ⊎ Memᴰ x ys → ⊥
        then (inl a) = d.0 a
        then (inr b) = n x (mathlib.Core.List.Memᴰ.head refl) b

-- the list without one member
without : {x : ℕ} {ys : List ℕ} → Memᴰ x ys → List ℕ
without (mathlib.Core.List.Memᴰ.head {xs = xs} e) = xs
without (mathlib.Core.List.Memᴰ.tail {x = y} m) = y ∷ without m

without_sum : (f : ℕ → ℕ) {x : ℕ} {ys : List ℕ} (m : Memᴰ x ys) → f x + sum f (without m) ≡ sum f ys
unfolding without sum
without_sum f (mathlib.Core.List.Memᴰ.head {xs = xs} e) = ap (λ (k : ℕ). f k + sum f xs) e
without_sum f (mathlib.Core.List.Memᴰ.tail {x = y} m) = omega (arith, without_sum f m)

without_mem : {x z : ℕ} {ys : List ℕ} (m : Memᴰ x ys) → Memᴰ z ys → z ≢ x → Memᴰ z (without m)
unfolding without
without_mem {x} {z} (mathlib.Core.List.Memᴰ.head {x = y} {xs = ys} e) k ne = go (mathlib.Core.List.Memᴰ.cases_cons k)
  where
    go : (z ≡ y) ⊎ Memᴰ z ys → Memᴰ z ys
    go (inl q) = absurd (ne (q ∙ sym e))
    go (inr q) = q
without_mem {x} {z} (mathlib.Core.List.Memᴰ.tail {x = y} {xs = ys} m) k ne = go (λ q. without_mem m q ne) (mathlib.Core.List.Memᴰ.cases_cons k)
  where
    go : (Memᴰ z ys → Memᴰ z (without m)) → (z ≡ y) ⊎ Memᴰ z ys → Memᴰ z (y ∷ without m)
    go r (inl q) = mathlib.Core.List.Memᴰ.head q
    go r (inr q) = mathlib.Core.List.Memᴰ.tail (r q)

pub sub_sum : (f : ℕ → ℕ) (xs ys : List ℕ) → Distinct xs → ((z : ℕ) → Memᴰ z xs → Memᴰ z ys) → sum f xs ≤ sum f ys
unfolding sum
sub_sum f [] ys d sub = zero-le
sub_sum f (x ∷ xs) ys d sub =
    let m : Memᴰ x ys = sub x (mathlib.Core.List.Memᴰ.head refl) in
    let ne : (z : ℕ) → Memᴰ z xs → z ≢ x = λ z k e. d.0 (mathlib.Core.List.Memᴰ.cast (sym e) k) in
    let r : sum f xs ≤ sum f (without m) = sub_sum f xs (without m) d.1 (λ z k. without_mem m (sub z (mathlib.Core.List.Memᴰ.tail k)) (ne z k)) in
    omega (arith, without_sum f m)

-- ---- members by their places

pub mem_at : (l : List ℕ) (x : ℕ) → Memᴰ x l → (j : ℕ) × (j < length l) × (at l j ≡ x)
mem_at [] x h = absurd (mathlib.Core.List.Memᴰ.not-nil h)
mem_at (y ∷ l) x h = go (λ q. mem_at l x q) (mathlib.Core.List.Memᴰ.cases_cons h)
  where
    go : (Memᴰ x l → (j : ℕ) × (j < length l) × (at l j ≡ x)) → (x ≡ y) ⊎ Memᴰ x l → (j : ℕ) × (j < suc (length l)) × (at (y ∷ l) j ≡ x)
    go ih (inl e) = (0, omega arith, sym e)
    go ih (inr q) = let (j, a, b) = ih q in (suc j, omega arith, b)

pub member_length : {l : List ℕ} {x : ℕ} → Memᴰ x l → 0 < length l
member_length {l} {x} k = let (j, lt, e) = mem_at l x k in omega arith

pub at_mem : (l : List ℕ) (j : ℕ) → j < length l → Memᴰ (at l j) l
at_mem [] j h = absurd (omega arith)
at_mem (y ∷ l) zero h = mathlib.Core.List.Memᴰ.head refl
at_mem (y ∷ l) (suc j) h = mathlib.Core.List.Memᴰ.tail (at_mem l j (omega arith))

pub places_distinct : (l : List ℕ) → Once l → Distinct l
places_distinct [] f = tt
places_distinct (x ∷ l) f = (
  λ m. let (j, a, b) = mem_at l x m in absurd (let z : 0 ≡ suc j = f 0 (suc j) (omega arith) (omega arith) (sym b) in omega arith),
  places_distinct l (λ i j a b e. let z : suc i ≡ suc j = f (suc i) (suc j) (omega arith) (omega arith) e in omega arith),
)

pub distinct_places : (l : List ℕ) → Distinct l → Once l
distinct_places [] d i j hi hj e = absurd (omega arith)
distinct_places (x ∷ l) d zero zero hi hj e = refl
distinct_places (x ∷ l) d zero (suc j) hi hj e = absurd (d.0 (mathlib.Core.List.Memᴰ.cast e (at_mem l j (omega arith))))
distinct_places (x ∷ l) d (suc i) zero hi hj e = absurd (d.0 (mathlib.Core.List.Memᴰ.cast (sym e) (at_mem l i (omega arith))))
distinct_places (x ∷ l) d (suc i) (suc j) hi hj e = ap suc (distinct_places l d.1 i j (omega arith) (omega arith) e)

-- distinct numbers below n: there are no more than n
pub below_length : (l : List ℕ) (n : ℕ) → Distinct l → ((x : ℕ) → Memᴰ x l → x < n) → length l ≤ n
below_length l n d h =
    let q : sum (λ x. 1) l ≤ sum (λ x. 1) (block 0 n) = sub_sum (λ x. 1) l (block 0 n) d (λ x m. block_mem 0 n x (omega arith) (h x m)) in
    omega (arith, sum_length l, sum_length (block 0 n), block_length 0 n)

-- ---- lists gathered: of those members of gs that pass the test, the lists one after another

unfoldable pub gather : (ℕ → Bool) → (ℕ → List ℕ) → List ℕ → List ℕ
gather f lists [] = []
gather f lists (g ∷ gs) = cond (f g) (lists g) [] ++ gather f lists gs

module _ (f : ℕ → Bool) (lists : ℕ → List ℕ) where
  pub gather_mem : (gs : List ℕ) (g x : ℕ) → Memᴰ g gs → f g ≡ true → Memᴰ x (lists g) → Memᴰ x (gather f lists gs)
  unfolding gather
  gather_mem [] g x m e k = absurd (mathlib.Core.List.Memᴰ.not-nil m)
  gather_mem (j ∷ gs) g x m e k = go (λ q. gather_mem gs g x q e k) (mathlib.Core.List.Memᴰ.cases_cons m)
    where
      here : g ≡ j → Memᴰ x (cond (f j) (lists j) [])
      here q = let t : f j ≡ true = ap f (sym q) ∙ e in rw t (rw q at k)

      go : (Memᴰ g gs → Memᴰ x (gather f lists gs)) → (g ≡ j) ⊎ Memᴰ g gs → Memᴰ x (cond (f j) (lists j) [] ++ gather f lists gs)
      go ih (inl q) = mathlib.Core.List.Memᴰ.append_left (gather f lists gs) (here q)
      go ih (inr q) = mathlib.Core.List.Memᴰ.append_right (cond (f j) (lists j) []) (ih q)

  -- list by list
  pub gather_sum : (e : ℕ → ℕ) (gs : List ℕ) → sum e (gather f lists gs) ≡ sum (λ g. cond (f g) (sum e (lists g)) 0) gs
  unfolding gather sum
  gather_sum e [] = refl
  gather_sum e (g ∷ gs) = rw (sum_append, gather_sum e gs) (go (f g))
    where
      rest : ℕ
      rest = sum (λ g. cond (f g) (sum e (lists g)) 0) gs

      go : (b : Bool) → sum e (cond b (lists g) []) + rest ≡ cond b (sum e (lists g)) 0 + rest
      go true = refl
      go false = refl
