-- Laws of ranges and of tests over lists, as loops meet them: nothing is left, or one more.
use Rattle.std.specs.Prelude.{◌≡◌, refl, ◌⊎◌, Bool, true, false, cond, ◌||◌, ℕ, zero, suc, ◌+◌, ◌*◌, ◌-◌, ◌≤◌, ◌<◌, length, get_or, set, drop, eqb}
use Rattle.std.proofs.Common.{sym, ap, ◌∙◌, inl, inr, true≢false, arith, drop_of_length-le, drop-cons, eqb-true}
use mathlib.Core.List.Memᴰ
use mathlib.Core.List.{List, [], ◌∷◌, Memᴰ}
use Rattle.std.proofs.Math.Numerals.{add-one}
use Rattle.std.proofs.lemmas.Bool.{eqb-false}
use Rattle.rules.specs.Tests.{and_left, and_right}
use Rattle.rules.specs.Ranges.{from, block, each, has, count, sum, first}

-- ---- ranges

pub block_past : (i hi : ℕ) → hi ≤ i → block i hi ≡ []
unfolding block from
block_past i hi p = let z : hi - i ≡ 0 = omega arith in rw z

pub block_step : (i hi : ℕ) → i < hi → block i hi ≡ i ∷ block (i + 1) hi
unfolding block from
block_step i hi p = let z : hi - i ≡ suc (hi - (i + 1)) = omega arith in rw (z, add-one i)

-- past the smaller of two ends is past one of them
pub past_one : {a b r : ℕ} → (a ≤ r) ⊎ (b ≤ r) → {x : ℕ} → r ≤ x → (a ≤ x) ⊎ (b ≤ x)
past_one (inl h) p = inl (omega arith)
past_one (inr h) p = inr (omega arith)

from_mem : (n lo x : ℕ) → lo ≤ x → x < lo + n → Memᴰ x (from lo n)
unfolding from
from_mem zero lo x a b = absurd (omega arith)
from_mem (suc n) lo x a b = go (eqb x lo) refl (from_mem n (suc lo) x)
  where
    go : (t : Bool) → eqb x lo ≡ t → (suc lo ≤ x → x < suc lo + n → Memᴰ x (from (suc lo) n)) → Memᴰ x (lo ∷ from (suc lo) n)
    go true e ih = Memᴰ.head (eqb-true x lo e)
    go false e ih = Memᴰ.tail (ih (let n = eqb-false x lo e in omega arith) (omega arith))

mem_from : (n lo x : ℕ) → Memᴰ x (from lo n) → (lo ≤ x) × (x < lo + n)
unfolding from
mem_from zero lo x k = absurd (Memᴰ.not-nil k)
mem_from (suc n) lo x k = go (mem_from n (suc lo) x) (Memᴰ.cases_cons k)
  where
    go : (Memᴰ x (from (suc lo) n) → (suc lo ≤ x) × (x < suc lo + n)) → (x ≡ lo) ⊎ Memᴰ x (from (suc lo) n) → (lo ≤ x) × (x < lo + suc n)
    go ih (inl e) = (omega arith, omega arith)
    go ih (inr j) = let q = ih j in (omega (arith, q.0), omega (arith, q.1))

pub block_mem : (lo hi x : ℕ) → lo ≤ x → x < hi → Memᴰ x (block lo hi)
unfolding block
block_mem lo hi x a b = from_mem (hi - lo) lo x a (omega arith)

pub mem_block : (lo hi x : ℕ) → Memᴰ x (block lo hi) → (lo ≤ x) × (x < hi)
unfolding block
mem_block lo hi x k = let q = mem_from (hi - lo) lo x k in (q.0, omega (arith, q.0, q.1))

-- ---- a test at each member

pub each_true : (f : ℕ → Bool) (xs : List ℕ) → each f xs ≡ true → (x : ℕ) → Memᴰ x xs → f x ≡ true
unfolding each
each_true f [] e x m = absurd (Memᴰ.not-nil m)
each_true f (y ∷ xs) e x m = go (each_true f xs (and_right (f y) (each f xs) e) x) (Memᴰ.cases_cons m)
  where
    go : (Memᴰ x xs → f x ≡ true) → (x ≡ y) ⊎ Memᴰ x xs → f x ≡ true
    go ih (inl q) = ap f q ∙ and_left (f y) (each f xs) e
    go ih (inr k) = ih k

pub true_each : (f : ℕ → Bool) (xs : List ℕ) → ((x : ℕ) → Memᴰ x xs → f x ≡ true) → each f xs ≡ true
unfolding each
true_each f [] h = refl
true_each f (y ∷ xs) h = rw (h y (Memᴰ.head refl)) (true_each f xs (λ x m. h x (Memᴰ.tail m)))

-- what a loop over the range meets
module _ (f : ℕ → Bool) (i hi : ℕ) where
  pub each_past : hi ≤ i → each f (block i hi) ≡ true
  unfolding each
  each_past p = rw (block_past i hi p)

  pub each_no : i < hi → f i ≡ false → each f (block i hi) ≡ false
  unfolding each
  each_no p q = rw (block_step i hi p, q)

  pub each_yes : i < hi → f i ≡ true → each f (block i hi) ≡ each f (block (i + 1) hi)
  unfolding each
  each_yes p q = rw (block_step i hi p, q)

-- the test of each passes at every place from lo to hi - 1
pub each_block : (f : ℕ → Bool) (lo hi : ℕ) → each f (block lo hi) ≡ true → (i : ℕ) → lo ≤ i → i < hi → f i ≡ true
each_block f lo hi e i a b = each_true f (block lo hi) e i (block_mem lo hi i a b)

pub block_each : (f : ℕ → Bool) (lo hi : ℕ) → ((i : ℕ) → lo ≤ i → i < hi → f i ≡ true) → each f (block lo hi) ≡ true
block_each f lo hi h = true_each f (block lo hi) (λ i k. let q = mem_block lo hi i k in h i q.0 q.1)

-- ---- membership

pub has_mem : (a : ℕ) (xs : List ℕ) → has a xs ≡ true → Memᴰ a xs
unfolding has
has_mem a [] e = absurd (true≢false (sym e))
has_mem a (x ∷ xs) e = go (eqb a x) refl (has_mem a xs) e
  where
    go : (b : Bool) → eqb a x ≡ b → (has a xs ≡ true → Memᴰ a xs) → (b || has a xs) ≡ true → Memᴰ a (x ∷ xs)
    go true q ih t = Memᴰ.head (eqb-true a x q)
    go false q ih t = Memᴰ.tail (ih t)

pub mem_has : (a : ℕ) (xs : List ℕ) → Memᴰ a xs → has a xs ≡ true
unfolding has
mem_has a [] m = absurd (Memᴰ.not-nil m)
mem_has a (x ∷ xs) m = go (eqb a x) refl (mem_has a xs) (Memᴰ.cases_cons m)
  where
    go : (b : Bool) → eqb a x ≡ b → (Memᴰ a xs → has a xs ≡ true) → (a ≡ x) ⊎ Memᴰ a xs → (b || has a xs) ≡ true
    go true q ih c = refl
    go false q ih (inl e) = absurd (eqb-false a x q e)
    go false q ih (inr k) = ih k

or_behind : {v x y : ℕ} {l : List ℕ} → (x ≡ v) ⊎ Memᴰ x l → (x ≡ v) ⊎ Memᴰ x (y ∷ l)
or_behind (inl e) = inl e
or_behind (inr k) = inr (Memᴰ.tail k)

-- a member after a store is the number stored, or was one before
pub mem_set : (l : List ℕ) (i v x : ℕ) → Memᴰ x (set l i v) → (x ≡ v) ⊎ Memᴰ x l
mem_set [] i v x k = inr k
mem_set (y ∷ l) zero v x k = or_behind (Memᴰ.cases_cons k)
mem_set (y ∷ l) (suc i) v x k = go (mem_set l i v x) (Memᴰ.cases_cons k)
  where
    go : (Memᴰ x (set l i v) → (x ≡ v) ⊎ Memᴰ x l) → (x ≡ y) ⊎ Memᴰ x (set l i v) → (x ≡ v) ⊎ Memᴰ x (y ∷ l)
    go ih (inl e) = inr (Memᴰ.head e)
    go ih (inr q) = or_behind (ih q)

-- ---- how many, and the first

module _ (f : ℕ → Bool) (i hi : ℕ) where
  pub count_past : hi ≤ i → count f (block i hi) ≡ 0
  unfolding count
  count_past p = rw (block_past i hi p)

  pub count_yes : i < hi → f i ≡ true → count f (block i hi) ≡ 1 + count f (block (i + 1) hi)
  unfolding count
  count_yes p q = rw (block_step i hi p, q)

  pub count_no : i < hi → f i ≡ false → count f (block i hi) ≡ count f (block (i + 1) hi)
  unfolding count
  count_no p q = rw (block_step i hi p, q) (omega arith)

  pub first_past : (e : ℕ) → hi ≤ i → first f (block i hi) e ≡ e
  unfolding first
  first_past e p = rw (block_past i hi p)

  pub first_here : (e : ℕ) → i < hi → f i ≡ true → first f (block i hi) e ≡ i
  unfolding first
  first_here e p q = rw (block_step i hi p, q)

  pub first_step : (e : ℕ) → i < hi → f i ≡ false → first f (block i hi) e ≡ first f (block (i + 1) hi) e
  unfolding first
  first_step e p q = rw (block_step i hi p, q)

pub count_none : (f : ℕ → Bool) (lo hi : ℕ) → ((x : ℕ) → lo ≤ x → x < hi → f x ≡ false) → count f (block lo hi) ≡ 0
unfolding count
count_none f lo hi h = none (block lo hi) (λ x k. let q = mem_block lo hi x k in h x q.0 q.1)
  where
    none : (xs : List ℕ) → ((x : ℕ) → Memᴰ x xs → f x ≡ false) → count f xs ≡ 0
    none [] h = refl
    none (y ∷ xs) h = rw (h y (Memᴰ.head refl)) (omega (arith, none xs (λ x k. h x (Memᴰ.tail k))))

-- ---- what is added up

-- what agrees on every member adds up to the same
pub sum_same : (f e : ℕ → ℕ) (xs : List ℕ) → ((x : ℕ) → Memᴰ x xs → f x ≡ e x) → sum f xs ≡ sum e xs
unfolding sum
sum_same f e [] h = refl
sum_same f e (x ∷ xs) h = rw (h x (Memᴰ.head refl), sum_same f e xs (λ y k. h y (Memᴰ.tail k)))

pub sum_none : (f : ℕ → ℕ) (xs : List ℕ) → ((x : ℕ) → Memᴰ x xs → f x ≡ 0) → sum f xs ≡ 0
unfolding sum
sum_none f [] h = refl
sum_none f (x ∷ xs) h = rw (h x (Memᴰ.head refl), sum_none f xs (λ y k. h y (Memᴰ.tail k)))

-- those that pass a test, where none has more than n
pub sum_most : (f : ℕ → Bool) (e : ℕ → ℕ) (n : ℕ) → ((x : ℕ) → e x ≤ n) → (xs : List ℕ) → sum (λ x. cond (f x) (e x) 0) xs ≤ count f xs * n
unfolding sum count
sum_most f e n h [] = omega arith
sum_most f e n h (x ∷ xs) = go (f x) (sum_most f e n h xs)
  where
    go : (b : Bool) → sum (λ x. cond (f x) (e x) 0) xs ≤ count f xs * n → cond b (e x) 0 + sum (λ x. cond (f x) (e x) 0) xs ≤ (cond b 1 0 + count f xs) * n
    go true ih = omega (arith, h x)
    go false ih = omega arith

pub count_le : (f : ℕ → Bool) (xs : List ℕ) → count f xs ≤ length xs
unfolding count
count_le f [] = omega arith
count_le f (x ∷ xs) = go (f x) (count_le f xs)
  where
    go : (b : Bool) → count f xs ≤ length xs → cond b 1 0 + count f xs ≤ suc (length xs)
    go true h = omega arith
    go false h = omega arith

-- a test at each member, from the i-th on, as a loop over a slice meets it
module _ (f : ℕ → Bool) (xs : List ℕ) (i : ℕ) where
  pub rest_past : length xs ≤ i → each f (drop i xs) ≡ true
  unfolding each
  rest_past h = rw (drop_of_length-le xs h)

  pub rest_no : i < length xs → f (get_or xs i 0) ≡ false → each f (drop i xs) ≡ false
  unfolding each
  rest_no h e = rw (drop-cons xs i 0 h, e)

  pub rest_yes : i < length xs → f (get_or xs i 0) ≡ true → each f (drop i xs) ≡ each f (drop (i + 1) xs)
  unfolding each
  rest_yes h e = rw (drop-cons xs i 0 h, e, add-one i)
