-- Laws of pages, once for all P: their size, where they lie, and which page an address is on.
use Rattle.std.proofs.Math.Path.{◌≡◌, refl}
use Rattle.std.proofs.Common.{sym, ap, ◌∙◌, inl, inr, add-zero, div-add-mod', mod-lt, mul-le-mul, mul-le-mul_right, suc-mul}
use Rattle.std.specs.Prelude.{◌≢◌, ◌⊎◌, Bool, cond, ◌&&◌, ℕ, ◌+◌, ◌*◌, ◌-◌, ◌/◌, ◌%◌, ◌≤◌, ◌<◌, ◌^◌, suc, leb}
use Rattle.std.proofs.Math.Bool.{true, false, or-true, and-false}
use mathlib.Core.List.Memᴰ
use mathlib.Core.List.{List, [], ◌∷◌, map, Memᴰ}
use Rattle.std.proofs.Math.Nat.{zero-mod, div-zero, mul-add-div_right, div-eq_of_lt}
use native.Mathlib.Omega.{arith}
use types.Run.{OneOf}
use Rattle.std.proofs.Math.Dec.{ltb}
use borrow.Author.Tests.{leb-true, eq-eqb, ne_eqb, le-leb, lt-leb, lt-ltb, le-ltb}
use Rattle.rules.specs.Tests.{and_left, and_right}
use Rattle.rules.specs.Ranges.{from, block, each, has}
use Rattle.rules.specs.Pages.{page_sizes, is_page_size, is_shape, page_named, page_named_before}
use Rattle.laws.specs.Lists.{has_mem, mem_has, each_true, block_mem, mem_block}
use Rattle.std.proofs.Math.Decide.{dec_lt}

-- ---- page sizes

-- a `match` over a list of numbers finds x among them, or does not
pub one_of : (ks : List ℕ) (x : ℕ) → OneOf ks x → has x ks ≡ true
unfolding has
one_of [] x h = absurd h
one_of (k ∷ []) x h = rw (eq-eqb x k h)
one_of (k ∷ (j ∷ ks)) x (inl h) = rw (eq-eqb x k h)
one_of (k ∷ (j ∷ ks)) x (inr h) = rw (one_of (j ∷ ks) x h, or-true)

pub none_of : (ks : List ℕ) (x : ℕ) → (OneOf ks x → ⊥) → has x ks ≡ false
unfolding has
none_of [] x h = refl
none_of (k ∷ []) x h = rw (ne_eqb x k h)
none_of (k ∷ (j ∷ ks)) x h = rw (ne_eqb x k (λ q. h (inl q))) (none_of (j ∷ ks) x (λ q. h (inr q)))

-- "a power of two from 8 to 1,024"
abbrev pub Power : ℕ → Type 0
Power P = (e : ℕ) × (3 ≤ e) × (e ≤ 10) × (P ≡ 2 ^ e)

powers : page_sizes ≡ map (λ e. 2 ^ e) (block 3 11)
unfolding block from
powers = refl

pub size_power : (P : ℕ) → is_page_size P ≡ true → Power P
unfolding is_page_size
size_power P h =
    let (e, k, q) = Memᴰ.of_map (λ (e : ℕ). 2 ^ e) (block 3 11) (rw powers at (has_mem P page_sizes h)) in
    let b = mem_block 3 11 e k in
    (e, b.0, omega (arith, b.1), sym q)

pub power_size : (P : ℕ) → Power P → is_page_size P ≡ true
unfolding is_page_size
power_size P (e, a, b, q) =
    let k : Memᴰ (2 ^ e) (map (λ (e : ℕ). 2 ^ e) (block 3 11)) = Memᴰ.map (λ (e : ℕ). 2 ^ e) (block_mem 3 11 e a (omega arith)) in
    mem_has P page_sizes (rw powers (Memᴰ.cast q k))

bounds : each (λ p. leb 8 p && leb p 1024) page_sizes ≡ true
unfolding each
bounds = refl

-- all that is used of a page's size
pub size_bounds : (P : ℕ) → is_page_size P ≡ true → (8 ≤ P) × (P ≤ 1024)
unfolding is_page_size
size_bounds P h =
    let b : (leb 8 P && leb P 1024) ≡ true = each_true (λ p. leb 8 p && leb p 1024) page_sizes bounds P (has_mem P page_sizes h) in
    (leb-true 8 P (and_left _ _ b), leb-true P 1024 (and_right (leb 8 P) _ b))

-- P and T
pub record Shape (P T : ℕ) : Type 0 where
  pub page_low : 8 ≤ P
  pub page_high : P ≤ 1024
  pub pages_low : 3 ≤ T
  pub pages_high : T ≤ 4096

pub shape_says : (P T : ℕ) → is_shape P T ≡ true → Shape P T
unfolding is_shape
shape_says P T e =
    let s = size_bounds P (and_left _ _ e) in
    let t = and_right (is_page_size P) _ e in
    record { page_low = s.0; page_high = s.1; pages_low = leb-true 3 T (and_left _ _ t); pages_high = leb-true T 4096 (and_right (leb 3 T) _ t) }

-- ---- where pages lie

pub heap_fits : {P T : ℕ} → P ≤ 1024 → T ≤ 4096 → T * P ≤ 4194304
heap_fits a b = mul-le-mul b a

-- a page below T ends within T pages
pub page_end : (g P T : ℕ) → g < T → g * P + P ≤ T * P
page_end g P T h = omega (arith, suc-mul g P, mul-le-mul_right P h)

pub split_page : (P x : ℕ) → x / P * P + x % P ≡ x
split_page P x = div-add-mod' x P

-- the page of the word r words after a page's first
pub page_of_lem : {P : ℕ} → 0 < P → (g r : ℕ) → r < P → (g * P + r) / P ≡ g
page_of_lem pos g r h = mul-add-div_right pos g r ∙ ap (λ (k : ℕ). g + k) (div-eq_of_lt h) ∙ add-zero g

-- an address is on page g exactly where it lies among g's words
pub on_page : {P : ℕ} → 0 < P → (w g : ℕ) → g * P ≤ w → w < g * P + P → w / P ≡ g
on_page {P} pos w g a b = let q : w ≡ g * P + (w - g * P) = omega arith in rw q (page_of_lem pos g (w - g * P) (omega arith))

pub page_on : {P : ℕ} → 0 < P → (w g : ℕ) → w / P ≡ g → (g * P ≤ w) × (w < g * P + P)
page_on {P} pos w g q =
    let k : w / P * P ≡ g * P = ap (λ (j : ℕ). j * P) q in
    (omega (arith, split_page P w), omega (arith, split_page P w, mod-lt w pos))

-- the words of an object that fits its page lie on its page
pub same_page : {P : ℕ} → 0 < P → (x n i : ℕ) → x % P + n ≤ P → i < n → (x + i) / P ≡ x / P
same_page {P} pos x n i fits h =
    let e : x + i ≡ x / P * P + (x % P + i) = omega (arith, split_page P x) in
    ap (λ (k : ℕ). k / P) e ∙ page_of_lem pos (x / P) (x % P + i) (omega arith)

-- a page's first word is on it
pub first_on_page : {P : ℕ} → 0 < P → (g : ℕ) → g * P / P ≡ g
first_on_page pos g = simp add-zero at (page_of_lem pos g 0 pos)

-- the word before is on the same page, unless the word begins one
pub same_before : (P w : ℕ) → w % P ≢ 0 → (w - 1) / P ≡ w / P
same_before P w h = go (dec_lt 0 P)
  where
    go : Dec (0 < P) → (w - 1) / P ≡ w / P
    go (yes pos) =
        let e : w - 1 ≡ w / P * P + (w % P - 1) = omega (arith, split_page P w, h) in
        ap (λ (k : ℕ). k / P) e ∙ page_of_lem pos (w / P) (w % P - 1) (omega (arith, mod-lt w pos))
    go (no zero) = let e : P ≡ 0 = omega arith in rw (e, div-zero (w - 1), div-zero w)

-- objects on different pages do not meet
pub pages_apart : (P x n y m : ℕ) → x % P + n ≤ P → y % P + m ≤ P → x / P ≢ y / P → (x + n ≤ y) ⊎ (y + m ≤ x)
pages_apart P x n y m fx fy ne = go (dec_lt (x / P) (y / P))
  where
    go : Dec (x / P < y / P) → (x + n ≤ y) ⊎ (y + m ≤ x)
    go (yes l) = inl (let q : suc (x / P) * P ≤ y / P * P = mul-le-mul_right P l in omega (arith, split_page P x, split_page P y))
    go (no l) = inr (let q : suc (y / P) * P ≤ x / P * P = mul-le-mul_right P (omega arith) in omega (arith, split_page P x, split_page P y))

-- ---- the page that a word names

module _ (P lo hi w : ℕ) where
  pub named_none : P ≡ 0 → page_named P lo hi w ≡ 0
  unfolding page_named
  named_none e = rw (e, div-zero w) (go (leb lo 0 && ltb 0 hi))
    where
      go : (b : Bool) → ◌≡◌ {A = ℕ} (cond b 0 0) 0
      go true = refl
      go false = refl

  pub named_low : w / P < lo → page_named P lo hi w ≡ 0
  unfolding page_named
  named_low h = rw (lt-leb lo (w / P) h)

  pub named_high : hi ≤ w / P → page_named P lo hi w ≡ 0
  unfolding page_named
  named_high h = rw (le-ltb (w / P) hi h, and-false (leb lo (w / P)))

  pub named_is : lo ≤ w / P → w / P < hi → page_named P lo hi w ≡ w / P
  unfolding page_named
  named_is a b = rw (le-leb lo (w / P) a, lt-ltb (w / P) hi b)

  -- the word before: there is none before word 0
  pub before_none : w ≡ 0 → page_named_before P lo hi w ≡ 0
  unfolding page_named_before
  before_none e = rw e

  pub before_is : 0 < w → page_named_before P lo hi w ≡ page_named P lo hi (w - 1)
  unfolding page_named_before
  before_is h = rw (le-leb 1 w h)

  -- both name one page, unless the word begins one
  pub before_same : w % P ≢ 0 → page_named_before P lo hi w ≡ page_named P lo hi w
  unfolding page_named
  before_same h = before_is (go (dec_lt 0 w)) ∙ rw (same_before P w h)
    where
      go : Dec (0 < w) → 0 < w
      go (yes p) = p
      go (no p) = absurd (h (let z : w ≡ 0 = omega arith in rw (z, zero-mod)))
