-- How many pages of a block pass a test, and the lowest free one: it is found where some page is free, and taking it leaves
-- one less.
use Rattle.std.specs.Prelude.{◌≡◌, ◌≢◌, ◌⊎◌, Bool, true, false, List, [], ◌∷◌, length, set}
use Rattle.std.proofs.Math.Path.{refl, ap}
use Rattle.std.proofs.Common.{sym, ◌∙◌, inl, inr, true≢false, arith, get_or-set_same, get_or-set_other, eqb-true, eq-eqb, ne_eqb}
use Rattle.std.proofs.Math.Bool.{cond, not}
use Prim.Native.Nat.{ℕ, zero, suc, ◌+◌, ◌-◌, ◌≤◌, ◌<◌}
use Rattle.std.proofs.Math.Decide.{ℕ_discrete}
use Rattle.std.proofs.Math.ListN.{get_or-eq_default}
use Rattle.std.proofs.Math.Dec.{eqb}
use Rattle.rules.specs.Ranges.{at, from, block, count, first}
use Rattle.laws.specs.Lists.{count_past, count_none, count_yes, count_no, first_past, first_here, first_step}
use Rattle.rules.specs.Pages.{is_free, lowest_free, pages_used}

-- ---- counting in a range

from_length : (n lo : ℕ) → length (from lo n) ≡ n
unfolding from
from_length zero lo = refl
from_length (suc n) lo = ap suc (from_length n (suc lo))

pub block_length : (lo hi : ℕ) → length (block lo hi) ≡ hi - lo
unfolding block
block_length lo hi = from_length (hi - lo) lo

pub count_not : (f : ℕ → Bool) (xs : List ℕ) → count (λ x. not (f x)) xs + count f xs ≡ length xs
unfolding count
count_not f [] = refl
count_not f (x ∷ xs) = go (f x) (count_not f xs)
  where
    go : (b : Bool) → count (λ x. not (f x)) xs + count f xs ≡ length xs → cond (not b) 1 0 + count (λ x. not (f x)) xs + (cond b 1 0 + count f xs) ≡ suc (length xs)
    go true ih = omega arith
    go false ih = omega arith

pub count_same : (f e : ℕ → Bool) → ((x : ℕ) → e x ≡ f x) → (xs : List ℕ) → count e xs ≡ count f xs
unfolding count
count_same f e h [] = refl
count_same f e h (x ∷ xs) = rw (h x, count_same f e h xs)

-- a test that passes less often counts less
pub count_fewer : (f e : ℕ → Bool) → ((x : ℕ) → e x ≡ true → f x ≡ true) → (xs : List ℕ) → count e xs ≤ count f xs
unfolding count
count_fewer f e h [] = omega arith
count_fewer f e h (x ∷ xs) = go (e x) refl (count_fewer f e h xs)
  where
    go : (b : Bool) → e x ≡ b → count e xs ≤ count f xs → cond b 1 0 + count e xs ≤ cond (f x) 1 0 + count f xs
    go true q ih = rw (h x q) (omega arith)
    go false q ih = omega arith

-- the tests differ at g alone
module _ (f e : ℕ → Bool) (g : ℕ) (was : f g ≡ true) (now : e g ≡ false) (same : (x : ℕ) → x ≢ g → e x ≡ f x) where
  above : (n lo : ℕ) → g < lo → count e (from lo n) ≡ count f (from lo n)
  unfolding from count
  above zero lo h = refl
  above (suc n) lo h = rw (same lo (omega arith), above n (suc lo) (omega arith))

  one_less : (n lo : ℕ) → lo ≤ g → g < lo + n → count e (from lo n) + 1 ≡ count f (from lo n)
  unfolding from count
  one_less zero lo a b = absurd (omega arith)
  one_less (suc n) lo a b = go (ℕ_discrete lo g) (one_less n (suc lo))
    where
      go : Dec (lo ≡ g) → (suc lo ≤ g → g < suc lo + n → count e (from (suc lo) n) + 1 ≡ count f (from (suc lo) n))
          → cond (e lo) 1 0 + count e (from (suc lo) n) + 1 ≡ cond (f lo) 1 0 + count f (from (suc lo) n)
      go (yes q) ih = rw (ap e q ∙ now, ap f q ∙ was, above n (suc lo) (omega arith)) (omega arith)
      go (no q) ih = rw (same lo q) (omega (arith, ih (omega arith) (omega arith)))

  pub count_less : (lo hi : ℕ) → lo ≤ g → g < hi → count e (block lo hi) + 1 ≡ count f (block lo hi)
  unfolding block
  count_less lo hi a b = one_less (hi - lo) lo a (omega arith)

-- ---- the first that passes

first_from : (f : ℕ → Bool) (e n lo : ℕ) → 0 < count f (from lo n) → (lo ≤ first f (from lo n) e) × (first f (from lo n) e < lo + n) × (f (first f (from lo n) e) ≡ true)
unfolding from count first
first_from f e zero lo h = absurd (omega arith)
first_from f e (suc n) lo h = go (f lo) refl (first_from f e n (suc lo)) h
  where
    go : (b : Bool) → f lo ≡ b
        → (0 < count f (from (suc lo) n) → (suc lo ≤ first f (from (suc lo) n) e) × (first f (from (suc lo) n) e < suc lo + n) × (f (first f (from (suc lo) n) e) ≡ true))
        → 0 < cond b 1 0 + count f (from (suc lo) n)
        → (lo ≤ cond b lo (first f (from (suc lo) n) e)) × (cond b lo (first f (from (suc lo) n) e) < lo + suc n) × (f (cond b lo (first f (from (suc lo) n) e)) ≡ true)
    go true q ih p = (omega arith, omega arith, q)
    go false q ih p = let r = ih (omega arith) in (omega (arith, r.0), omega (arith, r.1), r.2)

first_same : (f e : ℕ → Bool) → ((x : ℕ) → e x ≡ f x) → (xs : List ℕ) (d : ℕ) → first e xs d ≡ first f xs d
unfolding first
first_same f e h [] d = refl
first_same f e h (x ∷ xs) d = rw (h x, first_same f e h xs d)

first_none : (f : ℕ → Bool) (e n lo : ℕ) → count f (from lo n) ≡ 0 → first f (from lo n) e ≡ e
unfolding from count first
first_none f e zero lo h = refl
first_none f e (suc n) lo h = go (f lo) (first_none f e n (suc lo)) h
  where
    go : (b : Bool) → (count f (from (suc lo) n) ≡ 0 → first f (from (suc lo) n) e ≡ e) → cond b 1 0 + count f (from (suc lo) n) ≡ 0 → cond b lo (first f (from (suc lo) n) e) ≡ e
    go true ih p = absurd (omega arith)
    go false ih p = ih (omega arith)

-- what stands before the first that passes does not
first_before : (f : ℕ → Bool) (e g n lo : ℕ) → lo ≤ g → g < lo + n → g < first f (from lo n) e → f g ≡ false
unfolding from first
first_before f e g zero lo a b h = absurd (omega arith)
first_before f e g (suc n) lo a b h = go (f lo) refl (ℕ_discrete lo g) (first_before f e g n (suc lo)) h
  where
    go : (v : Bool) → f lo ≡ v → Dec (lo ≡ g)
        → (suc lo ≤ g → g < suc lo + n → g < first f (from (suc lo) n) e → f g ≡ false)
        → g < cond v lo (first f (from (suc lo) n) e) → f g ≡ false
    go true q d ih h = absurd (omega arith)
    go false q (yes z) ih h = ap f (sym z) ∙ q
    go false q (no z) ih h = ih (omega arith) (omega arith) h

-- ---- free pages of a block

unfoldable pub free_pages : List ℕ → ℕ → ℕ → ℕ
free_pages labels lo hi = count (is_free labels) (block lo hi)

pub free_says : (labels : List ℕ) (g : ℕ) → is_free labels g ≡ true → at labels g ≡ 0
unfolding is_free
free_says labels g e = eqb-true _ _ e

pub free_is : (labels : List ℕ) (g : ℕ) → at labels g ≡ 0 → is_free labels g ≡ true
unfolding is_free
free_is labels g e = eq-eqb _ _ e

pub not_free : (labels : List ℕ) (g : ℕ) → at labels g ≢ 0 → is_free labels g ≡ false
unfolding is_free
not_free labels g n = ne_eqb _ _ n

-- the page that is found
pub record Lowest (labels : List ℕ) (lo hi : ℕ) : Type 0 where
  pub low : lo ≤ lowest_free labels lo hi
  pub high : lowest_free labels lo hi < hi
  pub free : at labels (lowest_free labels lo hi) ≡ 0

pub lowest : (labels : List ℕ) (lo hi : ℕ) → 0 < free_pages labels lo hi → Lowest labels lo hi
unfolding free_pages lowest_free block
lowest labels lo hi h =
    let (low, high, free) = first_from (is_free labels) hi (hi - lo) lo h in
    record { low = low; high = omega arith; free = free_says labels _ free }

-- a page that is found is free
pub lowest_found : (labels : List ℕ) (lo hi : ℕ) → lowest_free labels lo hi < hi → Lowest labels lo hi
unfolding free_pages lowest_free block
lowest_found labels lo hi h = go (ℕ_discrete (free_pages labels lo hi) 0)
  where
    go : Dec (free_pages labels lo hi ≡ 0) → Lowest labels lo hi
    go (yes e) = absurd (omega (arith, first_none (is_free labels) hi (hi - lo) lo e))
    go (no n) = lowest labels lo hi (omega arith)

-- below the one that is found none is free; and where none is found, none is
pub none_below : (labels : List ℕ) (lo hi g : ℕ) → lo ≤ g → g < hi → g < lowest_free labels lo hi → at labels g ≢ 0
unfolding lowest_free block
none_below labels lo hi g a b h e =
    true≢false (sym (free_is labels g e) ∙ first_before (is_free labels) hi g (hi - lo) lo a (omega arith) h)

pub none_free : (labels : List ℕ) (lo hi : ℕ) → hi ≤ lowest_free labels lo hi → (g : ℕ) → lo ≤ g → g < hi → at labels g ≢ 0
none_free labels lo hi h g a b = none_below labels lo hi g a b (omega arith)

-- pages in use and free pages are all
pub used_and_free : (labels : List ℕ) (lo hi : ℕ) → pages_used labels lo hi + free_pages labels lo hi ≡ hi - lo
unfolding pages_used free_pages
used_and_free labels lo hi = count_not (is_free labels) (block lo hi) ∙ block_length lo hi

-- where fewer are in use than there are, one is found
pub lowest_free_lem : (labels : List ℕ) (lo hi : ℕ) → pages_used labels lo hi < hi - lo → Lowest labels lo hi
lowest_free_lem labels lo hi h = lowest labels lo hi (omega (arith, used_and_free labels lo hi))

-- a free page labelled: one less
pub free_less : (labels : List ℕ) (lo hi g new : ℕ) → lo ≤ g → g < hi → g < length labels → at labels g ≡ 0 → new ≢ 0 → free_pages (set labels g new) lo hi + 1 ≡ free_pages labels lo hi
unfolding free_pages is_free
free_less labels lo hi g new a b inside e nz = count_less (λ j. eqb (at labels j) 0) (λ j. eqb (at (set labels g new) j) 0) g (eq-eqb _ _ e)
    (ne_eqb _ 0 (λ q. nz (sym (get_or-set_same labels g new 0 inside) ∙ q)))
    (λ j ne. ap (λ (w : ℕ). eqb w 0) (get_or-set_other labels g j new 0 ne)) lo hi a b

-- a page in use gets another label: the same pages are free
pub free_relabelled : (labels : List ℕ) (g new : ℕ) → at labels g ≢ 0 → new ≢ 0 → g < length labels → (x : ℕ) → is_free (set labels g new) x ≡ is_free labels x
free_relabelled labels g new used nz inside x = go (ℕ_discrete x g)
  where
    go : Dec (x ≡ g) → is_free (set labels g new) x ≡ is_free labels x
    go (yes e) = not_free _ x (λ q. nz (sym (get_or-set_same labels g new 0 inside) ∙ ap (at (set labels g new)) (sym e) ∙ q)) ∙ sym (not_free labels x (λ q. used (ap (at labels) (sym e) ∙ q)))
    go (no n) = unfold is_free in ap (λ (w : ℕ). eqb w 0) (get_or-set_other labels g x new 0 n)

-- and so is the lowest
pub lowest_relabelled : (labels : List ℕ) (g new lo hi : ℕ) → at labels g ≢ 0 → new ≢ 0 → g < length labels → lowest_free (set labels g new) lo hi ≡ lowest_free labels lo hi
unfolding lowest_free
lowest_relabelled labels g new lo hi used nz inside = first_same (is_free labels) (is_free (set labels g new)) (free_relabelled labels g new used nz inside) (block lo hi) hi

-- the same pages are free: as many
pub free_same : (labels before : List ℕ) (lo hi : ℕ) → ((g : ℕ) → is_free labels g ≡ is_free before g) → free_pages labels lo hi ≡ free_pages before lo hi
unfolding free_pages
free_same labels before lo hi h = count_same (is_free before) (is_free labels) h (block lo hi)

-- ---- as a loop over the labels meets them

-- past the labels every page is free
pub free_past : (labels : List ℕ) (g : ℕ) → length labels ≤ g → is_free labels g ≡ true
free_past labels g p = free_is labels g (get_or-eq_default labels 0 p)

module _ (labels : List ℕ) (g hi : ℕ) where
  pub used_past : (hi ≤ g) ⊎ (length labels ≤ g) → pages_used labels g hi ≡ 0
  unfolding pages_used
  used_past (inl p) = count_past (λ g. not (is_free labels g)) g hi p
  used_past (inr p) = count_none (λ g. not (is_free labels g)) g hi (λ x lo h. rw (free_past labels x (omega arith)))

  pub used_more : g < hi → at labels g ≢ 0 → pages_used labels g hi ≡ 1 + pages_used labels (g + 1) hi
  unfolding pages_used is_free
  used_more p q = count_yes (λ g. not (is_free labels g)) g hi p (rw (ne_eqb (at labels g) 0 q))

  pub used_free : g < hi → at labels g ≡ 0 → pages_used labels g hi ≡ pages_used labels (g + 1) hi
  unfolding pages_used is_free
  used_free p q = count_no (λ g. not (is_free labels g)) g hi p (rw (eq-eqb (at labels g) 0 q))

  pub lowest_past : hi ≤ g → lowest_free labels g hi ≡ hi
  unfolding lowest_free
  lowest_past p = first_past (is_free labels) g hi hi p

  pub lowest_here : g < hi → at labels g ≡ 0 → lowest_free labels g hi ≡ g
  unfolding lowest_free is_free
  lowest_here p q = first_here (is_free labels) g hi hi p (eq-eqb (at labels g) 0 q)

  pub lowest_unlabelled : g < hi → (hi ≤ g) ⊎ (length labels ≤ g) → lowest_free labels g hi ≡ g
  lowest_unlabelled p (inl q) = absurd (omega arith)
  lowest_unlabelled p (inr q) = lowest_here p (get_or-eq_default labels 0 q)

  pub lowest_step : g < hi → at labels g ≢ 0 → lowest_free labels g hi ≡ lowest_free labels (g + 1) hi
  unfolding lowest_free is_free
  lowest_step p q = first_step (is_free labels) g hi hi p (ne_eqb (at labels g) 0 q)
