-- Laws of the words that places begin with: what the tests for a header and for an object that was copied tell, and that a header
-- made is one.
use Rattle.std.specs.Prelude.{◌≡◌, refl, Bool, true, false, ℕ, ◌+◌, ◌*◌, ◌-◌, ◌%◌, ◌≤◌, ◌<◌, eqb, leb}
use native.Mathlib.Omega.{arith}
use Rattle.std.proofs.Common.{eqb-true, leb-true, eq-eqb, le-leb}
use Rattle.rules.specs.Tests.{and_left, and_right, and_is}
use Rattle.rules.specs.Header.{header_of, size_of, refs_of, is_header}
use Rattle.rules.specs.Collection.{is_left}

-- n is at least 1 and p is at most n - 1: p < n
pub record Header (w room : ℕ) : Type 0 where
  pub odd : w % 2 ≡ 1
  pub shape : refs_of w < size_of w
  pub fits : size_of w ≤ room

pub header_says : (w room : ℕ) → is_header w room ≡ true → Header w room
unfolding is_header
header_says w room e =
    let e1 = and_right (eqb (w % 2) 1) _ e in
    let e2 = and_right (leb 1 (size_of w)) _ e1 in
    let n : 1 ≤ size_of w = leb-true _ _ (and_left _ _ e1) in
    let p : refs_of w ≤ size_of w - 1 = leb-true _ _ (and_left _ _ e2) in
    record {
      odd = eqb-true _ _ (and_left _ _ e);
      shape = omega arith;
      fits = leb-true _ _ (and_right (leb (refs_of w) (size_of w - 1)) _ e2);
    }

pub header_is : (w room : ℕ) → Header w room → is_header w room ≡ true
unfolding is_header
header_is w room h =
    and_is (eq-eqb _ _ h.odd)
    (and_is (le-leb 1 (size_of w) (omega (arith, h.shape)))
    (and_is (le-leb (refs_of w) (size_of w - 1) (omega (arith, h.shape))) (le-leb _ _ h.fits)))

-- the test by its parts: whether p < n, and, of an odd word where it is so, whether n words fit
pub header_bare : (w room : ℕ) → size_of w ≤ refs_of w → is_header w room ≡ false
header_bare w room s = go (is_header w room) refl
  where
    go : (b : Bool) → is_header w room ≡ b → b ≡ false
    go false e = refl
    go true e = let h = header_says w room e in absurd (omega (arith, h.shape))

pub header_room : (w room : ℕ) → w % 2 ≡ 1 → refs_of w < size_of w → is_header w room ≡ leb (size_of w) room
unfolding is_header
header_room w room o s = rw (eq-eqb _ _ o, le-leb 1 (size_of w) (omega arith), le-leb (refs_of w) (size_of w - 1) (omega arith))

-- with no room left no word is a header
pub header_full : (w : ℕ) → is_header w 0 ≡ false
header_full w = go (is_header w 0) refl
  where
    go : (b : Bool) → is_header w 0 ≡ b → b ≡ false
    go false e = refl
    go true e = let h = header_says w 0 e in absurd (omega (arith, h.shape, h.fits))

-- 0 is none
pub header_zero : (room : ℕ) → is_header 0 room ≡ false
unfolding is_header
header_zero room = refl

-- ---- a word that an object left when it was copied

pub record Left (w room : ℕ) : Type 0 where
  pub even : w % 2 ≡ 0
  pub some : 1 ≤ w
  pub within : 1 ≤ room

pub left_says : (w room : ℕ) → is_left w room ≡ true → Left w room
unfolding is_left
left_says w room e =
    let e1 = and_right (eqb (w % 2) 0) _ e in
    record { even = eqb-true _ _ (and_left _ _ e); some = leb-true _ _ (and_left _ _ e1); within = leb-true _ _ (and_right (leb 1 w) _ e1) }

pub left_is : (w room : ℕ) → Left w room → is_left w room ≡ true
unfolding is_left
left_is w room h = and_is (eq-eqb _ _ h.even) (and_is (le-leb _ _ h.some) (le-leb _ _ h.within))

left_not : (w room : ℕ) → (Left w room → ⊥) → is_left w room ≡ false
left_not w room n = go (is_left w room) refl
  where
    go : (b : Bool) → is_left w room ≡ b → b ≡ false
    go false e = refl
    go true e = absurd (n (left_says w room e))

pub left_odd : (w room : ℕ) → w % 2 ≡ 1 → is_left w room ≡ false
left_odd w room o = left_not w room (λ h. omega (arith, h.even))

pub left_full : (w : ℕ) → is_left w 0 ≡ false
left_full w = left_not w 0 (λ h. omega (arith, h.within))

pub left_zero : (room : ℕ) → is_left 0 room ≡ false
left_zero room = left_not 0 room (λ h. omega (arith, h.some))

-- it is no header
pub left_no_header : (w room r : ℕ) → Left w room → is_header w r ≡ false
left_no_header w room r h = go (is_header w r) refl
  where
    go : (b : Bool) → is_header w r ≡ b → b ≡ false
    go false e = refl
    go true e = let H = header_says w r e in absurd (omega (arith, H.odd, h.even))

-- ---- a header that was made

module _ (d p : ℕ) (few : p ≤ 32767) (within : p ≤ d) where
  pub size_made : size_of (header_of d p) ≡ d + 1
  unfolding size_of header_of
  size_made = omega arith

  pub refs_made : refs_of (header_of d p) ≡ p
  unfolding refs_of header_of
  refs_made = let m : ((d + 1) * 65536 + 2 * p + 1) % 65536 ≡ 2 * p + 1 = omega arith in rw m (omega arith)

  odd_made : header_of d p % 2 ≡ 1
  unfolding header_of
  odd_made = omega arith

  pub header_made : (room : ℕ) → d + 1 ≤ room → Header (header_of d p) room
  header_made room r = record {
    odd = odd_made;
    shape = omega (arith, refs_made, size_made);
    fits = omega (arith, size_made);
  }
