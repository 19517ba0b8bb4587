-- Laws of soundness as the code of this crate meets it: a test of each place, by the part of the heap that holds them; a page in use.
-- Assumes nothing.
use mathlib.Core.Path.{◌≡◌, refl, sym, ap, ◌∙◌}
use mathlib.Core.Logic.{◌≢◌}
use mathlib.Core.Bool.{Bool, true, false, not, cond, ◌&&◌, and-false}
use mathlib.Core.List.{List, ◌∷◌}
use Prim.Native.Nat.{ℕ, zero, suc, ◌+◌, ◌*◌, ◌-◌, ◌≤◌, ◌<◌, min}
use native.Mathlib.Decide.{dec_lt}
use native.Mathlib.Omega.{arith}
use lib.ListN.{length, take, drop}
use lib.Dec.{eqb, leb}
use borrow.Author.Tests.{eq-eqb, ne_eqb, le-leb, lt-leb}
use Rattle.rules.specs.Tests.{and_is}
use Rattle.rules.specs.Ranges.{at, block, each}
use Rattle.rules.specs.Header.{size_of, refs_of, is_header}
use Rattle.rules.specs.Lent.{Lent}
use Rattle.rules.specs.Walk.{behind, starts, stop, is_reference}
use Rattle.rules.specs.Sound.{is_blank, is_fill_sound, refs_good, is_used_sound}
use Rattle.std.specs.List.{list_all, range_with_len}
use Rattle.std.proofs.Common.{drop-cons, add-one, eqb-true}
use Rattle.std.proofs.lemmas.Bool.{eqb-false}
use Rattle.std.proofs.Math.ListN.{get_or-eq_default}
use Rattle.laws.specs.Lists.{block_step, block_each, each_past}
use Rattle.laws.specs.Headers.{Header, header_says}
use Rattle.laws.specs.Walk.{size, objects, objects_end, objects_step, Onward, onward_begins, onward_on, onward_ends, starts_are, page_steps, steps_some, steps_none, steps_upto}

-- ---- a test of each place from a to e - 1

-- by the part of the heap that holds them: past the heap a zero stands, which passes
pub part_each : (F : ℕ → Bool) (h : List ℕ) (e : ℕ) → F 0 ≡ true → (n a : ℕ) → n ≡ min (length h) e - a → each F (take n (drop a h)) ≡ each (λ x. F (at h x)) (block a e)
unfolding each
part_each F h e z zero a p = sym (block_each (λ x. F (at h x)) a e (λ x lo hi. ap F (get_or-eq_default h 0 (omega arith)) ∙ z))
part_each F h e z (suc n) a p =
    rw (one (omega arith), block_step a e (omega arith)) (ap {B = Bool} (λ b. F (at h a) && b) (part_each F h e z n (a + 1) (omega arith)))
  where
    one : a < length h → take (suc n) (drop a h) ≡ at h a ∷ take n (drop (a + 1) h)
    one l = rw (drop-cons h a 0, add-one)

-- by the numbers themselves
pub range_all : (F : ℕ → Bool) (lo hi n : ℕ) → n ≡ hi - lo → list_all F (range_with_len lo n) ≡ each F (block lo hi)
unfolding each
range_all F lo hi zero p = sym (each_past F lo hi (omega arith))
range_all F lo hi (suc n) p = rw (block_step lo hi (omega arith)) (ap {B = Bool} (λ b. F lo && b) (range_all F (lo + 1) hi n (omega arith)))

-- ---- a page in use, as the loop over its headers meets it: at address a, from its first word `base` to its end e

pub record Passing (m : Lent) (base e a : ℕ) : Type 0 where
  pub way : Onward m.heap base e a
  pub same : each (refs_good m) (objects m.heap a e) ≡ each (refs_good m) (objects m.heap base e)

pub passing_begins : (m : Lent) (base e : ℕ) → Passing m base e base
passing_begins m base e = record { way = onward_begins _ _ _; same = refl }

module _ (m : Lent) (base e a : ℕ) (W : Passing m base e a) (w : ℕ) (ew : w ≡ at m.heap a) where
  -- no header stands here: this is the stop, and every reference was good
  pub passing_ends : is_header w (e - a) ≡ false → (a ≡ behind m.heap base (objects m.heap base e)) × (each (refs_good m) (objects m.heap base e) ≡ true)
  unfolding each
  passing_ends q =
      let off : is_header (at m.heap a) (e - a) ≡ false = rw ew at q in
      (onward_ends m.heap base e a W.way off, sym (rw (objects_end m.heap a e off) at W.same))

  -- a header stands here, and b tells of its p references
  module _ (q : is_header w (e - a) ≡ true) (p : ℕ) (ep : p ≡ refs_of w) (b : Bool) (eb : b ≡ each (λ x. is_reference m (at m.heap x)) (block (a + 1) (a + 1 + p))) where
    on : is_header (at m.heap a) (e - a) ≡ true
    on = rw ew at q

    good : refs_good m a ≡ b
    unfolding refs_good
    good = sym (rw (ep, ew) at eb)

    pub passing_bad : b ≡ false → each (refs_good m) (objects m.heap base e) ≡ false
    unfolding each
    passing_bad f = sym W.same ∙ rw (objects_step m.heap a e on, good, f)

    pub passing_on : b ≡ true → (n : ℕ) → n ≡ size_of w → (0 < n) × (n ≤ e - a) × Passing m base e (a + n)
    unfolding each
    passing_on t n en =
        let H : Header w (e - a) = header_says _ _ q in (
          omega (arith, H.shape),
          omega (arith, H.fits),
          rw (en, ew) (record {
            way = onward_on m.heap base e a W.way on;
            same = more (refs_good m) (objects m.heap (a + size m.heap a) e) (good ∙ t) ∙ (rw (objects_step m.heap a e on) at W.same);
          }),
        )
      where
        more : (F : ℕ → Bool) (xs : List ℕ) → F a ≡ true → each F xs ≡ (F a && each F xs)
        more F xs p = rw p

-- the test of a page in use, by what the loop found: its first word `base`, its end e
module _ (m : Lent) (g base e : ℕ) (is_base : base ≡ g * m.rec.page) (is-end : e ≡ g * m.rec.page + m.rec.page) where
  starts_here : starts m g ≡ objects m.heap base e
  starts_here = rw (is_base, is-end) (starts_are m g)

  pub stop_here : stop m g ≡ behind m.heap base (objects m.heap base e)
  unfolding stop
  stop_here = rw (starts_here, is_base)

  pub used_label : at m.labels g ≢ m.rec.label → is_used_sound m g ≡ false
  unfolding is_used_sound
  used_label n = rw (ne_eqb _ _ n)

  pub used_bad : each (refs_good m) (objects m.heap base e) ≡ false → is_used_sound m g ≡ false
  unfolding is_used_sound
  used_bad q = rw (starts_here, q) (simp and-false)

  used_none : behind m.heap base (objects m.heap base e) ≡ base → is_used_sound m g ≡ false
  unfolding is_used_sound
  used_none q = rw none (and-false (eqb (at m.labels g) m.rec.label))
    where
      none : leb 1 (length (starts m g)) ≡ false
      none = lt-leb 1 (length (starts m g)) (few (dec_lt (length (starts m g)) 1))
        where
          few : Dec (length (starts m g) < 1) → length (starts m g) < 1
          few (yes p) = p
          few (no p) = absurd (let z = steps_none (page_steps m g) (omega arith) in omega (arith, stop_here))

  used_is : at m.labels g ≡ m.rec.label → each (refs_good m) (objects m.heap base e) ≡ true
      → (z : ℕ) → z ≡ behind m.heap base (objects m.heap base e) → z ≢ base → is_used_sound m g ≡ (cond (eqb g m.rec.opened) (eqb z (base + m.rec.fill)) true && is_blank m.heap z e)
  unfolding is_used_sound is_fill_sound
  used_is l q z ez n =
      let s : z ≡ stop m g = ez ∙ sym stop_here in
      let u = steps_upto (page_steps m g) in
      let k : each (refs_good m) (starts m g) ≡ true = rw starts_here q in
      and_is (eq-eqb _ _ l)
      (and_is (le-leb 1 (length (starts m g)) (steps_some (page_steps m g) (omega (arith, u.0))))
      (and_is k (rw (s, is-end, is_base))))

  -- it stops past its first word, and on the open page at fill
  abbrev pub ends : ℕ → Bool
  ends z = not (eqb z base) && cond (eqb g m.rec.opened) (eqb z (base + m.rec.fill)) true

  -- by the tests of the code
  module _ (z : ℕ) where
    pub ends_first : z ≡ base → ends z ≡ not (eqb z base)
    ends_first p = rw (eq-eqb z base p)

    pub ends_open : z ≢ base → g ≡ m.rec.opened → ends z ≡ eqb z (base + m.rec.fill)
    ends_open n p = rw (ne_eqb z base n, eq-eqb g m.rec.opened p)

    pub ends_other : z ≢ base → g ≢ m.rec.opened → ends z ≡ not (eqb g m.rec.opened)
    ends_other n k = rw (ne_eqb z base n, ne_eqb g m.rec.opened k)

  pub used_end : at m.labels g ≡ m.rec.label → (z : ℕ) → (z ≡ behind m.heap base (objects m.heap base e)) × (each (refs_good m) (objects m.heap base e) ≡ true)
      → (v : Bool) → v ≡ ends z → is_used_sound m g ≡ (v && is_blank m.heap z e)
  used_end l z (ez, q) v ev = rw ev (go (eqb z base) refl)
    where
      go : (b : Bool) → eqb z base ≡ b → is_used_sound m g ≡ ((not b && cond (eqb g m.rec.opened) (eqb z (base + m.rec.fill)) true) && is_blank m.heap z e)
      go true t = used_none (sym ez ∙ eqb-true _ _ t)
      go false t = used_is l q z ez (eqb-false _ _ t)
