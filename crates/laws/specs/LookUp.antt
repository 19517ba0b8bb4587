-- Laws of object starts and of what is found: the tests and the propositions agree.
use Rattle.std.specs.Prelude.{◌≡◌, ◌≢◌, ◌⊎◌, Bool, cond, ◌&&◌, ◌||◌, ℕ, ◌+◌, ◌*◌, ◌-◌, ◌/◌, ◌≤◌, ◌<◌, length, leb}
use Rattle.std.proofs.Math.Path.{refl}
use Rattle.std.proofs.Common.{sym, ap, ◌∙◌, inl, inr, true≢false, arith, eqb-true, leb-true, ltb-true, eq-eqb, ne_eqb, le-leb, lt-ltb, le-ltb}
use Rattle.std.proofs.Math.Bool.{true, false, and-false}
use mathlib.Core.List.{List, [], ◌∷◌}
use Rattle.std.proofs.Math.Nat.{div-zero}
use Rattle.std.proofs.Math.ListN.{get_or-eq_default}
use Rattle.std.proofs.Math.Dec.{eqb, ltb}
use Rattle.std.proofs.lemmas.Bool.{lt-leb}
use Rattle.rules.specs.declared.Found.{Found}
use Rattle.rules.specs.declared.Found.TheVariants.{Start, Inside, Nothing}
use Rattle.rules.specs.Tests.{and_left, and_right, and_is}
use Rattle.rules.specs.Ranges.{at, has}
use Rattle.rules.specs.Header.{size_of, refs_of, is_header}
use Rattle.rules.specs.Lent.{Lent}
use Rattle.rules.specs.Walk.{starts, is_in_use, is_start, is_reference, landing, found}
use Rattle.rules.specs.Sound.{InUse, IsObject}
use Rattle.laws.specs.Lists.{has_mem, mem_has}
use Rattle.laws.specs.Headers.{header_full, header_zero}
use Rattle.laws.specs.Valid.{Layout, page_within}
use Rattle.laws.specs.Walk.{Steps, step, page_steps, met}

-- ---- the tests and the propositions agree

pub in_use_says : (m : Lent) (g : ℕ) → is_in_use m g ≡ true → InUse m g
unfolding is_in_use
in_use_says m g e =
    let e1 = and_right (leb 1 g) _ e in
    record { low = leb-true 1 g (and_left _ _ e); high = ltb-true _ _ (and_left _ _ e1); label = eqb-true _ _ (and_right (ltb g m.rec.pages) _ e1) }

pub in_use_is : (m : Lent) (g : ℕ) → InUse m g → is_in_use m g ≡ true
unfolding is_in_use
in_use_is m g u = and_is (le-leb 1 g u.low) (and_is (lt-ltb _ _ u.high) (eq-eqb _ _ u.label))

pub start_says : (m : Lent) (a : ℕ) → is_start m a ≡ true → IsObject m a
unfolding is_start
start_says m a e = record {
  in_use = in_use_says m (a / m.rec.page) (and_left _ _ e);
  met = has_mem a _ (and_right (is_in_use m (a / m.rec.page)) _ e);
}

pub start_is : (m : Lent) (a : ℕ) → IsObject m a → is_start m a ≡ true
unfolding is_start
start_is m a o = and_is (in_use_is m _ o.in_use) (mem_has a _ o.met)

pub reference_says : (m : Lent) (v : ℕ) → is_reference m v ≡ true → (v ≡ 0) ⊎ IsObject m v
unfolding is_reference
reference_says m v e = go (eqb v 0) refl e
  where
    go : (b : Bool) → eqb v 0 ≡ b → (b || is_start m v) ≡ true → (v ≡ 0) ⊎ IsObject m v
    go true q t = inl (eqb-true v 0 q)
    go false q t = inr (start_says m v t)

pub reference_is : (m : Lent) (v : ℕ) → (v ≡ 0) ⊎ IsObject m v → is_reference m v ≡ true
unfolding is_reference
reference_is m v (inl q) = rw (eq-eqb v 0 q)
reference_is m v (inr o) = go (eqb v 0)
  where
    go : (b : Bool) → (b || is_start m v) ≡ true
    go true = refl
    go false = start_is m v o

-- an object lies on its page, and in the heap
pub record Placed (m : Lent) (a : ℕ) : Type 0 where
  pub shape : refs_of (at m.heap a) < size_of (at m.heap a)
  pub fits : a + size_of (at m.heap a) ≤ a / m.rec.page * m.rec.page + m.rec.page
  pub inside : a + size_of (at m.heap a) ≤ length m.heap

pub placed : (m : Lent) (a : ℕ) → Layout m m.rec.page m.rec.pages → IsObject m a → Placed m a
placed m a y o =
    let M = met m.heap (page_steps m (a / m.rec.page)) a o.met in
    let w = page_within y (a / m.rec.page) o.in_use.high in
    record {
      shape = M.header.shape;
      fits = omega (arith, M.header.fits, M.upto);
      inside = omega (arith, M.header.fits, M.upto, w.0);
    }

-- ---- what is found, and object starts

-- an object start was found
abbrev pub was_start : Found → Bool
was_start (Start w) = true
was_start (Inside s) = false
was_start Nothing = false

and_no : (a b : Bool) → b ≡ false → (a && b) ≡ false
and_no true b e = e
and_no false b e = refl

module _ (h : List ℕ) (a : ℕ) where
  landing_start : (xs : List ℕ) → has a xs ≡ true → {z b room : ℕ} → Steps h b room xs z → landing h a xs ≡ Start (at h a)
  unfolding has landing
  landing_start [] e st = absurd (true≢false (sym e))
  landing_start (x ∷ xs) e (step {room = room} hd st) = go (eqb a x) refl e (λ t. landing_start xs t st)
    where
      past : has a xs ≡ true → (ltb x a && ltb a (x + size_of (at h x))) ≡ false
      past t = and_no (ltb x a) _ (le-ltb a (x + size_of (at h x)) (met h st a (has_mem a xs t)).from)

      go : (b : Bool) → eqb a x ≡ b → (b || has a xs) ≡ true → (has a xs ≡ true → landing h a xs ≡ Start (at h a))
          → cond b (Start (at h x)) (cond (ltb x a && ltb a (x + size_of (at h x))) (Inside x) (landing h a xs)) ≡ Start (at h a)
      go true q t ih = ap (λ (k : ℕ). Start (at h k)) (sym (eqb-true a x q))
      go false q t ih = rw (past t) (ih t)

  landing_none : (xs : List ℕ) → has a xs ≡ false → was_start (landing h a xs) ≡ false
  unfolding has landing
  landing_none [] e = refl
  landing_none (x ∷ xs) e = go (eqb a x) refl (ltb x a && ltb a (x + size_of (at h x))) e (landing_none xs)
    where
      go : (b : Bool) → eqb a x ≡ b → (i : Bool) → (b || has a xs) ≡ false → (has a xs ≡ false → was_start (landing h a xs) ≡ false)
          → was_start (cond b (Start (at h x)) (cond i (Inside x) (landing h a xs))) ≡ false
      go true q i t ih = t
      go false q true t ih = refl
      go false q false t ih = ih t

module _ (m : Lent) (a : ℕ) where
  -- an object start is found, with its header
  pub found_start : is_start m a ≡ true → found m a ≡ Start (at m.heap a)
  unfolding is_start found
  found_start e =
      let g = a / m.rec.page in
      rw (and_left (is_in_use m g) _ e) (landing_start m.heap a (starts m g) (and_right (is_in_use m g) _ e) (page_steps m g))

  pub found_none : is_start m a ≡ false → was_start (found m a) ≡ false
  unfolding is_start found
  found_none e = go (is_in_use m (a / m.rec.page)) e
    where
      go : (b : Bool) → (b && has a (starts m (a / m.rec.page))) ≡ false → was_start (cond b (landing m.heap a (starts m (a / m.rec.page))) Nothing) ≡ false
      go true t = landing_none m.heap a (starts m (a / m.rec.page)) t
      go false t = refl

  -- exactly at object starts
  pub found_is : was_start (found m a) ≡ is_start m a
  found_is = go (is_start m a) refl
    where
      go : (b : Bool) → is_start m a ≡ b → was_start (found m a) ≡ b
      go true e = ap was_start (found_start e)
      go false e = found_none e

  -- so a start that was found tells all of an object
  pub found_object : (w : ℕ) → found m a ≡ Start w → IsObject m a × (w ≡ at m.heap a)
  found_object w e =
      let b : is_start m a ≡ true = sym found_is ∙ ap was_start e in
      (start_says m a b, start_word (found_start b) e)
    where
      start_word : {x y : ℕ} {f : Found} → f ≡ Start x → f ≡ Start y → y ≡ x
      start_word p q = cc

-- no header stands at or past the page's end, or past the heap
pub no_header : (h : List ℕ) (b e : ℕ) → (e ≤ b) ⊎ (length h ≤ b) → is_header (at h b) (e - b) ≡ false
no_header h b e (inl p) = let z : e - b ≡ 0 = omega arith in rw z (header_full (at h b))
no_header h b e (inr p) = rw (get_or-eq_default h 0 p) (header_zero (e - b))

-- ---- what is found, by cases, in the order of the code's tests

module _ (m : Lent) (a : ℕ) where
  nothing : is_in_use m (a / m.rec.page) ≡ false → found m a ≡ Nothing
  unfolding found
  nothing e = rw e

  pub look_low : a / m.rec.page < 1 → found m a ≡ Nothing
  unfolding is_in_use
  look_low h = nothing (rw (lt-leb 1 (a / m.rec.page) h))

  pub look_no_page : m.rec.page ≡ 0 → found m a ≡ Nothing
  look_no_page e = look_low (rw (e, div-zero a) (omega arith))

  pub look_high : m.rec.pages ≤ a / m.rec.page → found m a ≡ Nothing
  unfolding is_in_use
  look_high h = nothing (rw (le-ltb (a / m.rec.page) m.rec.pages h) (and-false (leb 1 (a / m.rec.page))))

  pub look_label : at m.labels (a / m.rec.page) ≢ m.rec.label → found m a ≡ Nothing
  unfolding is_in_use
  look_label h = nothing (simp (ne_eqb _ _ h, and-false))
