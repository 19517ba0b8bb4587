-- Forwarding keeps the invariant. What it did is one of three things: nothing, one object copied, or its page kept; each further
-- invariant is proved from that.
use Rattle.std.specs.Prelude.{◌≡◌, ◌⊎◌, Bool, ◌&&◌, ◌||◌, ℕ, ◌+◌, ◌*◌, ◌/◌, ◌%◌, ◌≤◌, ◌<◌, eqb, leb, ltb, length}
use Rattle.std.proofs.Math.Path.{refl, ap}
use Rattle.std.proofs.Common.{sym, ◌∙◌, inl, inr, true≢false, add-zero}
use Rattle.std.proofs.Math.Bool.{true, false, cond}
use Rattle.std.proofs.Math.Nat.{mul-div_cancel_left}
use native.Mathlib.Omega.{arith}
use borrow.Author.Tests.{eqb-true, eq-eqb, ne_eqb, leb-true, leb-false, ltb-true, ltb-false}
use Rattle.rules.specs.Ranges.{at}
use Rattle.rules.specs.Header.{size_of}
use Rattle.rules.specs.Pages.{lowest_free}
use Rattle.rules.specs.Collection.{State, on_pages, Forwarded, take_page, with_room, top, put, copy_object, can_copy, keep_page, keep_object, forward}
use Rattle.rules.specs.Demands.{Becomes}
use Rattle.laws.specs.FreePages.{Lowest, lowest_found}
use Rattle.theory.specs.World.{page_of, label_of, size_at, World, Place, reach_up, Gone, NotGone, AsBefore, Reach, Kept, stayed, went, Inv}
use Rattle.theory.specs.Places.{unkept_standing, some_words, obj_label, kept_obj, kept_label, gone_or_not}
use Rattle.theory.specs.Put.{Ready, put_inv, mem_new}
use Rattle.theory.specs.Take.{Extends, ext_refl, ext_trans, put_ext, take_inv, take_ext, label_up}
use Rattle.theory.specs.Keep.{keep_inv, keep_ext, label_there}

-- an object that is due to be copied, or else its page to be kept: reached, on a page with the old label, not copied yet
pub record Due (W : World) (s : State) (x : ℕ) : Type 0 where
  pub object : W.Obj x
  pub old : label_of W s x ≡ W.plan.old
  pub reached : Reach W s x
  pub same : AsBefore W s x

-- it has its header still, and so is not retained so far
due_header : (W : World) (s : State) (x : ℕ) → Due W s x → at s.heap x ≡ at W.heap x
due_header W s x D = simp add-zero at (D.same 0 (some_words W x D.object))

pub due_not_gone : (W : World) (s : State) → Inv W s → (x : ℕ) → Due W s x → NotGone s x
due_not_gone W s I x D m mem q =
    let a : at s.heap m.from ≡ 2 * m.to = (I.moved m mem).planted in
    let f : at s.heap m.from ≡ at s.heap x = ap (at s.heap) q in
    omega (arith, due_header W s x D, W.odd x D.object)

pub due_not_kept : (W : World) (s : State) → Inv W s → (x y : ℕ) → Due W s x → Kept W s x y → ⊥
due_not_kept W s I x y D (stayed q e) = W.new≢old (sym q.label ∙ D.old)
due_not_kept W s I x y D (went m mem ex ey) = due_not_gone W s I x D m mem (sym ex)

-- n words can be copied: no page is kept so far, and a page is there if they do not fit the copy page
pub record Avail (W : World) (s : State) (n : ℕ) : Type 0 where
  pub unkept : s.pages.kept ≡ 0
  pub page : W.plan.page < s.pages.fill + n → Lowest s.pages.labels W.plan.lo W.plan.hi

-- the test tells that
pub can_says : (W : World) (s : State) (n : ℕ) → can_copy W.plan n s.pages ≡ true → Avail W s n
unfolding can_copy
can_says W s n = go (eqb s.pages.kept 0) refl (leb (s.pages.fill + n) W.plan.page) refl (ltb (lowest_free s.pages.labels W.plan.lo W.plan.hi) W.plan.hi) refl
  where
    go : (u : Bool) → eqb s.pages.kept 0 ≡ u → (a : Bool) → leb (s.pages.fill + n) W.plan.page ≡ a
        → (b : Bool) → ltb (lowest_free s.pages.labels W.plan.lo W.plan.hi) W.plan.hi ≡ b → (u && (a || b)) ≡ true → Avail W s n
    go true e true ea b eb q = record { unkept = eqb-true _ _ e; page = λ lt. absurd (omega (arith, leb-true (s.pages.fill + n) W.plan.page ea)) }
    go true e false ea true eb q = record { unkept = eqb-true _ _ e; page = λ lt. lowest_found _ _ _ (ltb-true _ _ eb) }
    go true e false ea false eb q = absurd (true≢false (sym q))
    go false e a ea b eb q = absurd (true≢false (sym q))

-- and where it fails and no page is kept, they do not fit the copy page and no page is free
pub cannot_says : (W : World) (s : State) (n : ℕ) → s.pages.kept ≡ 0 → can_copy W.plan n s.pages ≡ false
    → (W.plan.page < s.pages.fill + n) × (W.plan.hi ≤ lowest_free s.pages.labels W.plan.lo W.plan.hi)
unfolding can_copy
cannot_says W s n e q = go (leb (s.pages.fill + n) W.plan.page) refl (ltb (lowest_free s.pages.labels W.plan.lo W.plan.hi) W.plan.hi) refl (rw (eq-eqb s.pages.kept 0 e) at q)
  where
    go : (a : Bool) → leb (s.pages.fill + n) W.plan.page ≡ a → (b : Bool) → ltb (lowest_free s.pages.labels W.plan.lo W.plan.hi) W.plan.hi ≡ b
        → (true && (a || b)) ≡ false → (W.plan.page < s.pages.fill + n) × (W.plan.hi ≤ lowest_free s.pages.labels W.plan.lo W.plan.hi)
    go true ea b eb q = absurd (true≢false q)
    go false ea true eb q = absurd (true≢false q)
    go false ea false eb q = (leb-false _ _ ea, ltb-false _ _ eb)

-- with room for x
abbrev pub room_for : World → State → ℕ → State
room_for W s x = on_pages s (with_room W.plan (size_at W x) s.pages)

-- with x copied
abbrev pub copied : World → State → ℕ → State
copied W s x = put W.plan (size_at W x) x (room_for W s x).pages (room_for W s x)

-- with its page kept
abbrev pub keeping : World → State → ℕ → State
keeping W s x = on_pages s (keep_page W.plan (page_of W x) s.pages)

-- no more pages are kept than are in the queue
abbrev pub Within : State → Type 0
Within s = s.pages.kept ≤ length s.pages.queue

-- what forwarding v did to the state: nothing, where v is 0 or retained already; v copied; or its page kept
pub data How (W : World) (s : State) (v : ℕ) (t : State) : Type 0 where
  idle : (u : ℕ) → Becomes (Kept W s) v u → t ≡ s → How W s v t
  copies : Due W s v → Avail W s (size_at W v) → t ≡ copied W s v → How W s v t
  keeps : Due W s v → can_copy W.plan (size_at W v) s.pages ≡ false → t ≡ keeping W s v → How W s v t

pub record Forwards (W : World) (s : State) (v : ℕ) (f : Forwarded) : Type 0 where
  pub inv : Inv W f.state
  pub ext : Extends W s f.state
  pub becomes : Becomes (Kept W f.state) v f.value
  pub how : How W s v f.state

-- ---- an object copied

module _ (W : World) (s : State) (I : Inv W s) (x : ℕ) (D : Due W s x) (av : Avail W s (size_at W x)) where
  pub record Opened (t : State) : Type 0 where
    pub ready : Ready W t x
    pub ext : Extends W s t

  pub open_room : Opened (room_for W s x)
  unfolding with_room
  open_room = go (leb (s.pages.fill + size_at W x) W.plan.page) refl
    where
      more : W.plan.page < s.pages.fill + size_at W x → Opened (on_pages s (take_page W.plan s.pages))
      more lt = record {
        ready = record {
          inv = take_inv W s I av.unkept (av.page lt);
          object = D.object;
          old = unfold take_page in (label_up W s I av.unkept (av.page lt) (page_of W x) (λ q. W.old≢0 (sym D.old ∙ q)) ∙ D.old);
          reached = reach_up W s _ (take_ext W s I av.unkept (av.page lt)).stays (take_ext W s I av.unkept (av.page lt)).moves D.reached;
          same = D.same;
          room = unfold take_page in (let h : 0 + size_at W x ≤ W.plan.page = omega (arith, W.fits x D.object) in h);
        };
        ext = take_ext W s I av.unkept (av.page lt);
      }

      go : (b : Bool) → leb (s.pages.fill + size_at W x) W.plan.page ≡ b → Opened (on_pages s (cond b s.pages (take_page W.plan s.pages)))
      go true e = record {
        ready = record { inv = I; object = D.object; old = D.old; reached = D.reached; same = D.same; room = leb-true _ _ e };
        ext = ext_refl W s;
      }
      go false e = more (leb-false _ _ e)

  -- what was there before stays
  pub copy_ext : Extends W s (copied W s x)
  copy_ext = ext_trans W s (room_for W s x) _ open_room.ext (put_ext W (room_for W s x) x open_room.ready)

  -- what copying gives
  copy_is : copy_object W.plan x s ≡ record { value = top W.plan (room_for W s x).pages; state = copied W s x }
  unfolding copy_object put
  copy_is = rw (due_header W s x D)

  copy_forwards : Forwards W s x (record { value = top W.plan (room_for W s x).pages; state = copied W s x })
  copy_forwards = record {
    inv = put_inv W (room_for W s x) x R;
    ext = copy_ext;
    becomes = inr (went (record { from = x; to = top W.plan (room_for W s x).pages }) (mem_new W (room_for W s x) x R) refl refl);
    how = copies D av refl;
  }
    where
      R : Ready W (room_for W s x) x
      R = open_room.ready

-- ---- its page kept

module _ (W : World) (s : State) (I : Inv W s) (within : Within s) (x : ℕ) (D : Due W s x) (cant : can_copy W.plan (size_at W x) s.pages ≡ false) (not_gone : NotGone s x) where
  keep_is : keep_object W.plan x s ≡ record { value = x; state = keeping W s x }
  unfolding keep_object
  keep_is = refl

  keep_forwards : Forwards W s x (record { value = x; state = keeping W s x })
  keep_forwards = record {
    inv = keep_inv W s I x D.object D.old within;
    ext = keep_ext W s I x D.object D.old within;
    becomes = inr (stayed (record { object = D.object; label = unfold keep_page in label_there W s I x D.object D.old within; not_gone = not_gone }) refl);
    how = keeps D cant refl;
  }

-- ---- forwarding

module _ (W : World) (s : State) (I : Inv W s) where
  -- a retained object's address gives itself
  pub forward_self : (v u : ℕ) → Kept W s v u → forward W.plan u s ≡ record { value = u; state = s }
  unfolding forward
  forward_self v u K =
      rw (ne_eqb (at s.heap u % 2) 0 odd, eq-eqb (label_of W s u) W.plan.new (kept_label W s I v u K)) (go (eqb u 0) refl)
    where
      odd : at s.heap u % 2 ≡ 0 → ⊥
      odd e = let h : at s.heap u ≡ at W.heap v = I.header v u K in omega (arith, W.odd v (kept_obj W s I v u K))

      go : (b : Bool) → eqb u 0 ≡ b → ◌≡◌ {A = Forwarded} (cond b (record { value = 0; state = s }) (record { value = u; state = s })) (record { value = u; state = s })
      go true q = ap {B = Forwarded} (λ (k : ℕ). record { value = k; state = s }) (sym (eqb-true u 0 q))
      go false q = refl

  idles : (v u : ℕ) → Becomes (Kept W s) v u → Forwards W s v (record { value = u; state = s })
  idles v u p = record { inv = I; ext = ext_refl W s; becomes = p; how = idle u p refl }

  -- an object that was not copied has its header
  pub not_gone_header : (v : ℕ) → W.Obj v → NotGone s v → at s.heap v ≡ at W.heap v
  not_gone_header v ob n = go (obj_label W s I v ob)
    where
      old : Gone s v ⊎ AsBefore W s v → at s.heap v ≡ at W.heap v
      old (inl (m, mem, e)) = absurd (n m mem (sym e))
      old (inr f) = simp add-zero at (f 0 (some_words W v ob))

      go : (label_of W s v ≡ W.plan.old) ⊎ (label_of W s v ≡ W.plan.new) → at s.heap v ≡ at W.heap v
      go (inl l) = old (I.unmoved v ob l)
      go (inr l) = I.header v v (stayed (record { object = ob; label = l; not_gone = n }) refl)

  -- an object that is reached
  module _ (within : Within s) (v : ℕ) (ob : W.Obj v) (rc : Reach W s v) where
    abbrev Goal : Type 0
    Goal = Forwards W s v (forward W.plan v s)

    -- copied already: it is reached at its copy
    gone : Gone s v → Goal
    unfolding forward
    gone (m, mem, eq) =
        let a : at s.heap v ≡ 2 * m.to = ap (at s.heap) eq ∙ (I.moved m mem).planted in
        let even : at s.heap v % 2 ≡ 0 = omega arith in
        rw (ne_eqb v 0 (W.nonzero v ob), eq-eqb (at s.heap v % 2) 0 even)
        (idles v (at s.heap v / 2) (inr (went m mem eq (ap (λ (k : ℕ). k / 2) a ∙ mul-div_cancel_left m.to (omega arith)))))

    module _ (n : NotGone s v) where
      odd : at s.heap v % 2 ≡ 0 → ⊥
      odd e = omega (arith, W.odd v ob, not_gone_header v ob n)

      -- on a page with the new label: it stays
      new : label_of W s v ≡ W.plan.new → Goal
      unfolding forward
      new l =
          rw (ne_eqb v 0 (W.nonzero v ob), ne_eqb (at s.heap v % 2) 0 odd, eq-eqb (label_of W s v) W.plan.new l)
          (idles v v (inr (stayed (record { object = ob; label = l; not_gone = n }) refl)))

      -- else it is copied, or its page is kept
      module _ (l : label_of W s v ≡ W.plan.old) where
        due : Gone s v ⊎ AsBefore W s v → Due W s v
        due (inl (m, mem, e)) = absurd (n m mem (sym e))
        due (inr f) = record { object = ob; old = l; reached = rc; same = f }

        D : Due W s v
        D = due (I.unmoved v ob l)

        test : can_copy W.plan (size_of (at s.heap v)) s.pages ≡ can_copy W.plan (size_at W v) s.pages
        test = ap (λ (w : ℕ). can_copy W.plan (size_of w) s.pages) (not_gone_header v ob n)

        not_new : label_of W s v ≡ W.plan.new → ⊥
        not_new z = W.new≢old (sym z ∙ l)

        old : (b : Bool) → can_copy W.plan (size_at W v) s.pages ≡ b → Goal
        unfolding forward
        old true q =
            let av : Avail W s (size_at W v) = can_says W s (size_at W v) q in
            rw (ne_eqb v 0 (W.nonzero v ob), ne_eqb (at s.heap v % 2) 0 odd, ne_eqb (label_of W s v) W.plan.new not_new, test ∙ q)
            (rw (copy_is W s I v D av) (copy_forwards W s I v D av))
        old false q =
            rw (ne_eqb v 0 (W.nonzero v ob), ne_eqb (at s.heap v % 2) 0 odd, ne_eqb (label_of W s v) W.plan.new not_new, test ∙ q)
            (rw (keep_is W s I within v D q n) (keep_forwards W s I within v D q n))

    reached_forwards : Gone s v ⊎ NotGone s v → Goal
    reached_forwards (inl g) = gone g
    reached_forwards (inr n) = label (obj_label W s I v ob)
      where
        label : (label_of W s v ≡ W.plan.old) ⊎ (label_of W s v ≡ W.plan.new) → Goal
        label (inl l) = old n l (can_copy W.plan (size_at W v) s.pages) refl
        label (inr l) = new n l

  pub forward_forwards : Within s → (v : ℕ) → (v ≡ 0) ⊎ (W.Obj v × Reach W s v) → Forwards W s v (forward W.plan v s)
  unfolding forward
  forward_forwards within v (inl z) = rw (eq-eqb v 0 z) (idles v 0 (inl (z, refl)))
  forward_forwards within v (inr (ob, rc)) = reached_forwards within v ob rc (gone_or_not W s v)

-- ---- document 01's order

module _ (W : World) (s : State) (I : Inv W s) (unkept : s.pages.kept ≡ 0) (x v : ℕ) (P : Place W s x v) where
  -- where no page is kept, no object on a page with the new label has been copied
  new_odd : label_of W s v ≡ W.plan.new → at s.heap v % 2 ≡ 0 → ⊥
  new_odd l even =
      let k : Kept W s x v = unkept_standing W s I unkept x v l P in
      let h : at s.heap v ≡ at W.heap x = I.header x v k in
      omega (arith, W.odd x (kept_obj W s I x v k))

  -- so it makes no difference that a copy is asked for before the label, where document 01 has the label first
  pub order_agrees : forward W.plan v s ≡ cond (eqb v 0) (record { value = 0; state = s })
      (cond (eqb (label_of W s v) W.plan.new) (record { value = v; state = s })
      (cond (eqb (at s.heap v % 2) 0) (record { value = at s.heap v / 2; state = s })
      (cond (can_copy W.plan (size_of (at s.heap v)) s.pages) (copy_object W.plan v s) (keep_object W.plan v s))))
  unfolding forward
  order_agrees = go (eqb (at s.heap v % 2) 0) refl (eqb (label_of W s v) W.plan.new) refl
    where
      rest : Forwarded
      rest = cond (can_copy W.plan (size_of (at s.heap v)) s.pages) (copy_object W.plan v s) (keep_object W.plan v s)

      go : (e : Bool) → eqb (at s.heap v % 2) 0 ≡ e → (l : Bool) → eqb (label_of W s v) W.plan.new ≡ l
          → ◌≡◌ {A = Forwarded} (cond (eqb v 0) (record { value = 0; state = s }) (cond e (record { value = at s.heap v / 2; state = s }) (cond l (record { value = v; state = s }) rest)))
          (cond (eqb v 0) (record { value = 0; state = s }) (cond l (record { value = v; state = s }) (cond e (record { value = at s.heap v / 2; state = s }) rest)))
      go true e true l = absurd (new_odd (eqb-true _ _ l) (eqb-true _ _ e))
      go true e false l = refl
      go false e true l = refl
      go false e false l = refl
