-- The whole invariant, `Good`, and how a collection grows, `Grow`: forwarding keeps the one and does the other.
use Rattle.std.specs.Prelude.{◌≡◌, ◌⊎◌, Bool, cond, ℕ, suc, ◌+◌, ◌≤◌, ◌<◌, length}
use Rattle.std.proofs.Math.Path.{refl, sym, ap}
use Rattle.std.proofs.Common.{◌∙◌, subst, le_trans, leb-false}
use Rattle.std.proofs.Math.Logic.{inl, inr}
use Rattle.std.proofs.Math.Bool.{true, false}
use mathlib.Core.List.{[]}
use Rattle.std.proofs.Math.Nat.{le_refl}
use native.Mathlib.Omega.{arith}
use Rattle.std.proofs.Math.Dec.{leb}
use Rattle.std.proofs.Math.ListN.{length-append, get_or-append}
use Rattle.std.proofs.Math.Seq.{get_or-append_seam}
use Rattle.rules.specs.Ranges.{at}
use Rattle.rules.specs.Collection.{State, on_pages, Forwarded, take_page, with_room, top, put, can_copy, keep_page, forward}
use Rattle.rules.specs.Demands.{Becomes}
use Rattle.laws.specs.Safe.{SafeForward}
use Rattle.theory.specs.World.{Swept, becomes_map, page_of, label_of, size_at, refs_at, World, stay, Reach, Kept, stayed, went, Region, Inv}
use Rattle.theory.specs.Places.{some_words, kept_obj, kept_region}
use Rattle.theory.specs.Put.{Ready, put_inv, top_page, mem_new, kept_split}
use Rattle.theory.specs.Take.{Extends, ext_kept, take_back}
use Rattle.theory.specs.Keep.{Comes, kept_split as keep-split, keep_inv, keep_ext}
use Rattle.theory.specs.Forward.{Due, Avail, room_for, copied, keeping, How, idle, copies, keeps, Forwards, Opened, open_room, copy_ext, forward_forwards}
use Rattle.theory.proofs.Packs.{Packs, packs_within, packs_how}
use Rattle.theory.proofs.ForwardSafe.{forward_safe}
use Rattle.theory.specs.Upward.{Upward, copy_upward, keep_upward}
use Rattle.theory.specs.Stacked.{Stacked, stacked_same, copy_stacked}
use Rattle.theory.specs.Causes.{Causes, causes_how}
use Rattle.theory.specs.Tile.{Tiled, Lined, take_tiled, take_lined, put_tiled, put_lined, keep_tiled, keep_lined}

pub record Good (W : World) (s : State) : Type 0 where
  pub inv : Inv W s
  pub packs : Packs W s
  pub tiled : Tiled W s
  pub lined : Lined W s
  pub upward : Upward W s.pages
  pub stacked : Stacked W s
  pub causes : Causes W s
  pub filled : 0 < s.pages.fill

-- ---- growth

-- a place y that came into use after s: behind what was in use of its page, and that page among the last of the queue
pub record Fresh (W : World) (s t : State) (y : ℕ) : Type 0 where
  pub beyond : (w : ℕ) → Region W s w → page_of W w ≡ page_of W y → w < y
  pub at_end : (k : ℕ) × (length s.pages.queue ≤ suc k) × (k < length t.pages.queue) × (at t.pages.queue k ≡ page_of W y)

pub record Grow (W : World) (s t : State) : Type 0 where
  pub region : (w : ℕ) → Region W s w → Region W t w
  pub kept : (x y : ℕ) → Kept W s x y → Kept W t x y
  pub swept : (x y i : ℕ) → Kept W s x y → 0 < i → i ≤ refs_at W x → Swept W s x y i → Swept W t x y i
  pub fresh : (x y : ℕ) → Kept W t x y → Kept W s x y ⊎ Fresh W s t y
  -- pages join the queue at its end
  pub longer : length s.pages.queue ≤ length t.pages.queue
  pub prefix : (j : ℕ) → j < length s.pages.queue → at t.pages.queue j ≡ at s.pages.queue j

pub grow_refl : (W : World) (s : State) → Grow W s s
grow_refl W s = record {
  region = λ w r. r;
  kept = λ x y k. k;
  swept = λ x y i k l h p. p;
  fresh = λ x y k. inl k;
  longer = le_refl _;
  prefix = λ j h. refl;
}

pub grow_trans : (W : World) (s t u : State) → Grow W s t → Grow W t u → Grow W s u
grow_trans W s t u A B = record {
  region = λ w r. B.region w (A.region w r);
  kept = λ x y k. B.kept x y (A.kept x y k);
  swept = λ x y i k l h p. B.swept x y i (A.kept x y k) l h (A.swept x y i k l h p);
  fresh = λ x y k. go x y (B.fresh x y k);
  longer = le_trans A.longer B.longer;
  prefix = λ j h. B.prefix j (le_trans h A.longer) ∙ A.prefix j h;
}
  where
    before : (x y : ℕ) → Kept W s x y ⊎ Fresh W s t y → Kept W s x y ⊎ Fresh W s u y
    before x y (inl k) = inl k
    before x y (inr F) =
        let (k, a, b, e) = F.at_end in
        inr (record { beyond = F.beyond; at_end = (k, a, le_trans b B.longer, B.prefix k b ∙ e) })

    go : (x y : ℕ) → Kept W t x y ⊎ Fresh W t u y → Kept W s x y ⊎ Fresh W s u y
    go x y (inl k) = before x y (A.fresh x y k)
    go x y (inr F) =
        let (k, a, b, e) = F.at_end in
        inr (record { beyond = λ w r q. F.beyond w (A.region w r) q; at_end = (k, le_trans A.longer a, b, e) })

pub kept_reach : (W : World) (s : State) → Inv W s → (x y : ℕ) → Kept W s x y → Reach W s x
kept_reach W s I x y (stayed q e) = stay q
kept_reach W s I x y (went m mem ex ey) = subst (Reach W s) (sym ex) (I.moved m mem).reached

-- what is swept stays so
ext_swept : (W : World) (s t : State) → Inv W s → Extends W s t → (a b i : ℕ) → Kept W s a b → 0 < i → i ≤ refs_at W a → Swept W s a b i → Swept W t a b i
ext_swept W s t I E a b i k l h p =
    let r : Region W s (b + i) = kept_region W s I a b i k (omega (arith, W.shape a (kept_obj W s I a b k))) in
    rw (E.words (b + i) r) (becomes_map (ext_kept W s t E) _ _ p)

-- ---- an object copied

module _ (W : World) (s : State) (G : Good W s) (x : ℕ) (D : Due W s x) (av : Avail W s (size_at W x)) where
  abbrev t : State
  t = room_for W s x

  abbrev t' : State
  t' = copied W s x

  record Room (t : State) : Type 0 where
    tiled : Tiled W t
    lined : Lined W t
    unkept : t.pages.kept ≡ 0
    longer : length s.pages.queue ≤ length t.pages.queue
    prefix : (j : ℕ) → j < length s.pages.queue → at t.pages.queue j ≡ at s.pages.queue j
    back : (a b : ℕ) → Kept W t a b → Kept W s a b

  room : Room t
  unfolding with_room take_page
  room = go (leb (s.pages.fill + size_at W x) W.plan.page) refl
    where
      go : (b : Bool) → leb (s.pages.fill + size_at W x) W.plan.page ≡ b → Room (on_pages s (cond b s.pages (take_page W.plan s.pages)))
      go true e = record { tiled = G.tiled; lined = G.lined; unkept = av.unkept; longer = le_refl _; prefix = λ j h. refl; back = λ a b k. k }
      go false e =
          let L = av.page (leb-false _ _ e) in
          record {
            tiled = take_tiled W s G.inv av.unkept L G.filled G.tiled;
            lined = take_lined W s G.inv av.unkept L G.lined;
            unkept = av.unkept;
            longer = rw length-append (omega arith);
            prefix = λ j h. get_or-append s.pages.queue _ 0 j h;
            back = take_back W s G.inv av.unkept L;
          }

  O : Opened W s G.inv x D av t
  O = open_room W s G.inv x D av

  abbrev R : Ready W t x
  R = O.ready

  E : Extends W s t'
  E = copy_ext W s G.inv x D av

  copy_good : Good W t'
  unfolding put
  copy_good = record {
    inv = put_inv W t x R;
    packs = packs_how W s x t' G.inv G.packs (copies D av refl);
    tiled = put_tiled W t x R room.tiled;
    lined = put_lined W t x R room.lined;
    upward = copy_upward W s G.inv x av G.upward;
    stacked = copy_stacked W s G.inv G.upward G.stacked G.filled x D av;
    causes = causes_how W s x t' G.inv (packs_within W s G.packs) G.causes (copies D av refl);
    filled = omega (arith, some_words W x D.object);
  }

  -- where it goes: the last page of the queue
  abbrev y : ℕ
  y = top W.plan t.pages

  pub copy_last : (l : ℕ) × (length t'.pages.queue ≡ suc l) × (at t'.pages.queue l ≡ page_of W y)
  unfolding put
  copy_last =
      let (l, len, e) = room.lined.last room.unkept (omega (arith, some_words W x D.object, R.room)) in
      (l, len, e ∙ sym (top_page W t x R))

  -- it is retained there, and else what was retained before
  pub copy_kept : Kept W t' x y
  copy_kept = went (record { from = x; to = y }) (mem_new W t x R) refl refl

  pub copy_split : (a b : ℕ) → Kept W t' a b → Kept W s a b ⊎ ((a ≡ x) × (b ≡ y))
  copy_split a b k = go (kept_split W t x R a b k)
    where
      go : Kept W t a b ⊎ ((a ≡ x) × (b ≡ y)) → Kept W s a b ⊎ ((a ≡ x) × (b ≡ y))
      go (inl k) = inl (room.back a b k)
      go (inr e) = inr e

  copy_grow : Grow W s t'
  unfolding put
  copy_grow = record {
    region = E.region;
    kept = ext_kept W s t' E;
    swept = ext_swept W s t' G.inv E;
    fresh = λ a b k. fresh a b (copy_split a b k);
    longer = room.longer;
    prefix = room.prefix;
  }
    where
      fresh : (a b : ℕ) → Kept W s a b ⊎ ((a ≡ x) × (b ≡ y)) → Kept W s a b ⊎ Fresh W s t' b
      fresh a b (inl k) = inl k
      fresh a b (inr (ea, eb)) =
          let (l, len, e) = copy_last in
          inr (record {
            beyond = λ w r q. rw eb ((O.ext.region w r).below (q ∙ ap (page_of W) eb ∙ top_page W t x R));
            at_end = (l, omega (arith, room.longer), omega arith, e ∙ ap (page_of W) (sym eb));
          })

-- ---- its page kept

module _ (W : World) (s : State) (G : Good W s) (x : ℕ) (D : Due W s x) (cant : can_copy W.plan (size_at W x) s.pages ≡ false) where
  abbrev k' : State
  k' = keeping W s x

  within : s.pages.kept ≤ length s.pages.queue
  within = packs_within W s G.packs

  keep_good : Good W k'
  unfolding keep_page
  keep_good = record {
    inv = keep_inv W s G.inv x D.object D.old within;
    packs = packs_how W s x k' G.inv G.packs (keeps D cant refl);
    tiled = keep_tiled W s G.inv x D.object D.old within G.tiled;
    lined = keep_lined W s G.inv x D.object D.old within G.lined;
    upward = keep_upward W s G.inv within x D G.upward;
    stacked = stacked_same W s k' refl refl refl G.stacked;
    causes = causes_how W s x k' G.inv within G.causes (keeps D cant refl);
    filled = G.filled;
  }

  KE : Extends W s k'
  KE = keep_ext W s G.inv x D.object D.old within

  keep_grow : Grow W s k'
  unfolding keep_page
  keep_grow = record {
    region = KE.region;
    kept = ext_kept W s k' KE;
    swept = ext_swept W s k' G.inv KE;
    fresh = λ a b k. fresh a b (keep-split W s G.inv x D.object D.old within a b k);
    longer = rw length-append (omega arith);
    prefix = λ j h. get_or-append s.pages.queue _ 0 j h;
  }
    where
      -- none of its words was in use so far, and it is the last page of the queue
      fresh : (a b : ℕ) → Kept W s a b ⊎ Comes W s G.inv x D.object D.old within a b → Kept W s a b ⊎ Fresh W s k' b
      fresh a b (inl k) = inl k
      fresh a b (inr N) =
          let pg : page_of W b ≡ page_of W x = ap (page_of W) N.here ∙ N.page in
          inr (record {
            beyond = λ w r q. absurd (W.new≢old (sym r.label ∙ ap (at s.pages.labels) (q ∙ pg) ∙ D.old));
            at_end = (length s.pages.queue, omega arith, rw length-append (omega arith), get_or-append_seam s.pages.queue (page_of W x) [] 0 ∙ sym pg);
          })

-- ---- forwarding, in all

pub how_good : (W : World) (s : State) (v : ℕ) (t : State) → Good W s → How W s v t → Good W t
how_good W s v t G (idle u p e) = subst (Good W) (sym e) G
how_good W s v t G (copies D av e) = subst (Good W) (sym e) (copy_good W s G v D av)
how_good W s v t G (keeps D cant e) = subst (Good W) (sym e) (keep_good W s G v D cant)

pub how_grow : (W : World) (s : State) (v : ℕ) (t : State) → Good W s → How W s v t → Grow W s t
how_grow W s v t G (idle u p e) = subst (Grow W s) (sym e) (grow_refl W s)
how_grow W s v t G (copies D av e) = subst (Grow W s) (sym e) (copy_grow W s G v D av)
how_grow W s v t G (keeps D cant e) = subst (Grow W s) (sym e) (keep_grow W s G v D cant)

-- a state reached, with the value that v has become; and it was safe to go there
pub record Went (W : World) (s : State) (v : ℕ) (f : Forwarded) (Safe : Type 0) : Type 0 where
  pub safe : Safe
  pub good : Good W f.state
  pub grow : Grow W s f.state
  pub becomes : Becomes (Kept W f.state) v f.value
  pub how : How W s v f.state

pub forward_went : (W : World) (s : State) → Good W s → (v : ℕ) → (v ≡ 0) ⊎ (W.Obj v × Reach W s v) → Went W s v (forward W.plan v s) (SafeForward W.plan v s)
forward_went W s G v h =
    let F : Forwards W s v (forward W.plan v s) = forward_forwards W s G.inv (packs_within W s G.packs) v h in
    record {
      safe = forward_safe W s G.inv G.packs G.lined.queued v (either h);
      good = how_good W s v _ G F.how;
      grow = how_grow W s v _ G F.how;
      becomes = F.becomes;
      how = F.how;
    }
  where
    either : (v ≡ 0) ⊎ (W.Obj v × Reach W s v) → (v ≡ 0) ⊎ ((W.Obj v × Reach W s v) ⊎ (label_of W s v ≡ W.plan.new))
    either (inl e) = inl e
    either (inr k) = inr (inl k)
