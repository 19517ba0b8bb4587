-- The pairing of an accepted collection: each object that was reached with where it stands now. It is faithful, and nothing
-- else remains but the fillers.
use Rattle.std.specs.Prelude.{◌≡◌, ◌≢◌, ◌⊎◌, length, take}
use Rattle.std.proofs.Math.Path.{refl, ap, subst}
use Rattle.std.proofs.Common.{sym, ◌∙◌}
use Rattle.std.proofs.Math.Logic.{inl, inr}
use mathlib.Core.List.Memᴰ
use mathlib.Core.List.{List, [], Memᴰ}
use Prim.Native.Nat.{ℕ, suc, ◌+◌, ◌*◌, ◌-◌, ◌/◌, ◌≤◌, ◌<◌}
use native.Mathlib.Omega.{arith}
use Rattle.rules.specs.Ranges.{at}
use Rattle.rules.specs.Header.{size_of, refs_of}
use Rattle.rules.specs.Pages.{other_label}
use Rattle.rules.specs.Lent.{Lent}
use Rattle.rules.specs.Sound.{InUse, IsObject, refs, payload, Sound}
use Rattle.rules.specs.Collection.{logged, Move, State, Collection, plan_of, kept_pages, collection}
use Rattle.rules.specs.Collect.{CollectOutcome, accepted_collect}
use Rattle.rules.specs.Demands.{Hinted, ReachedBy, staying, by_root, by_reference, Reached, Becomes, Paired, HoldsCopy, OnHintedOrKept, Moved, ReachedKeeping, KeptFor, LastFree, Overfills, Keeps, Fills, Faithful}
use Rattle.laws.specs.Walk.{size}
use Rattle.laws.specs.Pages.{first_on_page}
use Rattle.theory.specs.Sums.{mem_at}
use Rattle.theory.specs.KeptPages.{kept_length, kept_once}
use Rattle.theory.specs.World.{becomes_map, World, Live, root, stay, ref, Gone, NotGone, Stays, Kept, stayed, went, Place, home, away, KeptPage}
use Rattle.theory.specs.Places.{SameOrApart, some_words, Standing, there, left, gone_or_not, hinted_label, old_new_kept, kept_obj, kept_apart, kept_from}
use Rattle.theory.proofs.Packs.{packs_within}
use Rattle.theory.specs.Causes.{StaysBy, ReachedBy as ReachedWith, Cause}
use Rattle.theory.proofs.Good.{kept_reach}
use Rattle.theory.specs.Fillers.{filler_size, filler_refs}
use Rattle.laws.specs.Collect.{Ready}
use Rattle.theory.specs.SoundHeap.{other≢label, in_use, object_nonzero}
use Rattle.laws.specs.Objects.{page_pos}
use Rattle.laws.specs.Valid.{label_pos}
use Rattle.theory.proofs.FirstState.{world, hinted_new, new_hinted, used_kind, free_stays}
use Rattle.theory.proofs.Run.{W as world_of, r as rooted_of, t as swept_of, roots_done, all_done}
use Rattle.theory.proofs.After.{m' as lent_of, inv, tiled, copy_stop, after_sound, F as filled_of, first_place, kept_object, object_standing, left_object, left_header, left_zeros, kept_word, kept_header, kept_reference, new_in_use, in_use_new}
use Rattle.theory.specs.Plainly.{unlogged}
use Rattle.theory.proofs.Taken.{free_taken, taken_in_use, last_copy}

module _ (m : Lent) (roots hints : List ℕ) (A : Ready m roots) where
  abbrev S : Sound m
  S = A.sound

  abbrev W : World
  W = world_of m roots hints A

  abbrev s : State
  s = swept_of m roots hints A

  abbrev m' : Lent
  m' = lent_of m roots hints A

  abbrev new : ℕ
  new = other_label m.rec.label

  -- what the collection leaves; the moves play no part in it
  abbrev pub told : Collection
  told = unlogged (collection logged m roots hints)

  abbrev pub outcome : CollectOutcome
  outcome = accepted_collect told

  -- the pages kept
  abbrev kept : List ℕ
  kept = kept_pages (swept_of m roots hints A).pages

  abbrev pub Pairs : ℕ → ℕ → Type 0
  Pairs = Kept (world_of m roots hints A) (swept_of m roots hints A)

  -- ---- what stays is what is on hinted pages, and what is uncopied on those kept

  moved_unhinted : (j : Move) → Memᴰ j s.moves → Hinted m hints (j.from / m.rec.page) → ⊥
  unfolding world plan_of
  moved_unhinted j mem h = other≢label m S (sym (hinted_new m roots hints A (j.from / m.rec.page) h) ∙ ((inv m roots hints A).moved j mem).old)

  pub hinted_stays : (x : ℕ) → IsObject m x → Hinted m hints (x / m.rec.page) → Stays W s x
  unfolding world plan_of
  hinted_stays x ob h = record {
    object = ob;
    label = hinted_label W s (inv m roots hints A) (x / m.rec.page) (hinted_new m roots hints A (x / m.rec.page) h);
    not_gone = λ j mem z. moved_unhinted j mem (subst (λ (w : ℕ). Hinted m hints (w / m.rec.page)) (sym z) h);
  }

  kept_was_used : (g : ℕ) → KeptPage W s g → InUse m g
  unfolding world plan_of
  kept_was_used g k = go (S.labels g)
    where
      go : (at m.labels g ≡ 0) ⊎ (at m.labels g ≡ m.rec.label) → InUse m g
      go (inl e) = absurd (label_pos m S.valid (sym k.old ∙ free_stays m roots hints A g e))
      go (inr e) = in_use m S g e

  kept_unhinted : (g : ℕ) → KeptPage W s g → Hinted m hints g → ⊥
  unfolding world plan_of
  kept_unhinted g k h = other≢label m S (sym (hinted_new m roots hints A g h) ∙ k.old)

  -- a page that was in use and has the new label was hinted, or is kept
  new_page : (g : ℕ) → InUse m g → at s.pages.labels g ≡ new → Hinted m hints g ⊎ KeptPage W s g
  unfolding world plan_of
  new_page g u e = go (used_kind m roots hints A g u.label)
    where
      go : (at W.labels g ≡ m.rec.label) ⊎ (at W.labels g ≡ new) → Hinted m hints g ⊎ KeptPage W s g
      go (inl q) = inr (old_new_kept W s (inv m roots hints A) g q e)
      go (inr q) = inl (new_hinted m roots hints A g q)

  hinted_same : (x y : ℕ) → Pairs x y → Hinted m hints (x / m.rec.page) → y ≡ x
  hinted_same x y (stayed q e) h = e
  hinted_same x y (went j mem ex ey) h = absurd (moved_unhinted j mem (subst (λ (w : ℕ). Hinted m hints (w / m.rec.page)) ex h))

  -- ---- what is reached is paired, and nothing else

  paired : (x v u : ℕ) → x ≡ v → x ≢ 0 → Becomes Pairs v u → (y : ℕ) × Pairs x y
  paired x v u e nz (inl q) = absurd (nz (e ∙ q.0))
  paired x v u e nz (inr K) = (u, subst (λ (a : ℕ). Pairs a u) (sym e) K)

  root_becomes : (j : ℕ) → j < length roots → Becomes Pairs (at roots j) (at (rooted_of m roots hints A).roots j)
  root_becomes j h = becomes_map (all_done m roots hints A).grow.kept _ _ ((roots_done m roots hints A).becomes j h)

  reached : {x : ℕ} → Reached m roots (OnHintedOrKept m hints kept Pairs) x → (y : ℕ) × Pairs x y
  reached (staying {x = x} ob (inl h)) = (x, stayed (hinted_stays x ob h) refl)
  reached (staying {x = x} ob (inr q)) = (x, q.stayed)
  reached (by_root {x = x} ob mem) = let (j, lt, e) = mem_at roots x mem in paired x (at roots j) _ (sym e) (object_nonzero m S x ob) (root_becomes j lt)
  reached (by_reference {x = x} z i lv u h e ob) = let (y, K) = reached lv in paired x (payload m z i) _ e (object_nonzero m S x ob) (kept_reference m roots hints A z y i K h)

  live_reached : {Stay Stay' Via Via' : ℕ → Type 0} → ((x : ℕ) → Stay x → IsObject m x × Stay' x)
      → ((x : ℕ) → Via x → Via' x)
      → {x : ℕ} → Live m.heap (IsObject m) (λ x. IsObject m x × Memᴰ x roots) Stay Via x
      → ReachedBy m roots Stay' Via' x
  live_reached f g (root (ob, mem)) = by_root ob mem
  live_reached f g (stay {x = x} q) = let (ob, z) = f x q in staying ob z
  live_reached f g (ref z i lv v low high e ob) =
      let q : z + i ≡ z + 1 + (i - 1) = omega arith in
      by_reference z (i - 1) (live_reached f g lv) (g z v) (omega arith) (e ∙ ap (at m.heap) q) ob

  stays_where : (x : ℕ) → Stays W s x → IsObject m x × OnHintedOrKept m hints kept Pairs x
  unfolding world plan_of
  stays_where x q = (q.object, go (new_page (x / m.rec.page) q.object.in_use q.label))
    where
      go : Hinted m hints (x / m.rec.page) ⊎ KeptPage W s (x / m.rec.page) → OnHintedOrKept m hints kept Pairs x
      go (inl h) = inl h
      go (inr k) = inr (record { page = k.listed; stayed = stayed q refl })

  stays_by : (i x : ℕ) → StaysBy W s i x → IsObject m x × OnHintedOrKept m hints (take i kept) Pairs x
  unfolding world plan_of
  stays_by i x q = (q.stays.object, go q.page)
    where
      go : (at W.labels (x / m.rec.page) ≡ new) ⊎ Memᴰ (x / m.rec.page) (take i kept) → OnHintedOrKept m hints (take i kept) Pairs x
      go (inl e) = inl (new_hinted m roots hints A (x / m.rec.page) e)
      go (inr k) = inr (record { page = k; stayed = stayed q.stays refl })

  pair_reached : (x y : ℕ) → Pairs x y → Reached m roots (OnHintedOrKept m hints kept Pairs) x
  unfolding world
  pair_reached x y K = live_reached stays_where (λ z v. tt) (kept_reach W s (inv m roots hints A) x y K)

  -- ---- one to one

  once : (x y z : ℕ) → Pairs x y → Pairs x z → y ≡ z
  once x y z (stayed q e) (stayed q' e') = e ∙ sym e'
  once x y z (stayed q e) (went j mem ex ey) = absurd (q.not_gone j mem (sym ex))
  once x y z (went j mem ex ey) (stayed q e) = absurd (q.not_gone j mem (sym ex))
  once x y z (went j mem ex ey) (went i mei ex' ey') =
      let a : 2 * j.to ≡ 2 * i.to = sym ((inv m roots hints A).moved j mem).planted ∙ ap (at s.heap) (sym ex ∙ ex') ∙ ((inv m roots hints A).moved i mei).planted in
      omega arith

  back : (x y z : ℕ) → Pairs x z → Pairs y z → x ≡ y
  back x y z K L = go (kept_apart W s (inv m roots hints A) x z y z K L)
    where
      go : SameOrApart W x z y z → x ≡ y
      go (inl e) = e.0
      go (inr (inl h)) = absurd (omega (arith, W.shape x (kept_obj W s (inv m roots hints A) x z K)))
      go (inr (inr h)) = absurd (omega (arith, W.shape y (kept_obj W s (inv m roots hints A) y z L)))

  -- ---- pages in use after

  moved_elsewhere : (j : Move) → Memᴰ j s.moves → j.to ≢ j.from
  unfolding world plan_of
  moved_elsewhere j mem q =
      label_pos m S.valid (sym ((inv m roots hints A).moved j mem).old ∙ ap (λ (a : ℕ). at W.labels (a / m.rec.page)) (sym q) ∙ ((inv m roots hints A).moved j mem).fresh)

  pages : (g : ℕ) → InUse m' g → Hinted m hints g ⊎ (HoldsCopy m Pairs g ⊎ Memᴰ g kept)
  unfolding world
  pages g u = go (first_place m roots hints A g e).0 (first_place m roots hints A g e).1
    where
      e : at s.pages.labels g ≡ new
      e = in_use_new m roots hints A g u

      pg : g * m.rec.page / m.rec.page ≡ g
      pg = first_on_page (page_pos m S.valid) g

      was : Hinted m hints g ⊎ KeptPage W s g → Hinted m hints g ⊎ (HoldsCopy m Pairs g ⊎ Memᴰ g kept)
      was (inl h) = inl h
      was (inr k) = inr (inr k.listed)

      go : (x : ℕ) → Place W s x (g * m.rec.page) → Hinted m hints g ⊎ (HoldsCopy m Pairs g ⊎ Memᴰ g kept)
      go x (home ob q) =
          let z : x / m.rec.page ≡ g = ap (λ (k : ℕ). k / m.rec.page) (sym q) ∙ pg in
          was (new_page g (subst (InUse m) z ob.in_use) e)
      go x (away j mem ex ey) =
          inr (inl (record { from = j.from; to = j.to; pair = went j mem refl refl; there = ap (λ (k : ℕ). k / m.rec.page) (sym ey) ∙ pg; copied = moved_elsewhere j mem }))

  -- ---- kept pages, and what was copied out of them

  within : s.pages.kept ≤ length s.pages.queue
  within = packs_within W s (all_done m roots hints A).good.packs

  left_label : (j : Move) → Memᴰ (j.from / m.rec.page) kept → at s.pages.labels (j.from / m.rec.page) ≡ new
  unfolding world plan_of
  left_label j k = ((inv m roots hints A).kept (j.from / m.rec.page) k).label

  -- the object of a kept page that was copied leaves a filler
  left_filler : (x y : ℕ) → Memᴰ (x / m.rec.page) kept → (j : Move) → Memᴰ j s.moves → x ≡ j.from → Memᴰ x told.fillers
  unfolding world plan_of collection
  left_filler x y k j mem e = Memᴰ.cast e ((filled_of m roots hints A).all j mem (subst (λ (a : ℕ). Memᴰ (a / m.rec.page) kept) e k))

  -- what is reached where i pages are kept
  reached_keeping : (i : ℕ) {x : ℕ} → ReachedWith W s i x → ReachedKeeping m roots hints (take i kept) Pairs x
  unfolding world plan_of
  reached_keeping i = live_reached (stays_by i) via
    where
      via : (z : ℕ) → StaysBy W s i z ⊎ Gone s z → OnHintedOrKept m hints (take i kept) Pairs z ⊎ Moved Pairs z
      via z (inl q) = inl (stays_by i z q).1
      via z (inr (j, mem, e)) = inr (j.to, went j mem e refl, λ q. moved_elsewhere j mem (q ∙ e))

  keeps : Keeps m roots hints outcome told Pairs
  unfolding world plan_of collection accepted_collect
  keeps = record {
    used = λ g k. kept_was_used g ((inv m roots hints A).kept g k);
    unhinted = λ g k. kept_unhinted g ((inv m roots hints A).kept g k);
    in_use = λ g k. new_in_use m roots hints A g ((inv m roots hints A).kept g k).label;
    all = λ x ob k. all x ob k (gone_or_not W s x);
    holds = λ i h. let c : Cause W s i = (all_done m roots hints A).good.causes.each i h in (c.from, kept_for c);
    room = λ h. record {
      tight = let c : Cause W s 0 = (all_done m roots hints A).good.causes.each 0 h in (c.from, kept_for c, λ g L. overfills (some h) c g L);
      full = λ g low high e. copies g e (pages g (taken_in_use m roots hints A g (free_taken m roots hints A (some h) g low high e)));
      moved = moved;
    };
    once = kept_once s.pages within (all_done m roots hints A).good.lined.queued.once;
    count = refl;
  }
    where
      all : (x : ℕ) → IsObject m x → Memᴰ (x / m.rec.page) kept → Gone s x ⊎ NotGone s x → Pairs x x ⊎ Memᴰ x told.fillers
      all x ob k (inl (j, mem, e)) = inr (left_filler x x k j mem e)
      all x ob k (inr n) = inl (stayed (record { object = ob; label = ((inv m roots hints A).kept _ k).label; not_gone = n }) refl)

      some : 0 < length kept → 0 < s.pages.kept
      some h = omega (arith, kept_length s.pages within)

      kept_for : {i : ℕ} → (c : Cause W s i) → KeptFor m roots hints kept Pairs i c.from
      kept_for {i} c = record { page = c.page; stayed = stayed c.stays refl; reached = reached_keeping i c.reached }

      -- the copy page stopped at its fill, and has the new label since it is not page 0
      overfills : 0 < s.pages.kept → (c : Cause W s 0) → (g : ℕ) → LastFree m g
          → Overfills m' g (size_of (at m.heap c.from))
      overfills pos c g L = rw (last_copy m roots hints A pos g L) (go (tiled m roots hints A).copy_is)
        where
          go : ((s.pages.copy ≡ 0) × (s.pages.fill ≡ m.rec.page)) ⊎ (at s.pages.labels s.pages.copy ≡ new) → Overfills m' s.pages.copy (size_of (at m.heap c.from))
          go (inl (e, z)) = absurd (omega (arith, L.low, last_copy m roots hints A pos g L))
          go (inr e) = rw (copy_stop m roots hints A e) (omega (arith, c.tight refl))

      -- a page that was free was neither hinted nor kept
      copies : (g : ℕ) → at m.labels g ≡ 0 → Hinted m hints g ⊎ (HoldsCopy m Pairs g ⊎ Memᴰ g kept)
          → HoldsCopy m Pairs g
      copies g e (inl h) = absurd (label_pos m S.valid (sym h.in_use.label ∙ e))
      copies g e (inr (inl c)) = c
      copies g e (inr (inr k)) = absurd (label_pos m S.valid (sym (kept_was_used g ((inv m roots hints A).kept g k)).label ∙ e))

      moved : (x : ℕ) → Moved Pairs x → ReachedKeeping m roots hints [] Pairs x
      moved x (y, stayed q e, n) = absurd (n e)
      moved x (y, went j mem ex ey, n) = subst (ReachedKeeping m roots hints [] Pairs) (sym ex) (reached_keeping 0 ((all_done m roots hints A).good.causes.moved j mem))

  fills : Fills m outcome told Pairs
  unfolding world plan_of collection accepted_collect
  fills = record {
    left = λ y k. let (j, mem, e, pg) = (filled_of m roots hints A).left y k in
        (subst (IsObject m) (sym e) ((inv m roots hints A).moved j mem).object, pg, (j.to, went j mem e refl, λ q. moved_elsewhere j mem (q ∙ e)));
    all = λ y z k P n. copied y z k P n;
    object = λ y k. let (j, mem, e, l) = place y k in subst (IsObject m') (sym e) (left_object m roots hints A j mem l);
    unpaired = λ x y k P. unpaired x y k P ((filled_of m roots hints A).left y k);
    sizes = λ y k. let (j, mem, e, l) = place y k in
        rw e (ap size_of (left_header m roots hints A j mem l) ∙ filler_size (size m.heap j.from) (some_words W j.from ((inv m roots hints A).moved j mem).object));
    counts = λ y k. let (j, mem, e, l) = place y k in rw e (ap refs_of (left_header m roots hints A j mem l) ∙ filler_refs (size m.heap j.from));
    zeros = λ y i k h. let (j, mem, e, l) = place y k in zeros y i j mem e l h;
    once = (filled_of m roots hints A).once;
    count = refl;
  }
    where
      -- the move that left it, and the label of its page
      place : (y : ℕ) → Memᴰ y told.fillers → (j : Move) × Memᴰ j s.moves × (y ≡ j.from) × (at s.pages.labels (j.from / m.rec.page) ≡ new)
      place y k =
          let (j, mem, e, pg) = (filled_of m roots hints A).left y k in
          (j, mem, e, left_label j (subst (λ (a : ℕ). Memᴰ (a / m.rec.page) kept) e pg))

      copied : (y z : ℕ) → Memᴰ (y / m.rec.page) kept → Pairs y z → z ≢ y → Memᴰ y told.fillers
      copied y z k (stayed q e) n = absurd (n e)
      copied y z k (went j mem ey ez) n = left_filler y z k j mem ey

      unpaired : (x y : ℕ) → Memᴰ y told.fillers → Pairs x y → (j : Move) × Memᴰ j s.moves × (y ≡ j.from) × Memᴰ (y / m.rec.page) kept → ⊥
      unpaired x y k P (j, mem, e, pg) = go (kept_from W s (inv m roots hints A) x y P j mem)
        where
          go : (y + size m.heap x ≤ j.from) ⊎ (j.from + size m.heap j.from ≤ y) → ⊥
          go (inl h) = omega (arith, some_words W x (kept_obj W s (inv m roots hints A) x y P))
          go (inr h) = omega (arith, some_words W j.from ((inv m roots hints A).moved j mem).object)

      zeros : (y i : ℕ) (j : Move) → Memᴰ j s.moves → y ≡ j.from → at s.pages.labels (j.from / m.rec.page) ≡ new → i + 1 < size_of (at m.heap y) → payload m' y i ≡ 0
      zeros y i j mem e l h =
          let q : j.from + suc i ≡ j.from + 1 + i = omega arith in
          let lt : suc i < size m.heap j.from = rw e at (let z : suc i < size m.heap y = omega arith in z) in
          ap (λ (a : ℕ). payload m' a i) e ∙ (rw q at (left_zeros m roots hints A j mem l (suc i) (omega arith) lt))

  -- ---- the whole

  data_words : (x y i : ℕ) → Pairs x y → refs m x ≤ i → i + 1 < size m.heap x → payload m' y i ≡ payload m x i
  unfolding world
  data_words x y i K low high =
      let ea : x + suc i ≡ x + 1 + i = omega arith in
      let eb : y + suc i ≡ y + 1 + i = omega arith in
      let w : at m'.heap (y + suc i) ≡ at m.heap (x + suc i) =
      kept_word m roots hints A x y (suc i) K (omega arith) ∙ (inv m roots hints A).data_words x y (suc i) K (omega arith) (omega arith) in
      rw (ea, eb) at w

  paired_all : Paired m roots (OnHintedOrKept m hints kept Pairs) outcome Pairs
  unfolding accepted_collect collection
  paired_all = record {
    reached = λ x lv. reached lv;
    only = pair_reached;
    object = kept_object m roots hints A;
    once = once;
    back = back;
    sizes = λ x y K. ap size_of (kept_header m roots hints A x y K);
    counts = λ x y K. ap refs_of (kept_header m roots hints A x y K);
    data_words = data_words;
    references = kept_reference m roots hints A;
    root_cells = (roots_done m roots hints A).cells;
    roots_agree = root_becomes;
  }

  -- an object afterwards is paired, or a filler
  object_told : (y : ℕ) → IsObject m' y → ((x : ℕ) × Pairs x y) ⊎ Memᴰ y told.fillers
  unfolding world plan_of collection
  object_told y ob = let (x, K) = object_standing m roots hints A y ob in go x K
    where
      go : (x : ℕ) → Standing W s x y → ((x : ℕ) × Pairs x y) ⊎ Memᴰ y told.fillers
      go x (there K) = inl (x, K)
      go x (left j mem ex ey) = inr (left_filler y y (old_new_kept W s (inv m roots hints A) (y / m.rec.page) old (in_use_new m roots hints A _ ob.in_use)).listed j mem (ey ∙ ex))
        where
          old : at W.labels (y / m.rec.page) ≡ m.rec.label
          old = ap (λ (a : ℕ). at W.labels (a / m.rec.page)) (ey ∙ ex) ∙ ((inv m roots hints A).moved j mem).old

  pub faithful : Faithful m roots hints outcome told Pairs
  unfolding accepted_collect collection
  faithful = record { paired = paired_all; nothing = object_told; stays = hinted_same; pages = pages; keeps = keeps; fills = fills }

  -- so a program may collect again
  pub after_ready : Ready m' outcome.roots
  unfolding accepted_collect collection
  after_ready = record { sound = after_sound m roots hints A; roots = roots_good }
    where
      good : (v u : ℕ) → Becomes Pairs v u → (u ≡ 0) ⊎ IsObject m' u
      good v u (inl z) = inl z.1
      good v u (inr p) = inr (kept_object m roots hints A v u p)

      roots_good : (r : ℕ) → Memᴰ r (rooted_of m roots hints A).roots → (r ≡ 0) ⊎ IsObject m' r
      roots_good r k =
          let (j, l, e) = mem_at (rooted_of m roots hints A).roots r k in
          subst (λ (u : ℕ). (u ≡ 0) ⊎ IsObject m' u) e (good _ _ (root_becomes j (omega (arith, (roots_done m roots hints A).cells))))
