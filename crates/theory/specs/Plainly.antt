-- Nothing depends on the log: with the moves written down and without, a collection is the same, and as safe.
use Rattle.std.specs.Prelude.{◌≡◌, Bool, eqb, ltb, length}
use Rattle.std.proofs.Math.Path.{refl, ap}
use Rattle.std.proofs.Common.{◌∙◌}
use Rattle.std.proofs.Math.Bool.{true, false, cond}
use mathlib.Core.List.{List, [], ◌∷◌}
use Prim.Native.Nat.{ℕ, zero, suc, ◌+◌, ◌*◌, ◌-◌, ◌/◌, ◌%◌}
use Rattle.rules.specs.Ranges.{at}
use Rattle.rules.specs.Header.{size_of, refs_of, is_header}
use Rattle.rules.specs.Lent.{Lent}
use Rattle.rules.specs.Collection.{logged, plainly, Plan, Pages, State, Forwarded, Rooted, take_page, with_room, top, put, copy_object, can_copy, keep_page, keep_object, forward, forward_roots, sweep_reference, sweep_references, is_left, size_at_copy, sweep_page, sweep_queue, hint_page, hint_pages, plan_of, begun, after_hints, after_roots, after_sweep, filled, Collection, collection}
use Rattle.laws.specs.Safe.{SafeHints, SafeTake, SafeCopy, SafeKeep, SafeForward, SafeRoots, SafeReferences, SafePage, SafeQueue, SafeRun}

-- the plan that writes nothing down, and a state with nothing written down
abbrev pub quiet : Plan → Plan
quiet k = record { page = k.page; lo = k.lo; hi = k.hi; old = k.old; new = k.new; logs = plainly }

abbrev pub plain : State → State
plain s = record { heap = s.heap; pages = s.pages; objects = s.objects; words = s.words; moves = [] }

abbrev pub plain_forwarded : Forwarded → Forwarded
plain_forwarded f = record { value = f.value; state = plain f.state }

abbrev pub plain_rooted : Rooted → Rooted
plain_rooted r = record { roots = r.roots; state = plain r.state }

abbrev pub unlogged : Collection → Collection
unlogged c = record {
  lent = c.lent;
  roots = c.roots;
  hinted = c.hinted;
  taken = c.taken;
  objects = c.objects;
  words = c.words;
  kept = c.kept;
  fillers = c.fillers;
  moves = [];
}

plain_either : (b : Bool) {x z : State} (y s : State) → x ≡ plain y → z ≡ plain s → cond b x z ≡ plain (cond b y s)
plain_either true y s e f = e
plain_either false y s e f = f

module _ (k : Plan) where
  -- ---- the same states

  copy_plain : (x : ℕ) (s : State) → copy_object (quiet k) x (plain s) ≡ plain_forwarded (copy_object k x s)
  unfolding copy_object put top with_room take_page
  copy_plain x s = refl

  keep_plain : (x : ℕ) (s : State) → keep_object (quiet k) x (plain s) ≡ plain_forwarded (keep_object k x s)
  unfolding keep_object keep_page
  keep_plain x s = refl

  forward_plain : (v : ℕ) (s : State) → forward (quiet k) v (plain s) ≡ plain_forwarded (forward k v s)
  unfolding forward can_copy
  forward_plain v s =
      go (eqb v 0) (eqb (at s.heap v % 2) 0) (eqb (at s.pages.labels (v / k.page)) k.new) (can_copy k (size_of (at s.heap v)) s.pages)
    where
      go : (x y z c : Bool)
          → cond x (record { value = 0; state = plain s }) (cond y (record { value = at s.heap v / 2; state = plain s })
          (cond z (record { value = v; state = plain s }) (cond c (copy_object (quiet k) v (plain s)) (keep_object (quiet k) v (plain s)))))
          ≡ plain_forwarded (cond x (record { value = 0; state = s }) (cond y (record { value = at s.heap v / 2; state = s })
          (cond z (record { value = v; state = s }) (cond c (copy_object k v s) (keep_object k v s)))))
      go true y z c = refl
      go false true z c = refl
      go false false true c = refl
      go false false false true = copy_plain v s
      go false false false false = keep_plain v s

  reference_plain : (w : ℕ) (s : State) → sweep_reference (quiet k) w (plain s) ≡ plain (sweep_reference k w s)
  unfolding sweep_reference
  reference_plain w s = rw (forward_plain (at s.heap w) s)

  references_plain : (n w : ℕ) (s : State) → sweep_references (quiet k) n w (plain s) ≡ plain (sweep_references k n w s)
  unfolding sweep_references
  references_plain zero w s = refl
  references_plain (suc n) w s = ap (sweep_references (quiet k) n (suc w)) (reference_plain w s) ∙ references_plain n (suc w) (sweep_reference k w s)

  page_plain : (f a room : ℕ) (s : State) → sweep_page (quiet k) f a room (plain s) ≡ plain (sweep_page k f a room s)
  unfolding sweep_page
  page_plain zero a room s = refl
  page_plain (suc f) a room s =
      let w = at s.heap a in
      let c = size_at_copy s.heap w in
      plain_either (is_header w room) (sweep_page k f (a + size_of w) (room - size_of w) (sweep_references k (refs_of w) (suc a) s))
      (cond (is_left w room) (sweep_page k f (a + c) (room - c) s) s)
      (ap (sweep_page (quiet k) f (a + size_of w) (room - size_of w)) (references_plain (refs_of w) (suc a) s)
      ∙ page_plain f (a + size_of w) (room - size_of w) (sweep_references k (refs_of w) (suc a) s))
      (plain_either (is_left w room) (sweep_page k f (a + c) (room - c) s) s (page_plain f (a + c) (room - c) s) refl)

  queue_plain : (f i : ℕ) (s : State) → sweep_queue (quiet k) f i (plain s) ≡ plain (sweep_queue k f i s)
  unfolding sweep_queue
  queue_plain zero i s = refl
  queue_plain (suc f) i s =
      let a = at s.pages.queue i * k.page in
      plain_either (ltb i (length s.pages.queue)) _ s
      (ap (sweep_queue (quiet k) f (suc i)) (page_plain k.page a k.page s) ∙ queue_plain f (suc i) (sweep_page k k.page a k.page s)) refl

  roots_plain : (rs : List ℕ) (s : State) → forward_roots (quiet k) rs (plain s) ≡ plain_rooted (forward_roots k rs s)
  unfolding forward_roots
  roots_plain [] s = refl
  roots_plain (r ∷ rs) s = rw (forward_plain r s, roots_plain rs (forward k r s).state)

  hints_plain : (gs : List ℕ) (s : Pages) → hint_pages (quiet k) gs s ≡ hint_pages k gs s
  unfolding hint_pages hint_page
  hints_plain [] s = refl
  hints_plain (g ∷ gs) s = hints_plain gs (hint_page k g s)

  -- ---- as safe

  copy_quiet : (n x : ℕ) (s : State) → SafeCopy k n x s → SafeCopy (quiet k) n x (plain s)
  unfolding top with_room take_page
  copy_quiet n x s q = record {
    fill = q.fill;
    take = λ l. let t : SafeTake k s.pages = q.take l in record { new = t.new; hi = t.hi; found = t.found; few = t.few; queue = t.queue };
    from = q.from;
    into = q.into;
    apart = q.apart;
    small = q.small;
    objects = q.objects;
    words = q.words;
  }

  forward_quiet : (v : ℕ) (s : State) → SafeForward k v s → SafeForward (quiet k) v (plain s)
  unfolding can_copy
  forward_quiet v s p = record {
    page = p.page;
    small = p.small;
    fill = p.fill;
    within = p.within;
    label = p.label;
    copy = λ n e l c. copy_quiet (size_of (at s.heap v)) v s (p.copy n e l c);
    keep = λ n e l c. let t : SafeKeep k (v / k.page) s.pages = p.keep n e l c in record { new = t.new; used = t.used; few = t.few; queue = t.queue; kept = t.kept };
  }

  references_quiet : (n w : ℕ) (s : State) → SafeReferences k n w s → SafeReferences (quiet k) n w (plain s)
  unfolding SafeReferences
  references_quiet zero w s p = tt
  references_quiet (suc n) w s (p, q) = (forward_quiet (at s.heap w) s p, rw (reference_plain w s) (references_quiet n (suc w) (sweep_reference k w s) q))

  page_quiet : (f a room : ℕ) (s : State) → SafePage k f a room s → SafePage (quiet k) f a room (plain s)
  unfolding SafePage
  page_quiet zero a room s p = tt
  page_quiet (suc f) a room s (p, l) =
      let w = at s.heap a in
      let c = size_at_copy s.heap w in (
        λ h.
            let (q, r) = p h in (
              references_quiet (refs_of w) (suc a) s q,
              rw (references_plain (refs_of w) (suc a) s) (page_quiet f (a + size_of w) (room - size_of w) (sweep_references k (refs_of w) (suc a) s) r),
            ),
        λ h. let (q, r) = l h in (q, page_quiet f (a + c) (room - c) s r),
      )

  queue_quiet : (f i : ℕ) (s : State) → SafeQueue k f i s → SafeQueue (quiet k) f i (plain s)
  unfolding SafeQueue
  queue_quiet zero i s p = tt
  queue_quiet (suc f) i s p = λ h.
      let (q, (r, t)) = p h in
      let a = at s.pages.queue i * k.page in
      (q, (page_quiet k.page a k.page s r, rw (page_plain k.page a k.page s) (queue_quiet f (suc i) (sweep_page k k.page a k.page s) t)))

  roots_quiet : (rs : List ℕ) (s : State) → SafeRoots k rs s → SafeRoots (quiet k) rs (plain s)
  unfolding SafeRoots
  roots_quiet [] s p = tt
  roots_quiet (r ∷ rs) s (p, q) = (forward_quiet r s p, rw (forward_plain r s) (roots_quiet rs (forward k r s).state q))

  hints_quiet : (gs : List ℕ) (s : Pages) → SafeHints k gs s → SafeHints (quiet k) gs s
  unfolding SafeHints hint_page
  hints_quiet [] s p = tt
  hints_quiet (g ∷ gs) s (p, q) = (record { new = p.new; labels = p.labels; low = p.low; few = p.few; queue = p.queue }, hints_quiet gs (hint_page k g s) q)

-- ---- the whole

module _ (m : Lent) (roots hints : List ℕ) where
  abbrev k : Plan
  k = plan_of m logged

  hints_same : after_hints (plan_of m plainly) m hints ≡ after_hints k m hints
  unfolding after_hints plan_of
  hints_same = hints_plain k _ (begun m)

  roots_same : after_roots (plan_of m plainly) m roots hints ≡ plain_rooted (after_roots k m roots hints)
  unfolding after_roots plan_of
  roots_same = rw hints_same (roots_plain k roots _)

  sweep_same : after_sweep (plan_of m plainly) m roots hints ≡ plain (after_sweep k m roots hints)
  unfolding after_sweep plan_of
  sweep_same = rw roots_same (queue_plain k m.rec.pages 0 _)

  -- one collection, but for the moves
  pub collection_plainly : collection plainly m roots hints ≡ unlogged (collection logged m roots hints)
  unfolding collection filled plan_of
  collection_plainly = rw (sweep_same, roots_same, hints_same)

  pub run_plainly : SafeRun k m roots hints → SafeRun (plan_of m plainly) m roots hints
  unfolding plan_of
  run_plainly p = record {
    on_hints = hints_quiet k _ (begun m) p.on_hints;
    on_roots = rw hints_same (roots_quiet k roots _ p.on_roots);
    on_queue = rw roots_same (queue_quiet k m.rec.pages 0 _ p.on_queue);
    on_kept = rw sweep_same p.on_kept;
    hinted = rw (hints_same, sweep_same) p.hinted;
    queue = rw sweep_same p.queue;
    objects = rw sweep_same p.objects;
    words = rw sweep_same p.words;
  }
