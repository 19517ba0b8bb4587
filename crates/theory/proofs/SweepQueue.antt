-- The sweep of the queue, and the root cells before it: every reference of every retained object ends forwarded, and so does
-- every root cell.
use Rattle.std.specs.Prelude.{◌≡◌, refl, ◌≢◌, ◌⊎◌, Bool, true, false, cond, List, [], ◌∷◌, ℕ, zero, suc, ◌+◌, ◌*◌, ◌≤◌, ◌<◌, ltb, length}
use Rattle.std.proofs.Common.{sym, ap, ◌∙◌, inl, inr, le_refl, arith, ltb-true, ltb-false}
use Rattle.std.proofs.Math.Decide.{ℕ_discrete}
use Rattle.rules.specs.Ranges.{at}
use Rattle.rules.specs.Collection.{State, Forwarded, Rooted, forward, forward_roots, sweep_page, sweep_queue}
use Rattle.rules.specs.Demands.{Becomes}
use Rattle.laws.specs.Pages.{page_on, page_end, first_on_page}
use Rattle.laws.specs.Safe.{SafeForward, SafeRoots, SafePage, SafeQueue}
use Rattle.laws.specs.Words.{in_range}
use Rattle.theory.specs.Queue.{queue_short}
use Rattle.theory.specs.World.{Swept, becomes_map, page_of, refs_at, World, root, Reach, Kept}
use Rattle.theory.specs.Places.{kept_label}
use Rattle.theory.specs.Tile.{Begins}
use Rattle.theory.proofs.Good.{Good, Fresh, Grow, grow_refl, grow_trans, Went, forward_went}
use Rattle.theory.specs.Cursor.{Cursor, at_place}
use Rattle.theory.proofs.SweepPage.{PageDone, sweep_page_lem}

-- ---- the queue

pub record AllDone (W : World) (s t : State) (Safe : Type 0) : Type 0 where
  pub safe : Safe
  pub good : Good W t
  pub grow : Grow W s t
  pub done : (x y : ℕ) → Kept W t x y → (i : ℕ) → 0 < i → i ≤ refs_at W x → Swept W t x y i

-- the queue is never longer than the heap has pages
pub queue_length : (W : World) (s : State) → Good W s → length s.pages.queue ≤ length W.labels
queue_length W s G = omega (arith, queue_short W.plan.new s.pages.labels s.pages.queue W.new≢0 G.lined.queued, G.inv.labels_length)

-- the pages before the i-th of the queue are done
abbrev pub QueueDone : World → State → ℕ → Type 0
QueueDone W s i = (j : ℕ) → j < i → j < length s.pages.queue → (x y : ℕ) → Kept W s x y → page_of W y ≡ at s.pages.queue j → (k : ℕ) → 0 < k → k ≤ refs_at W x → Swept W s x y k

abbrev pub QueueOk : World → ℕ → Type 0
QueueOk W f = (i : ℕ) (s : State) → Good W s → length W.labels ≤ i + f → QueueDone W s i → AllDone W s (sweep_queue W.plan f i s) (SafeQueue W.plan f i s)

-- a page of the queue is in use, so it begins with a place
page_used : (W : World) (i : ℕ) (s : State) → Good W s → i < length s.pages.queue → at s.pages.labels (at s.pages.queue i) ≢ 0
page_used W i s G h z = W.new≢0 (sym (G.lined.queued.only i h) ∙ z)

pub page_start : (W : World) (i : ℕ) (s : State) → Good W s → i < length s.pages.queue
    → Cursor W s (at s.pages.queue i) (at s.pages.queue i * W.plan.page) W.plan.page
page_start W i s G h = go (G.tiled.first g (page_used W i s G h))
  where
    g : ℕ
    g = at s.pages.queue i

    go : Begins W s g → Cursor W s g (g * W.plan.page) W.plan.page
    go (inl (x, k)) = at_place x k (first_on_page W.pos g)
    go (inr (a, b)) = absurd (omega (arith, G.filled))

module _ (W : World) (i : ℕ) (s : State) (G : Good W s) (before : QueueDone W s i) where
  abbrev g : ℕ
  g = at s.pages.queue i

  abbrev t : State
  t = sweep_page W.plan W.plan.page (g * W.plan.page) W.plan.page s

  all_done : length s.pages.queue ≤ i → (x y : ℕ) → Kept W s x y → (k : ℕ) → 0 < k → k ≤ refs_at W x → Swept W s x y k
  all_done h x y K =
      let (j, lt, e) = G.lined.queued.all (page_of W y) (kept_label W s G.inv x y K) in
      before j (omega arith) lt x y K (sym e)

  -- it lies in the heap
  inside : i < length s.pages.queue → g * W.plan.page + W.plan.page ≤ length s.heap
  inside h =
      let lt : g < length W.labels = omega (arith, in_range s.pages.labels g (page_used W i s G h), G.inv.labels_length) in
      omega (arith, page_end g W.plan.page (length W.labels) lt, W.heap_length, G.inv.heap_length)

  page : i < length s.pages.queue → PageDone W s g t (SafePage W.plan W.plan.page (g * W.plan.page) W.plan.page s)
  page h = sweep_page_lem W g W.plan.page (g * W.plan.page) W.plan.page s G (i, h, refl) refl (le_refl _) (page_start W i s G h) (λ x y k q lt. absurd (omega (arith, (page_on W.pos y g q).0)))

  one_more : {Safe : Type 0} → i < length s.pages.queue → PageDone W s g t Safe → QueueDone W t (suc i)
  one_more h D j lt lt' x y K e k low high = go (ℕ_discrete j i)
    where
      go : Dec (j ≡ i) → Swept W t x y k
      go (yes q) = D.done x y K (e ∙ ap (at t.pages.queue) q ∙ D.grow.prefix i h) k low high
      go (no q) = earlier (D.grow.fresh x y K)
        where
          earlier : Kept W s x y ⊎ Fresh W s t y → Swept W t x y k
          earlier (inl K0) = D.grow.swept x y k K0 low high (before j (omega arith) (omega arith) x y K0 (e ∙ D.grow.prefix j (omega arith)) k low high)
          earlier (inr F) =
              let (m, a, b, em) = F.at_end in
              let z : m ≡ j = D.good.lined.queued.once m j b lt' (em ∙ e) in
              absurd (omega arith)

  queue_step : (f : ℕ) → length W.labels ≤ i + suc f → QueueOk W f → (b : Bool) → ltb i (length s.pages.queue) ≡ b
      → AllDone W s (cond b (sweep_queue W.plan f (suc i) t) s)
      (i < length s.pages.queue
      → (g * W.plan.page + W.plan.page ≤ length s.heap)
      × (SafePage W.plan W.plan.page (g * W.plan.page) W.plan.page s × SafeQueue W.plan f (suc i) t))
  queue_step f le ih false e =
      let past : length s.pages.queue ≤ i = ltb-false _ _ e in
      record { safe = λ h. absurd (omega arith); good = G; grow = grow_refl W s; done = all_done past }
  queue_step f le ih true e =
      let h : i < length s.pages.queue = ltb-true _ _ e in
      let D = page h in
      let r : AllDone W t (sweep_queue W.plan f (suc i) t) (SafeQueue W.plan f (suc i) t) = ih (suc i) t D.good (omega arith) (one_more h D) in
      record { safe = λ z. (inside h, (D.safe, r.safe)); good = r.good; grow = grow_trans W s t _ D.grow r.grow; done = r.done }

queue_none : (W : World) → QueueOk W zero
unfolding sweep_queue SafeQueue
queue_none W i s G le before = record { safe = tt; good = G; grow = grow_refl W s; done = all_done W i s G before (omega (arith, queue_length W s G)) }

queue_more : (W : World) (f : ℕ) → QueueOk W f → QueueOk W (suc f)
unfolding sweep_queue SafeQueue
queue_more W f ih i s G le before = queue_step W i s G before f le ih (ltb i (length s.pages.queue)) refl

pub sweep_queue_lem : (W : World) (f : ℕ) → QueueOk W f
sweep_queue_lem W zero = queue_none W
sweep_queue_lem W (suc f) = queue_more W f (sweep_queue_lem W f)

-- ---- the root cells

pub record RootsDone (W : World) (s : State) (rs : List ℕ) (k : Rooted) (Safe : Type 0) : Type 0 where
  pub safe : Safe
  pub good : Good W k.state
  pub grow : Grow W s k.state
  pub cells : length k.roots ≡ length rs
  pub becomes : (j : ℕ) → j < length rs → Becomes (Kept W k.state) (at rs j) (at k.roots j)

-- each root cell is 0 or an object
abbrev pub Cells : World → List ℕ → Type 0
Cells W rs = (j : ℕ) → j < length rs → (at rs j ≡ 0) ⊎ (W.Obj (at rs j) × W.Root (at rs j))

pub rooted : (W : World) (s : State) (v : ℕ) → (v ≡ 0) ⊎ (W.Obj v × W.Root v) → (v ≡ 0) ⊎ (W.Obj v × Reach W s v)
rooted W s v (inl e) = inl e
rooted W s v (inr (a, b)) = inr (a, root b)

pub forward_roots_lem : (W : World) (rs : List ℕ) (s : State) → Good W s → Cells W rs → RootsDone W s rs (forward_roots W.plan rs s) (SafeRoots W.plan rs s)
unfolding forward_roots SafeRoots
forward_roots_lem W [] s G ok = record { safe = tt; good = G; grow = grow_refl W s; cells = refl; becomes = λ j h. absurd (omega arith) }
forward_roots_lem W (v ∷ rs) s G ok =
    let f : Forwarded = forward W.plan v s in
    let F : Went W s v f (SafeForward W.plan v s) = forward_went W s G v (rooted W s v (ok 0 (omega arith))) in
    let k : RootsDone W f.state rs (forward_roots W.plan rs f.state) (SafeRoots W.plan rs f.state) =
    forward_roots_lem W rs f.state F.good (λ j h. ok (suc j) (omega arith)) in
    record {
      safe = (F.safe, k.safe);
      good = k.good;
      grow = grow_trans W s _ _ F.grow k.grow;
      cells = ap suc k.cells;
      becomes = elim [ zero ↦ λ h. becomes_map k.grow.kept _ _ F.becomes | suc j ↦ λ h. k.becomes j (omega arith) ];
    }
