-- The four steps one after the other: what each leaves is what the definition has by then. The record, the heap, labels and
-- links, the roots and the hints before the first step are r, h, l, k, roots, hints; K is the plan as the code has it by then, and
-- n pages were hinted.
use Rattle.std.proofs.Common.{◌≡◌, refl, sym, ap, ◌∙◌, List, [], ℕ, ◌+◌, ◌-◌, ◌≤◌, length, take, drop, length-drop, arith}
use lib.ListN.{replicate, length-take}
use Rattle.std.proofs.lemmas.List.{drop-take}
use Rattle.rules.specs.declared.Record.{Record}
use Rattle.answers.specs.declared.Counts.{Counts}
use Rattle.rules.specs.Pages.{pages_named}
use Rattle.rules.specs.Lent.{lent}
use Rattle.rules.specs.Collection.{Plan, Pages, State, Rooted, plainly, plan_of, begun, after_hints, after_roots, after_sweep, collection, hint_pages, forward_roots, sweep_queue, unkept_pages, kept_pages, fill_pages, filled, freed_heap, freed_labels}
use Rattle.rules.specs.Collect.{accepted_collect, collect_outcome}
use Rattle.laws.specs.Safe.{SafeHints, SafeRoots, SafeQueue, SafeFills, SafeRun}
use Rattle.hints.specs.declared.Shape.{Shape}
use Rattle.hints.specs.declared.Queue.{Queue}
use Rattle.hints.specs.Code.{plan, hinted_of}
use Rattle.hints.specs.Queue.{queue_length}
use Rattle.copies.specs.declared.Collecting.{Collecting}
use Rattle.copies.specs.Code.{state_of, rooted_of}
use Rattle.fillers.specs.Code.{FilledAs}
use Rattle.phases.specs.Code.{shape_of, answer_of, Retained}

-- the plan, and the pages, before the first step
abbrev planned : Record → List ℕ → List ℕ → List ℕ → Plan
planned r h l k = plan_of (lent h l k r) plainly

abbrev first : List ℕ → Shape → Pages
first l sh = record { labels = l; queue = []; copy = 0; fill = sh.page; kept = 0 }

pub hints_safe : (r : Record) (h l k roots hints : List ℕ) (sh : Shape) → SafeRun (planned r h l k) (lent h l k r) roots hints → sh ≡ shape_of r
    → SafeHints (plan sh) (pages_named sh.page 1 sh.pages hints) (first l sh)
unfolding plan_of begun
hints_safe r h l k roots hints sh safe e = rw e safe.on_hints

-- ---- after the hints

pub record Hinted (r : Record) (h l k roots hints : List ℕ) (K : Plan) (s : State) (n : ℕ) : Type 0 where
  pub safe : SafeRun (planned r h l k) (lent h l k r) roots hints
  pub plan : K ≡ planned r h l k
  pub state : s ≡ record { heap = h; pages = after_hints (planned r h l k) (lent h l k r) hints; objects = 0; words = 0; moves = [] }
  pub many : length (after_hints (planned r h l k) (lent h l k r) hints).queue ≡ n

-- the state that the roots begin with
abbrev begins : Record → List ℕ → Queue → State
begins r h q = record { heap = h; pages = record { labels = q.labels.now; queue = take q.tail q.links.now; copy = 0; fill = r.page; kept = 0 }; objects = 0; words = 0; moves = [] }

pub hinted_is : (r : Record) (h l k roots hints : List ℕ) (sh : Shape) → SafeRun (planned r h l k) (lent h l k r) roots hints → sh ≡ shape_of r
    → (q : Queue) → q.shape ≡ sh → hinted_of q ≡ hint_pages (plan sh) (pages_named sh.page 1 sh.pages hints) (first l sh)
    → Hinted r h l k roots hints (plan q.shape) (begins r h q) q.tail
unfolding plan_of begun after_hints
hinted_is r h l k roots hints sh safe e q same a =
    let page : q.shape.page ≡ r.page = rw (same, e) in
    let pages : record { labels = q.labels.now; queue = take q.tail q.links.now; copy = 0; fill = r.page; kept = 0 } ≡ after_hints (planned r h l k) (lent h l k r) hints
    = rw (page, e) at a in
    record {
      safe = safe;
      plan = rw (same, e);
      state = rw pages;
      many = ap (λ (p : Pages). length p.queue) (sym pages) ∙ queue_length q.links.now q.tail q.queued.tail;
    }

module _ {r : Record} {h l k roots hints : List ℕ} {K : Plan} {s : State} {n : ℕ} (H : Hinted r h l k roots hints K s n) where
  pub roots_safe : SafeRoots K roots s
  roots_safe = rw (H.plan, H.state) H.safe.on_roots

-- ---- after the roots

pub record RootsDone (r : Record) (h l k roots hints : List ℕ) (K : Plan) (roots2 : List ℕ) (s : State) (n : ℕ) : Type 0 where
  pub safe : SafeRun (planned r h l k) (lent h l k r) roots hints
  pub plan : K ≡ planned r h l k
  pub rooted : rooted_of roots2 s ≡ after_roots (planned r h l k) (lent h l k r) roots hints
  pub many : length (after_hints (planned r h l k) (lent h l k r) hints).queue ≡ n

pub roots_done : {r : Record} {h l k roots hints : List ℕ} {K : Plan} {s : State} {n : ℕ} → Hinted r h l k roots hints K s n
    → (roots2 : List ℕ) (s2 : State) → rooted_of roots2 s2 ≡ forward_roots K roots s → (K2 : Plan) → K2 ≡ K → RootsDone r h l k roots hints K2 roots2 s2 n
unfolding after_roots
roots_done H roots2 s2 e K2 q = record { safe = H.safe; plan = q ∙ H.plan; rooted = e ∙ rw (H.plan, H.state); many = H.many }

module _ {r : Record} {h l k roots hints : List ℕ} {K : Plan} {roots2 : List ℕ} {s : State} {n : ℕ} (R : RootsDone r h l k roots hints K roots2 s n) where
  pub queue_safe : SafeQueue K K.hi 0 s
  unfolding plan_of
  queue_safe = rw (R.plan, ap (λ (x : Rooted). x.state) R.rooted) R.safe.on_queue

-- ---- after the sweep, which leaves what the code has as c

pub record Swept (r : Record) (h l k roots hints : List ℕ) (roots2 : List ℕ) (c : Collecting) (n : ℕ) : Type 0 where
  pub safe : SafeRun (planned r h l k) (lent h l k r) roots hints
  pub rooted : roots2 ≡ (after_roots (planned r h l k) (lent h l k r) roots hints).roots
  pub state : state_of c ≡ after_sweep (planned r h l k) (lent h l k r) roots hints
  pub many : length (after_hints (planned r h l k) (lent h l k r) hints).queue ≡ n

pub swept_is : {r : Record} {h l k roots hints : List ℕ} {K : Plan} {roots2 : List ℕ} {s : State} {n : ℕ} → RootsDone r h l k roots hints K roots2 s n
    → (c : Collecting) → state_of c ≡ sweep_queue K K.hi 0 s → Swept r h l k roots hints roots2 c n
unfolding after_sweep plan_of
swept_is R c e = record {
  safe = R.safe;
  rooted = ap (λ (x : Rooted). x.roots) R.rooted;
  state = e ∙ rw (R.plan, ap (λ (x : Rooted). x.state) R.rooted);
  many = R.many;
}

module _ {r : Record} {h l k roots hints roots2 : List ℕ} {c : Collecting} {n : ℕ} (W : Swept r h l k roots hints roots2 c n) where
  all_many : length (take c.queue.now.tail c.queue.now.links.now) ≡ c.queue.now.tail
  all_many = queue_length c.queue.now.links.now c.queue.now.tail c.queue.now.queued.tail

  pub tails : n + c.gather.kept ≤ c.queue.now.tail
  tails = let few = rw (← W.state) at W.safe.hinted in omega (arith, few, all_many, W.many)

  pub retained : (h' l' k' : List ℕ) (a : Counts) → h' ≡ c.heap.now → l' ≡ c.queue.now.labels.now → k' ≡ c.queue.now.links.now → a ≡ answer_of r n c.queue.now.tail c.gather 0
      → Retained (lent h l k r) roots hints h' l' k' roots2 a
  retained h' l' k' a eh el ek ea =
      let all : n + (c.queue.now.tail - c.gather.kept - n) + c.gather.kept ≡ c.queue.now.tail = omega (arith, tails) in
      rw (eh, el, ek, ea) (record {
        rooted = W.rooted;
        heap = ap (λ (s : State). s.heap) W.state;
        labels = ap (λ (s : State). s.pages.labels) W.state;
        queue = rw all (ap (λ (s : State). s.pages.queue) W.state);
        places = rw all c.queue.now.queued.tail;
        answer = rw (W.many, ← W.state, all_many);
      })

-- ---- the whole

-- the last n pages of the first t
kept_slice : (t n first : ℕ) (links : List ℕ) → first + n ≡ t → drop (t - n) (take t links) ≡ take (first + n - first) (drop first links)
kept_slice t n first links e =
    let a : t - n ≡ first = omega arith in
    let b : first + n - first ≡ n = omega arith in
    rw (a, b, ← e) (drop-take first n links)

-- how many pages are kept at the end of a queue, and how many come before them, but for the first n
module _ (p : Pages) where
  kept_count : p.kept ≤ length p.queue → length (kept_pages p) ≡ p.kept
  unfolding kept_pages
  kept_count few = rw length-drop (omega arith)

  taken_count : (n : ℕ) → length (drop n (unkept_pages p)) ≡ length p.queue - p.kept - n
  unfolding unkept_pages
  taken_count n = rw (length-drop, length-take) (omega arith)

module _ {r : Record} {h l k roots hints h1 l1 k1 roots1 : List ℕ} {a : Counts} (R : Retained (lent h l k r) roots hints h1 l1 k1 roots1 a)
    (safe : SafeRun (planned r h l k) (lent h l k r) roots hints) where
  abbrev after : State
  after = after_sweep (planned r h l k) (lent h l k r) roots hints

  -- the pages kept, as the code has them
  abbrev kept : List ℕ
  kept = take (a.hinted + a.taken + a.kept - (a.hinted + a.taken)) (drop (a.hinted + a.taken) k1)

  kept_are : kept_pages after.pages ≡ kept
  unfolding kept_pages
  kept_are =
      let many : a.kept ≡ after.pages.kept = rw R.answer in
      let all : length after.pages.queue ≡ a.hinted + a.taken + a.kept = rw (← R.queue) (queue_length k1 _ R.places) in
      rw (all, ← R.queue, ← many) (kept_slice _ a.kept (a.hinted + a.taken) k1 refl)

  pub fills_safe : SafeFills r.page kept h1
  unfolding plan_of
  fills_safe = rw (← kept_are, R.heap) safe.on_kept

  -- the whole, once fillers are filled, pages are freed and links cleared
  pub run_is : (sh : Shape) → sh ≡ shape_of r → (h4 : List ℕ) (f : ℕ) → FilledAs (fill_pages r.page kept (record { heap = h1; places = [] })) h4 f
      → (h5 l5 k5 : List ℕ) → h5 ≡ freed_heap sh.page sh.old l1 h4 → l5 ≡ freed_labels sh.old l1 → k5 ≡ replicate (length k) 0
      → collect_outcome (record { refusal = 0; hinted = a.hinted; taken = a.taken; objects = a.objects; words = a.words; kept = a.kept; fillers = f; rec = a.rec }) h5 l5 k5 roots1
      ≡ accepted_collect (collection plainly (lent h l k r) roots hints)
  unfolding accepted_collect collection filled plan_of
  run_is sh e h4 f A h5 l5 k5 freed_h freed_l cleared =
      let few : after.pages.kept ≤ length after.pages.queue = omega (arith, safe.hinted) in
      let F : FilledAs (fill_pages r.page (kept_pages after.pages) (record { heap = after.heap; places = [] })) h4 f = rw (kept_are, ← R.heap) A in
      rw (R.answer, taken_count after.pages, kept_count after.pages few, R.rooted, freed_h, freed_l, cleared, e, R.labels, F.heap, F.places)
