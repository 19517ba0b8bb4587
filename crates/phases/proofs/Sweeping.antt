-- Laws of the sweep: the references of an object, the objects of a page, the pages of the queue. Each loop carries what is
-- left to do, which gives what there was to do at first, and that it is safe; K' is the plan as the code has it by then.
use Rattle.std.proofs.Common.{◌≡◌, refl, sym, ◌∙◌, true, false, List, ℕ, zero, suc, ◌+◌, ◌-◌, ◌*◌, ◌≤◌, ◌<◌, length, take, arith, add-one}
use lib.ListN.{set}
use lib.Seq.{get_or-take}
use borrow.Author.Tests.{lt-ltb, le-ltb}
use Rattle.rules.specs.Ranges.{at}
use Rattle.rules.specs.Header.{size_of, refs_of, is_header}
use Rattle.rules.specs.Collection.{Plan, State, forward, sweep_reference, sweep_references, is_left, sweep_page, sweep_queue}
use Rattle.laws.specs.Headers.{Header, header_says, header_full, left_full}
use Rattle.laws.specs.Safe.{SafeForward, SafeReferences, SafeStep, SafePage, SafeQueue}
use Rattle.hints.specs.Queue.{queue_length}
use Rattle.copies.specs.Code.{forwarded_of}
use Rattle.fillers.specs.Places.{LeftBy, Turns, turns_first, turns_none, turns_on}

-- ---- the references of an object, from address w up to `stop`

pub record References (K : Plan) (stop : ℕ) (goal : State) (K' : Plan) (s : State) (w : ℕ) : Type 0 where
  pub plan : K' ≡ K
  pub same : sweep_references K (stop - w) w s ≡ goal
  pub safe : SafeReferences K (stop - w) w s

module _ {K : Plan} {stop : ℕ} {goal : State} {K' : Plan} {s : State} {w : ℕ} (W : References K stop goal K' s w) where
  pub references_end : stop ≤ w → s ≡ goal
  unfolding sweep_references
  references_end h = let e : stop - w ≡ 0 = omega arith in rw e at W.same

  module _ (h : w < stop) where
    more : stop - w ≡ suc (stop - (w + 1))
    more = omega arith

    pub references_safe : SafeForward K' (at s.heap w) s
    unfolding SafeReferences
    references_safe = rw W.plan (rw more at W.safe).0

    -- one reference is forwarded, and stored where it was
    pub references_turn : (v : ℕ) (t : State) → forwarded_of v t ≡ forward K' (at s.heap w) s → (K'' : Plan) → K'' ≡ K'
        → References K stop goal K'' (record { heap = set t.heap w v; pages = t.pages; objects = t.objects; words = t.words; moves = t.moves }) (w + 1)
    unfolding sweep_reference sweep_references SafeReferences
    references_turn v t q K'' k =
        let e : forwarded_of v t ≡ forward K (at s.heap w) s = rw W.plan at q in
        let stored : record { heap = set t.heap w v; pages = t.pages; objects = t.objects; words = t.words; moves = t.moves } ≡ sweep_reference K w s = rw (← e) in
        record {
          plan = k ∙ W.plan;
          same = rw (stored, add-one w) (rw (more, add-one w) at W.same);
          safe = rw (stored, add-one w) (rw (more, add-one w) at W.safe).1;
        }

-- ---- the objects of a page, from address x to the page's end e

pub record Objects (K : Plan) (e : ℕ) (goal : State) (K' : Plan) (s : State) (x : ℕ) : Type 0 where
  pub plan : K' ≡ K
  pub f : ℕ
  pub room : ℕ
  pub turns : Turns e x f room
  pub same : sweep_page K f x room s ≡ goal
  pub safe : SafePage K f x room s
  pub within : x ≤ e

pub objects_begin : (K : Plan) (base P : ℕ) (s : State) → SafePage K P base P s → Objects K (base + P) (sweep_page K P base P s) K s base
objects_begin K base P s safe = record { plan = refl; f = P; room = P; turns = turns_first base P; same = refl; safe = safe; within = omega arith }

module _ {K : Plan} {e : ℕ} {goal : State} {K' : Plan} {s : State} {x : ℕ} (O : Objects K e goal K' s x) where
  stop_go : (f r : ℕ) → is_header (at s.heap x) r ≡ false → is_left (at s.heap x) r ≡ false → sweep_page K f x r s ≡ s
  unfolding sweep_page
  stop_go zero r a b = refl
  stop_go (suc f) r a b = rw (a, b)

  pub objects_stop : is_header (at s.heap x) (e - x) ≡ false → is_left (at s.heap x) (e - x) ≡ false → s ≡ goal
  objects_stop a b = sym (stop_go O.f O.room (rw O.turns.place a) (rw O.turns.place b)) ∙ O.same

  pub objects_past : e ≤ x → s ≡ goal
  objects_past p = let z : e - x ≡ 0 = omega arith in objects_stop (rw z (header_full (at s.heap x))) (rw z (left_full (at s.heap x)))

  module _ (p : x < e) where
    -- ---- a header stands at x: n is the object's size, r how many references it has, as the code counts them

    module _ (y : is_header (at s.heap x) (e - x) ≡ true) (n r : ℕ) (size : n ≡ size_of (at s.heap x)) (refs : r ≡ refs_of (at s.heap x)) where
      says : Header (at s.heap x) (e - x)
      says = header_says _ _ y

      pub objects_within : (x + 1 + r ≤ e) × (1 ≤ n) × (x + n ≤ e)
      objects_within = (omega (arith, says.shape, says.fits, refs), omega (arith, says.shape, size), omega (arith, says.fits, size))

      count : x + 1 + r - (x + 1) ≡ refs_of (at s.heap x)
      count = omega (arith, refs)

      safe_go : (f r : ℕ) → Turns e x f r → SafePage K f x r s → SafeReferences K (refs_of (at s.heap x)) (suc x) s
      unfolding SafePage
      safe_go zero r T S = absurd (turns_none T p)
      safe_go (suc f) r T S = (S.0 (rw T.place y)).0

      pub objects_safe : SafeReferences K' (x + 1 + r - (x + 1)) (x + 1) s
      objects_safe = rw (count, O.plan, add-one x) (safe_go O.f O.room O.turns O.safe)

      turn_go : (f r : ℕ) → Turns e x f r → sweep_page K f x r s ≡ goal → SafePage K f x r s → (K'' : Plan) → K'' ≡ K
          → Objects K e goal K'' (sweep_references K (refs_of (at s.heap x)) (suc x) s) (x + size_of (at s.heap x))
      unfolding SafePage sweep_page
      turn_go zero r T g S K'' k = absurd (turns_none T p)
      turn_go (suc f) r T g S K'' k =
          let y' : is_header (at s.heap x) r ≡ true = rw T.place y in
          record {
            plan = k;
            f = f;
            room = r - size_of (at s.heap x);
            turns = turns_on T (size_of (at s.heap x)) (omega (arith, says.shape));
            same = rw y' at g;
            safe = (S.0 y').1;
            within = omega (arith, says.fits);
          }

      -- a turn: t is what the sweep of its references leaves
      pub objects_turn : (t : State) → t ≡ sweep_references K' (x + 1 + r - (x + 1)) (x + 1) s → (K'' : Plan) → K'' ≡ K' → Objects K e goal K'' t (x + n)
      objects_turn t q K'' k =
          let q' : t ≡ sweep_references K (refs_of (at s.heap x)) (suc x) s = rw (count, O.plan, add-one x) at q in
          rw (q', size) (turn_go O.f O.room O.turns O.same O.safe K'' (k ∙ O.plan))

    -- ---- an object was copied out of the place at x

    left_go : (f r : ℕ) → Turns e x f r → SafePage K f x r s → is_left (at s.heap x) (e - x) ≡ true → SafeStep s.heap (at s.heap x) (e - x)
    unfolding SafePage
    left_go zero r T S l = absurd (turns_none T p)
    left_go (suc f) r T S l = rw T.place at (S.1 (rw T.place l)).0

    pub objects_left : is_left (at s.heap x) (e - x) ≡ true → SafeStep s.heap (at s.heap x) (e - x)
    objects_left = left_go O.f O.room O.turns O.safe

    over_go : (f r n : ℕ) → Turns e x f r → sweep_page K f x r s ≡ goal → SafePage K f x r s → is_header (at s.heap x) (e - x) ≡ false → LeftBy s.heap (at s.heap x) (e - x) n → Objects K e goal K' s (x + n)
    unfolding SafePage sweep_page
    over_go zero r n T g S y L = absurd (turns_none T p)
    over_go (suc f) r n T g S y L =
        let y' : is_header (at s.heap x) r ≡ false = rw T.place y in
        let l : is_left (at s.heap x) r ≡ true = rw T.place L.left in
        record {
          plan = O.plan;
          f = f;
          room = r - n;
          turns = turns_on T n L.some;
          same = rw L.size (rw (y', l) at g);
          safe = rw L.size (S.1 l).1;
          within = omega (arith, L.fits);
        }

    -- a turn: it is stepped over
    pub objects_over : (n : ℕ) → is_header (at s.heap x) (e - x) ≡ false → LeftBy s.heap (at s.heap x) (e - x) n → Objects K e goal K' s (x + n)
    objects_over n = over_go O.f O.room n O.turns O.same O.safe

-- ---- the pages of the queue, from its head-th on, with fuel f

pub record Pending (K : Plan) (goal : State) (K' : Plan) (s : State) (head : ℕ) : Type 0 where
  pub plan : K' ≡ K
  pub f : ℕ
  pub enough : K.hi ≤ head + f
  pub same : sweep_queue K f head s ≡ goal
  pub safe : SafeQueue K f head s

pub pending_begin : (K : Plan) (s : State) → SafeQueue K K.hi 0 s → Pending K (sweep_queue K K.hi 0 s) K s 0
pending_begin K s safe = record { plan = refl; f = K.hi; enough = omega arith; same = refl; safe = safe }

-- the queue is as long as the code says, and no longer than its links
module _ {K : Plan} {goal : State} {K' : Plan} {s : State} {head : ℕ} (Z : Pending K goal K' s head) (links : List ℕ) (tail : ℕ) (queue : s.pages.queue ≡ take tail links)
    (fits : tail ≤ length links) (many : length links ≡ K.hi) where
  len : length s.pages.queue ≡ tail
  len = rw queue (queue_length links tail fits)

  end_go : (f : ℕ) → tail ≤ head → sweep_queue K f head s ≡ s
  unfolding sweep_queue
  end_go zero p = refl
  end_go (suc f) p = rw (le-ltb head (length s.pages.queue) (omega (arith, len)))

  pub pending_end : tail ≤ head → s ≡ goal
  pending_end p = sym (end_go Z.f p) ∙ Z.same

  module _ (p : head < tail) where
    queued : head < length s.pages.queue
    queued = omega (arith, len)

    page : at s.pages.queue head ≡ at links head
    page = rw queue (get_or-take tail links head 0 p)

    page_go : (f : ℕ) → K.hi ≤ head + f → SafeQueue K f head s → (at links head * K.page + K.page ≤ length s.heap) × SafePage K K.page (at links head * K.page) K.page s
    unfolding SafeQueue
    page_go zero e S = absurd (omega (arith, fits, many))
    page_go (suc f) e S = let q = S queued in (rw page at q.0, rw page at q.1.0)

    pub pending_safe : (at links head * K'.page + K'.page ≤ length s.heap) × SafePage K' K'.page (at links head * K'.page) K'.page s
    pending_safe = rw Z.plan (page_go Z.f Z.enough Z.safe)

    next_go : (f : ℕ) → K.hi ≤ head + f → sweep_queue K f head s ≡ goal → SafeQueue K f head s → (K'' : Plan) → K'' ≡ K
        → Pending K goal K'' (sweep_page K K.page (at links head * K.page) K.page s) (head + 1)
    unfolding sweep_queue SafeQueue
    next_go zero e q S K'' k = absurd (omega (arith, fits, many))
    next_go (suc f) e q S K'' k = record {
      plan = k;
      f = f;
      enough = omega arith;
      same = rw add-one (rw (lt-ltb head (length s.pages.queue) queued, page) at q);
      safe = rw add-one (rw page at (S queued).1.1);
    }

    pub pending_turn : (t : State) → t ≡ sweep_page K' K'.page (at links head * K'.page) K'.page s → (K'' : Plan) → K'' ≡ K' → Pending K goal K'' t (head + 1)
    pending_turn t e K'' k = let e' : t ≡ sweep_page K K.page (at links head * K.page) K.page s = rw Z.plan at e in rw e' (next_go Z.f Z.enough Z.same Z.safe K'' (k ∙ Z.plan))
