-- A page that is kept stays kept. So where a run ends with none kept for want of room, none was at any time before.
use Rattle.std.specs.Prelude.{◌≡◌, Bool, cond, eqb, leb, ltb, length}
use Rattle.std.proofs.Math.Path.{refl}
use Rattle.std.proofs.Math.Bool.{true, false}
use mathlib.Core.List.{List, [], ◌∷◌}
use Prim.Native.Nat.{ℕ, zero, suc, ◌+◌, ◌*◌, ◌-◌, ◌/◌, ◌%◌, ◌≤◌}
use Rattle.std.proofs.Math.Nat.{le_refl, le_trans}
use native.Mathlib.Omega.{arith}
use Rattle.rules.specs.Ranges.{at}
use Rattle.rules.specs.Header.{size_of, refs_of, is_header}
use Rattle.rules.specs.Collection.{Plan, Pages, State, take_page, with_room, put, copy_object, can_copy, keep_page, keep_object, forward, forward_roots, sweep_reference, sweep_references, is_left, size_at_copy, sweep_page, sweep_queue}

-- no page kept in s is given back in t
abbrev pub KeptStay : State → State → Type 0
KeptStay s t = s.pages.kept ≤ t.pages.kept

module _ (k : Plan) where
  room_kept : (n : ℕ) (p : Pages) → (with_room k n p).kept ≡ p.kept
  unfolding with_room take_page
  room_kept n p = go (leb (p.fill + n) k.page)
    where
      go : (b : Bool) → (cond b p (take_page k p)).kept ≡ p.kept
      go true = refl
      go false = refl

  pub forward_kept : (v : ℕ) (s : State) → KeptStay s (forward k v s).state
  unfolding forward copy_object put keep_object keep_page
  forward_kept v s = go (eqb v 0) (eqb (at s.heap v % 2) 0) (eqb (at s.pages.labels (v / k.page)) k.new) (can_copy k (size_of (at s.heap v)) s.pages)
    where
      go : (zero gone new can : Bool) → KeptStay s (cond zero (record { value = 0; state = s }) (cond gone (record { value = at s.heap v / 2; state = s }) (cond new (record { value = v; state = s }) (cond can (copy_object k v s) (keep_object k v s))))).state
      go true gone new can = le_refl _
      go false true new can = le_refl _
      go false false true can = le_refl _
      go false false false true = omega (arith, room_kept (size_of (at s.heap v)) s.pages)
      go false false false false = omega arith

  pub roots_kept : (rs : List ℕ) (s : State) → KeptStay s (forward_roots k rs s).state
  unfolding forward_roots
  roots_kept [] s = le_refl _
  roots_kept (r ∷ rs) s = le_trans (forward_kept r s) (roots_kept rs (forward k r s).state)

  pub reference_kept : (w : ℕ) (s : State) → KeptStay s (sweep_reference k w s)
  unfolding sweep_reference
  reference_kept w s = forward_kept (at s.heap w) s

  pub references_kept : (n w : ℕ) (s : State) → KeptStay s (sweep_references k n w s)
  unfolding sweep_references
  references_kept zero w s = le_refl _
  references_kept (suc n) w s = le_trans (reference_kept w s) (references_kept n (suc w) (sweep_reference k w s))

  pub page_kept : (f a room : ℕ) (s : State) → KeptStay s (sweep_page k f a room s)
  unfolding sweep_page
  page_kept zero a room s = le_refl _
  page_kept (suc f) a room s = go (λ b rest t. page_kept f b rest t) (is_header (at s.heap a) room) (is_left (at s.heap a) room)
    where
      w : ℕ
      w = at s.heap a

      c : ℕ
      c = size_at_copy s.heap w

      swept : State
      swept = sweep_references k (refs_of w) (suc a) s

      go : ((b rest : ℕ) (t : State) → KeptStay t (sweep_page k f b rest t)) → (header left : Bool)
          → KeptStay s (cond header (sweep_page k f (a + size_of w) (room - size_of w) swept) (cond left (sweep_page k f (a + c) (room - c) s) s))
      go ih true left = le_trans (references_kept (refs_of w) (suc a) s) (ih (a + size_of w) (room - size_of w) swept)
      go ih false true = ih (a + c) (room - c) s
      go ih false false = le_refl _

  pub queue_kept : (f i : ℕ) (s : State) → KeptStay s (sweep_queue k f i s)
  unfolding sweep_queue
  queue_kept zero i s = le_refl _
  queue_kept (suc f) i s = go (queue_kept f (suc i) swept) (ltb i (length s.pages.queue))
    where
      swept : State
      swept = sweep_page k k.page (at s.pages.queue i * k.page) k.page s

      go : KeptStay swept (sweep_queue k f (suc i) swept) → (more : Bool) → KeptStay s (cond more (sweep_queue k f (suc i) swept) s)
      go ih true = le_trans (page_kept k.page (at s.pages.queue i * k.page) k.page s) ih
      go ih false = le_refl _
