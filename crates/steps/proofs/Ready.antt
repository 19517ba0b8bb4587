-- A session is ready for a collection after every record, accepted or refused: its heap is sound, which is demand 3 at work, and each of
-- its root cells holds 0 or an object start.
use Rattle.std.specs.Prelude.{◌≡◌, ℕ, ◌*◌, true, ◌⊎◌, List, [], ◌∷◌, ◌==◌, nat_eq, nat_le, slice_set, refl}
use Rattle.std.proofs.Common.{sym, subst, inl, inr, arith, eqb-true}
use mathlib.Core.List.{Memᴰ}
use Rattle.rules.specs.Ranges.{at, each}
use Rattle.rules.specs.Pages.{page_at_start}
use Rattle.rules.specs.Lent.{Lent}
use Rattle.rules.specs.Sound.{IsObject, Sound}
use Rattle.rules.specs.Calls.{Outcome, start, allocate, look_up, load, store}
use Rattle.rules.specs.Collect.{collect}
use Rattle.rules.specs.Demands.{to_collect, after, GoodRoots}
use Rattle.laws.specs.Lists.{each_true, mem_set}
use Rattle.laws.specs.Collect.{Ready}
use Rattle.kept.specs.Refusals.{by_test}
use Rattle.kept.specs.Start.{start_sound}
use Rattle.kept.specs.Allocate.{allocate_sound, allocate_keeps, allocate_new}
use Rattle.kept.specs.Store.{look_up_same, load_same, store_sound, store_keeps}
use Rattle.promises.specs.Completes.{completed_leaves}
use Rattle.promises.specs.Demand3.{call_sound}
use Rattle.entries.specs.declared.Step.{Step}
use Rattle.entries.specs.declared.Step.TheVariants.{Start, Allocate, Store, Load, Hint, Clear, Collect, LookUp, Bad}
use Rattle.entries.specs.Entries.{is_allowed}
use Rattle.steps.specs.Session.{Session, Stepped, cells, before, refused, accepted, passed, holding, blank, begin, operand_of, root_plus, perform, step}

-- ---- root cells

module _ {m : Lent} {roots : List ℕ} where
  -- one cell becomes nil or an object start
  good_set : {v : ℕ} (x : ℕ) → (v ≡ 0) ⊎ IsObject m v → GoodRoots m roots → GoodRoots m (slice_set roots x v)
  good_set {v} x new good r k = go (mem_set roots x v r k)
    where
      go : (r ≡ v) ⊎ Memᴰ r roots → (r ≡ 0) ⊎ IsObject m r
      go (inl e) = subst (λ (u : ℕ). (u ≡ 0) ⊎ IsObject m u) (sym e) new
      go (inr q) = good r q

  -- the memory changes, and no object is lost
  good_kept : {m' : Lent} → ((b : ℕ) → IsObject m b → IsObject m' b) → GoodRoots m roots → GoodRoots m' roots
  good_kept {m'} keeps good r k = go (good r k)
    where
      go : (r ≡ 0) ⊎ IsObject m r → (r ≡ 0) ⊎ IsObject m' r
      go (inl e) = inl e
      go (inr o) = inr (keeps r o)

-- as a start leaves them
good_cells : (m : Lent) → GoodRoots m cells
unfolding each
good_cells m r k = inl (eqb-true r 0 (each_true (λ r. nat_eq r 0) cells refl r k))

-- ---- what every record keeps

-- once a start was accepted
abbrev pub IsReady : Session → Type 0
IsReady s = s.begun ≡ true → Ready s.lent s.roots

abbrev Leaves : Stepped → Type 0
Leaves o = IsReady o.session

refused_ready : (e : ℕ) (s : Session) → IsReady s → Leaves (refused e s)
unfolding refused
refused_ready e s h = h

accepted_ready : (v : ℕ) (s : Session) → IsReady s → Leaves (accepted v s)
unfolding accepted
accepted_ready v s h = h

-- a call that leaves memory m and these root cells, if it is accepted
passed_ready : (s : Session) (e v : ℕ) (m : Lent) (roots : List ℕ) → (e ≡ 0 → Ready s.lent s.roots → Ready m roots) → IsReady s → Leaves (passed s e v (holding s m roots))
unfolding passed
passed_ready s e v m roots call h = by_test IsReady (e == 0) _ s (λ z b. call (eqb-true e 0 z) (h b)) (λ z. h)

begin_ready : (s : Session) (o : Outcome) (words : ℕ) → (o.refusal ≡ 0 → Sound o.lent) → IsReady s → Leaves (begin s o words)
begin_ready s o words fresh h =
    by_test Leaves (o.refusal == 0) _ _ (λ e.
    by_test Leaves (nat_le words 8192) _ _ (λ l. accepted_ready _ _ (λ b. record { sound = fresh (eqb-true _ 0 e); roots = good_cells o.lent }))
    (λ l. refused_ready 9 s h)) (λ e. refused_ready _ s h)

-- ---- the calls

module _ (m : Lent) (roots : List ℕ) where
  allocate_ready : (x d p : ℕ) → (allocate m d p).refusal ≡ 0 → Ready m roots → Ready (allocate m d p).lent (slice_set roots x (allocate m d p).value)
  allocate_ready x d p z k = record {
    sound = allocate_sound m d p k.sound;
    roots = good_set x (inr (allocate_new m d p k.sound z)) (good_kept (allocate_keeps m d p k.sound z) k.roots);
  }

  store_ready : (a i v : ℕ) → (store m a i v).refusal ≡ 0 → Ready m roots → Ready (store m a i v).lent roots
  store_ready a i v z k = record { sound = store_sound m a i v k.sound; roots = good_kept (store_keeps m a i v k.sound z) k.roots }

  load_ready : (a i : ℕ) → (load m a i).refusal ≡ 0 → Ready m roots → Ready (load m a i).lent roots
  load_ready a i z = subst (λ (m' : Lent). Ready m' roots) (sym (load_same m a i))

  look_up_ready : (a : ℕ) → (look_up m a).refusal ≡ 0 → Ready m roots → Ready (look_up m a).lent roots
  look_up_ready a z = subst (λ (m' : Lent). Ready m' roots) (sym (look_up_same m a))

  clear_ready : (x : ℕ) → Ready m roots → Ready m (slice_set roots x 0)
  clear_ready x k = record { sound = k.sound; roots = good_set x (inl refl) k.roots }

  collect_ready : (hints : List ℕ) → (collect m roots hints).refusal ≡ 0 → Ready m roots → Ready (collect m roots hints).lent (collect m roots hints).roots
  unfolding after
  collect_ready hints z k = record { sound = call_sound m k.sound (to_collect roots hints); roots = completed_leaves m roots hints z }

-- ---- the steps

perform_ready : (s : Session) (t : Step) → IsReady s → Leaves (perform s t)
unfolding perform
perform_ready s (Start P T) h = let m = blank (page_at_start P) T s.lent.rec in begin_ready s (start m P T) (T * page_at_start P) (start_sound m P T) h
perform_ready s (Allocate x d p) h = passed_ready s _ _ _ _ (allocate_ready s.lent s.roots x d p) h
perform_ready s (Store x i operand) h = passed_ready s _ _ _ _ (store_ready s.lent s.roots (at s.roots x) i (operand_of s.roots operand)) h
perform_ready s (Load x i) h = passed_ready s _ _ _ _ (load_ready s.lent s.roots (at s.roots x) i) h
perform_ready s (Hint x y v) h = accepted_ready _ _ h
perform_ready s (Clear x) h = accepted_ready _ _ (λ b. clear_ready s.lent s.roots x (h b))
perform_ready s Collect h = passed_ready s _ _ _ _ (collect_ready s.lent s.roots s.hints) h
perform_ready s (LookUp x v) h = passed_ready s _ _ _ _ (look_up_ready s.lent s.roots (root_plus s.roots x v)) h
perform_ready s Bad h = refused_ready 9 s h

pub step_ready : (s : Session) (t : Step) → IsReady s → IsReady (step s t).session
unfolding step
step_ready s t h = by_test Leaves (is_allowed s.begun t) _ _ (λ e. perform_ready s t h) (λ e. refused_ready 9 s h)

-- a session after these steps
unfoldable pub played : Session → List Step → Session
played s [] = s
played s (t ∷ ts) = played (step s t).session ts

played_ready : (s : Session) (ts : List Step) → IsReady s → IsReady (played s ts)
unfolding played
played_ready s [] h = h
played_ready s (t ∷ ts) h = played_ready (step s t).session ts (step_ready s t h)

pub session_ready : (ts : List Step) → IsReady (played before ts)
unfolding before
session_ready ts = played_ready before ts (λ b. absurd (let z : ◌≡◌ {A = ℕ} 0 1 = cc in omega arith))
