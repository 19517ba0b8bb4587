-- Two runs in step sweep their queues in step, and forward their root cells in step, as long as neither keeps a page.
use Rattle.std.specs.Prelude.{◌≡◌, Bool, true, false, cond, ltb, length}
use Rattle.std.proofs.Math.Path.{refl}
use Rattle.std.proofs.Common.{sym, subst, arith, ltb-true, ltb-false}
use mathlib.Core.List.{List, [], ◌∷◌}
use Prim.Native.Nat.{ℕ, zero, suc, ◌*◌, ◌<◌}
use Rattle.rules.specs.Ranges.{at}
use Rattle.rules.specs.Collection.{State, forward, forward_roots, sweep_page, sweep_queue}
use Rattle.rules.specs.Demands.{Becomes}
use Rattle.theory.specs.World.{World}
use Rattle.theory.specs.Cursor.{Cursor}
use Rattle.theory.proofs.Good.{Good, forward_went}
use Rattle.theory.proofs.SweepQueue.{Cells, rooted, page_start}
use Rattle.theory.specs.NoneKept.{roots_kept, queue_kept}
use Rattle.theory.proofs.Alike.{Alike, InStep, how_step}
use Rattle.theory.proofs.AlikeReferences.{Steps, steps_none, steps_trans}
use Rattle.theory.proofs.AlikePage.{page_steps}

module _ (W Z : World) (Pair : ℕ → ℕ → Type 0) (A : Alike W Z Pair) where
  -- ---- the queue

  abbrev QueueSteps : ℕ → ℕ → State → State → Type 0
  QueueSteps f i s u = Good W s → Good Z u → InStep W Z Pair s u → (sweep_queue W.plan f i s).pages.kept ≡ 0 → (sweep_queue Z.plan f i u).pages.kept ≡ 0
      → Steps W Z Pair s u (sweep_queue W.plan f i s) (sweep_queue Z.plan f i u)

  pub queue_steps : (f i : ℕ) (s u : State) → QueueSteps f i s u
  unfolding sweep_queue
  queue_steps zero i s u G H S none none' = steps_none W Z Pair s u G H S
  queue_steps (suc f) i s u G H S none none' =
      go (queue_steps f (suc i) t r) (ltb i (length s.pages.queue)) refl (ltb i (length u.pages.queue)) refl none none'
    where
      g : ℕ
      g = at s.pages.queue i

      g' : ℕ
      g' = at u.pages.queue i

      t : State
      t = sweep_page W.plan W.plan.page (g * W.plan.page) W.plan.page s

      r : State
      r = sweep_page Z.plan Z.plan.page (g' * Z.plan.page) Z.plan.page u

      -- the i-th page of each, whole
      page : i < length s.pages.queue → t.pages.kept ≡ 0 → r.pages.kept ≡ 0 → Steps W Z Pair s u t r
      page h on on' =
          let h' : i < length u.pages.queue = omega (arith, S.turns) in
          let start : Cursor Z u g' (g' * Z.plan.page) W.plan.page = subst (Cursor Z u g' (g' * Z.plan.page)) A.page (page_start Z i u H h') in
          let end : (sweep_page Z.plan W.plan.page (g' * Z.plan.page) W.plan.page u).pages.kept ≡ 0 =
          subst (λ (k : ℕ). (sweep_page Z.plan k (g' * Z.plan.page) k u).pages.kept ≡ 0) A.page on' in
          subst (λ (k : ℕ). Steps W Z Pair s u t (sweep_page Z.plan k (g' * Z.plan.page) k u)) (sym A.page)
          (page_steps W Z Pair A i g g' W.plan.page (g * W.plan.page) (g' * Z.plan.page) W.plan.page s u G H S h refl refl refl (omega (arith, A.page)) (page_start W i s G h) start on end)

      go : QueueSteps f (suc i) t r → (b : Bool) → ltb i (length s.pages.queue) ≡ b → (d : Bool) → ltb i (length u.pages.queue) ≡ d
          → (cond b (sweep_queue W.plan f (suc i) t) s).pages.kept ≡ 0 → (cond d (sweep_queue Z.plan f (suc i) r) u).pages.kept ≡ 0
          → Steps W Z Pair s u (cond b (sweep_queue W.plan f (suc i) t) s) (cond d (sweep_queue Z.plan f (suc i) r) u)
      go ih false e false e' none none' = steps_none W Z Pair s u G H S
      go ih true e false e' none none' = absurd (omega (arith, ltb-true i (length s.pages.queue) e, ltb-false i (length u.pages.queue) e', S.turns))
      go ih false e true e' none none' = absurd (omega (arith, ltb-false i (length s.pages.queue) e, ltb-true i (length u.pages.queue) e', S.turns))
      go ih true e true e' none none' =
          let B : Steps W Z Pair s u t r =
          page (ltb-true _ _ e) (omega (arith, queue_kept W.plan f (suc i) t, none)) (omega (arith, queue_kept Z.plan f (suc i) r, none')) in
          steps_trans W Z Pair s u t r _ _ B (ih B.good B.good' B.step none none')

  -- ---- the root cells

  pub roots_steps : (rs fs : List ℕ) (s u : State) → Good W s → Good Z u → InStep W Z Pair s u → Cells W rs → Cells Z fs
      → length fs ≡ length rs → ((j : ℕ) → j < length rs → Becomes Pair (at rs j) (at fs j))
      → (forward_roots W.plan rs s).state.pages.kept ≡ 0 → (forward_roots Z.plan fs u).state.pages.kept ≡ 0
      → Steps W Z Pair s u (forward_roots W.plan rs s).state (forward_roots Z.plan fs u).state
  unfolding forward_roots
  roots_steps [] [] s u G H S ok ok' len same none none' = steps_none W Z Pair s u G H S
  roots_steps [] (f ∷ fs) s u G H S ok ok' len same none none' = absurd (omega arith)
  roots_steps (v ∷ rs) [] s u G H S ok ok' len same none none' = absurd (omega arith)
  roots_steps (v ∷ rs) (f ∷ fs) s u G H S ok ok' len same none none' =
      let F = forward_went W s G v (rooted W s v (ok 0 (omega arith))) in
      let E = forward_went Z u H f (rooted Z u f (ok' 0 (omega arith))) in
      let t : State = (forward W.plan v s).state in
      let r : State = (forward Z.plan f u).state in
      let on : t.pages.kept ≡ 0 = omega (arith, roots_kept W.plan rs t, none) in
      let on' : r.pages.kept ≡ 0 = omega (arith, roots_kept Z.plan fs r, none') in
      let B : Steps W Z Pair s u t r = record {
        good = F.good;
        grow = F.grow;
        good' = E.good;
        grow' = E.grow;
        step = how_step W Z Pair A s u G H S v f (same 0 (omega arith)) t r on on' F.how E.how;
      } in
      steps_trans W Z Pair s u t r _ _ B
      (roots_steps rs fs t r F.good E.good B.step (λ j h. ok (suc j) (omega arith)) (λ j h. ok' (suc j) (omega arith)) (omega arith) (λ j h. same (suc j) (omega arith)) none none')
