-- The run of an accepted collection, moves written down: its root cells and its queue are done, and it is safe.
use Rattle.std.specs.Prelude.{◌≡◌, ◌⊎◌, ℕ, ◌≤◌, ◌<◌}
use Rattle.std.proofs.Math.Logic.{inl, inr}
use mathlib.Core.List.{List, Memᴰ}
use Rattle.std.proofs.Common.{arith}
use Rattle.std.proofs.Math.ListN.{length}
use Rattle.rules.specs.Ranges.{at}
use Rattle.rules.specs.Lent.{Lent}
use Rattle.rules.specs.Sound.{IsObject}
use Rattle.rules.specs.Collection.{logged, State, Rooted, plan_of, after_roots, after_sweep, filled as fillers}
use Rattle.laws.specs.Safe.{SafeRoots, SafeQueue, SafeRun}
use Rattle.theory.specs.Sums.{at_mem}
use Rattle.theory.specs.World.{World}
use Rattle.theory.proofs.Packs.{packs_within, words_old_lem}
use Rattle.theory.specs.FillPages.{FilledAll, filled_all}
use Rattle.theory.proofs.SweepQueue.{Cells, RootsDone, AllDone, forward_roots_lem, sweep_queue_lem, queue_length}
use Rattle.laws.specs.Collect.{Ready}
use Rattle.theory.proofs.FirstState.{s, world, first_good, hints_run_safe, labels_length}

module _ (m : Lent) (roots hints : List ℕ) (A : Ready m roots) where
  abbrev pub W : World
  W = world m roots hints A

  -- after the roots, and after the sweep
  abbrev pub r : Rooted
  r = after_roots (plan_of m logged) m roots hints

  abbrev pub t : State
  t = after_sweep (plan_of m logged) m roots hints

  pub cells : Cells W roots
  unfolding world
  cells j h = go j h (A.roots (at roots j) (at_mem roots j h))
    where
      go : (j : ℕ) → j < length roots → (at roots j ≡ 0) ⊎ IsObject m (at roots j) → (at roots j ≡ 0) ⊎ (IsObject m (at roots j) × (IsObject m (at roots j) × Memᴰ (at roots j) roots))
      go j h (inl e) = inl e
      go j h (inr ob) = inr (ob, (ob, at_mem roots j h))

  pub roots_done : RootsDone W (s m roots hints A) roots r (SafeRoots (plan_of m logged) roots (s m roots hints A))
  unfolding world after_roots
  roots_done = forward_roots_lem W roots (s m roots hints A) (first_good m roots hints A) cells

  pub all_done : AllDone W r.state t (SafeQueue (plan_of m logged) m.rec.pages 0 r.state)
  unfolding world after_sweep
  all_done = sweep_queue_lem W m.rec.pages 0 r.state roots_done.good (omega (arith, labels_length m roots hints A)) (λ j h. absurd (omega arith))

  -- the heap with its fillers
  pub filled : FilledAll W t (fillers (plan_of m logged) t)
  unfolding world
  filled = let G = all_done.good in filled_all W t G.inv G.tiled G.lined.queued (packs_within W t G.packs)

  pub run_safe : SafeRun (plan_of m logged) m roots hints
  unfolding world
  run_safe = record {
    on_hints = hints_run_safe m roots hints A;
    on_roots = roots_done.safe;
    on_queue = all_done.safe;
    on_kept = filled.safe;
    hinted = omega (arith, all_done.good.packs.joined);
    queue = omega (arith, queue_length W t all_done.good, W.few);
    objects = omega (arith, words, all_done.good.packs.objects);
    words = words;
  }
    where
      words : t.words ≤ 4194304
      words = omega (arith, all_done.good.packs.words, words_old_lem W t all_done.good.inv all_done.good.packs, W.most, W.small)
