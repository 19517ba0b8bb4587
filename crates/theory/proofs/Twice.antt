-- Q-7 of one accepted collection, moves written down, and the one after it with the resulting roots and the same hints. The first collection's
-- pairing makes the two worlds alike; where no hint names a page that it took, the hints leave them in step; and so they stay.
use Rattle.std.specs.Prelude.{◌≡◌, ◌⊎◌, ℕ, ◌+◌, ◌-◌, ◌/◌, ◌≤◌, ◌<◌}
use Rattle.std.proofs.Math.Path.{refl, sym, ap, subst}
use Rattle.std.proofs.Common.{◌∙◌, inl, inr}
use mathlib.Core.List.Memᴰ
use mathlib.Core.List.{List, Memᴰ}
use native.Mathlib.Omega.{arith}
use Rattle.std.proofs.Math.ListN.{length}
use Rattle.rules.specs.Ranges.{at}
use Rattle.rules.specs.Pages.{other_label}
use Rattle.rules.specs.Header.{refs_of}
use Rattle.rules.specs.Lent.{Lent}
use Rattle.rules.specs.Sound.{IsObject}
use Rattle.rules.specs.Collection.{logged, State, plan_of, begun, after_hints, after_roots, after_sweep, collection}
use Rattle.rules.specs.Collect.{accepted_collect}
use Rattle.rules.specs.Demands.{Hinted, Becomes}
use Rattle.rules.specs.InARow.{SameNumbers}
use Rattle.laws.specs.Collect.{Ready}
use Rattle.theory.specs.KeptPages.{not_kept}
use Rattle.theory.specs.World.{becomes_map, World, Kept, stayed, went}
use Rattle.theory.specs.Places.{kept_obj, hinted_label, old_new_kept}
use Rattle.theory.specs.Hints.{queues_same}
use Rattle.theory.specs.SoundHeap.{in_use}
use Rattle.theory.proofs.FirstState.{U, H, named as named_of, p as pages_of, s as first_of, world, first_good, hinted_new, new_hinted, used_kind}
use Rattle.theory.proofs.Run.{W as world_of, r as rooted_of, t as swept_of, cells, roots_done, all_done}
use Rattle.theory.proofs.After.{m' as lent_of, inv, kept_object, kept_header, kept_reference, new_in_use, in_use_new}
use Rattle.theory.proofs.Pairing.{told, outcome, Pairs, hinted_stays, faithful, after_ready}
use Rattle.theory.proofs.Taken.{taken, taken_length, new_taken}
use Rattle.theory.specs.NoneKept.{queue_kept}
use Rattle.theory.proofs.Alike.{Alike, Twin, Partner, Turned, InStep}
use Rattle.theory.proofs.AlikeReferences.{Steps}
use Rattle.theory.proofs.AlikeRun.{roots_steps, queue_steps}

module _ (m : Lent) (roots hints : List ℕ) (A : Ready m roots) where
  abbrev W : World
  W = world_of m roots hints A

  abbrev t : State
  t = swept_of m roots hints A

  -- what it leaves
  abbrev m' : Lent
  m' = lent_of m roots hints A

  abbrev roots' : List ℕ
  roots' = (rooted_of m roots hints A).roots

  abbrev Pair : ℕ → ℕ → Type 0
  Pair = Pairs m roots hints A

  pub again : Ready m' roots'
  unfolding accepted_collect collection
  again = after_ready m roots hints A

  abbrev Z : World
  Z = world_of m' roots' hints again

  -- ---- the two worlds are alike

  alike : Alike W Z Pair
  unfolding world plan_of collection
  alike = record {
    page = refl;
    first = kept_obj W t (inv m roots hints A);
    second = kept_object m roots hints A;
    once = (faithful m roots hints A).paired.once;
    back = (faithful m roots hints A).paired.back;
    headers = kept_header m roots hints A;
    references = references;
  }
    where
      references : (x y i : ℕ) → Pair x y → 0 < i → i ≤ refs_of (at m.heap x) → Becomes Pair (at m.heap (x + i)) (at m'.heap (y + i))
      references x y i K low high =
          let ex : x + 1 + (i - 1) ≡ x + i = omega arith in
          let ey : y + 1 + (i - 1) ≡ y + i = omega arith in
          rw (ex, ey) at (kept_reference m roots hints A x y (i - 1) K (omega arith))

  -- ---- the hints name the same pages in use

  hinted_again : (g : ℕ) → Hinted m hints g → Hinted m' hints g
  unfolding world plan_of collection
  hinted_again g h = record {
    in_use = new_in_use m roots hints A g (hinted_label W t (inv m roots hints A) g (hinted_new m roots hints A g h));
    named = h.named;
  }

  module _ (none : t.pages.kept ≡ 0) (spared : (g : ℕ) → Memᴰ g (named_of m roots hints A) → Memᴰ g (taken m roots hints A) → ⊥) where
    hinted_before : (g : ℕ) → Hinted m' hints g → Hinted m hints g
    unfolding world plan_of collection
    hinted_before g h = was (A.sound.labels g)
      where
        new : at t.pages.labels g ≡ other_label m.rec.label
        new = in_use_new m roots hints A g h.in_use

        used : (at W.labels g ≡ m.rec.label) ⊎ (at W.labels g ≡ other_label m.rec.label) → Hinted m hints g
        used (inl e) = absurd (not_kept t.pages none g (old_new_kept W t (inv m roots hints A) g e new).listed)
        used (inr e) = new_hinted m roots hints A g e

        was : (at m.labels g ≡ 0) ⊎ (at m.labels g ≡ m.rec.label) → Hinted m hints g
        was (inl e) = absurd (spared g h.named (new_taken m roots hints A g e new))
        was (inr e) = used (used_kind m roots hints A g e)

    queue_same : (pages_of m' roots' hints again).queue ≡ (pages_of m roots hints A).queue
    unfolding after_hints plan_of begun collection
    queue_same = queues_same _ _ _ _ (U m roots hints A) (U m' roots' hints again) (named_of m roots hints A) (begun m) (begun m') refl (λ g mem. (
      λ e. (hinted_again g (record { in_use = in_use m A.sound g e; named = mem })).in_use.label,
      λ e. (hinted_before g (record { in_use = in_use m' again.sound g e; named = mem })).in_use.label,
    ))

    -- ---- the hints leave them in step

    -- an object after the first is paired, since there are no fillers
    paired_from : (y : ℕ) → IsObject m' y → (x : ℕ) × Pair x y
    unfolding accepted_collect collection
    paired_from y ob = go ((faithful m roots hints A).nothing y ob)
      where
        go : ((x : ℕ) × Pair x y) ⊎ Memᴰ y (told m roots hints A).fillers → (x : ℕ) × Pair x y
        go (inl p) = p
        go (inr k) = absurd (not_kept t.pages none (y / m.rec.page) ((faithful m roots hints A).fills.left y k).1)

    -- one on a hinted page was there before
    hinted_pair : (y : ℕ) → IsObject m' y → Hinted m hints (y / m.rec.page) → Pair y y
    unfolding world plan_of
    hinted_pair y ob h = let (x, K) = paired_from y ob in go x K
      where
        go : (x : ℕ) → Pair x y → Pair y y
        go x (stayed q e) = subst (λ (z : ℕ). Pair z y) (sym e) (stayed q e)
        go x (went j mem ex ey) =
            absurd (W.new≢0 (sym (hinted_new m roots hints A (y / m.rec.page) h) ∙ ap (λ (a : ℕ). at W.labels (a / m.rec.page)) ey ∙ ((inv m roots hints A).moved j mem).fresh))

    abbrev s : State
    s = first_of m roots hints A

    abbrev u : State
    u = first_of m' roots' hints again

    -- on a hinted page of both, at one place
    twins : (x a : ℕ) → Hinted m hints (x / m.rec.page) → a ≡ x → Twin W Z s u a a
    unfolding world plan_of collection
    twins x a h e =
        let (j, lt, q) = (H m roots hints A).queued.all (x / m.rec.page) (hinted_new m roots hints A (x / m.rec.page) h) in
        let here : at s.pages.queue j ≡ a / m.rec.page = q ∙ ap (λ (z : ℕ). z / m.rec.page) (sym e) in
        record { turn = j; within = lt; here = here; there = ap (λ (l : List ℕ). at l j) queue_same ∙ here; place = refl }

    first_step : InStep W Z Pair s u
    unfolding world plan_of begun collection
    first_step = record {
      fill = (H m' roots' hints again).fill ∙ sym (H m roots hints A).fill;
      turns = ap (λ (l : List ℕ). length l) queue_same;
      objects = refl;
      words = refl;
      first = first;
      second = second;
    }
      where
        first : (x a : ℕ) → Kept W s x a → Partner W Z Pair s u x a
        first x a (went j mem ex ea) = absurd (Memᴰ.not-nil mem)
        first x a (stayed q e) =
            let h : Hinted m hints (x / m.rec.page) = new_hinted m roots hints A (x / m.rec.page) q.label in
            let K : Pair x x = stayed (hinted_stays m roots hints A x q.object h) refl in
            record {
              y = x;
              b = a;
              pair = K;
              kept = stayed (record {
                object = kept_object m roots hints A x x K;
                label = hinted_new m' roots' hints again (x / m.rec.page) (hinted_again (x / m.rec.page) h);
                not_gone = λ j mem. absurd (Memᴰ.not-nil mem);
              }) e;
              twin = twins x a h e;
            }

        second : (y b : ℕ) → Kept Z u y b → Partner Z W (Turned Pair) u s y b
        second y b (went j mem ey eb) = absurd (Memᴰ.not-nil mem)
        second y b (stayed q e) =
            let h : Hinted m hints (y / m.rec.page) = hinted_before (y / m.rec.page) (new_hinted m' roots' hints again (y / m.rec.page) q.label) in
            let K : Pair y y = hinted_pair y q.object h in
            let T : Twin W Z s u b b = twins y b h e in
            record {
              y = y;
              b = b;
              pair = K;
              kept = stayed (record {
                object = kept_obj W t (inv m roots hints A) y y K;
                label = hinted_new m roots hints A (y / m.rec.page) h;
                not_gone = λ j mem. absurd (Memᴰ.not-nil mem);
              }) e;
              twin = record { turn = T.turn; within = subst (λ (l : List ℕ). T.turn < length l) (sym queue_same) T.within; here = T.there; there = T.here; place = refl };
            }

    -- ---- and so they stay, where the second keeps no page either

    module _ (none' : (swept_of m' roots' hints again).pages.kept ≡ 0) where
      abbrev t' : State
      t' = swept_of m' roots' hints again

      on_roots : Steps W Z Pair s u (rooted_of m roots hints A).state (rooted_of m' roots' hints again).state
      unfolding world after_roots after_sweep
      on_roots = roots_steps W Z Pair alike roots roots' s u (first_good m roots hints A) (first_good m' roots' hints again) first_step (cells m roots hints A) (cells m' roots' hints again)
          (roots_done m roots hints A).cells (λ j h. becomes_map (all_done m roots hints A).grow.kept _ _ ((roots_done m roots hints A).becomes j h))
          (omega (arith, none, queue_kept (plan_of m logged) m.rec.pages 0 (rooted_of m roots hints A).state))
          (omega (arith, none', queue_kept (plan_of m' logged) m'.rec.pages 0 (rooted_of m' roots' hints again).state))

      on_queue : Steps W Z Pair (rooted_of m roots hints A).state (rooted_of m' roots' hints again).state t t'
      unfolding world after_sweep collection
      on_queue = queue_steps W Z Pair alike m.rec.pages 0 _ _ on_roots.good on_roots.good' on_roots.step none none'

      -- "the same objects remain": every object after the first is paired by the second
      pub every : (y : ℕ) → IsObject m' y → (z : ℕ) × Pairs m' roots' hints again y z
      every y ob =
          let (x, K) = paired_from y ob in
          let P = on_queue.step.first x y K in
          (P.b, subst (λ (v : ℕ). Pairs m' roots' hints again v P.b) (alike.once x P.y y P.pair K) P.kept)

      -- "the same numbers"
      pub numbers : SameNumbers (outcome m roots hints A) (outcome m' roots' hints again)
      unfolding accepted_collect collection
      numbers = record {
        hinted = ap (λ (l : List ℕ). length l) queue_same;
        taken = taken_length m' roots' hints again ∙ counts ∙ sym (taken_length m roots hints A);
        objects = on_queue.step.objects;
        words = on_queue.step.words;
      }
        where
          counts : length t'.pages.queue - t'.pages.kept - length u.pages.queue ≡ length t.pages.queue - t.pages.kept - length s.pages.queue
          counts = omega (arith, on_queue.step.turns, first_step.turns, none, none')
