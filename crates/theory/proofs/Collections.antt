-- What is proved of one collection, over the definitions of `rules`, for every memory, root cells and hints: where the tests of
-- collect pass, its run is safe, what it leaves is sound, it finds its pages, and it is faithful. And of two in a row (Q-7).
use Rattle.std.specs.Prelude.{◌≡◌, ℕ, ◌≤◌, length}
use Rattle.std.proofs.Common.{sym, ◌∙◌}
use Rattle.std.proofs.Math.Path.{ap, subst}
use mathlib.Core.List.{List, []}
use Rattle.std.proofs.Math.Decide.{ℕ_discrete}
use Rattle.rules.specs.Lent.{Lent}
use Rattle.rules.specs.Sound.{Sound}
use Rattle.rules.specs.Collection.{logged, plainly, Collection, plan_of, collection}
use Rattle.rules.specs.Collect.{CollectOutcome, needed_for, refusal_of_collect, accepted_collect, refused_collect, collect}
use Rattle.rules.specs.Demands.{Faithful, FindsPages}
use Rattle.laws.specs.FreePages.{free_pages}
use Rattle.laws.specs.Safe.{SafeRun}
use Rattle.laws.specs.Collect.{Ready, ready_says, ready_is, collect_accepts, collect_refuses}
use Rattle.theory.specs.Collections.{Again, Repeated}
use Rattle.theory.specs.KeptPages.{kept_length}
use Rattle.theory.proofs.Packs.{packs_within}
use Rattle.theory.specs.Plainly.{collection_plainly, run_plainly}
use Rattle.theory.proofs.Run.{r as rooted_of, t as swept_of, all_done, run_safe}
use Rattle.theory.proofs.After.{m' as lent_of, after_sound}
use Rattle.theory.proofs.Pairing.{told, outcome, Pairs, faithful, after_ready}
use Rattle.theory.proofs.Taken.{finds, none_kept}
use Rattle.theory.proofs.Twice.{again, every, numbers}

-- collect's outcome, and the theory's, which has the moves written down
module _ (m : Lent) (roots hints : List ℕ) (A : Ready m roots) where
  outcome_is : collect m roots hints ≡ outcome m roots hints A
  outcome_is = collect_accepts m roots hints (ready_is m roots A) ∙ ap accepted_collect (collection_plainly m roots hints)

  faithful_is : Faithful m roots hints (collect m roots hints) (collection plainly m roots hints) (Pairs m roots hints A)
  faithful_is = subst (λ (o : CollectOutcome). Faithful m roots hints o (collection plainly m roots hints) (Pairs m roots hints A)) (sym outcome_is)
      (subst (λ (c : Collection). Faithful m roots hints (outcome m roots hints A) c (Pairs m roots hints A)) (sym (collection_plainly m roots hints)) (faithful m roots hints A))

  -- how many pages it kept
  kept_count : length (told m roots hints A).kept ≡ (swept_of m roots hints A).pages.kept
  unfolding collection
  kept_count = kept_length (swept_of m roots hints A).pages (packs_within _ _ (all_done m roots hints A).good.packs)

module _ (m : Lent) (roots hints : List ℕ) (e : refusal_of_collect m roots ≡ 0) where
  A : Ready m roots
  A = ready_says m roots e

  -- every access of its run is inside, and counts fit
  pub collect_safe : SafeRun (plan_of m plainly) m roots hints
  collect_safe = run_plainly m roots hints (run_safe m roots hints A)

  -- "the heap stays sound"
  pub collect_sound : Sound (collect m roots hints).lent
  unfolding accepted_collect
  collect_sound = subst Sound (sym (ap (λ (o : CollectOutcome). o.lent) (outcome_is m roots hints A))) (after_sound m roots hints A)

  taken_same : (collection plainly m roots hints).taken ≡ (collection logged m roots hints).taken
  taken_same = ap (λ (c : Collection). c.taken) (collection_plainly m roots hints)

  -- "Each accepted collection finds a free page whenever it needs one"
  pub collect_finds : FindsPages m hints (collect m roots hints) (collection plainly m roots hints).taken
  unfolding collection accepted_collect
  collect_finds = subst (λ (o : CollectOutcome). FindsPages m hints o (collection plainly m roots hints).taken) (sym (outcome_is m roots hints A))
      (subst (FindsPages m hints (outcome m roots hints A)) (sym taken_same) (finds m roots hints A))

  -- where as many pages are free as its words may need, it keeps none
  pub collect_unkept : needed_for m hints ≤ free_pages m.labels 1 m.rec.pages → (collection plainly m roots hints).kept ≡ []
  unfolding collection plan_of
  collect_unkept h = ap (λ (c : Collection). c.kept) (collection_plainly m roots hints) ∙ none_kept m roots hints A h

  -- "The objects afterwards pair one to one with those that were on hinted pages or could be reached from them or the root cells", and by Q-6
  -- with what stayed on kept pages and whatever that reaches
  pub collect_faithful : (Pairs : ℕ → ℕ → Type 0) × Faithful m roots hints (collect m roots hints) (collection plainly m roots hints) Pairs
  collect_faithful = (Pairs m roots hints A, faithful_is m roots hints A)

  -- what it leaves is ready to be collected
  pub collect_ready : Ready (collect m roots hints).lent (collect m roots hints).roots
  unfolding accepted_collect collection
  collect_ready = subst (λ (o : CollectOutcome). Ready o.lent o.roots) (sym (outcome_is m roots hints A)) (after_ready m roots hints A)

-- accepted or refused, "the heap stays sound"
pub collect_keeps_sound : (m : Lent) (roots hints : List ℕ) → Sound m → Sound (collect m roots hints).lent
unfolding refused_collect
collect_keeps_sound m roots hints S = go (ℕ_discrete (refusal_of_collect m roots) 0)
  where
    go : Dec (refusal_of_collect m roots ≡ 0) → Sound (collect m roots hints).lent
    go (yes e) = collect_sound m roots hints e
    go (no n) = subst Sound (sym (ap (λ (o : CollectOutcome). o.lent) (collect_refuses m roots hints n))) S

-- ---- Q-7: a collection c, and d after it "at once with the resulting roots and the same hints", as specs/Collections.antt has it

module _ (m : Lent) (roots hints : List ℕ) (A : Ready m roots) where
  told_again : Repeated m roots hints A (told m roots hints A)
  unfolding collection
  told_again none spared none' = subst (Again (told m roots hints A) hints) (sym is) (record {
    Pairs = Pairs m' roots' hints (again m roots hints A);
    faithful = faithful m' roots' hints (again m roots hints A);
    every = every m roots hints A n spared n';
    numbers = numbers m roots hints A n spared n';
  })
    where
      m' : Lent
      m' = lent_of m roots hints A

      roots' : List ℕ
      roots' = (rooted_of m roots hints A).roots

      is : collection plainly m' roots' hints ≡ told m' roots' hints (again m roots hints A)
      is = collection_plainly m' roots' hints

      n : (swept_of m roots hints A).pages.kept ≡ 0
      n = sym (kept_count m roots hints A) ∙ none

      n' : (swept_of m' roots' hints (again m roots hints A)).pages.kept ≡ 0
      n' = sym (kept_count m' roots' hints (again m roots hints A)) ∙ ap (λ (c : Collection). length c.kept) (sym is) ∙ none'

  pub collection_again : Repeated m roots hints A (collection plainly m roots hints)
  collection_again = subst (Repeated m roots hints A) (sym (collection_plainly m roots hints)) told_again
