-- The contract of `collect` settles what it gives: two results that both meet it are equal. Assumes nothing.
use Rattle.std.specs.Prelude.{◌≡◌, ◌≢◌, Bool, true, false, cond, List, ℕ, Result}
use Rattle.std.proofs.Common.{sym, ap, ◌∙◌, arith}
use Rattle.rules.specs.declared.Collected.{Collected}
use Rattle.rules.specs.Ranges.{each}
use Rattle.rules.specs.Lent.{Lent, is_valid}
use Rattle.rules.specs.Walk.{is_reference}
use Rattle.rules.specs.Sound.{is_sound}
use Rattle.rules.specs.Collect.{CollectOutcome, collect_outcome, refusal_of_collect, collect}
use Rattle.laws.specs.Collect.{collect_refusal}
use Rattle.answers.specs.declared.Refusal.{Refusal}
use Rattle.answers.specs.declared.Counts.{Counts}
use Rattle.answers.specs.Answers.{collected}
use Rattle.answers.proofs.Determined.{collected_once}

module _ (m : Lent) (roots hints : List ℕ) where
  -- no collection is refused 10: of any memory, roots and hints
  pub never_10 : (collect m roots hints).refusal ≢ 10
  unfolding refusal_of_collect
  never_10 z = go (is_valid m) (is_sound m) (each (is_reference m) roots) (sym (collect_refusal m roots hints) ∙ z)
    where
      go : (v s r : Bool) → ◌≡◌ {A = ℕ} (cond v (cond s (cond r 0 6) 7) 1) 10 → ⊥
      go true true true q = omega arith
      go true true false q = omega arith
      go true false r q = omega arith
      go false s r q = omega arith

  abbrev answer_in : CollectOutcome → Collected
  answer_in o = record { refusal = o.refusal; hinted = o.hinted; taken = o.taken; objects = o.objects; words = o.words; kept = o.kept; fillers = o.fillers; rec = o.lent.rec }

  -- whatever heap, labels, links and root cells stand beside each
  pub collect_once : (x y : Result Counts Refusal) (h l k c h' l' k' c' : List ℕ) → collect_outcome (collected m.rec x) h l k c ≡ collect m roots hints → collect_outcome (collected m.rec y) h' l' k' c' ≡ collect m roots hints → x ≡ y
  collect_once x y h l k c h' l' k' c' p q =
      collected_once m.rec x y (λ z. never_10 (sym (ap {B = ℕ} (λ o. o.refusal) p) ∙ z)) (ap answer_in (p ∙ sym q))
