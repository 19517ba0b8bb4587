-- `collector::collect` meets its contract: what passed the tests is safe to collect. Assumes nothing.
use Rattle.std.proofs.Common.{sym, ◌∙◌}
use Rattle.std.proofs.lemmas.Result.{err_from_is_err_and}
use Rattle.laws.specs.Valid.{valid_layout}
use Rattle.rules.specs.Collect.{refused_collect}
use Rattle.laws.specs.Collect.{ready_says, collect_refuses}
use Rattle.theory.proofs.Collections.{collect_safe}
use Rattle.answers.proofs.Laws.{refused_some}
use Rattle.collector.proofs.collect.Goals as goal

pub returns-in_err-refusal_if_any : goal.returns-in_err-refusal_if_any
unfolding refused_collect
returns-in_err-refusal_if_any c =
    let p = err_from_is_err_and c.from_residual.result c.from_residual.ensures.1 in
    rw (p.1, p.2, c.in_err-refusal_if_any.ensures) (sym (collect_refuses _ _ c.args.hints.now (λ z. refused_some _ (c.in_err-refusal_if_any.ensures ∙ z))))

pub run-requires-clause-layout : goal.run-requires-clause-layout
run-requires-clause-layout c = valid_layout _ (ready_says _ _ (sym c.in_ok-refusal_if_any.ensures)).sound.valid

pub run-requires-clause-safe_run : goal.run-requires-clause-safe_run
run-requires-clause-safe_run c = collect_safe _ _ _ (sym c.in_ok-refusal_if_any.ensures)
