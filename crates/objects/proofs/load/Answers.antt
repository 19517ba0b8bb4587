-- `objects::load` meets its contract: from the header on it is the definition's. Assumes nothing.
use Rattle.std.specs.Prelude.{◌+◌}
use Rattle.std.proofs.lemmas.Result.{err_from_is_err_and}
use Rattle.rules.specs.Ranges.{at}
use Rattle.rules.specs.Calls.{load, accepted}
use Rattle.layout.specs.Code.{lent_of}
use Rattle.objects.proofs.load.Goals as goal

pub returns-in_err-header_at : goal.returns-in_err-header_at
unfolding load
returns-in_err-header_at c =
    let p = err_from_is_err_and c.from_residual.result c.from_residual.ensures.1 in
    rw (p.1, p.2) (c.in_err-header_at.ensures.goes_on (λ w. accepted (at c.args.view.now.heap.now (c.args.address + 1 + c.args.index)) (lent_of c.args.view.now)))

pub returns : goal.returns
unfolding load accepted
returns c = c.in_ok-header_at.ensures.goes_on (λ w. accepted (at c.args.view.now.heap.now (c.args.address + 1 + c.args.index)) (lent_of c.args.view.now))
