-- `steps::play::Session::allocate` meets its contract: an accepted call's address is put into the root cell, and a refused one
-- changed nothing. Assumes nothing.
use Rattle.std.proofs.Common.{refl}
use Rattle.std.proofs.lemmas.Result.{err_from_is_err_and}
use Rattle.answers.proofs.Laws.{refused_some}
use Rattle.steps.specs.Begun.{session}
use Rattle.steps.proofs.Stepping.{allocated, not_allocated}
use Rattle.steps.proofs.play.Session.allocate.Goals as goal

pub returns-in_err-address : goal.returns-in_err-address
returns-in_err-address c =
    let e = err_from_is_err_and c.from_residual.result c.from_residual.ensures.1 in
    rw (← c.self.view_is, e.1, e.2)
    (not_allocated (session c.self.inside) c.args.x c.args.d c.args.p _ (rw c.in_err-address.was at c.allocate.ensures) (refused_some c.in_err-address.field-0.0))

pub returns : goal.returns
returns c =
    rw (← c.self.view_is, c.put.ensures)
    (allocated (session c.self.inside) c.args.x c.args.d c.args.p _ (rw c.in_ok-address.was at c.allocate.ensures) refl)
