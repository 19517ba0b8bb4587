-- `steps::play::Session::start` meets its contract. Assumes nothing.
use Rattle.std.proofs.lemmas.Result.{err_from_is_err_and}
use Rattle.steps.specs.Session.{accepted}
use Rattle.steps.proofs.play.Session.start.Goals as goal

pub returns-in_err-start : goal.returns-in_err-start
returns-in_err-start c =
    let e = err_from_is_err_and c.from_residual.result c.from_residual.ensures.1 in
    rw (← c.self.view_is, e.1, e.2) (c.in_err-start.ensures.here c.self.inside.begun c.self.inside.roots c.self.inside.hints)

pub returns : goal.returns
unfolding accepted
returns c = rw (← c.self.view_is) (c.in_ok-start.ensures.here c.self.inside.begun c.self.inside.roots c.self.inside.hints)
