-- `steps::play::Session::step` meets its contract: refused at once, or performed. Assumes nothing.
use Rattle.std.proofs.Common.{◌∙◌}
use Rattle.steps.specs.Session.{refused}
use Rattle.steps.proofs.Stepping.{stops, goes}
use Rattle.steps.proofs.play.Session.step.Goals as goal

pub returns-then-not-is_allowed : goal.returns-then-not-is_allowed
unfolding refused
returns-then-not-is_allowed c =
    rw (← c.self.view_is) (stops _ c.args.asked c.is_allowed.ensures c.if-not-is_allowed.true)

pub returns : goal.returns
returns c =
    rw (← c.self.view_is) ((rw (← c.self.view_is) at c.perform.ensures) ∙ goes _ c.args.asked c.is_allowed.ensures c.if-not-is_allowed.false)
