-- `steps::play::Session::perform` meets its contract: each arm is its call's. Assumes nothing.
use Rattle.std.proofs.Common.{refl}
use Rattle.steps.specs.Session.{accepted, refused, perform}
use Rattle.steps.specs.Begun.{session}
use Rattle.steps.proofs.Stepping.{stored, loaded, looked_up}
use Rattle.steps.proofs.play.Session.perform.Goals as goal

pub returns-in-Store : goal.returns-in-Store
returns-in-Store c =
    rw (c.in-Store.is, ← c.self.view_is)
    (stored (session c.self.inside) c.in-Store.x c.in-Store.i c.in-Store.operand _ (rw (c.root-address.ensures, c.operand-value.ensures, ← c.self.view_is) at c.store.ensures))

pub returns-in-Load : goal.returns-in-Load
returns-in-Load c =
    rw (c.in-Load.is, ← c.self-in-Load.view_is)
    (loaded (session c.self-in-Load.inside) c.in-Load.x c.in-Load.i _ (rw (c.root.ensures, ← c.self-in-Load.view_is) at c.load.ensures))

pub returns-in-Hint : goal.returns-in-Hint
unfolding perform accepted
returns-in-Hint c = rw (c.in-Hint.is, c.put.ensures, c.root_plus-word.ensures, ← c.self-in-Hint.view_is) refl

pub returns-in-Clear : goal.returns-in-Clear
unfolding perform accepted
returns-in-Clear c = rw (c.in-Clear.is, ← c.self-in-Clear.view_is, c.put-in-Clear.ensures) refl

pub returns-in-LookUp : goal.returns-in-LookUp
returns-in-LookUp c =
    rw (c.in-LookUp.is, ← c.self-in-LookUp.view_is)
    (looked_up (session c.self-in-LookUp.inside) c.in-LookUp.x c.in-LookUp.v _ (rw (c.root_plus.ensures, ← c.self-in-LookUp.view_is) at c.look_up.ensures))

pub returns-in-Bad : goal.returns-in-Bad
unfolding perform refused
returns-in-Bad c = rw c.in-Bad.is
