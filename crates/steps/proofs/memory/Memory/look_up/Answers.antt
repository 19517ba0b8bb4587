-- `steps::memory::Memory::look_up` meets its contract. Assumes nothing.
use Rattle.layout.specs.Code.{lent_of}
use Rattle.steps.proofs.Stepping.{looked_up_by}
use Rattle.steps.proofs.memory.Memory.look_up.Goals as goal

pub returns : goal.returns
returns c =
    rw (← c.view.ensures) (looked_up_by (lent_of c.view.result) c.args.address _ (rw c.in_ok-accepted.was at c.look_up.ensures))
