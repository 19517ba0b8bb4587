-- `steps::memory::Memory::load` meets its contract. Assumes nothing.
use Rattle.layout.specs.Code.{lent_of}
use Rattle.steps.proofs.Stepping.{loaded_by}
use Rattle.steps.proofs.memory.Memory.load.Goals as goal

pub returns : goal.returns
returns c =
    rw (← c.view.ensures) (loaded_by (lent_of c.view.result) c.args.address c.args.index _ (rw c.in_ok-accepted.was at c.load.ensures))
