-- `layout::walk::walk` meets its contract. Assumes nothing.
use Prim.Native.Nat.{◌+◌, ◌-◌}
use Rattle.layout.proofs.Laws.{Coming}
use Rattle.layout.proofs.walk.walk.Given as goal

abbrev pub invariant-loop-at : goal.invariant-loop-at
invariant-loop-at l = Coming l.heap l.base (l.base + l.page) l.address l.at l.last

abbrev pub decreases-loop-at : goal.decreases-loop-at
decreases-loop-at l = l.near - l.at
