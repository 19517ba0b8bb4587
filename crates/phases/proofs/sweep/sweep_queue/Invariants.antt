-- `phases::sweep::sweep_queue`: what the queue gives from its head on is what it gives at first. The cursor has moved up, if
-- at all. The measure is the links that are left.
use Rattle.std.proofs.Common.{length, ◌-◌, ◌≤◌}
use Rattle.rules.specs.Collection.{sweep_queue}
use Rattle.copies.specs.Code.{plan_in, state_of, SameMemory}
use Rattle.phases.proofs.Sweeping.{Pending}
use Rattle.phases.proofs.sweep.sweep_queue.Given as goal

abbrev pub invariant-loop-head : goal.invariant-loop-head
invariant-loop-head l = let K = plan_in l.initial.collecting in Pending K (sweep_queue K K.hi 0 (state_of l.initial.collecting)) (plan_in l.collecting) (state_of l.collecting) l.head × SameMemory l.initial.collecting l.collecting × (l.initial.collecting.gather.cursor ≤ l.collecting.gather.cursor)

abbrev pub decreases-loop-head : goal.decreases-loop-head
decreases-loop-head l = length l.initial.collecting.queue.now.links.now - l.head
