-- `phases::sweep::sweep_page`: what the walk from here on gives is what the page gives at first. The cursor has moved
-- up, if at all.
use Rattle.std.proofs.Common.{◌-◌, ◌≤◌}
use Rattle.rules.specs.Collection.{sweep_page}
use Rattle.copies.specs.Code.{plan_in, state_of, SameMemory}
use Rattle.phases.proofs.Sweeping.{Objects}
use Rattle.phases.proofs.sweep.sweep_page.Given as goal

abbrev pub invariant-loop-x : goal.invariant-loop-x
invariant-loop-x l = let K = plan_in l.initial.collecting in Objects K l.end (sweep_page K K.page l.base K.page (state_of l.initial.collecting)) (plan_in l.collecting) (state_of l.collecting) l.x × SameMemory l.initial.collecting l.collecting × (l.initial.collecting.gather.cursor ≤ l.collecting.gather.cursor)

abbrev pub decreases-loop-x : goal.decreases-loop-x
decreases-loop-x l = l.end - l.x
