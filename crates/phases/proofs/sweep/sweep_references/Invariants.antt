-- `phases::sweep::sweep_references`: what the words from here to the stop give is what all of them give at first. The
-- cursor has moved up, if at all.
use Rattle.std.proofs.Common.{◌-◌, ◌≤◌}
use Rattle.rules.specs.Collection.{sweep_references}
use Rattle.copies.specs.Code.{plan_in, state_of, SameMemory}
use Rattle.phases.proofs.Sweeping.{References}
use Rattle.phases.proofs.sweep.sweep_references.Given as goal

abbrev pub invariant-loop-w : goal.invariant-loop-w
invariant-loop-w l = References (plan_in l.initial.collecting) l.stop (sweep_references (plan_in l.initial.collecting) (l.stop - l.first) l.first (state_of l.initial.collecting)) (plan_in l.collecting) (state_of l.collecting) l.w × SameMemory l.initial.collecting l.collecting × (l.initial.collecting.gather.cursor ≤ l.collecting.gather.cursor)
