-- `copies::Collecting::forward_roots`: the roots done, with what the others give, are what all of them give at first. The
-- cursor has moved up, if at all.
use Rattle.std.proofs.Common.{◌≤◌}
use Rattle.copies.specs.Code.{plan_in, state_of, SameMemory}
use Rattle.copies.proofs.Rooting.{Rooting}
use Rattle.copies.proofs.Collecting.forward_roots.Given as goal

abbrev pub invariant-loop-root : goal.invariant-loop-root
invariant-loop-root l = Rooting (plan_in l.initial.self) l.initial.roots (state_of l.initial.self) (plan_in l.self) l.roots (state_of l.self) l.root-index × SameMemory l.initial.self l.self × (l.initial.self.gather.cursor ≤ l.self.gather.cursor)
