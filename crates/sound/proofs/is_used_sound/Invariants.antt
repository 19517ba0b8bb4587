-- `sound::is_used_sound` meets its contract. The loop's invariant, `Passing`: the walk from `at` on stops where the page's walk does, and
-- its references are good exactly where all are. Assumes nothing.
use Prim.Native.Nat.{◌-◌}
use Rattle.layout.specs.Code.{lent_of}
use Rattle.sound.proofs.Laws.{Passing}
use Rattle.sound.proofs.is_used_sound.Given as goal

abbrev pub invariant-loop-w : goal.invariant-loop-w
invariant-loop-w l = Passing (lent_of l.view) l.base l.end l.at

abbrev pub decreases-loop-w : goal.decreases-loop-w
decreases-loop-w l = l.end - l.at
