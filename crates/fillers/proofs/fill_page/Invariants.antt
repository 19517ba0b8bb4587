-- `fillers::fill_page`: what the walk from here on gives is what the page gives at first, and fillers are no more than words.
use Rattle.std.proofs.Common.{◌≡◌, [], ◌-◌, length}
use Rattle.rules.specs.Collection.{fill_page}
use Rattle.laws.specs.Fills.{filled_of}
use Rattle.fillers.proofs.Filling.{Filling}
use Rattle.fillers.proofs.fill_page.Given as goal

abbrev pub invariant-loop-x : goal.invariant-loop-x
invariant-loop-x l = Filling l.base l.end (fill_page l.fn.page l.base l.fn.page (filled_of l.initial.heap [])) l.heap l.n l.x × (length l.heap ≡ length l.initial.heap)

abbrev pub decreases-loop-x : goal.decreases-loop-x
decreases-loop-x l = l.end - l.x
