-- `fillers::fill_pages`: what the pages from here on give is what all give at first.
use Rattle.std.proofs.Common.{◌≡◌, [], ◌*◌, ◌≤◌, length}
use Rattle.rules.specs.Collection.{fill_pages}
use Rattle.laws.specs.Fills.{filled_of}
use Rattle.fillers.proofs.Filling.{Fillings}
use Rattle.fillers.proofs.fill_pages.Given as goal

abbrev pub invariant-loop-g : goal.invariant-loop-g
invariant-loop-g l = Fillings l.page l.kept (fill_pages l.page l.kept (filled_of l.initial.heap [])) l.heap l.n l.g-index × (l.n ≤ l.g-index * 1024) × (length l.heap ≡ length l.initial.heap)
