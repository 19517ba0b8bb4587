-- `phases::free::free_pages`: the pages done, with what the others give, are what all of them give at first.
use Rattle.std.proofs.Common.{◌≡◌, length}
use Rattle.rules.specs.Collection.{freed_heap, freed_labels}
use Rattle.phases.proofs.Freeing.{Freeing}
use Rattle.phases.proofs.free.free_pages.Given as goal

abbrev pub invariant-loop-g : goal.invariant-loop-g
invariant-loop-g l = Freeing l.k.page l.k.old (freed_heap l.k.page l.k.old l.initial.labels l.initial.heap) (freed_labels l.k.old l.initial.labels) l.heap l.labels l.g
    × ((length l.heap ≡ length l.initial.heap) × (length l.labels ≡ length l.initial.labels))
