-- The code's view of what is lent, as the definitions of `rules` take it.
use Rattle.layout.specs.declared.lent.View.{View}
use Rattle.rules.specs.Lent.{Lent, lent}

abbrev pub lent_of : View → Lent
lent_of v = lent v.heap.now v.labels.now v.links.now v.rec
