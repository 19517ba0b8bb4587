-- `layout::tables::lowest_free` meets its contract. Assumes nothing.
use Rattle.std.proofs.Common.{rules, tests}
use Rattle.std.proofs.lemmas.Iterator.{YieldsList-from_slice}
use Rattle.std.proofs.lemmas.Iterator.Search.{position_from_yields_List}
use Rattle.layout.proofs.Labels.{is_zero, lowest_part}
use Rattle.layout.proofs.tables.lowest_free.Goals as goal

pub returns-clause-lowest : goal.returns-clause-lowest
returns-clause-lowest c =
    rw c.then_some.ensures (lowest_part c.args.labels.now c.args.hi c.args.lo _ c.part-part.result.now c.position.result c.part-part.ensures
    (position_from_yields_List is_zero _ _ c.position.result c.position.ensures.ran (YieldsList-from_slice c.part-part.result.now cc) (λ x b q k. search (rules, tests))) c.unwrap_or-before.ensures)
