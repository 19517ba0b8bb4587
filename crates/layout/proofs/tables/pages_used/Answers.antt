-- `layout::tables::pages_used` meets its contract. Assumes nothing.
use Rattle.layout.proofs.Labels.{used_part}
use Rattle.layout.proofs.tables.pages_used.Goals as goal

pub returns : goal.returns
returns c = used_part _ _ _ _ _ _ c.part-part.ensures c.loop-label-test.false c.loop-label.invariant
