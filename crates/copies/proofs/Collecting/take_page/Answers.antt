-- `copies::Collecting::take_page`: the page taken was the lowest free one, so the next is past it.
use Rattle.std.proofs.Common.{◌∙◌, arith}
use Rattle.copies.proofs.Cursor.{cursor_moves}
use Rattle.copies.proofs.Collecting.take_page.Goals as goal

pub invariant_of-self : goal.invariant_of-self
invariant_of-self c =
    let safe = c.requires.safe_take in
    let lowest = (rw c.unwrap-page.ensures at c.lowest_free.ensures.lowest) ∙ c.args.self.now.lowest in
    record { lowest = rw (c.join.ensures.labels, c.join.ensures.same_slices.shape) (cursor_moves _ _ _ _ safe.new lowest (omega (arith, lowest, safe.found)) (omega (arith, lowest, safe.found, safe.hi))) }
