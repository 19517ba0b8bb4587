-- `copies::Collecting::keep_object`: the page is in use, so the lowest free page stays the one it was.
use Rattle.std.proofs.Common.{ℕ}
use Rattle.laws.specs.FreePages.{lowest_relabelled}
use Rattle.copies.proofs.Collecting.keep_object.Goals as goal

pub invariant_of-self : goal.invariant_of-self
invariant_of-self c =
    let safe = c.requires.safe_keep in
    let same = λ (from : ℕ). lowest_relabelled c.args.self.now.queue.now.labels.now _ c.args.self.now.queue.now.shape.new from c.args.self.now.queue.now.shape.pages safe.used safe.new c.requires.page_in_bounds in
    record { lowest = rw (c.join.ensures.labels, c.join.ensures.same_slices.shape, same c.args.self.now.gather.cursor, same 1) c.args.self.now.lowest }
