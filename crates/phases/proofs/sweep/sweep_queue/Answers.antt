-- `phases::sweep::sweep_queue`: the pages in order.
use Rattle.std.proofs.Common.{refl, ap, ◌∙◌, arith}
use Rattle.hints.specs.Code.{plan}
use Rattle.copies.specs.Code.{memory_begin, memory_then}
use Rattle.phases.proofs.Sweeping.{pending_begin, pending_end, pending_safe, pending_turn}
use Rattle.phases.proofs.sweep.sweep_queue.Goals as goal

pub loop-head-init : goal.loop-head-init
loop-head-init c = (pending_begin _ _ c.requires.safe_queue, memory_begin _, omega arith)

pub sweep_page-requires : goal.sweep_page-requires
sweep_page-requires c =
    let queued = c.loop-head.collecting.queue.now.queued in
    let (inside, safe) = pending_safe c.loop-head.invariant.0 _ _ refl queued.tail (c.loop-head.invariant.1.slices.places ∙ c.requires.links_len) c.loop-head-test.true in
    rw c.from.ensures (record { page_in_bounds = inside; safe_page = safe })

pub overflow_add-head : goal.overflow_add-head
overflow_add-head c =
    let queued = c.loop-head.collecting.queue.now.queued in
    omega (arith, queued.tail, c.loop-head.invariant.1.slices.places ∙ c.requires.links_len, c.loop-head-test.true)

pub loop-head-preserved : goal.loop-head-preserved
loop-head-preserved c =
    let queued = c.loop-head.collecting.queue.now.queued in
    let same = c.sweep_page.ensures.same_memory in (
      pending_turn c.loop-head.invariant.0 _ _ refl queued.tail (c.loop-head.invariant.1.slices.places ∙ c.requires.links_len) c.loop-head-test.true _ (rw c.from.ensures at c.sweep_page.ensures.after) _ (ap plan same.slices.shape),
      memory_then c.loop-head.invariant.1 same,
      omega (arith, c.loop-head.invariant.2, c.sweep_page.ensures.upwards),
    )

pub returns-clause-after : goal.returns-clause-after
returns-clause-after c =
    let queued = c.loop-head.collecting.queue.now.queued in
    pending_end c.loop-head.invariant.0 _ _ refl queued.tail (c.loop-head.invariant.1.slices.places ∙ c.requires.links_len) c.loop-head-test.false
