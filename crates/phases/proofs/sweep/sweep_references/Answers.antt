-- `phases::sweep::sweep_references`: the references in order.
use Rattle.std.proofs.Common.{ap, refl, ◌∙◌, arith}
use lib.ListN.{length-set}
use Rattle.hints.specs.Code.{plan}
use Rattle.copies.specs.Code.{state_of, memory_begin, memory_then}
use Rattle.phases.proofs.Sweeping.{references_end, references_safe, references_turn}
use Rattle.phases.proofs.sweep.sweep_references.Goals as goal

pub loop-w-init : goal.loop-w-init
loop-w-init c = (record { plan = refl; same = refl; safe = c.requires.safe_references }, memory_begin _, omega arith)

pub forward-forwarded-requires : goal.forward-forwarded-requires
forward-forwarded-requires c = record { safe_forward = references_safe c.loop-w.invariant.0 c.loop-w-test.true }

pub loop-w-preserved : goal.loop-w-preserved
loop-w-preserved c =
    let same = c.forward-forwarded.ensures.same_memory in
    let all = memory_then c.loop-w.invariant.1 same in (
      references_turn c.loop-w.invariant.0 c.loop-w-test.true _ (state_of c.forward-forwarded.new.self) c.forward-forwarded.ensures.after _ (ap plan same.slices.shape),
      record { heap = all.heap; size = length-set _ _ _ ∙ all.size; queue = all.queue; slices = all.slices },
      omega (arith, c.loop-w.invariant.2, c.forward-forwarded.ensures.upwards),
    )

pub returns-clause-after : goal.returns-clause-after
returns-clause-after c = references_end c.loop-w.invariant.0 (omega (arith, c.loop-w-test))
