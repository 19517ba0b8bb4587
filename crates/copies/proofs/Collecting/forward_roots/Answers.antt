-- `copies::Collecting::forward_roots`: the roots in order.
use Rattle.std.proofs.Common.{ap, arith}
use Rattle.hints.specs.Code.{plan}
use Rattle.copies.specs.Code.{memory_begin, memory_then}
use Rattle.copies.proofs.Rooting.{rooting_begin, rooting_end, rooting_safe, rooting_turn}
use Rattle.copies.proofs.Collecting.forward_roots.Goals as goal

pub loop-root-init : goal.loop-root-init
loop-root-init c = (rooting_begin _ _ _ c.requires.safe_roots, memory_begin _, omega arith)

pub forward-requires : goal.forward-requires
forward-requires c = record { safe_forward = rooting_safe c.loop-root.invariant.0 c.loop-root-test.true }

pub loop-root-preserved : goal.loop-root-preserved
loop-root-preserved c =
    let same = c.forward.ensures.same_memory in (
      rooting_turn c.loop-root.invariant.0 c.loop-root-test.true _ _ c.forward.ensures.after _ (ap plan same.slices.shape),
      memory_then c.loop-root.invariant.1 same,
      omega (arith, c.loop-root.invariant.2, c.forward.ensures.upwards),
    )

pub returns-clause-after : goal.returns-clause-after
returns-clause-after c = rooting_end c.loop-root.invariant.0 c.loop-root-test.false
