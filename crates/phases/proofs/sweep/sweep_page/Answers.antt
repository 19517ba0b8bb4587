-- `phases::sweep::sweep_page`: a turn goes over an object, or over a place that one left.
use Rattle.std.proofs.Common.{refl, sym, ap, ◌∙◌, arith}
use Rattle.hints.specs.Code.{plan}
use Rattle.copies.specs.Code.{memory_begin, memory_then}
use Rattle.phases.proofs.Sweeping.{objects_begin, objects_stop, objects_past, objects_within, objects_safe, objects_turn, objects_left, objects_over}
use Rattle.phases.proofs.sweep.sweep_page.Goals as goal

pub loop-x-init : goal.loop-x-init
loop-x-init c = (objects_begin _ _ _ _ c.requires.safe_page, memory_begin _, omega arith)

pub sweep_references-requires : goal.sweep_references-requires
sweep_references-requires c =
    let on = sym c.is_header.ensures ∙ c.if-is_header.true in
    let (stop, some, next) = objects_within c.loop-x.invariant.0 c.loop-x-test.true on _ _ refl c.refs_of.ensures.0 in
    record {
      stop_in_bounds = omega (arith, stop, c.requires.page_in_bounds, c.loop-x.invariant.1.size);
      safe_references = objects_safe c.loop-x.invariant.0 c.loop-x-test.true on _ _ refl c.refs_of.ensures.0;
    }

pub loop-x-smaller-then-is_header : goal.loop-x-smaller-then-is_header
loop-x-smaller-then-is_header c =
    let (stop, some, next) = objects_within c.loop-x.invariant.0 c.loop-x-test.true (sym c.is_header.ensures ∙ c.if-is_header.true) _ _ c.size_of-x.ensures.0 c.refs_of.ensures.0 in
    omega (arith, some, next)

pub loop-x-preserved-then-is_header : goal.loop-x-preserved-then-is_header
loop-x-preserved-then-is_header c =
    let on = sym c.is_header.ensures ∙ c.if-is_header.true in
    let same = c.sweep_references.ensures.same_memory in (
      objects_turn c.loop-x.invariant.0 c.loop-x-test.true on _ _ c.size_of-x.ensures.0 c.refs_of.ensures.0 _ c.sweep_references.ensures.after _ (ap plan same.slices.shape),
      memory_then c.loop-x.invariant.1 same,
      omega (arith, c.loop-x.invariant.2, c.sweep_references.ensures.upwards),
    )

pub left_size-requires : goal.left_size-requires
left_size-requires c = objects_left c.loop-x.invariant.0 c.loop-x-test.true

pub returns-in_default-clause-after : goal.returns-in_default-clause-after
returns-in_default-clause-after c = objects_stop c.loop-x.invariant.0 (sym c.is_header.ensures ∙ c.if-is_header.false) c.in_default.ensures.goes_on

pub loop-x-preserved : goal.loop-x-preserved
loop-x-preserved c =
    let same = c.loop-x.invariant.1 in (
      objects_over c.loop-x.invariant.0 c.loop-x-test.true _ (sym c.is_header.ensures ∙ c.if-is_header.false) c.in-Some.ensures.goes_on,
      record { heap = same.heap; size = same.size; queue = same.queue; slices = same.slices },
      c.loop-x.invariant.2,
    )

pub returns-clause-after : goal.returns-clause-after
returns-clause-after c = objects_past c.loop-x.invariant.0 c.loop-x-test.false
