-- `fillers::fill_page`: a turn goes over an object, or over a place that one left.
use Rattle.std.proofs.Common.{refl, sym, ◌∙◌, arith}
use Rattle.fillers.proofs.Filling.{filling_begin, filling_stop, filling_past, filling_safe, filling_object, filling_place}
use Rattle.fillers.proofs.fill_page.Goals as goal

pub loop-x-init : goal.loop-x-init
loop-x-init c = (filling_begin _ _ _ c.requires.safe_fill, refl)

pub loop-x-smaller-then-is_header : goal.loop-x-smaller-then-is_header
loop-x-smaller-then-is_header c =
    let (on, some) = filling_object c.loop-x.invariant.0 c.loop-x-test.true _ (sym c.is_header.ensures ∙ c.if-is_header.true) c.size_of-x.ensures.0 in
    omega (arith, on.within, some)

pub loop-x-preserved-then-is_header : goal.loop-x-preserved-then-is_header
loop-x-preserved-then-is_header c =
    let (on, some) = filling_object c.loop-x.invariant.0 c.loop-x-test.true _ (sym c.is_header.ensures ∙ c.if-is_header.true) c.size_of-x.ensures.0 in
    (on, c.loop-x.invariant.1)

pub left_size-requires : goal.left_size-requires
left_size-requires c = filling_safe c.loop-x.invariant.0 c.loop-x-test.true

pub returns-in_default-clause-filled_as : goal.returns-in_default-clause-filled_as
returns-in_default-clause-filled_as c = filling_stop c.loop-x.invariant.0 (sym c.is_header.ensures ∙ c.if-is_header.false) c.in_default.ensures.goes_on

pub loop-x-preserved : goal.loop-x-preserved
loop-x-preserved c =
    (filling_place c.loop-x.invariant.0 c.loop-x-test.true _ (sym c.is_header.ensures ∙ c.if-is_header.false) c.in-Some.ensures.goes_on _ c.put.ensures, c.put.auto.heap ∙ c.loop-x.invariant.1)

pub returns-clause-filled_as : goal.returns-clause-filled_as
returns-clause-filled_as c = filling_past c.loop-x.invariant.0 c.loop-x-test.false
