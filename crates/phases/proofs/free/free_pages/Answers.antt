-- `phases::free::free_pages`: the pages in order.
use Rattle.std.proofs.Common.{refl, ◌∙◌, arith}
use Rattle.phases.proofs.Freeing.{freeing_begin, freeing_turn, freeing_end}
use Rattle.phases.proofs.free.free_pages.Goals as goal

pub loop-g-init : goal.loop-g-init
loop-g-init c = (freeing_begin _ _ _ _, (refl, refl))

pub free_page-requires : goal.free_page-requires
free_page-requires c = record {
  heap_len = (c.loop-g.invariant.1.0 ∙ c.requires.0, c.loop-g.invariant.1.1 ∙ c.requires.1);
  g_lt_pages = omega (arith, c.loop-g-test.true, c.requires.1);
}

pub loop-g-preserved : goal.loop-g-preserved
loop-g-preserved c =
    (freeing_turn _ _ c.args.k.pages _ _ _ _ _ c.loop-g.invariant.0 (c.loop-g.invariant.1.0 ∙ c.requires.0) (c.loop-g.invariant.1.1 ∙ c.requires.1) (omega (arith, c.loop-g-test.true, c.requires.1)) _ _ c.free_page.ensures.heap_after c.free_page.ensures.labels_after, (c.free_page.auto.heap ∙ c.loop-g.invariant.1.0, c.free_page.auto.labels ∙ c.loop-g.invariant.1.1))

pub returns : goal.returns
returns c =
    let (heap, labels) = freeing_end _ _ c.args.k.pages _ _ _ _ _ c.loop-g.invariant.0 (c.loop-g.invariant.1.0 ∙ c.requires.0) (c.loop-g.invariant.1.1 ∙ c.requires.1) (omega (arith, c.loop-g-test.false, c.requires.1)) in
    record { heap_after = heap; labels_after = labels }
