-- `fillers::fill_pages`: the pages in order.
use Rattle.std.proofs.Common.{◌∙◌, arith}
use Rattle.fillers.proofs.Filling.{fillings_end, fillings_safe, fillings_turn}
use Rattle.fillers.proofs.fill_pages.Goals as goal

pub fill_page-n-requires : goal.fill_page-n-requires
fill_page-n-requires c =
    let (inside, safe) = fillings_safe c.loop-g.invariant.0 c.loop-g-test.true in
    rw c.from.ensures (record { page_bound = (c.requires.page_bound.0, inside); safe_fill = safe })

pub loop-g-preserved : goal.loop-g-preserved
loop-g-preserved c =
    let turn = fillings_turn c.loop-g.invariant.0 c.loop-g-test.true _ _ (rw c.from.ensures at c.fill_page-n.ensures.filled_as) in
    (turn, omega (arith, c.requires.page_bound.0, c.loop-g.invariant.1, c.fill_page-n.ensures.upper_bound), c.fill_page-n.auto.heap ∙ c.loop-g.invariant.2)

pub returns : goal.returns
returns c = fillings_end c.loop-g.invariant.0 c.loop-g-test.false
