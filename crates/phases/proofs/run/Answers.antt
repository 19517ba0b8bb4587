-- `phases::run`: the kept pages are filled, and then the rest is freed.
use Rattle.phases.proofs.Running.{fills_safe, run_is}
use Rattle.phases.proofs.run.Goals as goal

pub fill_pages-fillers-requires-clause-safe_fills : goal.fill_pages-fillers-requires-clause-safe_fills
fill_pages-fillers-requires-clause-safe_fills c = fills_safe c.retain-retained.ensures c.requires.safe_run

pub returns : goal.returns
returns c =
    let cleared = c.fill.ensures.after (λ y same. same) in
    run_is c.retain-retained.ensures c.requires.safe_run _ c.shape_of.ensures _ _ c.fill_pages-fillers.ensures _ _ _ c.free_pages.ensures.heap_after c.free_pages.ensures.labels_after (rw c.retain-retained.auto.links at cleared)
