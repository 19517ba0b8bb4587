-- `phases::free::free_page`: a page with the old label is cleared.
use Rattle.std.proofs.Common.{◌+◌, ◌*◌, ◌≤◌, length, sym, ◌∙◌, arith}
use borrow.Author.Tests.{eq-eqb}
use Rattle.laws.specs.Pages.{page_end}
use Rattle.phases.proofs.Freeing.{cleared_is}
use Rattle.phases.proofs.free.free_page.Goals as goal

pub returns-then-from-k-clause-heap_after : goal.returns-then-from-k-clause-heap_after
returns-then-from-k-clause-heap_after c =
    let k = c.args.k in
    let inside : c.args.g * k.page + k.page ≤ length c.args.heap.now = omega (arith, c.requires.heap_len.0, page_end c.args.g k.page k.pages c.requires.g_lt_pages) in
    rw (eq-eqb _ _ (sym c.from.ensures ∙ c.if-from-k.true)) (cleared_is c.args.heap.now c.fill.new.self (c.args.g * k.page) k.page inside (c.fill.ensures.after (λ y same. same)))
