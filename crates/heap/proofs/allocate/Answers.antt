-- `heap::allocate` meets its contract: the numbers of a valid record keep each sum small, and the object has room on its page.
-- Assumes nothing.
use Rattle.std.specs.Prelude.{◌≡◌, ◌-◌, ◌&&◌, leb, true}
use borrow.Author.Tests.{le-leb, lt-leb}
use Rattle.rules.specs.Tests.{and_is}
use Rattle.std.proofs.Common.{arith, refl, sym, ◌∙◌}
use Rattle.rules.specs.Calls.{allocate, with_object, accepted}
use Rattle.heap.proofs.Laws.{bounds, free_page, some_below, object_first}
use Rattle.heap.proofs.allocate.Goals as goal

pub overflow_sub-r : goal.overflow_sub-r
overflow_sub-r c = omega (arith, bounds _ (sym c.is_valid.ensures ∙ c.if-not-is_valid.false))

pub overflow_add-r : goal.overflow_add-r
overflow_add-r c = omega (arith, bounds _ (sym c.is_valid.ensures ∙ c.if-not-is_valid.false))

pub overflow_mul-at : goal.overflow_mul-at
overflow_mul-at c = omega (arith, bounds _ (sym c.is_valid.ensures ∙ c.if-not-is_valid.false))

pub overflow_add-at : goal.overflow_add-at
overflow_add-at c = omega (arith, bounds _ (sym c.is_valid.ensures ∙ c.if-not-is_valid.false))

pub put-requires : goal.put-requires
put-requires c =
    let b = bounds _ (sym c.is_valid.ensures ∙ c.if-not-is_valid.false) in
    record { small = omega (arith, b.page_high); within = omega arith; inside = omega (arith, b.opened) }

pub overflow_sub-r-2 : goal.overflow_sub-r-2
overflow_sub-r-2 c = omega (arith, bounds _ (sym c.is_valid.ensures ∙ c.if-not-is_valid.false))

pub overflow_mul-pages_used : goal.overflow_mul-pages_used
overflow_mul-pages_used c = omega (arith, c.pages_used.ensures, bounds _ (sym c.is_valid.ensures ∙ c.if-not-is_valid.false))

pub overflow_add-pages_used : goal.overflow_add-pages_used
overflow_add-pages_used c = omega (arith, c.pages_used.ensures, bounds _ (sym c.is_valid.ensures ∙ c.if-not-is_valid.false))

pub overflow_cast-labels : goal.overflow_cast-labels
overflow_cast-labels c = omega (arith, bounds _ (sym c.is_valid.ensures ∙ c.if-not-is_valid.false))

pub unwrap-g-requires : goal.unwrap-g-requires
unwrap-g-requires c =
    let f = free_page _ _ (sym c.is_valid.ensures ∙ c.if-not-is_valid.false) (omega (arith, c.pages_used.ensures)) refl in
    some_below _ _ _ c.lowest_free.ensures.lowest f.high

pub bounds-labels-g : goal.bounds-labels-g
bounds-labels-g c =
    let f = free_page _ _ (sym c.is_valid.ensures ∙ c.if-not-is_valid.false) (omega (arith, c.pages_used.ensures)) (rw c.unwrap-g.ensures at c.lowest_free.ensures.lowest) in
    f.labelled

pub overflow_mul-first : goal.overflow_mul-first
overflow_mul-first c =
    let f = free_page _ _ (sym c.is_valid.ensures ∙ c.if-not-is_valid.false) (omega (arith, c.pages_used.ensures)) (rw c.unwrap-g.ensures at c.lowest_free.ensures.lowest) in
    omega (arith, f.small)

pub put-requires-2 : goal.put-requires-2
put-requires-2 c =
    let valid = sym c.is_valid.ensures ∙ c.if-not-is_valid.false in
    let b = bounds _ valid in
    let f = free_page _ _ valid (omega (arith, c.pages_used.ensures)) (rw c.unwrap-g.ensures at c.lowest_free.ensures.lowest) in
    record { small = omega (arith, b.page_high); within = omega arith; inside = omega (arith, b.page_low, f.inside) }

pub returns-then-r-n : goal.returns-then-r-n
unfolding allocate with_object accepted
returns-then-r-n c =
    let valid = sym c.is_valid.ensures ∙ c.if-not-is_valid.false in
    let shape : (leb c.args.d (c.args.r.page - 1) && leb c.args.p c.args.d) ≡ true = and_is (le-leb _ _ c.if-r-d.false) (le-leb _ _ c.if-d-p.false) in
    rw (valid, shape, le-leb _ _ c.if-r-n.true, c.opening.ensures, c.put.ensures)

pub returns : goal.returns
unfolding allocate accepted
returns c =
    let valid = sym c.is_valid.ensures ∙ c.if-not-is_valid.false in
    let shape : (leb c.args.d (c.args.r.page - 1) && leb c.args.p c.args.d) ≡ true = and_is (le-leb _ _ c.if-r-d.false) (le-leb _ _ c.if-d-p.false) in
    let room = le-leb _ _ (rw c.pages_used.ensures.0 at c.if-r-pages_used.false) in
    let is = rw c.unwrap-g.ensures at c.lowest_free.ensures.lowest in
    rw (valid, shape, lt-leb _ _ c.if-r-n.false, room, object_first, c.opening-2.ensures, c.put-2.ensures, is)
