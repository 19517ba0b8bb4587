-- `objects::header_at` meets its contract: an object that was found has a size, and lies in the heap; where there is none, look-up's
-- answer is a refusal. Assumes nothing.
use Rattle.std.proofs.Common.{arith, sym, ◌∙◌}
use Rattle.std.proofs.lemmas.Result.{err_from_is_err_and}
use Rattle.rules.specs.Calls.{unless, in_payload}
use Rattle.layout.specs.Code.{lent_of}
use Rattle.objects.proofs.Laws.{found_within, told_start, told_refused}
use Rattle.objects.proofs.header_at.Goals as goal

pub overflow_sub-size_of : goal.overflow_sub-size_of
overflow_sub-size_of c = omega (arith, c.size_of.ensures, found_within _ _ _ (sym c.is_valid.ensures ∙ c.if-not-is_valid.false) (sym (c.find-found.ensures _) ∙ c.in-Start.is))

pub returns-clause-inside : goal.returns-clause-inside
returns-clause-inside c = omega (arith, c.size_of.ensures, found_within _ _ _ (sym c.is_valid.ensures ∙ c.if-not-is_valid.false) (sym (c.find-found.ensures _) ∙ c.in-Start.is))

pub unreachable-requires : goal.unreachable-requires
unreachable-requires c =
    let v = c.args.view.now in
    let p = told_start _ c.args.address (lent_of v) _ (c.in_ok-told.ensures v.heap.now v.labels.now v.links.now) in
    c.in_default.not-Start p.0 p.1

pub returns-in_err-told-clause-goes_on : goal.returns-in_err-told-clause-goes_on
returns-in_err-told-clause-goes_on c = λ go.
    let v = c.args.view.now in
    let p = err_from_is_err_and c.from_residual.result c.from_residual.ensures.1 in
    rw (p.1, p.2, sym c.is_valid.ensures ∙ c.if-not-is_valid.false, sym (c.find-found.ensures v.links.now))
    (told_refused c.find-found.result c.args.address (lent_of v) _ (c.in_err-told.ensures v.heap.now v.labels.now v.links.now) (λ w. unless (in_payload w c.args.index) 5 (lent_of v) (go w)))
