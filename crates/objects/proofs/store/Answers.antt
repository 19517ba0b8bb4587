-- `objects::store` meets its contract: from the header on it is the definition's. Assumes nothing.
use Rattle.std.proofs.Common.{sym, ◌∙◌}
use Rattle.std.proofs.lemmas.Result.{err_from_is_err_and}
use Rattle.rules.specs.Lent.{lent}
use Rattle.rules.specs.Calls.{store, accepted, refused}
use Rattle.objects.specs.Code.{put_word}
use Rattle.objects.proofs.store.Goals as goal

pub returns-in_err-w : goal.returns-in_err-w
unfolding store
returns-in_err-w c =
    let p = err_from_is_err_and c.from_residual.result c.from_residual.ensures.1 in
    rw (p.1, p.2) (c.in_err-w.ensures.goes_on (put_word (lent c.args.heap.now c.args.labels.now c.args.links.now c.args.r) c.args.address c.args.index c.args.value))

pub returns-then-not-may_store : goal.returns-then-not-may_store
unfolding store refused
returns-then-not-may_store c =
    let h = c.in_ok-w.ensures.goes_on (put_word (lent c.args.heap.now c.args.labels.now c.args.links.now c.args.r) c.args.address c.args.index c.args.value) in
    rw (sym c.may_store.ensures ∙ c.if-not-may_store.true) at h

pub returns : goal.returns
unfolding store accepted
returns c =
    let h = c.in_ok-w.ensures.goes_on (put_word (lent c.args.heap.now c.args.labels.now c.args.links.now c.args.r) c.args.address c.args.index c.args.value) in
    rw (sym c.may_store.ensures ∙ c.if-not-may_store.false) at h
