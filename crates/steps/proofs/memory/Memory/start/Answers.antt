-- `steps::memory::Memory::start` meets its contract: the part that is lent has the lengths that P and T ask for, and an accepted
-- start leaves the same of any such memory. Assumes nothing.
use Rattle.std.proofs.Common.{◌*◌, sym, ◌∙◌, arith, take_at}
use Rattle.answers.proofs.Laws.{refused_some}
use Rattle.steps.specs.Session.{before, refused}
use Rattle.steps.specs.Told.{playing}
use Rattle.steps.proofs.Stepping.{start_refused_1, start_refused_9, few_pages, start_goes, start_accepted}
use Rattle.steps.proofs.memory.Memory.start.Goals as goal

pub returns-then-not-is_shape-clause-in_any : goal.returns-then-not-is_shape-clause-in_any
unfolding refused
returns-then-not-is_shape-clause-in_any c =
    λ s. start_refused_1 s c.args.page c.args.pages c.page_at_start-size.result c.page_at_start-size.ensures (sym c.is_shape.ensures ∙ c.if-not-is_shape.true)

pub returns-then-not-is_shape-clause-here : goal.returns-then-not-is_shape-clause-here
returns-then-not-is_shape-clause-here c = λ b roots hints. returns-then-not-is_shape-clause-in_any c (playing b c.args.self.now roots hints)

pub returns-then-asked-gt8192-clause-in_any : goal.returns-then-asked-gt8192-clause-in_any
unfolding refused
returns-then-asked-gt8192-clause-in_any c =
    λ s. start_refused_9 s c.args.page c.args.pages c.page_at_start-size.result c.page_at_start-size.ensures (sym c.is_shape.ensures ∙ c.if-not-is_shape.false) c.if-asked-gt8192.true

pub returns-then-asked-gt8192-clause-here : goal.returns-then-asked-gt8192-clause-here
returns-then-asked-gt8192-clause-here c = λ b roots hints. returns-then-asked-gt8192-clause-in_any c (playing b c.args.self.now roots hints)

pub split_at_mut-labels-requires : goal.split_at_mut-labels-requires
split_at_mut-labels-requires c =
    omega (arith, few_pages _ _ (sym c.is_shape.ensures ∙ c.if-not-is_shape.false) c.if-asked-gt8192.false, c.self.told)

-- no start of memory that has the lengths is refused
never : goal.After-from_residual → ⊥
never c =
    let e = rw c.in_err-accepted.was at (c.start.ensures before.lent.rec) in
    refused_some c.in_err-accepted.field-0.0 (start_goes before c.args.page c.args.pages c.page_at_start-size.result c.page_at_start-size.ensures _ _ e (sym c.is_shape.ensures ∙ c.if-not-is_shape.false)
    c.split_at_mut-heap.ensures.front_len c.split_at_mut-labels.ensures.front_len c.split_at_mut-links.ensures.front_len)

pub returns-in_err-accepted-clause-in_any : goal.returns-in_err-accepted-clause-in_any
returns-in_err-accepted-clause-in_any c = absurd (never c)

pub returns-in_err-accepted-clause-here : goal.returns-in_err-accepted-clause-here
returns-in_err-accepted-clause-here c = absurd (never c)

pub returns-clause-in_any : goal.returns-clause-in_any
returns-clause-in_any c =
    λ s.
    let heap = c.split_at_mut-heap in
    let labels = c.split_at_mut-labels in
    let links = c.split_at_mut-links in
    let kept = c.start.auto in
    rw (
      take_at c.start.new.heap heap.result.1.now (c.args.pages * c.page_at_start-size.result) (kept.heap ∙ heap.ensures.front_len),
      take_at c.start.new.labels labels.result.1.now c.args.pages (kept.labels ∙ labels.ensures.front_len),
      take_at c.start.new.links links.result.1.now c.args.pages (kept.links ∙ links.ensures.front_len),
    ) (start_accepted s c.args.page c.args.pages c.page_at_start-size.result c.page_at_start-size.ensures
    _ _ (rw c.in_ok-accepted.was at (c.start.ensures s.lent.rec)) (sym c.is_shape.ensures ∙ c.if-not-is_shape.false) c.if-asked-gt8192.false heap.ensures.front_len labels.ensures.front_len links.ensures.front_len)

pub returns-clause-here : goal.returns-clause-here
returns-clause-here c = λ b roots hints. returns-clause-in_any c (playing b c.args.self.now roots hints)
