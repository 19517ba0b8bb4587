-- `steps::memory::Memory::collect` meets its contract. Assumes nothing.
use Rattle.std.proofs.Common.{refl, take_at, ◌∙◌}
use Rattle.std.proofs.lemmas.Result.{err_from_is_err_and}
use Rattle.rules.specs.Lent.{lent}
use Rattle.steps.specs.Told.{playing}
use Rattle.steps.proofs.Stepping.{gathers, gathers_not}
use Rattle.steps.proofs.memory.Memory.collect.Goals as goal

pub returns-in_err-counts : goal.returns-in_err-counts
returns-in_err-counts c =
    λ b.
    let heap = c.split_at_mut-heap in
    let labels = c.split_at_mut-labels in
    let links = c.split_at_mut-links in
    let kept = c.collect.auto in
    let e = err_from_is_err_and c.from_residual.result c.from_residual.ensures.1 in
    rw (
      e.1,
      e.2,
      ← c.self.view_is,
      ← heap.ensures.front,
      ← labels.ensures.front,
      ← links.ensures.front,
      take_at c.collect.new.heap heap.result.1.now c.self.inside.words (kept.heap ∙ heap.ensures.front_len),
      take_at c.collect.new.labels labels.result.1.now c.self.inside.pages (kept.labels ∙ labels.ensures.front_len),
      take_at c.collect.new.links links.result.1.now c.self.inside.pages (kept.links ∙ links.ensures.front_len),
    ) (gathers_not (playing b (lent heap.result.0.now labels.result.0.now links.result.0.now c.self.inside.rec) c.args.roots.now c.args.hints.now) _ c.in_err-counts.field-0.0 (rw c.in_err-counts.was at c.collect.ensures) refl refl)

pub returns : goal.returns
returns c =
    λ b.
    let heap = c.split_at_mut-heap in
    let labels = c.split_at_mut-labels in
    let links = c.split_at_mut-links in
    let kept = c.collect.auto in
    rw (
      ← c.self.view_is,
      ← heap.ensures.front,
      ← labels.ensures.front,
      ← links.ensures.front,
      take_at c.collect.new.heap heap.result.1.now c.self.inside.words (kept.heap ∙ heap.ensures.front_len),
      take_at c.collect.new.labels labels.result.1.now c.self.inside.pages (kept.labels ∙ labels.ensures.front_len),
      take_at c.collect.new.links links.result.1.now c.self.inside.pages (kept.links ∙ links.ensures.front_len),
    ) (gathers (playing b (lent heap.result.0.now labels.result.0.now links.result.0.now c.self.inside.rec) c.args.roots.now c.args.hints.now) _ (rw c.in_ok-counts.was at c.collect.ensures))
