-- `phases::retain`: each step begins where the one before it ended.
use Rattle.std.proofs.Common.{ap, rules}
use Rattle.hints.specs.Code.{plan}
use Rattle.copies.specs.Code.{state_of}
use Rattle.phases.proofs.Running.{hints_safe, hinted_is, roots_safe, roots_done, queue_safe, swept_is, tails, retained}
use Rattle.phases.proofs.retain.Goals as goal

pub hint_words-requires : goal.hint_words-requires
hint_words-requires c =
    record { safe_hints = hints_safe c.args.r c.args.heap.now c.args.labels.now c.args.links.now c.args.roots.now c.args.hints.now _ c.requires.safe_run c.shape_of-shape.ensures }

pub forward_roots-requires : goal.forward_roots-requires
forward_roots-requires c =
    let hinted = hinted_is c.args.r c.args.heap.now c.args.labels.now c.args.links.now c.args.roots.now c.args.hints.now _ c.requires.safe_run c.shape_of-shape.ensures c.hint_words.new.self c.hint_words.ensures.same_slices.shape c.hint_words.ensures.after in
    record { safe_roots = roots_safe hinted }

pub sweep_queue-requires-clause-safe_queue : goal.sweep_queue-requires-clause-safe_queue
sweep_queue-requires-clause-safe_queue c =
    let hinted = hinted_is c.args.r c.args.heap.now c.args.labels.now c.args.links.now c.args.roots.now c.args.hints.now _ c.requires.safe_run c.shape_of-shape.ensures c.hint_words.new.self c.hint_words.ensures.same_slices.shape c.hint_words.ensures.after in
    let rooted = roots_done hinted c.forward_roots.new.roots (state_of c.forward_roots.new.self) c.forward_roots.ensures.after _ (ap plan c.forward_roots.ensures.same_memory.slices.shape) in
    queue_safe rooted

pub answer-requires : goal.answer-requires
answer-requires c =
    let hinted = hinted_is c.args.r c.args.heap.now c.args.labels.now c.args.links.now c.args.roots.now c.args.hints.now _ c.requires.safe_run c.shape_of-shape.ensures c.hint_words.new.self c.hint_words.ensures.same_slices.shape c.hint_words.ensures.after in
    let rooted = roots_done hinted c.forward_roots.new.roots (state_of c.forward_roots.new.self) c.forward_roots.ensures.after _ (ap plan c.forward_roots.ensures.same_memory.slices.shape) in
    let swept = swept_is rooted c.sweep_queue.new.collecting c.sweep_queue.ensures.after in
    tails swept

pub returns : goal.returns
returns c =
    let hinted = hinted_is c.args.r c.args.heap.now c.args.labels.now c.args.links.now c.args.roots.now c.args.hints.now _ c.requires.safe_run c.shape_of-shape.ensures c.hint_words.new.self c.hint_words.ensures.same_slices.shape c.hint_words.ensures.after in
    let rooted = roots_done hinted c.forward_roots.new.roots (state_of c.forward_roots.new.self) c.forward_roots.ensures.after _ (ap plan c.forward_roots.ensures.same_memory.slices.shape) in
    let swept = swept_is rooted c.sweep_queue.new.collecting c.sweep_queue.ensures.after in
    retained swept _ _ _ _ (search rules) (search rules) (search rules) c.answer.ensures
