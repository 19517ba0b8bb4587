-- `hints::Queue::hint_words`: the words in order.
use Rattle.std.proofs.Common.{ap, refl}
use Rattle.hints.specs.Code.{plan, slices_begin, slices_then}
use Rattle.hints.proofs.Joining.{hints_end, hints_safe, hints_turn}
use Rattle.hints.proofs.Queue.hint_words.Goals as goal

pub loop-word-init : goal.loop-word-init
loop-word-init c = (record { plan = refl; same = refl; safe = c.requires.safe_hints }, slices_begin _)

pub hint_word-requires : goal.hint_word-requires
hint_word-requires c = record { safe_hints = hints_safe c.loop-word.invariant.0 c.loop-word-test.true }

pub loop-word-preserved : goal.loop-word-preserved
loop-word-preserved c =
    let same = c.hint_word.ensures.same_slices in
    (hints_turn c.loop-word.invariant.0 c.loop-word-test.true _ c.hint_word.ensures.after _ (ap plan same.shape), slices_then c.loop-word.invariant.1 same)

pub returns-clause-after : goal.returns-clause-after
returns-clause-after c = hints_end c.loop-word.invariant.0 c.loop-word-test.false
