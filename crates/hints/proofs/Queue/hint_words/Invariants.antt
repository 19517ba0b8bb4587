-- `hints::Queue::hint_words`: what is left of the hints gives what all of them give at first, and is safe.
use Rattle.hints.specs.Code.{plan, hinted_of, SameSlices}
use Rattle.hints.proofs.Joining.{Hinting}
use Rattle.hints.proofs.Queue.hint_words.Given as goal

abbrev pub invariant-loop-word : goal.invariant-loop-word
invariant-loop-word l = Hinting (plan l.initial.self.shape) l.hints (hinted_of l.initial.self) (plan l.self.shape) (hinted_of l.self) l.word-index × SameSlices l.initial.self l.self
