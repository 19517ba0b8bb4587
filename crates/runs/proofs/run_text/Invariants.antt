-- `runs::run_text` meets its contract: between two records, what is put so far with what the definition still gives is the whole
-- output. Assumes nothing.
use Rattle.std.proofs.Common.{take}
use Rattle.runs.specs.Run.{transcript}
use Rattle.runs.proofs.Running.{Running}
use Rattle.runs.proofs.run_text.Given as goal

abbrev pub invariant-loop-found : goal.invariant-loop-found
invariant-loop-found l =
    (goal.iterator-loop-found).can_next l.found-iterator × (goal.iterator-loop-found).is_finite l.found-iterator
    × Running (take 64000 l.input) l.found-iterator.bytes.now l.session l.tally l.out.bytes (transcript l.input)
