-- `runs::run` meets its contract: between two records, what is put so far with what the definition still gives is the whole
-- output, and behind it the array is as it was. Assumes nothing.
use Rattle.std.proofs.Common.{take}
use Rattle.runs.specs.Run.{transcript}
use Rattle.runs.proofs.Running.{Running}
use Rattle.runs.proofs.Written.{Written}
use Rattle.runs.proofs.run.Given as goal

abbrev pub invariant-loop-found : goal.invariant-loop-found
invariant-loop-found l =
    (goal.iterator-loop-found).can_next l.found-iterator × (goal.iterator-loop-found).is_finite l.found-iterator
    × Running (take 64000 l.input) l.found-iterator.bytes.now l.session l.tally (take l.place l.out) (transcript l.input)
    × Written l.initial.out l.out l.place
