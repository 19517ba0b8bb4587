-- That a refusal has a number. Assumes nothing.
use Rattle.std.specs.Prelude.{◌≢◌}
use Rattle.std.proofs.Common.{arith}
use Rattle.answers.specs.declared.Refusal.{Refusal}
use Rattle.answers.specs.declared.Refusal.TheVariants.{Layout, Shape, CollectFirst, NothingThere, Index, BadReference, Unsound, BadEntry, Inside}
use Rattle.answers.specs.Answers.{number}

-- no refusal has number 0
pub refused_some : (e : Refusal) → number e ≢ 0
refused_some Layout z = absurd (omega arith)
refused_some Shape z = absurd (omega arith)
refused_some CollectFirst z = absurd (omega arith)
refused_some NothingThere z = absurd (omega arith)
refused_some Index z = absurd (omega arith)
refused_some BadReference z = absurd (omega arith)
refused_some Unsound z = absurd (omega arith)
refused_some BadEntry z = absurd (omega arith)
refused_some (Inside s) z = absurd (omega arith)
