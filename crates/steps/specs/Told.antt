-- What the code's results say in the words of the definitions.
use Rattle.std.specs.Prelude.{ℕ, Bool, List, true, Result, Ok, Err}
use Rattle.rules.specs.Lent.{Lent}
use Rattle.rules.specs.Calls.{Outcome}
use Rattle.answers.specs.declared.Refusal.{Refusal}
use Rattle.answers.specs.Answers.{number, value}
use Rattle.steps.specs.Session.{Session, Stepped, cells, accepted}

-- the number of the refusal, 0 if accepted, and the value
abbrev pub refusal : Result ℕ Refusal → ℕ
refusal (Ok v) = 0
refusal (Err e) = number e

abbrev pub told : Result ℕ Refusal → ℕ
told (Ok v) = v
told (Err e) = value e

-- a call's result, and the memory after it
abbrev pub called : Result ℕ Refusal → Lent → Outcome
called r m = record { refusal = refusal r; value = told r; lent = m }

-- a step's result, and the session after it
abbrev pub stepped : Result ℕ Refusal → Session → Stepped
stepped r s = record { refusal = refusal r; value = told r; session = s }

-- the session with this memory, where `b` says whether a start was accepted
abbrev pub playing : Bool → Lent → List ℕ → List ℕ → Session
playing b m roots hints = record { begun = b; lent = m; roots = roots; hints = hints }

-- what a start leaves that was asked for in session s, any at all: one with the memory m that it lends, or s as it was
abbrev pub started_in : {A : Type 0} → Result A Refusal → Lent → Session → Stepped
started_in (Ok u) m s = accepted 0 (playing true m cells cells)
started_in (Err e) m s = stepped (Err e) s

-- the same with m in the place of the memory of s, so that a refused start has to leave that as it was
abbrev pub started : {A : Type 0} → Result A Refusal → Lent → Session → Stepped
started r m s = started_in r m (playing s.begun m s.roots s.hints)
