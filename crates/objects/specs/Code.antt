-- What load and store have in common: the way to a payload word.
use Rattle.std.specs.Prelude.{ℕ, Result, Ok, Err}
use Rattle.rules.specs.Lent.{Lent, is_valid}
use Rattle.rules.specs.Walk.{found}
use Rattle.rules.specs.Calls.{Outcome, unless, on_start, in_payload, may_store, accepted, stored}
use Rattle.answers.specs.declared.Refusal.{Refusal}
use Rattle.answers.specs.Answers.{number, value}

-- a call that goes on with the header of the object at a, once that has a payload word i
abbrev pub payload_word : Lent → ℕ → ℕ → (ℕ → Outcome) → Outcome
payload_word m a i go = unless (is_valid m) 1 m (on_start (found m a) a m (λ w. unless (in_payload w i) 5 m (go w)))

-- how a call goes on that was given this header, or is refused
abbrev pub go_on : Lent → Result ℕ Refusal → (ℕ → Outcome) → Outcome
go_on m (Ok w) go = go w
go_on m (Err e) go = record { refusal = number e; value = value e; lent = m }

-- what store does from the header on
abbrev pub put_word : Lent → ℕ → ℕ → ℕ → ℕ → Outcome
put_word m a i v w = unless (may_store m w i v) 6 m (accepted 0 (stored m a i v))
