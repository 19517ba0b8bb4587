-- How the tests' result is read as the definition's number.
use Rattle.std.specs.Prelude.{ℕ, Result, Ok, Err}
use Rattle.answers.specs.declared.Refusal.{Refusal}
use Rattle.answers.specs.Answers.{number}

-- the refusal's number, 0 if all tests pass
abbrev pub number_if_any : {A : Type 0} → Result A Refusal → ℕ
number_if_any (Ok x) = 0
number_if_any (Err e) = number e
