-- One record: its line, and what it leaves.
use Rattle.std.specs.Prelude.{◌≡◌, List, ℕ, ◌≤◌, length}
use Rattle.lines.specs.declared.tally.Tally.{Tally}
use Rattle.lines.specs.Lines.{line, noted}
use Rattle.steps.specs.Session.{Session, Stepped}

-- of a record that was answered `o`: its line, the session after it, and the tally
pub record Turned (t : Tally) (o : Stepped) (bytes : List ℕ) (s' : Session) (t' : Tally) : Type 0 where
  pub text : bytes ≡ line t.records o.refusal o.value
  pub near : length bytes ≤ 33
  pub session : s' ≡ o.session
  pub tally : t' ≡ noted t o.refusal
