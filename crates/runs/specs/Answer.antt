-- What stands at a place of the input, and what a session answers it.
use Rattle.std.specs.Prelude.{Result, Ok, Err}
use Rattle.entries.specs.declared.Entry.{Entry}
use Rattle.entries.specs.declared.Partial.{Partial}
use Rattle.entries.specs.Entries.{decode}
use Rattle.steps.specs.Session.{Session, Stepped, refused, step}

-- a whole record's step, or the refusal 9 of one to seven bytes
abbrev pub answer : Session → Result Entry Partial → Stepped
answer s (Ok e) = step s (decode e)
answer s (Err p) = refused 9 s
