-- How the code's session is read as the definition's.
use Rattle.steps.specs.declared.play.Session.TheInside.{Inside}
use Rattle.steps.specs.Session.{Session}
use Rattle.steps.specs.Told.{playing}

abbrev pub session : Inside → Session
session s = playing s.begun s.memory s.roots s.hints
