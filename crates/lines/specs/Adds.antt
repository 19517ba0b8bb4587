-- What the tally's numbers owe each other.
use Rattle.std.specs.Prelude.{◌≡◌, ◌+◌, ◌<◌}
use Rattle.lines.specs.declared.tally.Tally.{Tally}

-- they add up, and there is room for one record more
pub record Adds (t : Tally) : Type 0 where
  pub below : t.records < 4294967295
  pub adds : t.accepted + t.refused ≡ t.records
