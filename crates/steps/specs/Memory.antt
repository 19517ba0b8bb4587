-- The memory of a session, as the definitions see it.
use Rattle.std.specs.Prelude.{◌≤◌, take}
use Rattle.rules.specs.Lent.{Lent, lent}
use Rattle.steps.specs.declared.memory.Memory.TheInside.{Inside}

-- what is lent: of each array the part that the start asked for
abbrev pub lent_part : Inside → Lent
lent_part m = lent (take m.words m.heap) (take m.pages m.labels) (take m.pages m.links) m.rec

-- that part is within them
pub record Within (m : Inside) : Type 0 where
  pub words : m.words ≤ 8192
  pub pages : m.pages ≤ 1024
