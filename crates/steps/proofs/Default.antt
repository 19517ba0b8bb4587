-- Q-5 in a session: P = 0 at a start is P = 64, "the product of 9" among it.
use Rattle.std.specs.Prelude.{◌≡◌, ℕ, refl}
use Rattle.rules.specs.Pages.{page_at_start}
use Rattle.rules.specs.Calls.{start}
use Rattle.entries.specs.declared.Step.TheVariants.{Start}
use Rattle.steps.specs.Session.{Session, perform, step}

pub default_step_is_64 : (s : Session) (T : ℕ) → step s (Start 0 T) ≡ step s (Start 64 T)
unfolding page_at_start start perform step
default_step_is_64 s T = refl
