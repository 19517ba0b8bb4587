-- What Q-5 asks, in a user's words: P = 0 at a start means 64, and a size that is named means itself.
use Rattle.std.specs.Prelude.{◌≡◌, refl, ℕ, ◌≤◌}
use Rattle.std.proofs.Common.{arith, ne_eqb}
use Rattle.rules.specs.Pages.{page_at_start}
use Rattle.rules.specs.Lent.{Lent}
use Rattle.rules.specs.Calls.{start}

-- "From now on P = 0 at start means 64": refusal, record and memory are those of a start that names 64. So refusal 1 asks for its
-- lengths, and refusal 2, which goes by the record, for its size.
pub default_is_64 : (m : Lent) (T : ℕ) → start m 0 T ≡ start m 64 T
unfolding start page_at_start
default_is_64 m T = refl

-- "Named sizes .. are as before"
pub named_is_itself : (P : ℕ) → 1 ≤ P → page_at_start P ≡ P
unfolding page_at_start
named_is_itself P h = rw (ne_eqb P 0 (λ e. absurd (omega arith)))
