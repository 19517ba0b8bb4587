-- `layout::lent::View::is_start` meets its contract. Assumes nothing.
use Rattle.std.proofs.Common.{◌≡◌, refl, sym, ap, ◌∙◌, ℕ, false}
use Rattle.rules.specs.declared.Found.{Found}
use Rattle.rules.specs.declared.Found.TheVariants.{Start, Inside, Nothing}
use Rattle.laws.specs.LookUp.{was_start, found_is}
use Rattle.layout.proofs.lent.View.is_start.Goals as goal

no_start : (f : Found) → ((w : ℕ) → f ≡ Start w → ⊥) → was_start f ≡ false
no_start (Start w) n = absurd (n w refl)
no_start (Inside s) n = refl
no_start Nothing n = refl

pub returns-in-Start : goal.returns-in-Start
returns-in-Start c = λ links. ap was_start (c.in-Start.ensures links) ∙ found_is _ _

pub returns-in_default : goal.returns-in_default
returns-in_default c = λ links. sym (no_start _ c.in_default.not-Start) ∙ ap was_start (c.find.ensures links) ∙ found_is _ _
