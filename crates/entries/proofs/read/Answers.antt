-- `entries::read` meets its contract. Assumes nothing.
use Rattle.std.proofs.Common.{ap, ◌∙◌, ◌-◌, arith, length, drop, take_all, length-drop}
use Rattle.entries.specs.Places.{next_on, left_past}
use Rattle.entries.specs.Entries.{next_at}
use Rattle.entries.proofs.read.Goals as goal

pub returns : goal.returns
returns c =
    let bytes = c.args.bytes.now in
    let from = c.min.result in
    let left = take_all (length bytes - from) (drop from bytes) (omega (arith, length-drop from bytes)) in
    c.next.ensures.steps.0 ∙ ap (λ l. next_at l 0) (c.new.ensures ∙ left ∙ left_past bytes c.args.at from c.min.ensures)
    ∙ next_on bytes c.args.at
