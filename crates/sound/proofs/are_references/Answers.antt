-- `sound::are_references` meets its contract. Assumes nothing.
use Rattle.std.proofs.Common.{refl, inl, ◌∙◌}
use Rattle.rules.specs.Walk.{is_reference}
use Rattle.laws.specs.LookUp.{reference_is}
use Rattle.layout.specs.Code.{lent_of}
use Rattle.sound.proofs.Laws.{part_each}
use Rattle.sound.proofs.are_references.Goals as goal

pub returns : goal.returns
returns c =
    c.are_references.ensures ∙ rw c.part.ensures (part_each (is_reference (lent_of c.args.view.now)) c.args.view.now.heap.now c.args.e (reference_is _ 0 (inl refl)) _ c.args.a refl)
