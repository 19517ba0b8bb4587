-- `sound::are_zeros` meets its contract. Assumes nothing.
use Rattle.std.proofs.Common.{◌∙◌, nat_eq}
use Rattle.std.proofs.lemmas.List.{take_all}
use Rattle.layout.proofs.Each.{all_each}
use Rattle.sound.proofs.are_zeros.Goals as goal

pub returns : goal.returns
returns c = rw (take_all _ _ c.loop-word-test.false) at c.loop-word.invariant ∙ all_each (λ w. nat_eq w 0) c.args.words.now
