-- `sound::are_zeros`: so far all words are zeros. Assumes nothing.
use Rattle.std.proofs.Common.{◌≡◌, take, nat_eq}
use Rattle.std.specs.List.{list_all}
use Rattle.sound.proofs.are_zeros.Given as goal

abbrev pub invariant-loop-word : goal.invariant-loop-word
invariant-loop-word l = l.zeros ≡ list_all (λ w. nat_eq w 0) (take l.word-index l.words)
