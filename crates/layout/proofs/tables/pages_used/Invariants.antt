-- `layout::tables::pages_used` meets its contract. The loop's invariant: as many are in use as were seen. Assumes nothing.
use Rattle.std.proofs.Common.{◌≡◌, take, not, nat_eq}
use Rattle.std.specs.List.{count_by}
use Rattle.layout.proofs.tables.pages_used.Given as goal

abbrev pub invariant-loop-label : goal.invariant-loop-label
invariant-loop-label l = l.used ≡ count_by (λ x. not (nat_eq x 0)) (take l.label-index l.part)
