-- `entries::EntriesIterator::next` meets its contract. Assumes nothing.
use Rattle.std.proofs.Common.{arith, sym, ◌∙◌}
use Rattle.entries.proofs.Reading.{whole, partial, nothing}
use Rattle.entries.proofs.EntriesIterator.next.Goals as goal

pub returns-in-Some-clause-steps : goal.returns-in-Some-clause-steps
returns-in-Some-clause-steps c =
    let k = c.in-Some.ensures.cases in
    (whole c.args.self.now.bytes.now _ (omega (arith, k.2)) (rw k.0 at c.from.ensures), k.1)

pub returns-in-None-clause-steps : goal.returns-in-None-clause-steps
returns-in-None-clause-steps c = nothing c.args.self.now.bytes.now (sym c.is_empty.ensures ∙ c.if-is_empty.true)

pub returns-in-None-2-clause-steps : goal.returns-in-None-2-clause-steps
returns-in-None-2-clause-steps c =
    partial c.args.self.now.bytes.now c.in-None.ensures.cases (sym c.is_empty.ensures ∙ c.if-is_empty.false)
