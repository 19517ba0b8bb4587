-- `lines::text::push_number` meets its contract. Assumes nothing.
use Rattle.std.proofs.Common.{append_assoc, arith}
use Rattle.lines.proofs.Decimal.{numbered}
use Rattle.lines.proofs.text.push_number.Goals as goal

pub returns-clause-text : goal.returns-clause-text
returns-clause-text g c =
    rw (c.push_str-2.ensures.bytes, c.push_str.ensures.bytes, c.format.ensures.text, numbered c.args.n c.args.end.now (omega arith), append_assoc)
