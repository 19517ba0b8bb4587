-- `heap::object::put`: zeros stand behind the header.
use Rattle.std.proofs.Common.{arith}
use Rattle.heap.proofs.Laws.{put_is}
use Rattle.heap.proofs.object.put.Goals as goal

pub returns : goal.returns
returns c =
    let room = c.requires in
    rw (← c.header_of.ensures) (put_is c.args.heap.now c.fill.new.self c.args.address c.args.d c.header_of.result (omega arith) (c.fill.ensures.after (λ y same. same)))
