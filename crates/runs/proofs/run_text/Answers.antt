-- `runs::run_text` meets its contract: before each record what is put, with what the definition still gives, is the whole output.
-- Assumes nothing.
use Rattle.std.proofs.Common.{List, ℕ, ◌++◌, ◌∙◌, ap, length, take, arith, lit<}
use Rattle.std.proofs.lemmas.List.{length-take}
use Rattle.runs.specs.Run.{transcript}
use Rattle.runs.proofs.Running.{begins, more, turned, ends, first_part}
use Rattle.runs.proofs.run_text.Goals as goal

pub loop-found-init : goal.loop-found-init
unfolding transcript
loop-found-init c =
    let left = ap (λ e. e.bytes.now) c.into_iter-found-iterator.ensures.into_iter_gives ∙ c.new-found-items.ensures ∙ first_part c.args.input.now c.min-n.result c.min-n.ensures in
    (tt, tt, rw c.new-session.ensures (begins (take 64000 c.args.input.now) _ _ _ _ left c.default-tally.ensures c.clear.ensures))

pub turn-line-requires : goal.turn-line-requires
turn-line-requires c =
    let now = c.loop-found.invariant.2 in
    record { below = omega (arith, more now c.in-Some.found c.in-Some.ensures.steps.0, length-take 64000 c.args.input.now); adds = now.adds }

pub push_str-requires : goal.push_str-requires
push_str-requires c =
    let now = c.loop-found.invariant.2 in
    (lit< tt, omega (arith, more now c.in-Some.found c.in-Some.ensures.steps.0, now.near, length-take 64000 c.args.input.now, c.turn-line.ensures.near, ap length c.as_str.ensures.value))

pub loop-found-preserved : goal.loop-found-preserved
loop-found-preserved c =
    let next = c.in-Some.ensures.steps in
    let put = c.push_str.ensures.bytes ∙ ap (λ (x : List ℕ). c.loop-found.out.bytes ++ x) c.as_str.ensures.value in
    (tt, tt, rw next.1 (turned c.loop-found.invariant.2 c.in-Some.found next.0 c.turn-line.ensures put))

pub push_ending-requires : goal.push_ending-requires
push_ending-requires c = (lit< tt, omega (arith, c.loop-found.invariant.2.inside, c.loop-found.invariant.2.near, length-take 64000 c.args.input.now))

pub returns : goal.returns
returns c = ends c.loop-found.invariant.2 c.in-None.ensures.steps.0 c.push_ending.ensures.text
