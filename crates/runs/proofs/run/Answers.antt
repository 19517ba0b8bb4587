-- `runs::run` meets its contract: before each record what is put, with what the definition still gives, is the whole output, and
-- behind it the array is as it was. Assumes nothing.
use Rattle.std.proofs.Common.{◌≡◌, List, ℕ, ◌++◌, ◌∙◌, sym, ap, refl, length, take, drop, arith, length-take-le}
use Rattle.std.proofs.lemmas.List.{length-take}
use Rattle.lines.specs.Lines.{ending}
use Rattle.runs.specs.Run.{transcript}
use Rattle.runs.proofs.Running.{begins, more, turned, ends, first_part}
use Rattle.runs.proofs.Written.{put_behind, written_on, array_is, place_is}
use Rattle.runs.proofs.run.Goals as goal

pub loop-found-init : goal.loop-found-init
unfolding transcript
loop-found-init c =
    let left = ap (λ e. e.bytes.now) c.into_iter-found-iterator.ensures.into_iter_gives ∙ c.new-found-items.ensures ∙ first_part c.args.input.now c.min-n.result c.min-n.ensures in
    (tt, tt, rw c.new-session.ensures (begins (take 64000 c.args.input.now) _ _ _ _ left c.default-tally.ensures refl), record { inside = omega arith; behind = refl })

pub turn-line-requires : goal.turn-line-requires
turn-line-requires c =
    let now = c.loop-found.invariant.2 in
    record { below = omega (arith, more now c.in-Some.found c.in-Some.ensures.steps.0, length-take 64000 c.args.input.now); adds = now.adds }

pub put-place-requires : goal.put-place-requires
put-place-requires c =
    let now = c.loop-found.invariant.2 in
    omega (
      arith,
      more now c.in-Some.found c.in-Some.ensures.steps.0,
      now.near,
      length-take-le c.loop-found.place c.loop-found.out c.loop-found.invariant.3.inside,
      length-take 64000 c.args.input.now,
      c.turn-line.ensures.near,
      ap length c.as_str.ensures.value,
    )

pub loop-found-preserved : goal.loop-found-preserved
loop-found-preserved c =
    let next = c.in-Some.ensures.steps in
    let w = c.loop-found.invariant.3 in
    let text = c.as_str.result.now in
    let put = put_behind text w c.put-place.ensures.place c.put-place.ensures.text in
    let behind = ap (λ (x : List ℕ). take c.loop-found.place c.loop-found.out ++ x) c.as_str.ensures.value in
    (tt, tt, rw next.1 (turned c.loop-found.invariant.2 c.in-Some.found next.0 c.turn-line.ensures (put ∙ behind)), written_on text w c.put-place.ensures.place c.put-place.ensures.text)

pub put-requires : goal.put-requires
put-requires c =
    let now = c.loop-found.invariant.2 in
    omega (
      arith,
      now.inside,
      now.near,
      length-take-le c.loop-found.place c.loop-found.out c.loop-found.invariant.3.inside,
      length-take 64000 c.args.input.now,
      c.push_ending.ensures.near,
      ap length c.new-last.ensures,
      ap length c.as_str-2.ensures.value,
    )

pub returns : goal.returns
returns c =
    let w = c.loop-found.invariant.3 in
    let text = c.as_str-2.result.now in
    let before : List ℕ = take c.loop-found.place c.loop-found.out in
    let last : text ≡ ending c.loop-found.tally = c.as_str-2.ensures.value ∙ c.push_ending.ensures.text ∙ ap (λ (x : List ℕ). x ++ ending c.loop-found.tally) c.new-last.ensures in
    let whole = ends c.loop-found.invariant.2 c.in-None.ensures.steps.0 (ap (λ (x : List ℕ). before ++ x) last) in
    let inside = (written_on text w c.put.ensures.place c.put.ensures.text).inside in
    record {
      prefix_len = (inside, sym (length-take-le _ _ inside));
      value = (
        place_is text w c.put.ensures.place c.put.ensures.text ∙ ap length whole,
        array_is text w c.put.ensures.place c.put.ensures.text ∙ ap (λ (x : List ℕ). x ++ drop c.put.result c.args.out.now) whole,
      );
    }
