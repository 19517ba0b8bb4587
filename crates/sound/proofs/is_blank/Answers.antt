-- `sound::is_blank` meets its contract. Assumes nothing.
use Rattle.std.proofs.Common.{◌≡◌, ◌∙◌, eqb, rules, tests}
use Rattle.std.specs.List.{list_all}
use Rattle.std.proofs.lemmas.Iterator.{YieldsList-from_slice}
use Rattle.std.proofs.lemmas.Iterator.Search.{all_from_yields_List}
use Rattle.rules.specs.Ranges.{each}
use Rattle.sound.proofs.Chunks.{blank_chunks}
use Rattle.sound.proofs.is_blank.Goals as goal

pub returns-then-all : goal.returns-then-all
returns-then-all c =
    let chunks : c.all.result ≡ list_all (each (λ w. eqb w 0)) c.as_chunks.result.0.now = all_from_yields_List (each (λ w. eqb w 0)) _ _ _ c.all.ensures.ran (YieldsList-from_slice c.as_chunks.result.0.now cc) (λ x b q k. search (rules, tests)) in
    c.are_zeros.ensures ∙ rw c.if-all.true at (blank_chunks c.args.heap.now c.args.a c.args.e 32 _ _ c.part.ensures _ c.as_chunks.ensures.front _ c.as_chunks.ensures.back _ chunks)

pub returns-else-all : goal.returns-else-all
returns-else-all c =
    let chunks : c.all.result ≡ list_all (each (λ w. eqb w 0)) c.as_chunks.result.0.now = all_from_yields_List (each (λ w. eqb w 0)) _ _ _ c.all.ensures.ran (YieldsList-from_slice c.as_chunks.result.0.now cc) (λ x b q k. search (rules, tests)) in
    c.if-all.false ∙ rw c.if-all.false at (blank_chunks c.args.heap.now c.args.a c.args.e 32 _ _ c.part.ensures _ c.as_chunks.ensures.front _ c.as_chunks.ensures.back _ chunks)
