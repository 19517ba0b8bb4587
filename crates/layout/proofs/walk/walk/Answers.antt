-- `layout::walk::walk` meets its contract. Assumes nothing.
use mathlib.Core.Path.{◌≡◌, sym, ◌∙◌}
use mathlib.Core.Logic.{◌⊎◌, inl, inr}
use mathlib.Core.Bool.{false}
use Prim.Native.Nat.{◌≤◌, min}
use native.Mathlib.Omega.{arith}
use lib.ListN.{length}
use borrow.Author.Tests.{ltb-true, ltb-false}
use Rattle.rules.specs.Ranges.{at}
use Rattle.rules.specs.Header.{is_header}
use Rattle.laws.specs.Walk.{size}
use Rattle.layout.proofs.Laws.{coming_on, coming_none, coming_met}
use Rattle.layout.proofs.walk.walk.Goals as goal
use Rattle.layout.proofs.walk.walk.Goals.{then-near-at, else-near-at+then-not-is_header}

pub loop-at-smaller : goal.loop-at-smaller
loop-at-smaller c = omega (arith, (coming_on _ _ _ _ _ _ c.loop-at.invariant c.requires.1 (omega arith) _ c.size_of-n.ensures.0 (sym c.is_header.ensures ∙ c.if-not-is_header.false)).0)

pub loop-at-preserved : goal.loop-at-preserved
loop-at-preserved c = (coming_on _ _ _ _ _ _ c.loop-at.invariant c.requires.1 (omega arith) _ c.size_of-n.ensures.0 (sym c.is_header.ensures ∙ c.if-not-is_header.false)).1

pub returns-in-Some : goal.returns-in-Some
returns-in-Some c =
    let here : c.if-near-at.left ≡ c.loop-at.at = elim c.if-near-at.branch [ then-near-at w ↦ w.left-is | else-near-at+then-not-is_header w ↦ w.left-is ] in
    let left : (min c.args.address (length c.args.heap.now) ≤ c.loop-at.at) ⊎ (is_header (at c.args.heap.now c.loop-at.at) (size c.args.heap.now c.loop-at.at) ≡ false) = elim c.if-near-at.branch [ then-near-at w ↦ inl (omega arith) | else-near-at+then-not-is_header w ↦ inr (rw w.size_of-n.ensures.0 at (sym w.is_header.ensures ∙ w.if-not-is_header.true)) ] in
    let word : c.in-Some.field-0.now ≡ at c.args.heap.now c.loop-at.at = rw here at (c.in-Some.ensures.lookup.4 (omega arith) 0) in
    rw word (sym (coming_met _ _ _ _ _ _ c.loop-at.invariant (rw (word, here) at (sym c.if-is_header.ensures)) (omega arith) (omega (arith, here, ltb-true _ _ (sym c.in-Some.ensures.lookup.0))) left))

pub returns-in_default : goal.returns-in_default
returns-in_default c =
    let here : c.if-near-at.left ≡ c.loop-at.at = elim c.if-near-at.branch [ then-near-at w ↦ w.left-is | else-near-at+then-not-is_header w ↦ w.left-is ] in
    let word : c.in-Some.field-0.now ≡ at c.args.heap.now c.loop-at.at = rw here at (c.in-Some.ensures.lookup.4 (omega arith) 0) in
    sym (coming_none _ _ _ _ _ _ c.loop-at.invariant (inr (rw (word, here) at (sym c.if-is_header.ensures))) (omega arith))

pub returns-in_default-2 : goal.returns-in_default-2
returns-in_default-2 c =
    let here : c.if-near-at.left ≡ c.loop-at.at = elim c.if-near-at.branch [ then-near-at w ↦ w.left-is | else-near-at+then-not-is_header w ↦ w.left-is ] in
    sym (coming_none _ _ _ _ _ _ c.loop-at.invariant (inl (omega (arith, here, ltb-false _ _ (sym (rw c.in_default.is at c.get.ensures.lookup.0))))) (omega arith))
