-- `sound::is_used_sound` meets its contract. Assumes nothing.
use Rattle.std.proofs.Common.{◌≡◌, refl, sym, ◌∙◌, true, false, arith}
use Rattle.layout.specs.Code.{lent_of}
use Rattle.sound.proofs.Laws.{passing_ends, passing_bad, passing_on, used_label, used_bad, ends, ends_first, ends_open, ends_other, used_end}
use Rattle.sound.proofs.is_used_sound.Goals as goal
use Rattle.sound.proofs.is_used_sound.Goals.{then-stop-base+then-g-r, then-stop-base+else-g-r, else-stop-base}

pub returns-then-label_at-r : goal.returns-then-label_at-r
returns-then-label_at-r c = sym (used_label (lent_of c.args.view.now) _ _ _ refl refl (λ e. c.if-label_at-r.true (c.label_at.ensures ∙ e)))

pub returns-then-not-are_references : goal.returns-then-not-are_references
returns-then-not-are_references c =
    sym (used_bad (lent_of c.args.view.now) _ _ _ refl refl (passing_bad _ _ _ _ c.loop-w.invariant _ c.word_at-w.ensures (sym c.is_header.ensures ∙ c.if-not-is_header.false) _ c.refs_of.ensures.0 _ c.are_references.ensures c.if-not-are_references.true))

pub loop-w-smaller : goal.loop-w-smaller
loop-w-smaller c =
    let on = passing_on _ _ _ _ c.loop-w.invariant _ c.word_at-w.ensures (sym c.is_header.ensures ∙ c.if-not-is_header.false) _ c.refs_of.ensures.0 _ c.are_references.ensures c.if-not-are_references.false _ c.size_of-at.ensures.0 in
    omega (arith, on.0, on.1)

pub loop-w-preserved : goal.loop-w-preserved
loop-w-preserved c =
    (passing_on _ _ _ _ c.loop-w.invariant _ c.word_at-w.ensures (sym c.is_header.ensures ∙ c.if-not-is_header.false) _ c.refs_of.ensures.0 _ c.are_references.ensures c.if-not-are_references.false _ c.size_of-at.ensures.0).2

pub returns-then-stop-base-2 : goal.returns-then-stop-base-2
returns-then-stop-base-2 c =
    let tested : c.if-stop-base.value ≡ ends (lent_of c.args.view.now) c.args.g _ _ refl refl c.loop-w.at = elim c.if-stop-base.branch [ then-stop-base+then-g-r w ↦ w.value-is ∙ sym (ends_other (lent_of c.args.view.now) c.args.g _ _ refl refl c.loop-w.at w.if-stop-base.true w.if-g-r.true) | then-stop-base+else-g-r w ↦ w.value-is ∙ sym (ends_open (lent_of c.args.view.now) c.args.g _ _ refl refl c.loop-w.at w.if-stop-base.true w.if-g-r.false) | else-stop-base w ↦ w.value-is ∙ sym (ends_first (lent_of c.args.view.now) c.args.g _ _ refl refl c.loop-w.at w.if-stop-base.false) ] in
    c.is_blank.ensures ∙ sym (used_end (lent_of c.args.view.now) _ _ _ refl refl (sym c.label_at.ensures ∙ c.if-label_at-r.false) _ (passing_ends _ _ _ _ c.loop-w.invariant _ c.word_at-w.ensures (sym c.is_header.ensures ∙ c.if-not-is_header.true)) true (sym c.if-stop-base-2.true ∙ tested))

pub returns-else-stop-base-2 : goal.returns-else-stop-base-2
returns-else-stop-base-2 c =
    let tested : c.if-stop-base.value ≡ ends (lent_of c.args.view.now) c.args.g _ _ refl refl c.loop-w.at = elim c.if-stop-base.branch [ then-stop-base+then-g-r w ↦ w.value-is ∙ sym (ends_other (lent_of c.args.view.now) c.args.g _ _ refl refl c.loop-w.at w.if-stop-base.true w.if-g-r.true) | then-stop-base+else-g-r w ↦ w.value-is ∙ sym (ends_open (lent_of c.args.view.now) c.args.g _ _ refl refl c.loop-w.at w.if-stop-base.true w.if-g-r.false) | else-stop-base w ↦ w.value-is ∙ sym (ends_first (lent_of c.args.view.now) c.args.g _ _ refl refl c.loop-w.at w.if-stop-base.false) ] in
    c.if-stop-base-2.false ∙ sym (used_end (lent_of c.args.view.now) _ _ _ refl refl (sym c.label_at.ensures ∙ c.if-label_at-r.false) _ (passing_ends _ _ _ _ c.loop-w.invariant _ c.word_at-w.ensures (sym c.is_header.ensures ∙ c.if-not-is_header.true)) false (sym c.if-stop-base-2.false ∙ tested))
