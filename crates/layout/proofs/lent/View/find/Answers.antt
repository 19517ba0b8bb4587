-- `layout::lent::View::find` meets its contract. Assumes nothing.
use Rattle.std.proofs.Common.{sym, ◌∙◌, arith}
use Rattle.laws.specs.LookUp.{look_no_page, look_low, look_high, look_label}
use Rattle.layout.proofs.Laws.{found_on, on_page}
use Rattle.layout.proofs.lent.View.find.Goals as goal

pub returns-then-r-eq0 : goal.returns-then-r-eq0
returns-then-r-eq0 c = λ links. sym (look_no_page _ _ c.if-r-eq0.true)

pub returns-then-g-lt1 : goal.returns-then-g-lt1
returns-then-g-lt1 c = λ links. sym (look_low _ _ c.if-g-lt1.true)

pub returns-then-r-g : goal.returns-then-r-g
returns-then-r-g c = λ links. sym (look_high _ _ c.if-r-g.true)

pub returns-then-label_at-r : goal.returns-then-label_at-r
returns-then-label_at-r c = λ links. sym (look_label _ _ (λ e. c.if-label_at-r.true (c.label_at.ensures ∙ e)))

pub overflow_mul-g : goal.overflow_mul-g
overflow_mul-g c = omega (arith, on_page c.args.self.now.rec.page c.args.address c.if-r-eq0.false)

pub walk-requires : goal.walk-requires
walk-requires c = on_page _ _ c.if-r-eq0.false

pub returns : goal.returns
returns c = λ links. c.walk.ensures ∙ sym (found_on _ _ c.if-g-lt1.false c.if-r-g.false (sym c.label_at.ensures ∙ c.if-label_at-r.false))
