-- `numbers::pages::page_named_checked` meets its contract: a word below P is on page 0. Assumes nothing.
use Rattle.std.proofs.Common.{sym, ◌∙◌}
use Rattle.std.proofs.Math.Nat.{div-eq_of_lt}
use Rattle.rules.specs.Pages.{page_named, page_named_to_c}
use Rattle.numbers.proofs.pages.page_named_checked.Goals as goal

pub returns-then-word-page : goal.returns-then-word-page
unfolding page_named page_named_to_c
returns-then-word-page c = rw (sym c.is_shape.ensures ∙ c.if-not-is_shape.false, div-eq_of_lt c.if-word-page.true)
