-- `hints::Queue::hint_word`: where the word does not begin a page, the page of the word before is its own.
use Rattle.std.proofs.Common.{sym, ◌∙◌}
use borrow.Author.Tests.{eqb-false}
use Rattle.hints.proofs.Joining.{word_once}
use Rattle.hints.proofs.Queue.hint_word.Goals as goal

pub returns-else-begins_page-clause-after : goal.returns-else-begins_page-clause-after
returns-else-begins_page-clause-after c =
    word_once _ _ _ _ c.requires.safe_hints (rw (c.unwrap_or-own.ensures, c.page_named.ensures.named) at c.hint_page.ensures.after) (eqb-false _ _ (sym c.begins_page.ensures ∙ c.if-begins_page.false))
