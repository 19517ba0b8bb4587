-- `sound::are_pages_sound` meets its contract. Assumes nothing.
use Rattle.std.proofs.Common.{refl, ◌∙◌, ◌-◌, rules, tests}
use Rattle.std.proofs.lemmas.Iterator.{YieldsList-from_range}
use Rattle.std.proofs.lemmas.Iterator.Search.{all_from_yields_List}
use Rattle.rules.specs.Sound.{is_page_sound}
use Rattle.layout.specs.Code.{lent_of}
use Rattle.sound.proofs.Laws.{range_all}
use Rattle.sound.proofs.are_pages_sound.Goals as goal

pub returns : goal.returns
returns c =
    all_from_yields_List (is_page_sound (lent_of c.args.view.now)) _ _ _ c.all.ensures.ran (YieldsList-from_range 1 c.args.view.now.rec.pages (c.args.view.now.rec.pages - 1) refl refl) (λ x b q k. search (rules, tests))
    ∙ range_all (is_page_sound (lent_of c.args.view.now)) 1 c.args.view.now.rec.pages _ refl
