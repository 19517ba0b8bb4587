-- `layout::lent::View::are_references` meets its contract. Assumes nothing.
use Rattle.std.proofs.Common.{◌∙◌, rules, tests}
use Rattle.std.proofs.lemmas.Iterator.{YieldsList-from_slice}
use Rattle.std.proofs.lemmas.Iterator.Search.{all_from_yields_List}
use Rattle.rules.specs.Walk.{is_reference}
use Rattle.layout.specs.Code.{lent_of}
use Rattle.layout.proofs.Each.{all_each}
use Rattle.layout.proofs.lent.View.are_references.Goals as goal

pub returns : goal.returns
returns c =
    all_from_yields_List (is_reference (lent_of c.args.self.now)) _ _ _ c.all.ensures.ran (YieldsList-from_slice c.args.values.now cc) (λ x b q k. search (rules, tests))
    ∙ all_each _ c.args.values.now
