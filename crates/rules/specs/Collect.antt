-- Collect: its tests in the order 1, 7, 6, what it answers, and all that it leaves.
use Rattle.std.specs.Prelude.{Bool, cond, not, ◌&&◌, List, ℕ, length, eqb}
use Rattle.rules.specs.declared.Collected.{Collected}
use Rattle.rules.specs.Ranges.{block, each, has, count, sum}
use Rattle.rules.specs.Pages.{pages_named, is_free, pages_needed}
use Rattle.rules.specs.Lent.{Lent, lent, is_valid}
use Rattle.rules.specs.Walk.{words_on, is_reference}
use Rattle.rules.specs.Sound.{is_sound}
use Rattle.rules.specs.Collection.{Collection, plainly, collection}

-- page g is in use, and one "that no hint names"
unfoldable pub is_unhinted : Lent → List ℕ → ℕ → Bool
is_unhinted m hints g = not (is_free m.labels g) && not (has g (pages_named m.rec.page 1 m.rec.pages hints))

-- k': how many there are. Since Q-3 no rule asks for it; "the old figure", 2k' - 1, is what Q-3's is compared with
unfoldable pub pages_unhinted : Lent → List ℕ → ℕ
pages_unhinted m hints = count (is_unhinted m hints) (block 1 m.rec.pages)

-- Q-3: "Let W be the words in objects on unhinted pages in use."
unfoldable pub words_unhinted : Lent → List ℕ → ℕ
words_unhinted m hints = sum (λ g. cond (is_unhinted m hints g) (words_on m g) 0) (block 1 m.rec.pages)

-- "the new figure" of these hints. Since Q-6 no call asks for W or for this; it bounds the pages that a collection takes
abbrev pub needed_for : Lent → List ℕ → ℕ
needed_for m hints = pages_needed m.rec.page (words_unhinted m hints)

-- the refusal's number, 0 if accepted: "Checks go by number, except that collect tests 1, 7, 6, 8", and by Q-6 the last is gone
unfoldable pub refusal_of_collect : Lent → List ℕ → ℕ
refusal_of_collect m roots = cond (is_valid m) (cond (is_sound m) (cond (each (is_reference m) roots) 0 6) 7) 1

-- the refusal's number; "four counts: pages hinted, pages taken, objects copied, words copied", which by Q-6 "gain pages kept and fillers";
-- memory and record, and the root cells, as the call leaves them. The hints stay as they were.
pub record CollectOutcome : Type 0 where
  pub refusal : ℕ
  pub hinted : ℕ
  pub taken : ℕ
  pub objects : ℕ
  pub words : ℕ
  pub kept : ℕ
  pub fillers : ℕ
  pub lent : Lent
  pub roots : List ℕ

-- the code's answer, with the heap, labels, links and root cells that it leaves
abbrev pub collect_outcome : Collected → List ℕ → List ℕ → List ℕ → List ℕ → CollectOutcome
collect_outcome x heap labels links roots = record {
  refusal = x.refusal;
  hinted = x.hinted;
  taken = x.taken;
  objects = x.objects;
  words = x.words;
  kept = x.kept;
  fillers = x.fillers;
  lent = lent heap labels links x.rec;
  roots = roots;
}

unfoldable pub refused_collect : ℕ → Lent → List ℕ → CollectOutcome
refused_collect e m roots = record { refusal = e; hinted = 0; taken = 0; objects = 0; words = 0; kept = 0; fillers = 0; lent = m; roots = roots }

unfoldable pub accepted_collect : Collection → CollectOutcome
accepted_collect c = record {
  refusal = 0;
  hinted = c.hinted;
  taken = length c.taken;
  objects = c.objects;
  words = c.words;
  kept = length c.kept;
  fillers = length c.fillers;
  lent = c.lent;
  roots = c.roots;
}

unfoldable pub collect : Lent → List ℕ → List ℕ → CollectOutcome
collect m roots hints =
    let e = refusal_of_collect m roots in
    cond (eqb e 0) (accepted_collect (collection plainly m roots hints)) (refused_collect e m roots)
