-- Q-7, two collections in a row: "after an accepted collection that kept no page for room, collect at once with the resulting roots and the same
-- hints. If no hint names a page taken by the first, and the second keeps none either, then the same objects remain, up to the pairing, and
-- pages taken, objects copied and words copied are the same numbers."
use Rattle.std.specs.Prelude.{◌≡◌, ℕ}
use mathlib.Core.List.{List, Memᴰ}
use Rattle.rules.specs.Pages.{pages_named}
use Rattle.rules.specs.Lent.{Lent}
use Rattle.rules.specs.Sound.{IsObject}
use Rattle.rules.specs.Collect.{CollectOutcome, collect}
use Rattle.rules.specs.Demands.{Took, FaithfulUnkept}

-- "no hint names a page taken by the first", as its own page or, by Q-1, as that of the word before
abbrev pub NamesNoneTaken : Lent → List ℕ → CollectOutcome → Type 0
NamesNoneTaken m hints a = (g : ℕ) → Memᴰ g (pages_named m.rec.page 1 m.rec.pages hints) → Took m a g → ⊥

-- a is what the first collection leaves of m, and b what the second does
pub record InARow (m : Lent) (roots hints : List ℕ) (a b : CollectOutcome) : Type 0 where
  -- "after an accepted collection that kept no page for room"
  pub first : a ≡ collect m roots hints
  pub accepted : a.refusal ≡ 0
  pub kept : a.kept ≡ 0
  -- "collect at once with the resulting roots and the same hints"
  pub second : b ≡ collect a.lent a.roots hints
  -- "If no hint names a page taken by the first, and the second keeps none either"
  pub names : NamesNoneTaken m hints a
  pub kept_again : b.kept ≡ 0

-- "then the same objects remain, up to the pairing": `Pairs y z` says that the object at y after the first is the one at z after the second
pub record SameObjects (a : CollectOutcome) (hints : List ℕ) (b : CollectOutcome) (Pairs : ℕ → ℕ → Type 0) : Type 0 where
  -- demand 3 of the second: sizes, data words, references and roots agree under the pairing, and nothing else remains
  pub faithful : FaithfulUnkept a.lent a.roots hints b Pairs
  -- every object after the first remains
  pub every : (y : ℕ) → IsObject a.lent y → (z : ℕ) × Pairs y z
  -- no filler is among them
  pub fillers : (a.fillers ≡ 0) × (b.fillers ≡ 0)

-- "and pages taken, objects copied and words copied are the same numbers"; pages hinted too
pub record SameNumbers (a b : CollectOutcome) : Type 0 where
  pub hinted : b.hinted ≡ a.hinted
  pub taken : b.taken ≡ a.taken
  pub objects : b.objects ≡ a.objects
  pub words : b.words ≡ a.words

-- all of it, and that the second is accepted
pub record Repeats (a : CollectOutcome) (hints : List ℕ) (b : CollectOutcome) : Type 1 where
  pub accepted : b.refusal ≡ 0
  pub objects : (Pairs : ℕ → ℕ → Type 0) × SameObjects a hints b Pairs
  pub numbers : SameNumbers a b

-- the whole sentence, of any memory, root cells and hints: that the heap is sound follows from the first's acceptance
abbrev pub TwoInARow : Type 1
TwoInARow = (m : Lent) (roots hints : List ℕ) (a b : CollectOutcome) → InARow m roots hints a b → Repeats a hints b
