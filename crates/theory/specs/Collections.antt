-- Q-7: what is stated of two collections in a row, over the definitions of `rules`. proofs/Collections.antt proves it, and what is
-- proved of one collection.
use Rattle.std.specs.Prelude.{◌≡◌, ℕ, length}
use mathlib.Core.List.{List, Memᴰ}
use Rattle.rules.specs.Pages.{pages_named}
use Rattle.rules.specs.Lent.{Lent}
use Rattle.rules.specs.Sound.{IsObject}
use Rattle.rules.specs.Collection.{plainly, Collection, collection}
use Rattle.rules.specs.Collect.{accepted_collect}
use Rattle.rules.specs.Demands.{Faithful}
use Rattle.rules.specs.InARow.{SameNumbers}
use Rattle.laws.specs.Collect.{Ready}

-- Q-7: a collection c, and d after it "at once with the resulting roots and the same hints"

pub record Again (c : Collection) (hints : List ℕ) (d : Collection) : Type 1 where
  pub Pairs : ℕ → ℕ → Type 0
  pub faithful : Faithful c.lent c.roots hints (accepted_collect d) d Pairs
  pub every : (y : ℕ) → IsObject c.lent y → (z : ℕ) × Pairs y z
  pub numbers : SameNumbers (accepted_collect c) (accepted_collect d)

module _ (m : Lent) (roots hints : List ℕ) (A : Ready m roots) where
  abbrev pub next : Collection → Collection
  next c = collection plainly c.lent c.roots hints

  -- "If no hint names a page taken by the first", and neither keeps a page
  abbrev pub Repeated : Collection → Type 1
  Repeated c = length c.kept ≡ 0 → ((g : ℕ) → Memᴰ g (pages_named m.rec.page 1 m.rec.pages hints) → Memᴰ g c.taken → ⊥) → length (next c).kept ≡ 0 → Again c hints (next c)
