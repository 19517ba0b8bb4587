-- What the code holds while the hints are read, as pages of the definitions: from `Queue` to `Pages`.
use Rattle.std.specs.Prelude.{◌≡◌, refl, length, take}
use Rattle.std.proofs.Common.{◌∙◌}
use Rattle.rules.specs.Collection.{Plan, Pages, plainly}
use Rattle.hints.specs.declared.Shape.{Shape}
use Rattle.hints.specs.declared.Queue.{Queue}

abbrev pub plan : Shape → Plan
plan k = record { page = k.page; lo = 1; hi = k.pages; old = k.old; new = k.new; logs = plainly }

-- while the hints are read there is no copy page
abbrev pub hinted_of : Queue → Pages
hinted_of q = record { labels = q.labels.now; queue = take q.tail q.links.now; copy = 0; fill = q.shape.page; kept = 0 }

-- b holds the slices that a holds, and has its shape. Each method says so, or whoever made the struct would not learn what
-- became of the slices
pub record SameSlices (a b : Queue) : Type 0 where
  pub labels : b.labels.ghost_name ≡ a.labels.ghost_name
  pub links : b.links.ghost_name ≡ a.links.ghost_name
  pub places : length b.links.now ≡ length a.links.now
  pub shape : b.shape ≡ a.shape

pub slices_begin : (a : Queue) → SameSlices a a
slices_begin a = record { labels = refl; links = refl; places = refl; shape = refl }

pub slices_then : {a b c : Queue} → SameSlices a b → SameSlices b c → SameSlices a c
slices_then s t = record { labels = t.labels ∙ s.labels; links = t.links ∙ s.links; places = t.places ∙ s.places; shape = t.shape ∙ s.shape }
