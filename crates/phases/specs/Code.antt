-- What a collection keeps the same, from the record, what it answers after the sweep, and what it has by then.
use Rattle.std.specs.Prelude.{◌≡◌, List, ℕ, ◌+◌, ◌-◌, ◌≤◌, length, take}
use Rattle.rules.specs.declared.Record.{Record}
use Rattle.answers.specs.declared.Counts.{Counts}
use Rattle.rules.specs.Pages.{other_label}
use Rattle.rules.specs.Lent.{Lent, opening, relabelled}
use Rattle.rules.specs.Collection.{State, plainly, plan_of, after_hints, after_roots, after_sweep}
use Rattle.hints.specs.declared.Shape.{Shape}
use Rattle.copies.specs.declared.Gather.{Gather}

abbrev pub shape_of : Record → Shape
shape_of r = record { page = r.page; pages = r.pages; old = r.label; new = other_label r.label }

-- the answer of a collection that has counted g, where n of the t pages in its queue were hinted and there are f fillers
abbrev pub answer_of : Record → ℕ → ℕ → Gather → ℕ → Counts
answer_of r n t g f = record {
  hinted = n;
  taken = t - g.kept - n;
  objects = g.objects;
  words = g.words;
  kept = g.kept;
  fillers = f;
  rec = opening (relabelled r (other_label r.label)) g.copy g.fill;
}

-- the same by the state after the sweep
abbrev pub answer_after : Record → ℕ → State → ℕ → Counts
answer_after r n s f = record {
  hinted = n;
  taken = length s.pages.queue - s.pages.kept - n;
  objects = s.objects;
  words = s.words;
  kept = s.pages.kept;
  fillers = f;
  rec = opening (relabelled r (other_label r.label)) s.pages.copy s.pages.fill;
}

-- after the sweep of what is lent: the heap h, labels l, links k and roots, and what is to be answered
pub record Retained (m : Lent) (roots hints : List ℕ) (h l k roots2 : List ℕ) (a : Counts) : Type 0 where
  pub rooted : roots2 ≡ (after_roots (plan_of m plainly) m roots hints).roots
  pub heap : h ≡ (after_sweep (plan_of m plainly) m roots hints).heap
  pub labels : l ≡ (after_sweep (plan_of m plainly) m roots hints).pages.labels
  pub queue : take (a.hinted + a.taken + a.kept) k ≡ (after_sweep (plan_of m plainly) m roots hints).pages.queue
  pub places : a.hinted + a.taken + a.kept ≤ length k
  pub answer : a ≡ answer_after m.rec (length (after_hints (plan_of m plainly) m hints).queue) (after_sweep (plan_of m plainly) m roots hints) 0
