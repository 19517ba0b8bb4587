-- What the code holds, as a state of the definitions: from `Collecting` to `Pages` and `State`. No moves are written down. The
-- cursor is no part of the state.
use Rattle.std.specs.Prelude.{◌≡◌, refl, List, [], ℕ, length, take}
use Rattle.std.proofs.Common.{◌∙◌}
use Rattle.rules.specs.Collection.{Plan, Pages, State, Forwarded, Rooted}
use Rattle.hints.specs.Code.{plan, SameSlices, slices_begin, slices_then}
use Rattle.copies.specs.declared.Collecting.{Collecting}

abbrev pub plan_in : Collecting → Plan
plan_in c = plan c.queue.now.shape

abbrev pub pages_of : Collecting → Pages
pages_of c = record { labels = c.queue.now.labels.now; queue = take c.queue.now.tail c.queue.now.links.now; copy = c.gather.copy; fill = c.gather.fill; kept = c.gather.kept }

abbrev pub state_of : Collecting → State
state_of c = record { heap = c.heap.now; pages = pages_of c; objects = c.gather.objects; words = c.gather.words; moves = [] }

abbrev pub forwarded_of : ℕ → State → Forwarded
forwarded_of v s = record { value = v; state = s }

abbrev pub rooted_of : List ℕ → State → Rooted
rooted_of roots s = record { roots = roots; state = s }

-- b holds the memory that a holds, and has its shape: said by each method, as `SameSlices`
pub record SameMemory (a b : Collecting) : Type 0 where
  pub heap : b.heap.ghost_name ≡ a.heap.ghost_name
  pub size : length b.heap.now ≡ length a.heap.now
  pub queue : b.queue.ghost_name ≡ a.queue.ghost_name
  pub slices : SameSlices a.queue.now b.queue.now

pub memory_begin : (a : Collecting) → SameMemory a a
memory_begin a = record { heap = refl; size = refl; queue = refl; slices = slices_begin a.queue.now }

pub memory_then : {a b c : Collecting} → SameMemory a b → SameMemory b c → SameMemory a c
memory_then s t = record { heap = t.heap ∙ s.heap; size = t.size ∙ s.size; queue = t.queue ∙ s.queue; slices = slices_then s.slices t.slices }
