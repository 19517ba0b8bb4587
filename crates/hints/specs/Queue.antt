-- The queue as the code holds it, in the links up to its tail: what ties it to the labels, as the ghost field of `Queue` has it, and
-- two laws of it: how a page joins, as `join` ensures too, and how long it is, which phases uses.
use Rattle.std.specs.Prelude.{◌≡◌, List, [], ◌∷◌, ◌++◌, ℕ, ◌+◌, ◌≤◌, ◌<◌, length, set, take}
use Rattle.std.proofs.Common.{arith, add-one, length-take, take-suc-set}

-- the queue, n pages long, has its links, as many as there are labels
pub record Queued (labels links : List ℕ) (n : ℕ) : Type 0 where
  pub each : length links ≡ length labels
  pub tail : n ≤ length links

pub queue_longer : (links : List ℕ) (t g : ℕ) → t < length links → take (t + 1) (set links t g) ≡ take t links ++ (g ∷ [])
queue_longer links t g h = rw (add-one t) (take-suc-set links t g h)

pub queue_length : (links : List ℕ) (t : ℕ) → t ≤ length links → length (take t links) ≡ t
queue_length links t h = rw length-take (omega arith)
