-- What the public contracts say, as statements about what a call is given and what it leaves; and that each determines its
-- outcome: two that both satisfy it are equal. The contracts in the source are these equations, with what the slices hold.
use Rattle.std.specs.Prelude.{◌≡◌, List, ℕ}
use Rattle.std.proofs.Common.{sym, ap, ◌∙◌}
use Rattle.rules.specs.declared.Answer.{Answer}
use Rattle.rules.specs.declared.Collected.{Collected}
use Rattle.rules.specs.Lent.{Lent, lent}
use Rattle.rules.specs.Calls.{Outcome, outcome, start, allocate, look_up, load, store}
use Rattle.rules.specs.Collect.{CollectOutcome, collect_outcome, collect}

-- what a call other than collect leaves: its answer, heap, labels and links
pub record Left : Type 0 where
  pub answer : Answer
  pub heap : List ℕ
  pub labels : List ℕ
  pub links : List ℕ

-- what the program holds after it: the memory, with the record last returned
abbrev pub held : Left → Lent
held x = lent x.heap x.labels x.links x.answer.rec

-- the contracts
abbrev pub Starts : Lent → ℕ → ℕ → Left → Type 0
Starts m P T x = outcome x.answer x.heap x.labels x.links ≡ start m P T

abbrev pub Allocates : Lent → ℕ → ℕ → Left → Type 0
Allocates m d p x = outcome x.answer x.heap x.labels x.links ≡ allocate m d p

abbrev pub LooksUp : Lent → ℕ → Left → Type 0
LooksUp m a x = outcome x.answer x.heap x.labels x.links ≡ look_up m a

abbrev pub Loads : Lent → ℕ → ℕ → Left → Type 0
Loads m a i x = outcome x.answer x.heap x.labels x.links ≡ load m a i

abbrev pub Stores : Lent → ℕ → ℕ → ℕ → Left → Type 0
Stores m a i v x = outcome x.answer x.heap x.labels x.links ≡ store m a i v

-- what collect leaves
pub record LeftCollected : Type 0 where
  pub answer : Collected
  pub heap : List ℕ
  pub labels : List ℕ
  pub links : List ℕ
  pub roots : List ℕ

abbrev pub held_collected : LeftCollected → Lent
held_collected x = lent x.heap x.labels x.links x.answer.rec

abbrev pub outcome_left : LeftCollected → CollectOutcome
outcome_left x = collect_outcome x.answer x.heap x.labels x.links x.roots

abbrev pub Collects : Lent → List ℕ → List ℕ → LeftCollected → Type 0
Collects m roots hints x = outcome_left x ≡ collect m roots hints

-- ---- they determine: answer and memory are read back from the outcome

abbrev outcome_left_lem : Outcome → Left
outcome_left_lem o = record {
  answer = record { refusal = o.refusal; value = o.value; rec = o.lent.rec };
  heap = o.lent.heap;
  labels = o.lent.labels;
  links = o.lent.links;
}

-- two that leave the same outcome leave the same
pub same_left : (o : Outcome) (x y : Left) → outcome x.answer x.heap x.labels x.links ≡ o → outcome y.answer y.heap y.labels y.links ≡ o → x ≡ y
same_left o x y p q = ap outcome_left_lem (p ∙ sym q)

pub starts_once : (m : Lent) (P T : ℕ) (x y : Left) → Starts m P T x → Starts m P T y → x ≡ y
starts_once m P T = same_left (start m P T)

pub allocates_once : (m : Lent) (d p : ℕ) (x y : Left) → Allocates m d p x → Allocates m d p y → x ≡ y
allocates_once m d p = same_left (allocate m d p)

pub looks_up_once : (m : Lent) (a : ℕ) (x y : Left) → LooksUp m a x → LooksUp m a y → x ≡ y
looks_up_once m a = same_left (look_up m a)

pub loads_once : (m : Lent) (a i : ℕ) (x y : Left) → Loads m a i x → Loads m a i y → x ≡ y
loads_once m a i = same_left (load m a i)

pub stores_once : (m : Lent) (a i v : ℕ) (x y : Left) → Stores m a i v x → Stores m a i v y → x ≡ y
stores_once m a i v = same_left (store m a i v)

abbrev outcome_collected : CollectOutcome → LeftCollected
outcome_collected o = record {
  answer = record { refusal = o.refusal; hinted = o.hinted; taken = o.taken; objects = o.objects; words = o.words; kept = o.kept; fillers = o.fillers; rec = o.lent.rec };
  heap = o.lent.heap;
  labels = o.lent.labels;
  links = o.lent.links;
  roots = o.roots;
}

pub collects_once : (m : Lent) (roots hints : List ℕ) (x y : LeftCollected) → Collects m roots hints x → Collects m roots hints y → x ≡ y
collects_once m roots hints x y p q = ap outcome_collected (p ∙ sym q)
