-- The first and the third demand, over the definitions that the code's contracts cite. The second is the contracts themselves:
-- each call equals its definition. That every call ends and stays inside the memory lent to it, for any words there, the language
-- proves of each that has no `requires`.
use Rattle.std.specs.Prelude.{◌≡◌, ◌≢◌, ◌⊎◌, ℕ, ◌+◌, ◌*◌, ◌/◌, ◌≤◌, ◌<◌, length, take}
use mathlib.Core.List.{List, [], ◌∷◌, Memᴰ}
use Rattle.rules.specs.Ranges.{at}
use Rattle.rules.specs.Header.{size_of}
use Rattle.rules.specs.Pages.{pages_named}
use Rattle.rules.specs.Lent.{Lent}
use Rattle.rules.specs.Walk.{stop}
use Rattle.rules.specs.Sound.{InUse, IsObject, Sound, refs, payload}
use Rattle.rules.specs.Calls.{Outcome, start, allocate, look_up, load, store}
use Rattle.rules.specs.Collection.{plainly, Collection, collection}
use Rattle.rules.specs.Collect.{CollectOutcome, collect, needed_for}

-- ---- demand 1: "Bad calls get a refusal number from the table; the value is then 0, and record and memory are as before."

pub record Same (m : Lent) (o : Outcome) : Type 0 where
  pub lent : o.lent ≡ m
  pub value : o.value ≡ 0

-- address a lies inside the object that starts at s
pub record LiesInside (m : Lent) (a s : ℕ) : Type 0 where
  pub object : IsObject m s
  pub behind : s < a
  pub before : a < s + size_of (at m.heap s)

-- a call with address a. Q-2: "Here alone a refusal's value is not 0": 10's is the start of the object that a lies inside
pub record SameAt (m : Lent) (a : ℕ) (o : Outcome) : Type 0 where
  pub lent : o.lent ≡ m
  pub value : o.refusal ≢ 10 → o.value ≡ 0
  pub inside : o.refusal ≡ 10 → LiesInside m a o.value

-- "for collect, four zeros", by Q-6 six; "every .. root .. stays the same"
pub record SameCollected (m : Lent) (cells : List ℕ) (o : CollectOutcome) : Type 0 where
  pub lent : o.lent ≡ m
  pub roots : o.roots ≡ cells
  pub hinted : o.hinted ≡ 0
  pub taken : o.taken ≡ 0
  pub objects : o.objects ≡ 0
  pub words : o.words ≡ 0
  pub kept : o.kept ≡ 0
  pub fillers : o.fillers ≡ 0

pub record Demand1 : Type 0 where
  pub starts : (m : Lent) (P T : ℕ) → (start m P T).refusal ≢ 0 → Same m (start m P T)
  pub allocates : (m : Lent) (d p : ℕ) → (allocate m d p).refusal ≢ 0 → Same m (allocate m d p)
  pub looks_up : (m : Lent) (a : ℕ) → (look_up m a).refusal ≢ 0 → SameAt m a (look_up m a)
  pub loads : (m : Lent) (a i : ℕ) → (load m a i).refusal ≢ 0 → SameAt m a (load m a i)
  pub stores : (m : Lent) (a i v : ℕ) → (store m a i v).refusal ≢ 0 → SameAt m a (store m a i v)
  pub collects : (m : Lent) (roots hints : List ℕ) → (collect m roots hints).refusal ≢ 0 → SameCollected m roots (collect m roots hints)

-- ---- demand 3: any calls

pub data Call : Type 0 where
  to_start : (P T : ℕ) → Call
  to_allocate : (d p : ℕ) → Call
  to_look_up : (a : ℕ) → Call
  to_load : (a i : ℕ) → Call
  to_store : (a i v : ℕ) → Call
  to_collect : (roots hints : List ℕ) → Call

-- what a call leaves, accepted or refused, the record with it
unfoldable pub after : Lent → Call → Lent
after m (to_start P T) = (start m P T).lent
after m (to_allocate d p) = (allocate m d p).lent
after m (to_look_up a) = (look_up m a).lent
after m (to_load a i) = (load m a i).lent
after m (to_store a i v) = (store m a i v).lent
after m (to_collect roots hints) = (collect m roots hints).lent

-- "through any calls .., where nothing else writes heap or tables and each call gets the record last returned"
unfoldable pub after_all : Lent → List Call → Lent
after_all m [] = m
after_all m (c ∷ cs) = after_all (after m c) cs

-- "From a fresh start": what an accepted start on any memory, and any calls after it, leave
pub record FromStart (m : Lent) : Type 0 where
  pub lent : Lent
  pub P : ℕ
  pub T : ℕ
  pub fresh : (start lent P T).refusal ≡ 0
  pub calls : List Call
  pub here : m ≡ after_all (start lent P T).lent calls

-- ---- demand 3: one collection

-- page g is hinted: a hint word names it, as its own page or as that of the word before (Q-1), and it is in use
pub record Hinted (m : Lent) (hints : List ℕ) (g : ℕ) : Type 0 where
  pub in_use : InUse m g
  pub named : Memᴰ g (pages_named m.rec.page 1 m.rec.pages hints)

abbrev pub OnHinted : Lent → List ℕ → ℕ → Type 0
OnHinted m hints x = Hinted m hints (x / m.rec.page)

-- What is reached: objects that stay, as `Stay` has it; objects in root cells; and what an object refers to that is
-- reached itself, if `Through` admits that object.
pub data ReachedBy (m : Lent) (roots : List ℕ) (Stay Through : ℕ → Type 0) : ℕ → Type 0 where
  staying : {x : ℕ} → IsObject m x → Stay x → ReachedBy m roots Stay Through x
  by_root : {x : ℕ} → IsObject m x → Memᴰ x roots → ReachedBy m roots Stay Through x
  by_reference : {x : ℕ} (z i : ℕ) → ReachedBy m roots Stay Through z → Through z → i < refs m z → x ≡ payload m z i
      → IsObject m x → ReachedBy m roots Stay Through x

-- "those that were on hinted pages or could be reached from them or the root cells", by references of any objects.
-- `Stay` says which objects are like those on hinted pages, in that they stay where they are.
abbrev pub Reached : Lent → List ℕ → (ℕ → Type 0) → ℕ → Type 0
Reached m roots Stay = ReachedBy m roots Stay (λ z. Unit {0})

-- u stands now for v: nil for nil, else what v is paired with
abbrev pub Becomes : (ℕ → ℕ → Type 0) → ℕ → ℕ → Type 0
Becomes Pairs v u = ((v ≡ 0) × (u ≡ 0)) ⊎ Pairs v u

-- m and roots before; o after; `Pairs x y` says that the object at x before is the one at y after
pub record Paired (m : Lent) (roots : List ℕ) (Stay : ℕ → Type 0) (o : CollectOutcome) (Pairs : ℕ → ℕ → Type 0) : Type 0 where
  -- "The objects afterwards pair one to one with those that were on hinted pages or could be reached from them or the
  -- root cells": each such object is paired, and no other; with an object afterwards; once, from either side
  pub reached : (x : ℕ) → Reached m roots Stay x → (y : ℕ) × Pairs x y
  pub only : (x y : ℕ) → Pairs x y → Reached m roots Stay x
  pub object : (x y : ℕ) → Pairs x y → IsObject o.lent y
  pub once : (x y z : ℕ) → Pairs x y → Pairs x z → y ≡ z
  pub back : (x y z : ℕ) → Pairs x z → Pairs y z → x ≡ y
  -- "sizes, data words, references and roots agree under the pairing"
  pub sizes : (x y : ℕ) → Pairs x y → size_of (at o.lent.heap y) ≡ size_of (at m.heap x)
  pub counts : (x y : ℕ) → Pairs x y → refs o.lent y ≡ refs m x
  pub data_words : (x y i : ℕ) → Pairs x y → refs m x ≤ i → i + 1 < size_of (at m.heap x) → payload o.lent y i ≡ payload m x i
  pub references : (x y i : ℕ) → Pairs x y → i < refs m x → Becomes Pairs (payload m x i) (payload o.lent y i)
  pub root_cells : length o.roots ≡ length roots
  pub roots_agree : (j : ℕ) → j < length roots → Becomes Pairs (at roots j) (at o.roots j)

-- page g "holds a copy": an object afterwards that stood elsewhere before
pub record HoldsCopy (m : Lent) (Pairs : ℕ → ℕ → Type 0) (g : ℕ) : Type 0 where
  pub from : ℕ
  pub to : ℕ
  pub pair : Pairs from to
  pub there : to / m.rec.page ≡ g
  pub copied : to ≢ from

-- demand 3 of one collection as it stood before Q-6, which Q-7 and Q-13 ask for: no page is kept for want of room
pub record FaithfulUnkept (m : Lent) (roots hints : List ℕ) (o : CollectOutcome) (Pairs : ℕ → ℕ → Type 0) : Type 0 where
  pub paired : Paired m roots (OnHinted m hints) o Pairs
  -- "nothing else remains"
  pub nothing : (y : ℕ) → IsObject o.lent y → (x : ℕ) × Pairs x y
  -- "objects on hinted pages keep their addresses"
  pub stays : (x y : ℕ) → Pairs x y → OnHinted m hints x → y ≡ x
  -- "A page then in use was hinted or holds a copy"
  pub pages : (g : ℕ) → InUse o.lent g → Hinted m hints g ⊎ HoldsCopy m Pairs g

-- ---- demand 3: what Q-6 allows, "kept pages, with what stayed on them and whatever that reaches, and the fillers"

-- an object on a page of the list stayed there
pub record StayedOn (m : Lent) (kept : List ℕ) (Pairs : ℕ → ℕ → Type 0) (x : ℕ) : Type 0 where
  pub page : Memᴰ (x / m.rec.page) kept
  pub stayed : Pairs x x

abbrev pub OnHintedOrKept : Lent → List ℕ → List ℕ → (ℕ → ℕ → Type 0) → ℕ → Type 0
OnHintedOrKept m hints kept Pairs x = OnHinted m hints x ⊎ StayedOn m kept Pairs x

-- nothing is twice in the list
abbrev pub Once : List ℕ → Type 0
Once l = (i j : ℕ) → i < length l → j < length l → at l i ≡ at l j → i ≡ j

-- the object at z is elsewhere now
abbrev pub Moved : (ℕ → ℕ → Type 0) → ℕ → Type 0
Moved Pairs z = (y : ℕ) × Pairs z y × (y ≢ z)

-- Object x is reached where no pages are kept but those of the list: by references of objects on hinted pages, of
-- objects that stayed on pages of the list, and of objects that moved.
abbrev pub ReachedKeeping : Lent → List ℕ → List ℕ → List ℕ → (ℕ → ℕ → Type 0) → ℕ → Type 0
ReachedKeeping m roots hints kept Pairs =
    ReachedBy m roots (OnHintedOrKept m hints kept Pairs) (λ z. OnHintedOrKept m hints kept Pairs z ⊎ Moved Pairs z)

-- Page i of those kept is kept for the object at x, which stands on it: it stayed, and it is reached where the pages
-- before i alone are kept.
pub record KeptFor (m : Lent) (roots hints kept : List ℕ) (Pairs : ℕ → ℕ → Type 0) (i x : ℕ) : Type 0 where
  pub page : x / m.rec.page ≡ at kept i
  pub stayed : Pairs x x
  pub reached : ReachedKeeping m roots hints (take i kept) Pairs x

-- Page g is the highest-numbered of those that were free. Copies take the lowest one first: once all are taken, g is
-- the copy page.
pub record LastFree (m : Lent) (g : ℕ) : Type 0 where
  pub low : 1 ≤ g
  pub high : g < m.rec.pages
  pub free : at m.labels g ≡ 0
  pub above : (h : ℕ) → g < h → h < m.rec.pages → at m.labels h ≢ 0

-- n words do not fit what the collection left of page g, from the walk's stop to the page's end
abbrev pub Overfills : Lent → ℕ → ℕ → Type 0
Overfills m g n = g * m.rec.page + m.rec.page < stop m g + n

-- A page is kept: there was no room to copy the object for which the first one is, and nothing was copied from then on.
pub record NoRoom (m : Lent) (roots hints : List ℕ) (o : CollectOutcome) (kept : List ℕ) (Pairs : ℕ → ℕ → Type 0)
    : Type 0 where
  -- it did not fit the copy page
  pub tight : (x : ℕ) × KeptFor m roots hints kept Pairs 0 x
      × ((g : ℕ) → LastFree m g → Overfills o.lent g (size_of (at m.heap x)))
  -- and no page was free: each that was free before the collection holds a copy
  pub full : (g : ℕ) → 1 ≤ g → g < m.rec.pages → at m.labels g ≡ 0 → HoldsCopy m Pairs g
  -- what moved is reached where no page is kept
  pub moved : (x : ℕ) → Moved Pairs x → ReachedKeeping m roots hints [] Pairs x

-- the pages c .kept, in order of joining the queue
pub record Keeps (m : Lent) (roots hints : List ℕ) (o : CollectOutcome) (c : Collection) (Pairs : ℕ → ℕ → Type 0) : Type 0 where
  -- each was in use, no hint named it, and it is in use
  pub used : (g : ℕ) → Memᴰ g c.kept → InUse m g
  pub unhinted : (g : ℕ) → Memᴰ g c.kept → Hinted m hints g → ⊥
  pub in_use : (g : ℕ) → Memᴰ g c.kept → InUse o.lent g
  -- "its uncopied objects all stay": each object on it stays or leaves a filler
  pub all : (x : ℕ) → IsObject m x → Memᴰ (x / m.rec.page) c.kept → Pairs x x ⊎ Memᴰ x c.fillers
  -- each is kept for an object on it,
  pub holds : (i : ℕ) → i < length c.kept → (x : ℕ) × KeptFor m roots hints c.kept Pairs i x
  -- and only where there is no room for a copy
  pub room : 0 < length c.kept → NoRoom m roots hints o c.kept Pairs
  -- "The returned counts gain pages kept"
  pub once : Once c.kept
  pub count : o.kept ≡ length c.kept

-- the places c .fillers
pub record Fills (m : Lent) (o : CollectOutcome) (c : Collection) (Pairs : ℕ → ℕ → Type 0) : Type 0 where
  -- they are those of the objects "already copied out of a kept page"
  pub left : (y : ℕ) → Memᴰ y c.fillers → IsObject m y × Memᴰ (y / m.rec.page) c.kept × Moved Pairs y
  pub all : (y z : ℕ) → Memᴰ (y / m.rec.page) c.kept → Pairs y z → z ≢ y → Memᴰ y c.fillers
  -- "its old place becomes a filler of the same length, no references, zeros": an object that no object before is paired with
  pub object : (y : ℕ) → Memᴰ y c.fillers → IsObject o.lent y
  pub unpaired : (x y : ℕ) → Memᴰ y c.fillers → Pairs x y → ⊥
  pub sizes : (y : ℕ) → Memᴰ y c.fillers → size_of (at o.lent.heap y) ≡ size_of (at m.heap y)
  pub counts : (y : ℕ) → Memᴰ y c.fillers → refs o.lent y ≡ 0
  pub zeros : (y i : ℕ) → Memᴰ y c.fillers → i + 1 < size_of (at m.heap y) → payload o.lent y i ≡ 0
  -- "The returned counts gain .. fillers"
  pub once : Once c.fillers
  pub count : o.fillers ≡ length c.fillers

-- demand 3 of one collection
pub record Faithful (m : Lent) (roots hints : List ℕ) (o : CollectOutcome) (c : Collection) (Pairs : ℕ → ℕ → Type 0) : Type 0 where
  -- what stayed on kept pages is like what was on hinted ones
  pub paired : Paired m roots (OnHintedOrKept m hints c.kept Pairs) o Pairs
  -- "nothing else remains" but the fillers
  pub nothing : (y : ℕ) → IsObject o.lent y → ((x : ℕ) × Pairs x y) ⊎ Memᴰ y c.fillers
  -- "objects on hinted pages keep their addresses"
  pub stays : (x y : ℕ) → Pairs x y → OnHinted m hints x → y ≡ x
  -- "A page then in use was hinted or holds a copy", or is kept
  pub pages : (g : ℕ) → InUse o.lent g → Hinted m hints g ⊎ (HoldsCopy m Pairs g ⊎ Memᴰ g c.kept)
  pub keeps : Keeps m roots hints o c Pairs
  pub fills : Fills m o c Pairs

-- page g is taken by a collection: free before it, in use after
pub record Took (m : Lent) (o : CollectOutcome) (g : ℕ) : Type 0 where
  pub free : at m.labels g ≡ 0
  pub in_use : InUse o.lent g

-- The list `taken`, in order, has each page that is taken, and no other, once; the call returns their number. Q-3:
-- there are never more than the figure by words.
pub record FindsPages (m : Lent) (hints : List ℕ) (o : CollectOutcome) (taken : List ℕ) : Type 0 where
  pub took : (g : ℕ) → Memᴰ g taken → Took m o g
  pub all : (g : ℕ) → Took m o g → Memᴰ g taken
  pub distinct : Once taken
  -- copies are stacked: the object that begins a page did not fit what is left of the next lower page taken
  pub stacked : (g h : ℕ) → Took m o g → Took m o h → g < h → ((j : ℕ) → g < j → j < h → Took m o j → ⊥)
      → Overfills o.lent g (size_of (at o.lent.heap (h * m.rec.page)))
  pub count : o.taken ≡ length taken
  pub few : length taken ≤ needed_for m hints

-- "good roots"
abbrev pub GoodRoots : Lent → List ℕ → Type 0
GoodRoots m roots = (r : ℕ) → Memᴰ r roots → (r ≡ 0) ⊎ IsObject m r

-- demand 3
pub record Demand3 : Type 1 where
  -- "the heap stays sound"
  pub sound : (m : Lent) → FromStart m → Sound m
  -- Q-6: "the claim about free pages becomes that every collection of a sound heap with good roots completes"
  pub completes : (m : Lent) (roots hints : List ℕ) → FromStart m → GoodRoots m roots → (collect m roots hints).refusal ≡ 0
  pub finds : (m : Lent) (roots hints : List ℕ) → FromStart m → (collect m roots hints).refusal ≡ 0
      → FindsPages m hints (collect m roots hints) (collection plainly m roots hints).taken
  pub faithful : (m : Lent) (roots hints : List ℕ) → FromStart m → (collect m roots hints).refusal ≡ 0
      → (Pairs : ℕ → ℕ → Type 0) × Faithful m roots hints (collect m roots hints) (collection plainly m roots hints) Pairs
