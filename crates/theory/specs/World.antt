-- What the proof of a collection sees of the heap before, and the invariant of forwarding roots and sweeping.
-- The heap before is seen through an interface only: which addresses are objects and which are roots; never through a walk.
-- In this crate an object's header is its word 0, its references are words 1 to p, and its data words come after them.
use Rattle.std.specs.Prelude.{◌≡◌, ◌≢◌, ◌⊎◌, true, ℕ, ◌+◌, ◌*◌, ◌/◌, ◌%◌, ◌≤◌, ◌<◌, length}
use Rattle.std.proofs.Common.{sym, ap, ◌∙◌, subst, inl, inr}
use mathlib.Core.List.{List, Memᴰ}
use Rattle.rules.specs.Ranges.{at, sum}
use Rattle.rules.specs.Header.{refs_of}
use Rattle.rules.specs.Collection.{Move, Plan, State, top, kept_pages}
use Rattle.rules.specs.Demands.{Becomes}
use Rattle.laws.specs.Walk.{size}

-- what is reached: the roots, the objects that stay, and what those that are reached refer to, where `Via` admits them
pub data Live (h : List ℕ) (Obj Root Stay Via : ℕ → Type 0) : ℕ → Type 0 where
  root : {x : ℕ} → Root x → Live h Obj Root Stay Via x
  stay : {x : ℕ} → Stay x → Live h Obj Root Stay Via x
  ref : {x : ℕ} (z i : ℕ) → Live h Obj Root Stay Via z → Via z → 0 < i → i ≤ refs_of (at h z) → x ≡ at h (z + i)
      → Obj x → Live h Obj Root Stay Via x

pub live_map : {h : List ℕ} {Obj Root Stay Stay' Via Via' : ℕ → Type 0} → ((x : ℕ) → Stay x → Stay' x)
    → ((x : ℕ) → Via x → Via' x)
    → {x : ℕ} → Live h Obj Root Stay Via x → Live h Obj Root Stay' Via' x
live_map f g (root r) = root r
live_map f g (stay {x = x} q) = stay (f x q)
live_map f g (ref z i l v a b e ob) = ref z i (live_map f g l) (g z v) a b e ob

-- What a collection starts from, once the hints are read: the plan, which writes the moves down; the heap; the labels as the
-- hints left them; which addresses are objects, which are roots.
pub record World : Type 1 where
  pub plan : Plan
  pub heap : List ℕ
  pub labels : List ℕ
  pub Obj : ℕ → Type 0
  pub Root : ℕ → Type 0
  pub logs : plan.logs ≡ true
  pub pos : 0 < plan.page
  pub low : 0 < plan.lo
  pub high : plan.hi ≡ length labels
  pub old≢0 : plan.old ≢ 0
  pub new≢0 : plan.new ≢ 0
  pub new≢old : plan.new ≢ plan.old
  pub heap_length : length heap ≡ length labels * plan.page
  pub small : length heap ≤ 4194304
  pub few : length labels ≤ 4096
  -- objects: each on a page in use, which it fits, with a header; apart from each other
  pub kind : (x : ℕ) → Obj x → (at labels (x / plan.page) ≡ plan.old) ⊎ (at labels (x / plan.page) ≡ plan.new)
  pub fits : (x : ℕ) → Obj x → x % plan.page + size heap x ≤ plan.page
  pub shape : (x : ℕ) → Obj x → refs_of (at heap x) < size heap x
  pub odd : (x : ℕ) → Obj x → at heap x % 2 ≡ 1
  pub inside : (x : ℕ) → Obj x → x + size heap x ≤ length heap
  pub apart : (x y : ℕ) → Obj x → Obj y → x < y → x + size heap x ≤ y
  pub nonzero : (x : ℕ) → Obj x → x ≢ 0
  pub references : (x i : ℕ) → Obj x → 0 < i → i ≤ refs_of (at heap x) → (at heap (x + i) ≡ 0) ⊎ Obj (at heap (x + i))
  -- the objects that may have to be copied, all of those on pages that no hint names; and how many pages were hinted
  pub olds : List ℕ
  pub all : (x : ℕ) → Obj x → at labels (x / plan.page) ≡ plan.old → Memᴰ x olds
  pub most : sum (size heap) olds ≤ length heap
  pub hinted : ℕ

-- the page of an address; the label of its page as the hints left it, and now
abbrev pub page_of : World → ℕ → ℕ
page_of W a = a / W.plan.page

abbrev pub label_was : World → ℕ → ℕ
label_was W a = at W.labels (a / W.plan.page)

abbrev pub label_of : World → State → ℕ → ℕ
label_of W s a = at s.pages.labels (a / W.plan.page)

-- n and p of the object at x before
abbrev pub size_at : World → ℕ → ℕ
size_at W x = size W.heap x

abbrev pub refs_at : World → ℕ → ℕ
refs_at W x = refs_of (at W.heap x)

-- ---- which object stands where

-- the object at x was copied, or not; it is as it was before
abbrev pub Gone : State → ℕ → Type 0
Gone s x = (m : Move) × Memᴰ m s.moves × (x ≡ m.from)

abbrev pub NotGone : State → ℕ → Type 0
NotGone s x = (m : Move) → Memᴰ m s.moves → m.from ≢ x

abbrev pub AsBefore : World → State → ℕ → Type 0
AsBefore W s x = (i : ℕ) → i < size_at W x → at s.heap (x + i) ≡ at W.heap (x + i)

-- it is where it was, on a page with the new label: one that was hinted, or is kept for want of room
pub record Stays (W : World) (s : State) (x : ℕ) : Type 0 where
  pub object : W.Obj x
  pub label : label_of W s x ≡ W.plan.new
  pub not_gone : NotGone s x

-- it is retained so far: it stays, or was copied
abbrev pub Retained : World → State → ℕ → Type 0
Retained W s x = Stays W s x ⊎ Gone s x

-- what is reached by references of objects that are retained
abbrev pub Reach : World → State → ℕ → Type 0
Reach W s x = Live W.heap W.Obj W.Root (Stays W s) (Retained W s) x

-- a later state has the moves of an earlier one
abbrev pub MovesUp : State → State → Type 0
MovesUp s t = (m : Move) → Memᴰ m s.moves → Memᴰ m t.moves

-- what stays, or else was copied, by one reading and by another
pub or_gone : (s t : State) {Stay Stay' : ℕ → Type 0} → ((x : ℕ) → Stay x → Stay' x) → MovesUp s t → (x : ℕ)
    → Stay x ⊎ Gone s x → Stay' x ⊎ Gone t x
or_gone s t f up x (inl q) = inl (f x q)
or_gone s t f up x (inr (m, mem, e)) = inr (m, up m mem, e)

pub reach_up : (W : World) (s t : State) → ((x : ℕ) → Stays W s x → Stays W t x) → MovesUp s t → {x : ℕ}
    → Reach W s x → Reach W t x
reach_up W s t f up = live_map f (or_gone s t f up)

-- the pairing so far: the object at x before is retained, and stands at y
pub data Kept (W : World) (s : State) (x y : ℕ) : Type 0 where
  stayed : Stays W s x → y ≡ x → Kept W s x y
  went : (m : Move) → Memᴰ m s.moves → x ≡ m.from → y ≡ m.to → Kept W s x y

-- the places on all pages in use: where objects were before, copied since or not, and where copies are
pub data Place (W : World) (s : State) (x y : ℕ) : Type 0 where
  home : W.Obj x → y ≡ x → Place W s x y
  away : (m : Move) → Memᴰ m s.moves → x ≡ m.from → y ≡ m.to → Place W s x y

pub kept_place : (W : World) (s : State) {x y : ℕ} → Kept W s x y → Place W s x y
kept_place W s (stayed q e) = home q.object e
kept_place W s (went m mem ex ey) = away m mem ex ey

-- what a reference became, it stays
pub becomes_map : {A B : ℕ → ℕ → Type 0} → ((x y : ℕ) → A x y → B x y) → (v u : ℕ) → Becomes A v u → Becomes B v u
becomes_map f v u (inl e) = inl e
becomes_map f v u (inr k) = inr (f v u k)

-- reference i of the retained object x, which stands at y, is forwarded
abbrev pub Swept : World → State → ℕ → ℕ → ℕ → Type 0
Swept W s x y i = Becomes (Kept W s) (at W.heap (x + i)) (at s.heap (y + i))

-- two moves are one, or the copies do not meet
abbrev pub MovesApart : World → Move → Move → Type 0
MovesApart W m k = (m ≡ k) ⊎ ((m.to + size_at W m.from ≤ k.to) ⊎ (k.to + size_at W k.from ≤ m.to))

-- a word on a page with the new label, below the fill if that is the copy page: nothing but the sweep writes to it any more
pub record Region (W : World) (s : State) (w : ℕ) : Type 0 where
  pub label : label_of W s w ≡ W.plan.new
  pub below : page_of W w ≡ s.pages.copy → w < top W.plan s.pages

-- ---- the invariant

-- a move of the log: of an object that is reached, from a page that no hint named, with "twice the new address" in its
-- header's place; to a page that was free, which the copy fits
pub record Moved (W : World) (s : State) (m : Move) : Type 0 where
  pub object : W.Obj m.from
  pub reached : Reach W s m.from
  pub old : label_was W m.from ≡ W.plan.old
  pub planted : at s.heap m.from ≡ 2 * m.to
  pub fresh : label_was W m.to ≡ 0
  pub label : label_of W s m.to ≡ W.plan.new
  pub fits : m.to % W.plan.page + size_at W m.from ≤ W.plan.page
  pub below : page_of W m.to ≡ s.pages.copy → m.to + size_at W m.from ≤ top W.plan s.pages

-- it stays one in a later state: what it is of the object stays, and so is what it tells of place and copy to be shown
pub moved_on : (W : World) (s t : State) (m : Move) → Moved W s m → ((x : ℕ) → Stays W s x → Stays W t x)
    → MovesUp s t → at t.heap m.from ≡ 2 * m.to
    → label_of W t m.to ≡ W.plan.new → (page_of W m.to ≡ t.pages.copy → m.to + size_at W m.from ≤ top W.plan t.pages) → Moved W t m
moved_on W s t m M stays up planted label below = record {
  object = M.object;
  reached = reach_up W s t stays up M.reached;
  old = M.old;
  planted = planted;
  fresh = M.fresh;
  label = label;
  fits = M.fits;
  below = below;
}

-- page g is kept for want of room
pub record KeptPage (W : World) (s : State) (g : ℕ) : Type 0 where
  pub listed : Memᴰ g (kept_pages s.pages)
  pub old : at W.labels g ≡ W.plan.old
  pub label : at s.pages.labels g ≡ W.plan.new

-- it has the label that the hints left, or is kept
abbrev pub LabelledOrKept : World → State → ℕ → Type 0
LabelledOrKept W s g = (at s.pages.labels g ≡ at W.labels g) ⊎ KeptPage W s g

-- both stay where labels and kept pages do
module _ (W : World) (s t : State) (labels : t.pages.labels ≡ s.pages.labels) (pages : kept_pages t.pages ≡ kept_pages s.pages) where
  pub kept_same : (g : ℕ) → KeptPage W s g → KeptPage W t g
  kept_same g k = record { listed = subst (Memᴰ g) (sym pages) k.listed; old = k.old; label = ap (λ (l : List ℕ). at l g) labels ∙ k.label }

  pub labelled_same : (g : ℕ) → LabelledOrKept W s g → LabelledOrKept W t g
  labelled_same g (inl e) = inl (ap (λ (l : List ℕ). at l g) labels ∙ e)
  labelled_same g (inr k) = inr (kept_same g k)

pub record Inv (W : World) (s : State) : Type 0 where
  pub heap_length : length s.heap ≡ length W.heap
  pub labels_length : length s.pages.labels ≡ length W.labels
  -- pages in use keep their labels, or are kept; a free page stays free or is taken
  pub used : (g : ℕ) → at W.labels g ≢ 0 → LabelledOrKept W s g
  pub kept : (g : ℕ) → Memᴰ g (kept_pages s.pages) → KeptPage W s g
  pub free : (g : ℕ) → at W.labels g ≡ 0 → (at s.pages.labels g ≡ 0) ⊎ (at s.pages.labels g ≡ W.plan.new)
  -- the copy page was free, and has the new label where there is room on it
  pub copy_fresh : at W.labels s.pages.copy ≡ 0
  pub copy_label : s.pages.fill < W.plan.page → at s.pages.labels s.pages.copy ≡ W.plan.new
  pub fill_within : s.pages.fill ≤ W.plan.page
  -- objects on pages with the old label: copied, or as they were
  pub moved : (m : Move) → Memᴰ m s.moves → Moved W s m
  pub unmoved : (x : ℕ) → W.Obj x → label_of W s x ≡ W.plan.old → Gone s x ⊎ AsBefore W s x
  -- retained objects: header and data words as they were; each reference as it was, or forwarded
  pub header : (x y : ℕ) → Kept W s x y → at s.heap y ≡ at W.heap x
  pub data_words : (x y i : ℕ) → Kept W s x y → refs_at W x < i → i < size_at W x → at s.heap (y + i) ≡ at W.heap (x + i)
  pub references : (x y i : ℕ) → Kept W s x y → 0 < i → i ≤ refs_at W x → (at s.heap (y + i) ≡ at W.heap (x + i)) ⊎ Swept W s x y i
  pub copies_apart : (m k : Move) → Memᴰ m s.moves → Memᴰ k s.moves → MovesApart W m k
