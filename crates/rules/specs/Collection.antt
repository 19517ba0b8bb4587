-- A collection's four steps, and forwarding. What it does is safe where the tests of Collect.antt have passed.
use Rattle.std.specs.Prelude.{Bool, true, false, cond, ◌&&◌, ◌||◌, List, [], ◌∷◌, ◌++◌, map, ℕ, zero, suc, ◌+◌, ◌*◌, ◌-◌, ◌/◌, ◌%◌, length, set, take, drop, replicate, eqb, leb, ltb}
use Rattle.std.proofs.lemmas.List.Edits.{sets}
use Rattle.rules.specs.Ranges.{at}
use Rattle.rules.specs.Header.{header_of, size_of, refs_of, is_header}
use Rattle.rules.specs.Pages.{pages_named, lowest_free, other_label}
use Rattle.rules.specs.Lent.{Lent, opening, relabelled}

-- an object copied: from where, to where
pub record Move : Type 0 where
  pub from : ℕ
  pub to : ℕ

-- Whether the moves are written down: the proof of demand 3 speaks of them, the code has no list of them, and nothing but
-- the list depends on it.
abbrev pub logged : Bool
logged = true

abbrev pub plainly : Bool
plainly = false

-- What stays the same during a collection: P, the block of pages lo to hi - 1, the old label, the new one, and `logs`.
pub record Plan : Type 0 where
  pub page : ℕ
  pub lo : ℕ
  pub hi : ℕ
  pub old : ℕ
  pub new : ℕ
  pub logs : Bool

-- The pages: their labels; the queue, in order of joining; the page that copies go to, 0 before the first, and its fill; and
-- how many of the queue, the last ones, were kept for want of room (Q-6).
pub record Pages : Type 0 where
  pub labels : List ℕ
  pub queue : List ℕ
  pub copy : ℕ
  pub fill : ℕ
  pub kept : ℕ

-- The whole: the heap, the pages, objects and words copied, and the moves.
pub record State : Type 0 where
  pub heap : List ℕ
  pub pages : Pages
  pub objects : ℕ
  pub words : ℕ
  pub moves : List Move

-- the state with other pages
abbrev pub on_pages : State → Pages → State
on_pages s p = record { heap = s.heap; pages = p; objects = s.objects; words = s.words; moves = s.moves }

-- ---- 1. "Each hint word in order names its page if that is 1 to T-1 and current", and by Q-1 that of the word before
-- (pages_named of Pages.antt). "The page gets the new label and joins the queue, once." Page g is named; page 0, which stands for
-- none, never has the old label.
unfoldable pub hint_page : Plan → ℕ → Pages → Pages
hint_page k g s =
    cond (eqb (at s.labels g) k.old)
    (record { labels = set s.labels g k.new; queue = s.queue ++ (g ∷ []); copy = s.copy; fill = s.fill; kept = s.kept }) s

unfoldable pub hint_pages : Plan → List ℕ → Pages → Pages
hint_pages k [] s = s
hint_pages k (g ∷ gs) s = hint_pages k gs (hint_page k g s)

-- ---- forwarding

-- "the lowest-numbered free page" is taken: "Pages taken for copies get the new label and join the queue."
unfoldable pub take_page : Plan → Pages → Pages
take_page k s =
    let g = lowest_free s.labels k.lo k.hi in
    record { labels = set s.labels g k.new; queue = s.queue ++ (g ∷ []); copy = g; fill = 0; kept = s.kept }

-- "at the copy page's fill if it fits, otherwise at the start of" a page taken
unfoldable pub with_room : Plan → ℕ → Pages → Pages
with_room k n s = cond (leb (s.fill + n) k.page) s (take_page k s)

-- the address of the copy page's fill
unfoldable pub top : Plan → Pages → ℕ
top k s = s.copy * k.page + s.fill

abbrev pub noted : Bool → List Move → Move → List Move
noted true moves v = moves ++ (v ∷ [])
noted false moves v = moves

-- the object of n words at x is put at the copy page's fill; "an even word, twice the new address, stands there instead"
unfoldable pub put : Plan → ℕ → ℕ → Pages → State → State
put k n x p s = record {
  heap = set (sets s.heap (top k p) (take n (drop x s.heap))) x (2 * top k p);
  pages = record { labels = p.labels; queue = p.queue; copy = p.copy; fill = p.fill + n; kept = p.kept };
  objects = s.objects + 1;
  words = s.words + n;
  moves = noted k.logs s.moves (record { from = x; to = top k p });
}

-- the value that forwarding gives, and the state after it
pub record Forwarded : Type 0 where
  pub value : ℕ
  pub state : State

-- "Any other object is copied whole"
unfoldable pub copy_object : Plan → ℕ → State → Forwarded
copy_object k x s =
    let n = size_of (at s.heap x) in
    let p = with_room k n s.pages in
    record { value = top k p; state = put k n x p s }

-- Q-6: whether an object of n words can be copied. Not "when a copy fits neither the copy page nor a free page"; and once a page is
-- kept, "from then on that collection copies nothing more"
unfoldable pub can_copy : Plan → ℕ → Pages → Bool
can_copy k n s = eqb s.kept 0 && (leb (s.fill + n) k.page || ltb (lowest_free s.labels k.lo k.hi) k.hi)

-- Q-6: "the object's own page is kept: it gets the new label, joins the end of the queue"
unfoldable pub keep_page : Plan → ℕ → Pages → Pages
keep_page k g s = record { labels = set s.labels g k.new; queue = s.queue ++ (g ∷ []); copy = s.copy; fill = s.fill; kept = s.kept + 1 }

-- and the object stays
unfoldable pub keep_object : Plan → ℕ → State → Forwarded
keep_object k x s = record { value = x; state = on_pages s (keep_page k (x / k.page) s.pages) }

-- "Forwarding 0 gives 0. An object on a page with the new label gives itself. An object already copied gives its copy. Any
-- other object is copied whole", or by Q-6 its page is kept. Since Q-6 an object may be copied already and its page have the new label:
-- "An object already copied out of a kept page is still reached at its copy." So that is asked first; where no page is kept, the
-- order makes no difference.
unfoldable pub forward : Plan → ℕ → State → Forwarded
forward k v s =
    cond (eqb v 0) (record { value = 0; state = s })
    (cond (eqb (at s.heap v % 2) 0) (record { value = at s.heap v / 2; state = s })
    (cond (eqb (at s.pages.labels (v / k.page)) k.new) (record { value = v; state = s })
    (cond (can_copy k (size_of (at s.heap v)) s.pages) (copy_object k v s) (keep_object k v s))))

-- ---- 2. "Each root cell in order is forwarded."

pub record Rooted : Type 0 where
  pub roots : List ℕ
  pub state : State

unfoldable pub forward_roots : Plan → List ℕ → State → Rooted
forward_roots k [] s = record { roots = []; state = s }
forward_roots k (r ∷ rs) s =
    let f = forward k r s in
    let t = forward_roots k rs f.state in
    record { roots = f.value ∷ t.roots; state = t.state }

-- ---- 3. "Each page in the queue in order, each object on it in walk order, each reference in order is forwarded."

-- the reference at address w
unfoldable pub sweep_reference : Plan → ℕ → State → State
sweep_reference k w s =
    let f = forward k (at s.heap w) s in
    let t = f.state in
    record { heap = set t.heap w f.value; pages = t.pages; objects = t.objects; words = t.words; moves = t.moves }

-- n references from address w on
unfoldable pub sweep_references : Plan → ℕ → ℕ → State → State
sweep_references k zero w s = s
sweep_references k (suc n) w s = sweep_references k n (suc w) (sweep_reference k w s)

-- Q-6: an object was copied out of the place that begins with word w, `room` words before the page's end: "an even word, twice the new
-- address, stands there instead", and no copy is at 0
unfoldable pub is_left : ℕ → ℕ → Bool
is_left w room = eqb (w % 2) 0 && (leb 1 w && leb 1 room)

-- "the length at the copy"
unfoldable pub size_at_copy : List ℕ → ℕ → ℕ
size_at_copy h w = size_of (at h (w / 2))

-- at most f objects from address a on, with `room` words before the page's end: the walk as it goes, so that copies put
-- on this page meanwhile are met too. Q-6: it must "step over such places by the length at the copy"
unfoldable pub sweep_page : Plan → ℕ → ℕ → ℕ → State → State
sweep_page k zero a room s = s
sweep_page k (suc f) a room s =
    let w = at s.heap a in
    let c = size_at_copy s.heap w in
    cond (is_header w room) (sweep_page k f (a + size_of w) (room - size_of w) (sweep_references k (refs_of w) (suc a) s))
    (cond (is_left w room) (sweep_page k f (a + c) (room - c) s) s)

-- at most f pages of the queue, from its i-th on
unfoldable pub sweep_queue : Plan → ℕ → ℕ → State → State
sweep_queue k zero i s = s
sweep_queue k (suc f) i s =
    let g = at s.pages.queue i in
    let t = sweep_queue k f (suc i) (sweep_page k k.page (g * k.page) k.page s) in
    cond (ltb i (length s.pages.queue)) t s

-- ---- 4. "Pages still with the old label are zeroed and become free."

unfoldable pub freed_labels : ℕ → List ℕ → List ℕ
freed_labels old labels = map (λ l. cond (eqb l old) 0 l) labels

-- page by page: P words of the heap for each label
unfoldable pub freed_heap : ℕ → ℕ → List ℕ → List ℕ → List ℕ
freed_heap P old [] h = []
freed_heap P old (l ∷ ls) h = cond (eqb l old) (replicate P 0) (take P h) ++ freed_heap P old ls (drop P h)

-- ---- 4, on the pages kept. Q-6: of an object already copied, "at the end its old place becomes a filler of the same length, no
-- references, zeros."

-- a filler of n words
unfoldable pub filler : ℕ → List ℕ
filler n = header_of (n - 1) 0 ∷ replicate (n - 1) 0

-- the heap, and the places filled, in order
pub record Filled : Type 0 where
  pub heap : List ℕ
  pub places : List ℕ

unfoldable pub fill_place : ℕ → ℕ → Filled → Filled
fill_place a n s = record { heap = sets s.heap a (filler n); places = s.places ++ (a ∷ []) }

-- at most f places from address a on, with `room` words before the page's end, walked as the sweep does
unfoldable pub fill_page : ℕ → ℕ → ℕ → Filled → Filled
fill_page zero a room s = s
fill_page (suc f) a room s =
    let w = at s.heap a in
    let c = size_at_copy s.heap w in
    cond (is_header w room) (fill_page f (a + size_of w) (room - size_of w) s)
    (cond (is_left w room) (fill_page f (a + c) (room - c) (fill_place a c s)) s)

unfoldable pub fill_pages : ℕ → List ℕ → Filled → Filled
fill_pages P [] s = s
fill_pages P (g ∷ gs) s = fill_pages P gs (fill_page P (g * P) P s)

-- ---- the four steps

unfoldable pub plan_of : Lent → Bool → Plan
plan_of m logs = record { page = m.rec.page; lo = 1; hi = m.rec.pages; old = m.rec.label; new = other_label m.rec.label; logs = logs }

-- before the first step: no copy page, so that nothing fits it
unfoldable pub begun : Lent → Pages
begun m = record { labels = m.labels; queue = []; copy = 0; fill = m.rec.page; kept = 0 }

unfoldable pub after_hints : Plan → Lent → List ℕ → Pages
after_hints k m hints = hint_pages k (pages_named k.page k.lo k.hi hints) (begun m)

unfoldable pub after_roots : Plan → Lent → List ℕ → List ℕ → Rooted
after_roots k m roots hints = forward_roots k roots (record { heap = m.heap; pages = after_hints k m hints; objects = 0; words = 0; moves = [] })

unfoldable pub after_sweep : Plan → Lent → List ℕ → List ℕ → State
after_sweep k m roots hints = sweep_queue k m.rec.pages 0 (after_roots k m roots hints).state

-- the queue's pages but those kept at its end, and those
unfoldable pub unkept_pages : Pages → List ℕ
unkept_pages s = take (length s.queue - s.kept) s.queue

unfoldable pub kept_pages : Pages → List ℕ
kept_pages s = drop (length s.queue - s.kept) s.queue

-- the heap with its fillers
unfoldable pub filled : Plan → State → Filled
filled k s = fill_pages k.page (kept_pages s.pages) (record { heap = s.heap; places = [] })

-- What a collection leaves: memory and record, root cells; how many pages were hinted, which were taken, in order; objects
-- and words copied; which pages were kept, in order, and where fillers are (Q-6); the moves, where they are written down.
pub record Collection : Type 0 where
  pub lent : Lent
  pub roots : List ℕ
  pub hinted : ℕ
  pub taken : List ℕ
  pub objects : ℕ
  pub words : ℕ
  pub kept : List ℕ
  pub fillers : List ℕ
  pub moves : List Move

-- "All links become 0. The new label is current. The open page is the last one taken, with its fill, or none."
unfoldable pub collection : Bool → Lent → List ℕ → List ℕ → Collection
collection logs m roots hints =
    let k = plan_of m logs in
    let n = length (after_hints k m hints).queue in
    let s = after_sweep k m roots hints in
    record {
      lent = record {
        heap = freed_heap k.page k.old s.pages.labels (filled k s).heap;
        labels = freed_labels k.old s.pages.labels;
        links = replicate (length m.links) 0;
        rec = opening (relabelled m.rec k.new) s.pages.copy s.pages.fill;
      };
      roots = (after_roots k m roots hints).roots;
      hinted = n;
      taken = drop n (unkept_pages s.pages);
      objects = s.objects;
      words = s.words;
      kept = kept_pages s.pages;
      fillers = (filled k s).places;
      moves = s.moves;
    }
