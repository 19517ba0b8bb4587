-- The run of a collection is safe: every access of it is inside, every count fits. These follow the recursion of the
-- definitions. The code of the phases asks for them; the theory shows once that the tests of collect imply them; so no
-- contract of the code mentions the theory's invariant.
use Rattle.std.specs.Prelude.{◌≡◌, ◌≢◌, ◌⊎◌, true, false, List, [], ◌∷◌, ℕ, zero, suc, ◌+◌, ◌*◌, ◌-◌, ◌/◌, ◌%◌, ◌≤◌, ◌<◌, length}
use Rattle.std.proofs.lemmas.List.Edits.{sets}
use Rattle.rules.specs.Ranges.{at}
use Rattle.rules.specs.Header.{size_of, refs_of, is_header}
use Rattle.rules.specs.Pages.{pages_named, lowest_free}
use Rattle.rules.specs.Lent.{Lent}
use Rattle.rules.specs.Collection.{Plan, Pages, State, hint_page, with_room, top, can_copy, forward, sweep_reference, sweep_references, is_left, size_at_copy, sweep_page, filler, fill_page, begun, after_hints, after_roots, after_sweep, kept_pages}

-- step 1: a named page can join the queue, and then no longer has the old label
pub record SafeHint (k : Plan) (s : Pages) : Type 0 where
  pub new : k.new ≢ k.old
  pub labels : length s.labels ≡ k.hi
  pub low : 0 < k.hi
  pub few : k.hi ≤ 4096
  pub queue : (g : ℕ) → at s.labels g ≡ k.old → length s.queue < k.hi

unfoldable pub SafeHints : Plan → List ℕ → Pages → Type 0
SafeHints k [] s = Unit {0}
SafeHints k (g ∷ gs) s = SafeHint k s × SafeHints k gs (hint_page k g s)

-- a free page is there, and a place in the queue; once labelled it is no longer free
pub record SafeTake (k : Plan) (s : Pages) : Type 0 where
  pub new : k.new ≢ 0
  pub hi : k.hi ≡ length s.labels
  pub found : lowest_free s.labels k.lo k.hi < k.hi
  pub few : length s.labels ≤ 4096
  pub queue : length s.queue < length s.labels

-- the object of n words at x can be copied: it lies inside, and so does its copy, elsewhere
pub record SafeCopy (k : Plan) (n x : ℕ) (s : State) : Type 0 where
  pub fill : s.pages.fill ≤ k.page
  pub take : k.page < s.pages.fill + n → SafeTake k s.pages
  pub from : x + n ≤ length s.heap
  pub into : top k (with_room k n s.pages) + n ≤ length s.heap
  pub apart : (x + n ≤ top k (with_room k n s.pages)) ⊎ (top k (with_room k n s.pages) + n ≤ x)
  pub small : length s.heap ≤ 4194304
  pub objects : s.objects ≤ 4194304
  pub words : s.words ≤ 4194304

-- Q-6: page g can be kept: it is in use, and a place is in the queue
pub record SafeKeep (k : Plan) (g : ℕ) (s : Pages) : Type 0 where
  pub new : k.new ≢ 0
  pub used : at s.labels g ≢ 0
  pub few : length s.labels ≤ 4096
  pub queue : length s.queue < length s.labels
  pub kept : s.kept ≤ length s.queue

pub record SafeForward (k : Plan) (v : ℕ) (s : State) : Type 0 where
  pub page : 0 < k.page
  pub small : length s.heap ≤ 4194304
  pub fill : s.pages.fill ≤ k.page
  pub within : v ≢ 0 → v < length s.heap
  pub label : v ≢ 0 → v / k.page < length s.pages.labels
  pub copy : v ≢ 0 → at s.heap v % 2 ≢ 0 → at s.pages.labels (v / k.page) ≢ k.new → can_copy k (size_of (at s.heap v)) s.pages ≡ true
      → SafeCopy k (size_of (at s.heap v)) v s
  pub keep : v ≢ 0 → at s.heap v % 2 ≢ 0 → at s.pages.labels (v / k.page) ≢ k.new → can_copy k (size_of (at s.heap v)) s.pages ≡ false
      → SafeKeep k (v / k.page) s.pages

-- step 2
unfoldable pub SafeRoots : Plan → List ℕ → State → Type 0
SafeRoots k [] s = Unit {0}
SafeRoots k (r ∷ rs) s = SafeForward k r s × SafeRoots k rs (forward k r s).state

-- step 3
unfoldable pub SafeReferences : Plan → ℕ → ℕ → State → Type 0
SafeReferences k zero w s = Unit {0}
SafeReferences k (suc n) w s = SafeForward k (at s.heap w) s × SafeReferences k n (suc w) (sweep_reference k w s)

-- Q-6: from a place that begins with word w, which an object left, the walk can go on by the length at the copy
pub record SafeStep (h : List ℕ) (w room : ℕ) : Type 0 where
  pub inside : w / 2 < length h
  pub some : 1 ≤ size_at_copy h w
  pub fits : size_at_copy h w ≤ room

unfoldable pub SafePage : Plan → ℕ → ℕ → ℕ → State → Type 0
SafePage k zero a room s = Unit {0}
SafePage k (suc f) a room s =
    let w = at s.heap a in
    (is_header w room ≡ true
    → SafeReferences k (refs_of w) (suc a) s
    × SafePage k f (a + size_of w) (room - size_of w) (sweep_references k (refs_of w) (suc a) s))
    × (is_left w room ≡ true → SafeStep s.heap w room × SafePage k f (a + size_at_copy s.heap w) (room - size_at_copy s.heap w) s)

unfoldable pub SafeQueue : Plan → ℕ → ℕ → State → Type 0
SafeQueue k zero i s = Unit {0}
SafeQueue k (suc f) i s =
    i < length s.pages.queue
    → (at s.pages.queue i * k.page + k.page ≤ length s.heap)
    × (SafePage k k.page (at s.pages.queue i * k.page) k.page s
    × SafeQueue k f (suc i) (sweep_page k k.page (at s.pages.queue i * k.page) k.page s))

-- step 4, on the pages kept
unfoldable pub SafeFill : ℕ → ℕ → ℕ → List ℕ → Type 0
SafeFill zero a room h = Unit {0}
SafeFill (suc f) a room h =
    let w = at h a in
    (is_header w room ≡ true → SafeFill f (a + size_of w) (room - size_of w) h)
    × (is_left w room ≡ true → SafeStep h w room × SafeFill f (a + size_at_copy h w) (room - size_at_copy h w) (sets h a (filler (size_at_copy h w))))

unfoldable pub SafeFills : ℕ → List ℕ → List ℕ → Type 0
SafeFills P [] h = Unit {0}
SafeFills P (g ∷ gs) h =
    (g * P + P ≤ length h)
    × (SafeFill P (g * P) P h × SafeFills P gs (fill_page P (g * P) P (record { heap = h; places = [] })).heap)

-- the whole run, and the bounds of its counts
pub record SafeRun (k : Plan) (m : Lent) (roots hints : List ℕ) : Type 0 where
  pub on_hints : SafeHints k (pages_named k.page k.lo k.hi hints) (begun m)
  pub on_roots : SafeRoots k roots (record { heap = m.heap; pages = after_hints k m hints; objects = 0; words = 0; moves = [] })
  pub on_queue : SafeQueue k m.rec.pages 0 (after_roots k m roots hints).state
  pub on_kept : SafeFills k.page (kept_pages (after_sweep k m roots hints).pages) (after_sweep k m roots hints).heap
  pub hinted : length (after_hints k m hints).queue + (after_sweep k m roots hints).pages.kept ≤ length (after_sweep k m roots hints).pages.queue
  pub queue : length (after_sweep k m roots hints).pages.queue ≤ 4096
  pub objects : (after_sweep k m roots hints).objects ≤ 4194304
  pub words : (after_sweep k m roots hints).words ≤ 4194304
