-- Start, allocate, look-up, load and store: what each answers and leaves, refusals included. `m` is what is lent before the
-- call. The table of refusals, in the order in which they are tested:
--   1 layout: a wrong length, P, T or record            4 nothing there, or 10 inside an object (Q-2): the address is no
--   2 shape: d > P - 1 or p > d                           object start
--   3 collect first: n words don't fit in the open      5 index: index ≥ d
--     page, and N < 3k + 2                              6 bad reference: a value for a reference, neither 0 nor an
--                                                         object start
-- and for collect (Collect.antt) 7 unsound; 8, no room, went with Q-6. Each definition below makes its checks in this order. The value of a
-- refusal is 0, but for 10: there it is the start of the object that the address is inside.
use Rattle.std.specs.Prelude.{Bool, cond, ◌&&◌, ◌||◌, List, ◌∷◌, ℕ, ◌+◌, ◌*◌, ◌-◌, length, set, replicate, leb, ltb}
use Rattle.std.proofs.lemmas.List.Edits.{sets}
use Rattle.rules.specs.declared.Answer.{Answer}
use Rattle.rules.specs.declared.Found.{Found}
use Rattle.rules.specs.declared.Found.TheVariants.{Start, Inside, Nothing}
use Rattle.rules.specs.Ranges.{at}
use Rattle.rules.specs.Header.{header_of, size_of, refs_of}
use Rattle.rules.specs.Pages.{page_at_start, lowest_free, pages_used}
use Rattle.rules.specs.Lent.{Lent, lent, opening, is_laid, is_valid}
use Rattle.rules.specs.Walk.{is_reference, found}

-- the refusal's number, 0 if accepted; the value; and what was lent, with the record, as the call leaves it
pub record Outcome : Type 0 where
  pub refusal : ℕ
  pub value : ℕ
  pub lent : Lent

-- the code's answer, with the heap, labels and links that it leaves
abbrev pub outcome : Answer → List ℕ → List ℕ → List ℕ → Outcome
outcome x heap labels links = record { refusal = x.refusal; value = x.value; lent = lent heap labels links x.rec }

-- "A refused call returns its number, value 0 .. and the record it was given .., and every lent word, label, link .. stays
-- the same."
unfoldable pub refused : ℕ → Lent → Outcome
refused e m = record { refusal = e; value = 0; lent = m }

-- Q-2: "10, inside an object, value s". "Here alone a refusal's value is not 0."
unfoldable pub inside : ℕ → Lent → Outcome
inside s m = record { refusal = 10; value = s; lent = m }

unfoldable pub accepted : ℕ → Lent → Outcome
accepted v m = record { refusal = 0; value = v; lent = m }

-- refused with number e, unless the test passes
abbrev pub unless : Bool → ℕ → Lent → Outcome → Outcome
unless ok e m go = cond ok go (refused e m)

-- "Start zeroes heap, labels and links; current label 1, no open page."
abbrev pub started : Lent → ℕ → ℕ → Lent
started m P T = record {
  heap = replicate (length m.heap) 0;
  labels = replicate (length m.labels) 0;
  links = replicate (length m.links) 0;
  rec = record { page = P; pages = T; label = 1; opened = 0; fill = P };
}

-- "start takes any record"; lengths and record go by the page size that P means
unfoldable pub start : Lent → ℕ → ℕ → Outcome
start m P T = unless (is_laid m (page_at_start P) T) 1 m (accepted 0 (started m (page_at_start P) T))

-- "In the heap it writes the header and d zeros, and nothing else." The object is on page g, `f` words from its first
unfoldable pub with_object : Lent → ℕ → ℕ → ℕ → ℕ → List ℕ → Lent
with_object m g f d p labels = record {
  heap = sets m.heap (g * m.rec.page + f) (header_of d p ∷ replicate d 0);
  labels = labels;
  links = m.links;
  rec = opening m.rec g (f + (d + 1));
}

-- not refused 2; the object fits the open page; not refused 3; the page that is taken then
abbrev pub good_shape : Lent → ℕ → ℕ → Bool
good_shape m d p = leb d (m.rec.page - 1) && leb p d

abbrev pub fits_open : Lent → ℕ → Bool
fits_open m d = leb (m.rec.fill + (d + 1)) m.rec.page

abbrev pub may_take : Lent → Bool
may_take m = leb (3 * pages_used m.labels 1 m.rec.pages + 2) (m.rec.pages - 1)

abbrev pub new_page : Lent → ℕ
new_page m = lowest_free m.labels 1 m.rec.pages

-- "Allocate puts the object at fill if it fits. Otherwise it takes the lowest-numbered page (from 1) with label 0, labels
-- it, and begins at its first word .. The answer is the address."
unfoldable pub allocate : Lent → ℕ → ℕ → Outcome
allocate m d p =
    let r = m.rec in
    unless (is_valid m) 1 m
    (unless (good_shape m d p) 2 m
    (cond (fits_open m d)
    (accepted (r.opened * r.page + r.fill) (with_object m r.opened r.fill d p m.labels))
    (unless (may_take m) 3 m
    (accepted (new_page m * r.page) (with_object m (new_page m) 0 d p (set m.labels (new_page m) r.label))))))

-- What was found at address a, in the papers' numbers (Q-2): "0 and the start, 10 and s, or 4 and 0"
abbrev pub told : Found → ℕ → Lent → Outcome
told (Start w) a m = accepted a m
told (Inside s) a m = inside s m
told Nothing a m = refused 4 m

-- "Looking up an address shall answer: an object start, inside the object that starts at s, or nothing."
unfoldable pub look_up : Lent → ℕ → Outcome
look_up m a = unless (is_valid m) 1 m (told (found m a) a m)

-- "Load and store pass this on": they go on from an object start, with its header, and answer as look-up does elsewhere
abbrev pub on_start : Found → ℕ → Lent → (ℕ → Outcome) → Outcome
on_start (Start w) a m go = go w
on_start (Inside s) a m go = told (Inside s) a m
on_start Nothing a m go = told Nothing a m

-- not refused 5: an object with this header has a payload word i
abbrev pub in_payload : ℕ → ℕ → Bool
in_payload w i = ltb i (size_of w - 1)

-- "Load returns payload word i."
unfoldable pub load : Lent → ℕ → ℕ → Outcome
load m a i =
    unless (is_valid m) 1 m
    (on_start (found m a) a m (λ w.
    unless (in_payload w i) 5 m
    (accepted (at m.heap (a + 1 + i)) m)))

-- "for i < p the value is checked (6), otherwise any number goes"
unfoldable pub may_store : Lent → ℕ → ℕ → ℕ → Bool
may_store m w i v = leb (refs_of w) i || is_reference m v

abbrev pub stored : Lent → ℕ → ℕ → ℕ → Lent
stored m a i v = record { heap = set m.heap (a + 1 + i) v; labels = m.labels; links = m.links; rec = m.rec }

-- "Store writes it .. Start and store answer 0."
unfoldable pub store : Lent → ℕ → ℕ → ℕ → Outcome
store m a i v =
    unless (is_valid m) 1 m
    (on_start (found m a) a m (λ w.
    unless (in_payload w i) 5 m
    (unless (may_store m w i v) 6 m
    (accepted 0 (stored m a i v)))))
