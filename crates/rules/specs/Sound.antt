-- Soundness: as a test that computes, and as a proposition. The crate `laws` proves that they agree, both ways.
use Rattle.std.specs.Prelude.{◌≡◌, ◌≢◌, ◌⊎◌, Bool, true, cond, ◌&&◌, ℕ, ◌+◌, ◌*◌, ◌/◌, ◌≤◌, ◌<◌, ◌^◌, length, eqb, leb}
use mathlib.Core.List.{List, Memᴰ}
use Rattle.rules.specs.Ranges.{at, block, each}
use Rattle.rules.specs.Header.{refs_of}
use Rattle.rules.specs.Pages.{is_free}
use Rattle.rules.specs.Lent.{Lent, is_valid}
use Rattle.rules.specs.Walk.{starts, stop, is_reference}

-- ---- the test

-- only zeros from address a up to e
unfoldable pub is_blank : List ℕ → ℕ → ℕ → Bool
is_blank h a e = each (λ w. eqb (at h w) 0) (block a e)

-- the references of the object at x, which stand right after its header, are good
unfoldable pub refs_good : Lent → ℕ → Bool
refs_good m x = each (λ w. is_reference m (at m.heap w)) (block (x + 1) (x + 1 + refs_of (at m.heap x)))

-- "on the open page it stops exactly at fill"
unfoldable pub is_fill_sound : Lent → ℕ → Bool
is_fill_sound m g = cond (eqb g m.rec.opened) (eqb (stop m g) (g * m.rec.page + m.rec.fill)) true

-- a page with a label that is not 0: the label is current, "the walk meets at least one object", every reference is good, the
-- walk stops where it should, "and only zeros stand from its stop on"
unfoldable pub is_used_sound : Lent → ℕ → Bool
is_used_sound m g =
    eqb (at m.labels g) m.rec.label && (leb 1 (length (starts m g)) && (each (refs_good m) (starts m g)
    && (is_fill_sound m g && is_blank m.heap (stop m g) (g * m.rec.page + m.rec.page))))

-- "every free page hold[s] only zeros; every label is 0 or current"
unfoldable pub is_page_sound : Lent → ℕ → Bool
is_page_sound m g =
    cond (is_free m.labels g) (is_blank m.heap (g * m.rec.page) (g * m.rec.page + m.rec.page)) (is_used_sound m g)

-- "the record is valid; page 0 is free; page 0 [holds] only zeros"; and each page from 1 to T - 1
unfoldable pub is_sound : Lent → Bool
is_sound m =
    is_valid m && (is_free m.labels 0 && (is_blank m.heap 0 m.rec.page && each (is_page_sound m) (block 1 m.rec.pages)))

-- ---- the proposition

-- "on a page 1 to T-1 with the current label"
pub record InUse (m : Lent) (g : ℕ) : Type 0 where
  pub low : 1 ≤ g
  pub high : g < m.rec.pages
  pub label : at m.labels g ≡ m.rec.label

-- "An object start is an address that the walk meets as a header, on a page 1 to T-1 with the current label."
pub record IsObject (m : Lent) (a : ℕ) : Type 0 where
  pub in_use : InUse m (a / m.rec.page)
  pub met : Memᴰ a (starts m (a / m.rec.page))

-- how many references the object at x has, and its payload word i
abbrev pub refs : Lent → ℕ → ℕ
refs m x = refs_of (at m.heap x)

abbrev pub payload : Lent → ℕ → ℕ → ℕ
payload m x i = at m.heap (x + 1 + i)

-- "Open page 0 goes with fill P. Otherwise .."
pub record Opened (m : Lent) : Type 0 where
  pub page : InUse m m.rec.opened
  pub low : 1 ≤ m.rec.fill
  pub high : m.rec.fill ≤ m.rec.page

pub record Valid (m : Lent) : Type 0 where
  pub page : (e : ℕ) × (3 ≤ e) × (e ≤ 10) × (m.rec.page ≡ 2 ^ e)
  pub pages : (3 ≤ m.rec.pages) × (m.rec.pages ≤ 4096)
  pub heap : length m.heap ≡ m.rec.pages * m.rec.page
  pub labels : length m.labels ≡ m.rec.pages
  pub links : length m.links ≡ m.rec.pages
  pub label : (m.rec.label ≡ 1) ⊎ (m.rec.label ≡ 2)
  pub opened : ((m.rec.opened ≡ 0) × (m.rec.fill ≡ m.rec.page)) ⊎ Opened m

-- "Sound means:" clause by clause
pub record Sound (m : Lent) : Type 0 where
  -- "the record is valid"
  pub valid : Valid m
  -- "page 0 is free"
  pub zero : at m.labels 0 ≡ 0
  -- "page 0 and every free page hold only zeros"
  pub blank : (w : ℕ) → at m.labels (w / m.rec.page) ≡ 0 → at m.heap w ≡ 0
  -- "every label is 0 or current"
  pub labels : (g : ℕ) → (at m.labels g ≡ 0) ⊎ (at m.labels g ≡ m.rec.label)
  -- "on each page in use the walk meets at least one object"
  pub some : (g : ℕ) → InUse m g → (a : ℕ) × Memᴰ a (starts m g)
  -- "and only zeros stand from its stop on"
  pub tail : (g w : ℕ) → InUse m g → w / m.rec.page ≡ g → stop m g ≤ w → at m.heap w ≡ 0
  -- "on the open page it stops exactly at fill"
  pub fill : m.rec.opened ≢ 0 → stop m m.rec.opened ≡ m.rec.opened * m.rec.page + m.rec.fill
  -- "every reference is 0 or an object start"
  pub references : (x i : ℕ) → IsObject m x → i < refs m x → (payload m x i ≡ 0) ⊎ IsObject m (payload m x i)
