-- Laws of the definitions as the code of this crate meets them: zeros put down, and what a valid record tells.
-- Assumes nothing.
use mathlib.Core.Path.{◌≡◌, refl, sym, ◌∙◌}
use mathlib.Core.Logic.{◌⊎◌, inl, inr}
use mathlib.Core.List.{List, ◌∷◌, append_assoc}
use Prim.Native.Nat.{ℕ, suc, ◌+◌, ◌*◌, ◌-◌, ◌≤◌, ◌<◌}
use native.Mathlib.Nat.{add-zero, zero-add}
use native.Mathlib.Numerals.{add-one}
use native.Mathlib.Omega.{arith}
use lib.ListN.{length, set, replicate, length-set, length-take, length-drop, length-replicate}
use lib.Seq.{sets, sets-eq, drop-drop}
use borrow.Rule.Slice.PartMut.{mid_of, put_mid}
use Rattle.rules.specs.Calls.{with_object}
use Rattle.rules.specs.Header.{header_of}
use Rattle.rules.specs.Lent.{Lent, lent, opening, is_valid}
use Rattle.std.specs.Prelude.{Option, Some, None, IsSome}
use Rattle.std.specs.Option.{unwrap_or}
use Rattle.rules.specs.Pages.{lowest_free, pages_used}
use Rattle.laws.specs.Valid.{page_within, valid_says, valid_laid, open_within}
use Rattle.laws.specs.FreePages.{lowest_free_lem}
use mathlib.Core.Bool.{true}

-- ---- zeros

-- zeros put in the place of d words, from the one after a header
pub put_is : (h part : List ℕ) (a d w : ℕ) → a + 1 + d ≤ length h → part ≡ replicate (length (mid_of (a + 1) (a + 1 + d - (a + 1)) (set h a w))) 0
    → put_mid (a + 1) (a + 1 + d - (a + 1)) (set h a w) part ≡ sets h a (w ∷ replicate d 0)
put_is h part a d w fits e =
    let n : a + 1 + d - (a + 1) ≡ d = omega arith in
    let many : length (mid_of (a + 1) d (set h a w)) ≡ d = simp (length-take, length-drop, length-set) (omega arith) in
    let part_is : part ≡ replicate d 0 = e ∙ rw (n, many) in
    let zeros : length {A = ℕ} (replicate d 0) ≡ d = length-replicate d 0 in
    rw (n, part_is, drop-drop d (a + 1) (set h a w), add-one a) (sym (rw (zeros, append_assoc) at (sets-eq (replicate d 0) (set h a w) (suc a) (rw (zeros, length-set) (omega arith)))))

-- ---- what a valid record tells

-- its numbers, and where the open page lies
pub record Bounds (m : Lent) : Type 0 where
  pub page_low : 8 ≤ m.rec.page
  pub page_high : m.rec.page ≤ 1024
  pub pages_low : 3 ≤ m.rec.pages
  pub pages_high : m.rec.pages ≤ 4096
  pub labels : length m.labels ≡ m.rec.pages
  pub heap : length m.heap ≤ 4194304
  pub label : m.rec.label ≤ 2
  pub fill : m.rec.fill ≤ m.rec.page
  pub opened : m.rec.opened * m.rec.page + m.rec.page ≤ length m.heap

pub bounds : (m : Lent) → is_valid m ≡ true → Bounds m
bounds m e =
    let v = valid_says m e in
    let L = valid_laid m e in
    let open_page = open_within m v in
    let within = page_within L m.rec.opened open_page.0 in
    record {
      page_low = L.page_low;
      page_high = L.page_high;
      pages_low = L.pages_low;
      pages_high = L.pages_high;
      labels = L.labels;
      heap = within.1;
      label = go v.label;
      fill = open_page.1;
      opened = within.0;
    }
  where
    go : (m.rec.label ≡ 1) ⊎ (m.rec.label ≡ 2) → m.rec.label ≤ 2
    go (inl e) = omega arith
    go (inr e) = omega arith

-- where allocate may take a page, the lowest free one is there
pub record Free (m : Lent) (g : ℕ) : Type 0 where
  pub high : g < m.rec.pages
  pub labelled : g < length m.labels
  pub inside : g * m.rec.page + m.rec.page ≤ length m.heap
  pub small : g * m.rec.page ≤ 4194304

pub free_page : (m : Lent) (g : ℕ) → is_valid m ≡ true → 3 * pages_used m.labels 1 m.rec.pages + 2 ≤ m.rec.pages - 1 → g ≡ lowest_free m.labels 1 m.rec.pages → Free m g
free_page m g valid room is =
    let L = valid_laid m valid in
    let high : g < m.rec.pages = omega (arith, is, (lowest_free_lem m.labels 1 m.rec.pages (omega (arith, room, L.pages_low))).high) in
    let within = page_within L g high in
    record { high = high; labelled = omega (arith, high, L.labels); inside = within.0; small = omega (arith, within) }

-- an option that stands for a number below another is some
pub some_below : (x : Option ℕ) (top n : ℕ) → unwrap_or x top ≡ n → n < top → IsSome x
some_below (Some g) top n e h = refl
some_below None top n e h = absurd (omega (arith, e))

-- an object at the first word of a page
pub object_first : (m : Lent) (g d p : ℕ) (labels : List ℕ)
    → with_object m g 0 d p labels ≡ lent (sets m.heap (g * m.rec.page) (header_of d p ∷ replicate d 0)) labels m.links (opening m.rec g (d + 1))
unfolding with_object
object_first m g d p labels = rw (add-zero (g * m.rec.page), zero-add (d + 1))
