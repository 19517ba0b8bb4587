-- What is lent to a call, and when the call is refused 1.
use Rattle.std.specs.Prelude.{Bool, cond, ◌&&◌, ◌||◌, List, ℕ, ◌*◌, length, eqb, leb, ltb}
use Rattle.rules.specs.declared.Record.{Record}
use Rattle.rules.specs.Ranges.{at}
use Rattle.rules.specs.Pages.{is_shape}

-- "Lent beside the heap: one 16-bit label and one 16-bit link for each page." The record comes by value. Of the links no
-- definition takes more than their number: "No answer depends on what they held before."
pub record Lent : Type 0 where
  pub heap : List ℕ
  pub labels : List ℕ
  pub links : List ℕ
  pub rec : Record

abbrev pub lent : List ℕ → List ℕ → List ℕ → Record → Lent
lent heap labels links r = record { heap = heap; labels = labels; links = links; rec = r }

-- a record with another open page and fill, and with another label
abbrev pub opening : Record → ℕ → ℕ → Record
opening r g f = record { page = r.page; pages = r.pages; label = r.label; opened = g; fill = f }

abbrev pub relabelled : Record → ℕ → Record
relabelled r l = record { page = r.page; pages = r.pages; label = l; opened = r.opened; fill = r.fill }

-- "Heap length is exactly P·T, the other two exactly T", with good P and T: of the lengths of heap, labels and links
unfoldable pub is_laid_out : ℕ → ℕ → ℕ → ℕ → ℕ → Bool
is_laid_out heap labels links P T = is_shape P T && (eqb heap (T * P) && (eqb labels T && eqb links T))

abbrev pub is_laid : Lent → ℕ → ℕ → Bool
is_laid m P T = is_laid_out (length m.heap) (length m.labels) (length m.links) P T

-- "current label, 1 or 2"
unfoldable pub is_label : ℕ → Bool
is_label l = eqb l 1 || eqb l 2

-- "Open page 0 goes with fill P. Otherwise the open page is 1 to T-1 with the current label, and fill is 1 to P."
unfoldable pub is_open : List ℕ → Record → Bool
is_open labels r =
    cond (eqb r.opened 0) (eqb r.fill r.page)
    (ltb r.opened r.pages && (eqb (at labels r.opened) r.label && (leb 1 r.fill && leb r.fill r.page)))

-- not refused 1: lengths, P, T and record are right
unfoldable pub is_valid : Lent → Bool
is_valid m = is_laid m m.rec.page m.rec.pages && (is_label m.rec.label && is_open m.labels m.rec)
