-- Laws of the definitions as the code of this crate meets them: the walk for a look-up, which leaves off as soon as the address is met
-- or passed. Assumes nothing.
use mathlib.Core.Path.{◌≡◌, refl, sym, ◌∙◌}
use mathlib.Core.Logic.{◌⊎◌, ◌≢◌, inr, ⊎_elim}
use mathlib.Core.Bool.{true, false, true≢false}
use mathlib.Core.List.{List, ◌∷◌}
use Prim.Native.Nat.{ℕ, ◌+◌, ◌*◌, ◌-◌, ◌/◌, ◌≤◌, ◌<◌, min}
use native.Mathlib.Omega.{arith}
use lib.ListN.{length}
use lib.Dec.{eqb, leb}
use borrow.Author.Tests.{eq-eqb, ne_eqb, le-leb, lt-leb, lt-ltb, le-ltb}
use Rattle.rules.specs.declared.Found.TheVariants.{Start, Inside, Nothing}
use Rattle.rules.specs.Ranges.{at}
use Rattle.rules.specs.Header.{size_of, is_header}
use Rattle.rules.specs.Lent.{Lent}
use Rattle.rules.specs.Walk.{landing, found}
use Rattle.laws.specs.Headers.{header_says, header_is, header_room}
use Rattle.laws.specs.Walk.{size, objects, objects_end, objects_step, starts_are}
use Rattle.laws.specs.LookUp.{in_use_is, no_header}
use Rattle.laws.specs.Pages.{page_on}

-- a header's form: that of a header where there is room for it. A word has it if it is a header, and is a header if it has it and there is room
pub header_form : (w room : ℕ) → is_header w room ≡ true → is_header w (size_of w) ≡ true
header_form w room q = let H = header_says w room q in header_is w (size_of w) (record { odd = H.odd; shape = H.shape; fits = omega arith })

form_header : (w room : ℕ) → is_header w (size_of w) ≡ true → is_header w room ≡ leb (size_of w) room
form_header w room q = let H = header_says w (size_of w) q in header_room w room H.odd H.shape

-- The walk of the page from `base` to e has come to b, and met `last` before. While it has not passed a, what is found there is still ahead. Once it
-- has, a is inside `last`, if that ends on the page: the objects before it ended at a or sooner, and so on the page.
pub record Coming (h : List ℕ) (base e a b last : ℕ) : Type 0 where
  pub below : last ≤ a
  pub ahead : b ≤ a → landing h a (objects h base e) ≡ landing h a (objects h b e)
  pub inside : a < b → b ≤ e → landing h a (objects h base e) ≡ Inside last
  pub over : e < b → landing h a (objects h base e) ≡ Nothing

module _ (h : List ℕ) (base e a : ℕ) where
  pub coming_begins : base ≤ a → a < e → Coming h base e a base base
  coming_begins from to = record { below = from; ahead = λ p. refl; inside = λ p q. absurd (omega arith); over = λ p. absurd (omega arith) }

  module _ (b last : ℕ) (C : Coming h base e a b last) where
    -- it goes on by a header's form: n words
    pub coming_on : a < e → b < a → (n : ℕ) → n ≡ size h b → is_header (at h b) n ≡ true → (0 < n) × Coming h base e a (b + n) b
    unfolding landing
    coming_on to l n en q = (
      omega (arith, (header_says _ _ q).shape),
      rw en (record {
        below = omega arith;
        ahead = λ p. C.ahead (omega arith) ∙ rw (fits (omega arith), ne, lt-ltb b a l, le-ltb a (b + size h b) p);
        inside = λ p r. C.ahead (omega arith) ∙ rw (fits r, ne, lt-ltb b a l, lt-ltb a (b + size h b) p);
        over = λ p. C.ahead (omega arith) ∙ rw (objects_end h b e (form_header _ _ form ∙ lt-leb (size h b) (e - b) (omega arith)));
      }),
    )
      where
        form : is_header (at h b) (size h b) ≡ true
        form = rw en at q

        ne : eqb a b ≡ false
        ne = ne_eqb a b (omega arith)

        fits : b + size h b ≤ e → objects h b e ≡ b ∷ objects h (b + size h b) e
        fits r = objects_step h b e (form_header _ _ form ∙ le-leb (size h b) (e - b) (omega arith))

    -- no header stands where it has come to, past the heap or there
    pub coming_none : (length h ≤ b) ⊎ (is_header (at h b) (e - b) ≡ false) → b ≤ a → landing h a (objects h base e) ≡ Nothing
    unfolding landing
    coming_none q l = C.ahead l ∙ rw (objects_end h b e (⊎_elim (λ w. no_header h b e (inr w)) (λ w. w) q))

    -- a header stands there, so that what it left off for is the address
    pub coming_met : is_header (at h b) (e - b) ≡ true → b ≤ a → b < length h → (min a (length h) ≤ b) ⊎ (is_header (at h b) (size h b) ≡ false) → landing h a (objects h base e) ≡ Start (at h b)
    unfolding landing
    coming_met q l inside left = C.ahead l ∙ rw (objects_step h b e q, eq-eqb a b (⊎_elim (λ n. omega arith) (λ n. absurd (true≢false (sym (header_form _ _ q) ∙ n))) left))

-- ---- an address on a page in use

pub on_page : (P a : ℕ) → P ≢ 0 → (a / P * P ≤ a) × (a < a / P * P + P)
on_page P a n = page_on (omega arith) a _ refl

pub found_on : (m : Lent) (a : ℕ) → 1 ≤ a / m.rec.page → a / m.rec.page < m.rec.pages → at m.labels (a / m.rec.page) ≡ m.rec.label
    → found m a ≡ landing m.heap a (objects m.heap (a / m.rec.page * m.rec.page) (a / m.rec.page * m.rec.page + m.rec.page))
unfolding found
found_on m a low high l = rw (in_use_is m (a / m.rec.page) (record { low = low; high = high; label = l }), starts_are m (a / m.rec.page))
