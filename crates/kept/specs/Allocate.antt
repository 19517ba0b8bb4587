-- Allocate keeps a sound heap sound. It trusts fill: on a sound heap the walk of the open page stops exactly there, and only
-- zeros follow; and a free page holds only zeros, so its walk stops at its first word. Either is a `Place`.
-- And it loses no object, and answers the address of one.
use Rattle.std.specs.Prelude.{◌≡◌, refl, ◌⊎◌, ℕ, ◌+◌, ◌*◌, ◌-◌, ◌/◌, ◌≤◌, ◌<◌, set}
use Rattle.std.proofs.Common.{sym, ap, ◌∙◌, inl, inr, add-zero, arith, length-set, get_or-set_same, get_or-set_other}
use Rattle.std.proofs.Math.Path.{subst}
use mathlib.Core.List.Memᴰ
use mathlib.Core.List.{List, [], Memᴰ}
use Rattle.rules.specs.Ranges.{at}
use Rattle.rules.specs.Pages.{pages_used}
use Rattle.rules.specs.Lent.{Lent}
use Rattle.rules.specs.Walk.{starts, stop}
use Rattle.rules.specs.Sound.{IsObject, Opened, Sound}
use Rattle.rules.specs.Calls.{Outcome, accepted, with_object, new_page, allocate}
use Rattle.laws.specs.Headers.{header_zero}
use Rattle.laws.specs.Pages.{on_page}
use Rattle.laws.specs.Walk.{Steps, stops, page_steps}
use Rattle.laws.specs.FreePages.{Lowest, lowest_free_lem}
use Rattle.laws.specs.Objects.{page_pos, label_used, met_object}
use Rattle.kept.specs.Refusals.{by_refusal, allocate_refused}
use Rattle.kept.specs.Accepted.{AtFill, OnNewPage, AllocateOk, allocate_says}
use Rattle.kept.specs.Place.{Place, object_new, object_after, placed_sound}

module _ (m : Lent) (S : Sound m) (d p : ℕ) where
  -- at fill of the open page
  place_at_fill : m.rec.fill + (d + 1) ≤ m.rec.page → p ≤ d → Place m m.rec.opened m.rec.fill d p m.labels (starts m m.rec.opened)
  place_at_fill fits refs = go S.valid.opened
    where
      g : ℕ
      g = m.rec.opened

      go : ((m.rec.opened ≡ 0) × (m.rec.fill ≡ m.rec.page)) ⊎ Opened m → Place m g m.rec.fill d p m.labels (starts m g)
      go (inl z) = absurd (omega (arith, z.1))
      go (inr o) =
          let e : stop m g ≡ g * m.rec.page + m.rec.fill = S.fill (omega (arith, o.page.low)) in
          record {
            low = o.page.low;
            high = o.page.high;
            many = refl;
            label = o.page.label;
            others = λ k n. refl;
            fits = fits;
            refs = refs;
            walked = subst (Steps m.heap (g * m.rec.page) m.rec.page (starts m g)) e (page_steps m g);
            blank = λ w q l. S.tail g w o.page q (omega arith);
            objects = λ b k. met_object m (page_pos m S.valid) g b o.page k;
            back = λ b ob q. subst (λ (j : ℕ). Memᴰ b (starts m j)) q ob.met;
          }

  -- at the first word of the lowest free page
  place_new : 3 * pages_used m.labels 1 m.rec.pages + 2 ≤ m.rec.pages - 1 → d + 1 ≤ m.rec.page → p ≤ d
      → Place m (new_page m) 0 d p (set m.labels (new_page m) m.rec.label) []
  place_new room small refs = record {
    low = new.low;
    high = new.high;
    many = length-set m.labels g m.rec.label;
    label = get_or-set_same m.labels g m.rec.label 0 (omega (arith, new.high, S.valid.labels));
    others = λ k n. get_or-set_other m.labels g k m.rec.label 0 n;
    fits = omega arith;
    refs = refs;
    walked = subst (Steps m.heap (g * m.rec.page) m.rec.page []) (sym (add-zero _))
        (stops {a = g * m.rec.page} {room = m.rec.page} (rw (blank (g * m.rec.page) (on_page pos _ g (omega arith) (omega arith))) (header_zero m.rec.page)));
    blank = λ w q l. blank w q;
    objects = λ b k. absurd (Memᴰ.not-nil k);
    back = λ b ob q. absurd (label_used m S.valid _ ob.in_use (ap (at m.labels) q ∙ new.free));
  }
    where
      g : ℕ
      g = new_page m

      new : Lowest m.labels 1 m.rec.pages
      new = lowest_free_lem m.labels 1 m.rec.pages (omega arith)

      pos : 0 < m.rec.page
      pos = page_pos m S.valid

      blank : (w : ℕ) → w / m.rec.page ≡ new_page m → at m.heap w ≡ 0
      blank w q = S.blank w (ap (at m.labels) q ∙ new.free)

-- where an accepted allocation put its object; it answers the address
record Put (m : Lent) (d p : ℕ) (o : Outcome) : Type 0 where
  page : ℕ
  offset : ℕ
  labels : List ℕ
  met : List ℕ
  place : Place m page offset d p labels met
  is : o ≡ accepted (page * m.rec.page + offset) (with_object m page offset d p labels)

allocate_put : (m : Lent) (d p : ℕ) → Sound m → (allocate m d p).refusal ≡ 0 → Put m d p (allocate m d p)
allocate_put m d p S z = let ok = allocate_says m d p z in put _ ok ok.placed
  where
    put : (o : Outcome) → AllocateOk m d p o → AtFill m d p o ⊎ OnNewPage m d p o → Put m d p o
    put o ok (inl a) = record {
      page = m.rec.opened;
      offset = m.rec.fill;
      labels = m.labels;
      met = starts m m.rec.opened;
      place = place_at_fill m S d p a.fits ok.refs;
      is = a.is;
    }
    put o ok (inr n) = record {
      page = new_page m;
      offset = 0;
      labels = set m.labels (new_page m) m.rec.label;
      met = [];
      place = place_new m S d p n.room ok.small ok.refs;
      is = rw (add-zero (new_page m * m.rec.page)) n.is;
    }

pub allocate_sound : (m : Lent) (d p : ℕ) → Sound m → Sound (allocate m d p).lent
unfolding accepted
allocate_sound m d p S =
    by_refusal (allocate m d p)
    (λ z. let q = allocate_put m d p S z in subst (λ (o : Outcome). Sound o.lent) (sym q.is) (placed_sound m S _ _ d p _ _ q.place))
    (λ n. subst Sound (sym (allocate_refused m d p n).lent) S)

-- an accepted allocation leaves every object that was there, and one at the address answered
module _ (m : Lent) (d p : ℕ) (S : Sound m) (z : (allocate m d p).refusal ≡ 0) where
  q : Put m d p (allocate m d p)
  q = allocate_put m d p S z

  pub allocate_keeps : (b : ℕ) → IsObject m b → IsObject (allocate m d p).lent b
  unfolding accepted
  allocate_keeps b o = subst (λ (o : Outcome). IsObject o.lent b) (sym q.is) (object_after m S _ _ d p _ _ q.place b o)

  pub allocate_new : IsObject (allocate m d p).lent (allocate m d p).value
  unfolding accepted
  allocate_new = subst (λ (o : Outcome). IsObject o.lent o.value) (sym q.is) (object_new m S _ _ d p _ _ q.place)
