-- The walks of the heap after the sweep: on a page with the new label the walk meets the places of that page and nothing else,
-- only zeros stand from its stop on, and on the copy page it stops at the fill. The heap h has fillers on that page, in the places that
-- copied objects left, and may differ from the sweep's on other pages, as freeing leaves it.
use Rattle.std.specs.Prelude.{◌≡◌, ◌⊎◌, true, false, ℕ, ◌+◌, ◌*◌, ◌-◌, ◌≤◌}
use Rattle.std.proofs.Common.{sym, ap, ◌∙◌, subst, inl, inr, true≢false, add-zero, le_refl, arith}
use mathlib.Core.List.Memᴰ
use mathlib.Core.List.{List, [], ◌∷◌, Memᴰ}
use Rattle.rules.specs.Ranges.{at}
use Rattle.rules.specs.Header.{header_of, size_of, is_header}
use Rattle.rules.specs.Collection.{State, top}
use Rattle.laws.specs.Headers.{Header, header_says, header_is}
use Rattle.laws.specs.Pages.{on_page}
use Rattle.laws.specs.Walk.{size, Steps, stops, step}
use Rattle.theory.specs.World.{page_of, size_at, World, Place, Inv}
use Rattle.theory.specs.Places.{SameOrApart, Standing, there, left, some_words, place_obj, place_end, place_apart, standing}
use Rattle.theory.specs.Tile.{Tiled}
use Rattle.theory.specs.Cursor.{Cursor, at_place, at_stop, behind_place}
use Rattle.theory.specs.Fillers.{FilledPage, filler_size, filler_header, kept_clear, stop_clear}

-- a walk of page g from a met the list and stopped at z
pub record Covers (W : World) (t : State) (h : List ℕ) (g a : ℕ) (l : List ℕ) (z : ℕ) : Type 0 where
  pub only : (b : ℕ) → Memᴰ b l → (x : ℕ) × Place W t x b × (page_of W b ≡ g)
  pub all : (x b : ℕ) → Place W t x b → page_of W b ≡ g → a ≤ b → Memᴰ b l
  pub tail : (w : ℕ) → page_of W w ≡ g → z ≤ w → at h w ≡ 0
  pub end : g ≡ t.pages.copy → z ≡ top W.plan t.pages

module _ (W : World) (t : State) (I : Inv W t) (T : Tiled W t) (h : List ℕ) (g : ℕ) (new : at t.pages.labels g ≡ W.plan.new) (F : FilledPage W t h g) where
  -- a place begins with a header of the object's size: the retained object's own, or a filler's
  place_header : (a room x : ℕ) → a + room ≡ g * W.plan.page + W.plan.page → Place W t x a → page_of W a ≡ g
      → (size h a ≡ size_at W x) × Header (at h a) room
  place_header a room x e K pg = go (standing W t I x a (ap (at t.pages.labels) pg ∙ new) K)
    where
      ob : W.Obj x
      ob = place_obj W t I x a K

      fits : size_at W x ≤ room
      fits = omega (arith, place_end W t I g x a K pg)

      go : Standing W t x a → (size h a ≡ size_at W x) × Header (at h a) room
      go (there k) =
          let hd : at h a ≡ at W.heap x = F.same a pg (simp add-zero at (kept_clear W t I x a 0 k (some_words W x ob))) ∙ I.header x a k in
          (ap size_of hd, rw hd (record { odd = W.odd x ob; shape = W.shape x ob; fits = fits }))
      go (left m mem ex ey) =
          let hd : at h a ≡ header_of (size_at W x - 1) 0 = rw (ey, ex) (F.head m mem (ap (page_of W) (sym (ey ∙ ex)) ∙ pg)) in
          (ap size_of hd ∙ filler_size (size_at W x) (some_words W x ob), rw hd (filler_header (size_at W x) (some_words W x ob) room fits))

  covers_stop : (a room : ℕ) → is_header (at h a) room ≡ false → a + room ≡ g * W.plan.page + W.plan.page → Cursor W t g a room → Covers W t h g a [] a
  covers_stop a room f e (at_place x K pg) = absurd (true≢false (sym (header_is (at h a) room (place_header a room x e K pg).1) ∙ f))
  covers_stop a room f e (at_stop q l none bl tp) = record {
    only = λ b m. absurd (Memᴰ.not-nil m);
    all = λ x b k pg le. absurd (let l : b + size_at W x ≤ a = none x b k pg in omega (arith, W.shape x (place_obj W t I x b k)));
    tail = λ w q l. F.same w q (stop_clear W t I g a none w q l) ∙ bl w q l;
    end = tp;
  }

  covers_place : (a x : ℕ) (l : List ℕ) (z : ℕ) → Place W t x a → page_of W a ≡ g → Covers W t h g (a + size_at W x) l z → Covers W t h g a (a ∷ l) z
  covers_place a x l z K pg C = record {
    only = λ b m. on b (Memᴰ.cases_cons m);
    all = λ x' b k pg' le. al x' b k pg' le (place_apart W t I x' b x a k K);
    tail = C.tail;
    end = C.end;
  }
    where
      on : (b : ℕ) → (b ≡ a) ⊎ Memᴰ b l → (x : ℕ) × Place W t x b × (page_of W b ≡ g)
      on b (inl q) = (x, subst (Place W t x) (sym q) K, ap (page_of W) q ∙ pg)
      on b (inr m) = C.only b m

      al : (x' b : ℕ) → Place W t x' b → page_of W b ≡ g → a ≤ b → SameOrApart W x' b x a → Memᴰ b (a ∷ l)
      al x' b k pg' le (inl (ex, eb)) = Memᴰ.head eb
      al x' b k pg' le (inr (inl q)) = absurd (omega (arith, W.shape x' (place_obj W t I x' b k)))
      al x' b k pg' le (inr (inr q)) = Memᴰ.tail (C.all x' b k pg' q)

  covers_step : (a room : ℕ) (l : List ℕ) (z : ℕ) → is_header (at h a) room ≡ true → g * W.plan.page ≤ a → a + room ≡ g * W.plan.page + W.plan.page → Cursor W t g a room
      → (g * W.plan.page ≤ a + size h a → a + size h a + (room - size h a) ≡ g * W.plan.page + W.plan.page → Cursor W t g (a + size h a) (room - size h a) → Covers W t h g (a + size h a) l z)
      → Covers W t h g a (a ∷ l) z
  covers_step a room l z f lo e (at_stop q lf none bl tp) ih =
      let H : Header (at h a) room = header_says _ _ f in
      let pg : page_of W a ≡ g = on_page W.pos a g lo (omega (arith, H.shape, H.fits)) in
      let same : at h a ≡ at t.heap a = F.same a pg (stop_clear W t I g a none a pg (le_refl a)) in
      absurd (true≢false (sym f ∙ ap (λ (w : ℕ). is_header w room) same ∙ q))
  covers_step a room l z f lo e (at_place x K pg) ih =
      let (sz, H) = place_header a room x e K pg in
      covers_place a x l z K pg
      (subst (λ (n : ℕ). Covers W t h g (a + n) l z) sz
      (ih (omega arith) (omega (arith, H.fits))
      (subst (λ (n : ℕ). Cursor W t g (a + n) (room - n)) (sym sz) (behind_place W t I T g x a (room - size_at W x) K pg (omega (arith, H.fits))))))

  pub covers : {a room z : ℕ} {l : List ℕ} → Steps h a room l z → g * W.plan.page ≤ a → a + room ≡ g * W.plan.page + W.plan.page → Cursor W t g a room → Covers W t h g a l z
  covers (stops {a = a} {room = room} f) lo e c = covers_stop a room f e c
  covers (step {a = a} {room = room} {z = z} {l = l} f r) lo e c = covers_step a room l z f lo e c (λ lo' e' c'. covers r lo' e' c')
