-- Where a walk of a page stands: on a place, or at the stop. The sweep, the filling and the walks afterwards go by it.
use Rattle.std.specs.Prelude.{◌≡◌, false, ℕ, zero, suc, ◌+◌, ◌*◌, ◌≤◌}
use Rattle.std.proofs.Common.{sym, ap, ◌∙◌, inl, inr, le_refl, arith}
use Rattle.rules.specs.Ranges.{at}
use Rattle.rules.specs.Header.{is_header}
use Rattle.rules.specs.Collection.{State, top, is_left}
use Rattle.laws.specs.Headers.{header_zero, header_full, left_zero, left_full}
use Rattle.laws.specs.Pages.{page_on, on_page}
use Rattle.theory.specs.World.{page_of, size_at, World, Place, Inv}
use Rattle.theory.specs.Places.{SameOrApart, place_end, place_top, place_apart, place_nonzero}
use Rattle.theory.specs.Tile.{Next, another, full, blank, Tiled}

-- ---- where a walk of page g stands, with `room` words before the page's end: on a place, or at the stop

pub data Cursor (W : World) (s : State) (g a room : ℕ) : Type 0 where
  at_place : (x : ℕ) → Place W s x a → page_of W a ≡ g → Cursor W s g a room
  at_stop : is_header (at s.heap a) room ≡ false → is_left (at s.heap a) room ≡ false → ((x y : ℕ) → Place W s x y → page_of W y ≡ g → y + size_at W x ≤ a)
      → ((w : ℕ) → page_of W w ≡ g → a ≤ w → at s.heap w ≡ 0) → (g ≡ s.pages.copy → a ≡ top W.plan s.pages) → Cursor W s g a room

-- behind a place
pub behind_place : (W : World) (s : State) → Inv W s → Tiled W s → (g x y room : ℕ) → Place W s x y → page_of W y ≡ g
    → y + size_at W x + room ≡ g * W.plan.page + W.plan.page → Cursor W s g (y + size_at W x) room
unfolding top
behind_place W s I T g x y zero k e h =
    at_stop (header_full _) (left_full _) (λ a b m q. omega (arith, place_end W s I g a b m q)) (λ w q l. absurd (omega (arith, (page_on W.pos w g q).1)))
    (λ q. omega (arith, I.fill_within, place_top W s I x y k (e ∙ q), ap (λ (j : ℕ). j * W.plan.page) q))
behind_place W s I T g x y (suc room) k e h = go (T.next x y k)
  where
    z : ℕ
    z = y + size_at W x

    zg : page_of W z ≡ g
    zg = on_page W.pos z g (omega (arith, (page_on W.pos y g e).0)) (omega arith)

    go : Next W s (page_of W y) (y + size_at W x) → Cursor W s g (y + size_at W x) (suc room)
    go (another x' k' e') = at_place x' k' (e' ∙ e)
    go (full q) = absurd (omega (arith, ap (λ (k : ℕ). k * W.plan.page) e))
    go (blank f q) = at_stop
        (ap (λ (w : ℕ). is_header w (suc room)) (f z (zg ∙ sym e) (le_refl z)) ∙ header_zero (suc room))
        (ap (λ (w : ℕ). is_left w (suc room)) (f z (zg ∙ sym e) (le_refl z)) ∙ left_zero (suc room))
        none (λ w a l. f w (a ∙ sym e) l) (λ a. q (e ∙ a))
      where
        none : (a b : ℕ) → Place W s a b → page_of W b ≡ g → b + size_at W a ≤ y + size_at W x
        none a b m eb = one (place_apart W s I a b x y m k)
          where
            one : SameOrApart W a b x y → b + size_at W a ≤ y + size_at W x
            one (inl (p, q)) = rw (p, q) (le_refl _)
            one (inr (inl l)) = omega arith
            one (inr (inr l)) = absurd (place_nonzero W s I T.page0 a b m (f b (eb ∙ sym e) l))
