-- The sweep of a page: it meets every retained object of the page in turn, those that are put there meanwhile too, and each of
-- their references ends forwarded. On a kept page it steps over what was copied.
use Rattle.std.specs.Prelude.{◌≡◌, refl, ◌⊎◌, true, ℕ, zero, suc, ◌+◌, ◌*◌, ◌-◌, ◌≤◌, ◌<◌, length}
use Rattle.std.proofs.Common.{sym, ap, ◌∙◌, inl, inr, true≢false, add-zero, le_trans, arith}
use mathlib.Core.List.{Memᴰ}
use Rattle.std.proofs.Math.Decide.{dec_lt}
use Rattle.rules.specs.Ranges.{at}
use Rattle.rules.specs.Header.{is_header}
use Rattle.rules.specs.Collection.{Move, State, sweep_references, sweep_page}
use Rattle.laws.specs.Headers.{header_is, Left, left_is, left_odd, left_no_header}
use Rattle.laws.specs.Pages.{split_page, same_page}
use Rattle.laws.specs.Safe.{SafeReferences, SafePage}
use Rattle.theory.specs.World.{Swept, page_of, label_of, size_at, refs_at, World, Kept, Place, home, kept_place, Region, Inv}
use Rattle.theory.specs.Places.{SameOrApart, some_words, Standing, there, left, place_obj, kept_obj, place_fits, kept_fits, place_end as place-ends, kept_apart, kept_region, kept_from, standing, left_word, left_size, left_step}
use Rattle.theory.specs.Cursor.{Cursor, at_place, at_stop, behind_place}
use Rattle.theory.proofs.Good.{Good, Fresh, Grow, grow_refl, grow_trans}
use Rattle.theory.proofs.SweepReferences.{Refs, sweep_references_lem}

-- ---- a page

pub record PageDone (W : World) (s : State) (g : ℕ) (t : State) (Safe : Type 0) : Type 0 where
  pub safe : Safe
  pub good : Good W t
  pub grow : Grow W s t
  pub done : (x y : ℕ) → Kept W t x y → page_of W y ≡ g → (i : ℕ) → 0 < i → i ≤ refs_at W x → Swept W t x y i

-- what lies before a is done
abbrev pub Before : World → State → ℕ → ℕ → Type 0
Before W s g a = (x y : ℕ) → Kept W s x y → page_of W y ≡ g → y < a → (i : ℕ) → 0 < i → i ≤ refs_at W x → Swept W s x y i

abbrev pub InQueue : State → ℕ → Type 0
InQueue s g = (j : ℕ) × (j < length s.pages.queue) × (at s.pages.queue j ≡ g)

-- such a page has the new label
pub queued_label : (W : World) (s : State) → Good W s → (g : ℕ) → InQueue s g → (a : ℕ) → page_of W a ≡ g → label_of W s a ≡ W.plan.new
queued_label W s G g (j, lt, e) a pg = ap (at s.pages.labels) (pg ∙ sym e) ∙ G.lined.queued.only j lt

abbrev pub PageOk : World → ℕ → ℕ → Type 0
PageOk W g f = (a room : ℕ) (s : State) → Good W s → InQueue s g → a + room ≡ g * W.plan.page + W.plan.page → room ≤ f → Cursor W s g a room → Before W s g a
    → PageDone W s g (sweep_page W.plan f a room s) (SafePage W.plan f a room s)

-- nothing is left on the page
page_end : (W : World) (g a : ℕ) (s : State) (Safe : Type 0) → Safe → Good W s → ((x y : ℕ) → Place W s x y → page_of W y ≡ g → y + size_at W x ≤ a)
    → Before W s g a → PageDone W s g s Safe
page_end W g a s Safe safe G none before = record {
  safe = safe;
  good = G;
  grow = grow_refl W s;
  done = λ x y k q. before x y k q (let l : y + size_at W x ≤ a = none x y (kept_place W s k) q in omega (arith, W.shape x (kept_obj W s G.inv x y k)));
}

page_none : (W : World) (g : ℕ) → PageOk W g zero
unfolding sweep_page SafePage
page_none W g a room s G Q e le (at_stop h n none bl tp) before = page_end W g a s (Unit {0}) tt G none before
page_none W g a room s G Q e le (at_place x K pg) before =
    absurd (omega (arith, place_fits W s G.inv x a K, split_page W.plan.page a, ap (λ (k : ℕ). k * W.plan.page) pg, W.shape x (place_obj W s G.inv x a K)))

-- a retained object: it fits, and the walk meets its header
module _ (W : World) (g a room : ℕ) (s : State) (I : Inv W s) (e : a + room ≡ g * W.plan.page + W.plan.page) (x : ℕ) (K : Kept W s x a) (pg : page_of W a ≡ g) where
  pub object_fits : size_at W x ≤ room
  object_fits = omega (arith, place-ends W s I g x a (kept_place W s K) pg)

  object_header : is_header (at W.heap x) room ≡ true
  object_header = let ob = kept_obj W s I x a K in header_is (at W.heap x) room (record { odd = W.odd x ob; shape = W.shape x ob; fits = object_fits })

  -- so its references are swept, and then what is behind it
  pub object_step : (f : ℕ) → sweep_page W.plan (suc f) a room s ≡ sweep_page W.plan f (a + size_at W x) (room - size_at W x) (sweep_references W.plan (refs_at W x) (suc a) s)
  unfolding sweep_page
  object_step f = rw (I.header x a K, object_header)

module _ (W : World) (g f a room : ℕ) (s : State) (G : Good W s) (Q : InQueue s g) (e : a + room ≡ g * W.plan.page + W.plan.page) (le : room ≤ suc f)
    (x : ℕ) (K : Kept W s x a) (pg : page_of W a ≡ g) (before : Before W s g a) where
  ob : W.Obj x
  ob = kept_obj W s G.inv x a K

  fits : size_at W x ≤ room
  fits = object_fits W g a room s G.inv e x K pg

  -- its references are swept first
  abbrev t : State
  t = sweep_references W.plan (refs_at W x) (suc a) s

  swept : Refs W s x a t (SafeReferences W.plan (refs_at W x) (suc a) s)
  swept = simp add-zero at (sweep_references_lem W (refs_at W x) 0 s G x a K (omega arith) (λ i p q. absurd (omega arith)))

  -- its last word
  last : ℕ
  last = a + (size_at W x - 1)

  before' : Before W t g (a + size_at W x)
  unfolding last
  before' x' y' k' pg' lt i low high = go (swept.grow.fresh x' y' k')
    where
      here : Region W s last
      here = kept_region W s G.inv x a (size_at W x - 1) K (omega (arith, W.shape x ob))

      on : page_of W last ≡ g
      on = same_page W.pos a (size_at W x) (size_at W x - 1) (kept_fits W s G.inv x a K) (omega (arith, W.shape x ob)) ∙ pg

      old : Kept W s x' y' → SameOrApart W x' y' x a → Dec (y' < a) → Swept W t x' y' i
      old k d (yes l) = swept.grow.swept x' y' i k low high (before x' y' k pg' l i low high)
      old k (inl (ex, ey)) (no l) = rw (ex, ey) (swept.done i low (rw ex at high))
      old k (inr (inl z)) (no l) = absurd (omega (arith, W.shape x' (kept_obj W s G.inv x' y' k)))
      old k (inr (inr z)) (no l) = absurd (omega arith)

      go : Kept W s x' y' ⊎ Fresh W s t y' → Swept W t x' y' i
      go (inl k) = old k (kept_apart W s G.inv x' y' x a k K) (dec_lt y' a)
      go (inr F) = let b : last < y' = F.beyond last here (on ∙ sym pg') in absurd (omega (arith, W.shape x ob))

  in_queue : InQueue t g
  in_queue = let (j, lt, q) = Q in (j, le_trans lt swept.grow.longer, swept.grow.prefix j lt ∙ q)

  page_place : PageOk W g f → PageDone W s g (sweep_page W.plan (suc f) a room s) (SafePage W.plan (suc f) a room s)
  unfolding SafePage
  page_place ih =
      let r : PageDone W t g (sweep_page W.plan f (a + size_at W x) (room - size_at W x) t) (SafePage W.plan f (a + size_at W x) (room - size_at W x) t) =
      ih (a + size_at W x) (room - size_at W x) t swept.good in_queue (omega (arith, fits)) (omega (arith, W.shape x ob, fits))
      (behind_place W t swept.good.inv swept.good.tiled g x a (room - size_at W x) (kept_place W t (swept.grow.kept x a K)) pg (omega (arith, fits))) before' in
      rw (object_step W g a room s G.inv e x K pg f, G.inv.header x a K, object_header W g a room s G.inv e x K pg, left_odd (at W.heap x) room (W.odd x ob)) (record { safe = (λ z. (swept.safe, r.safe), λ z. absurd (true≢false (sym z))); good = r.good; grow = grow_trans W s t _ swept.grow r.grow; done = r.done })

-- where an object was that is copied
module _ (W : World) (g f a room : ℕ) (s : State) (G : Good W s) (Q : InQueue s g) (e : a + room ≡ g * W.plan.page + W.plan.page) (le : room ≤ suc f)
    (m : Move) (mem : Memᴰ m s.moves) (pg : page_of W m.from ≡ g) (here : a ≡ m.from) (before : Before W s g a) where
  abbrev x : ℕ
  x = m.from

  gone_ob : W.Obj x
  gone_ob = (G.inv.moved m mem).object

  gone_place : Place W s x x
  gone_place = home gone_ob refl

  gone_fits : size_at W x ≤ room
  gone_fits = omega (arith, place-ends W s G.inv g x x gone_place pg)

  word : Left (at s.heap x) room
  word = left_word W s G.inv G.tiled.page0 m mem room gone_fits

  beyond : Before W s g (x + size_at W x)
  beyond x' y' k' pg' lt = go (kept_from W s G.inv x' y' k' m mem)
    where
      go : (y' + size_at W x' ≤ m.from) ⊎ (m.from + size_at W m.from ≤ y') → (i : ℕ) → 0 < i → i ≤ refs_at W x' → Swept W s x' y' i
      go (inl l) = before x' y' k' pg' (omega (arith, some_words W x' (kept_obj W s G.inv x' y' k')))
      go (inr l) = absurd (omega arith)

  page_left : PageOk W g f → PageDone W s g (sweep_page W.plan (suc f) a room s) (SafePage W.plan (suc f) a room s)
  unfolding sweep_page SafePage
  page_left ih =
      let r : PageDone W s g (sweep_page W.plan f (x + size_at W x) (room - size_at W x) s) (SafePage W.plan f (x + size_at W x) (room - size_at W x) s) =
      ih (x + size_at W x) (room - size_at W x) s G Q (omega (arith, gone_fits)) (omega (arith, some_words W x gone_ob, gone_fits))
      (behind_place W s G.inv G.tiled g x x (room - size_at W x) gone_place pg (omega (arith, gone_fits))) beyond in
      rw (here, left_no_header (at s.heap x) room room word, left_is (at s.heap x) room word, left_size W s G.inv m mem) (record {
        safe = (λ z. absurd (true≢false (sym z)), λ z. (left_step W s G.inv m mem room gone_fits, r.safe));
        good = r.good;
        grow = r.grow;
        done = r.done;
      })

page_more : (W : World) (g f : ℕ) → PageOk W g f → PageOk W g (suc f)
page_more W g f ih a room s G Q e le (at_stop h n none bl tp) before = go
  where
    go : PageDone W s g (sweep_page W.plan (suc f) a room s) (SafePage W.plan (suc f) a room s)
    go = unfold sweep_page SafePage in rw (h, n) (page_end W g a s _ (λ z. absurd (true≢false (sym z)), λ z. absurd (true≢false (sym z))) G none before)
page_more W g f ih a room s G Q e le (at_place x K pg) before = go (standing W s G.inv x a (queued_label W s G g Q a pg) K)
  where
    go : Standing W s x a → PageDone W s g (sweep_page W.plan (suc f) a room s) (SafePage W.plan (suc f) a room s)
    go (there k) = page_place W g f a room s G Q e le x k pg before ih
    go (left m mem ex ey) = page_left W g f a room s G Q e le m mem (ap (page_of W) (sym (ey ∙ ex)) ∙ pg) (ey ∙ ex) before ih

pub sweep_page_lem : (W : World) (g f : ℕ) → PageOk W g f
sweep_page_lem W g zero = page_none W g
sweep_page_lem W g (suc f) = page_more W g f (sweep_page_lem W g f)
