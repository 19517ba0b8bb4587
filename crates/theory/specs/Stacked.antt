-- Copies are stacked: the object that begins a copy page did not fit what was left of the copy page before it, which is the next lower
-- page of those that were free.
use Rattle.std.specs.Prelude.{◌≡◌, ◌≢◌, ◌⊎◌, Bool, cond, ℕ, ◌+◌, ◌*◌, ◌≤◌, ◌<◌}
use Rattle.std.proofs.Math.Path.{refl, sym, ap, subst}
use Rattle.std.proofs.Common.{◌∙◌}
use Rattle.std.proofs.Math.Logic.{inl, inr}
use Rattle.std.proofs.Math.Bool.{true, false}
use mathlib.Core.List.{Memᴰ}
use Rattle.std.proofs.Math.Nat.{mul-le-mul_right}
use Rattle.std.proofs.Math.Decide.{dec_lt}
use native.Mathlib.Omega.{arith}
use Rattle.std.proofs.Math.Dec.{leb}
use borrow.Author.Tests.{leb-false}
use Rattle.rules.specs.Ranges.{at}
use Rattle.rules.specs.Pages.{lowest_free}
use Rattle.rules.specs.Collection.{Move, Pages, State, take_page, with_room, top, put}
use Rattle.laws.specs.Pages.{first_on_page}
use Rattle.laws.specs.FreePages.{Lowest, none_below}
use Rattle.theory.specs.World.{page_of, size_at, World, Inv}
use Rattle.theory.specs.Put.{Ready, top_page, mem_split, mem_up, mem_new}
use Rattle.theory.specs.Forward.{Due, Avail, room_for, copied, open_room}
use Rattle.theory.specs.Upward.{Upward, take_past}

-- page h comes next behind page g of those that were free
pub record NextFree (W : World) (g h : ℕ) : Type 0 where
  pub low : W.plan.lo ≤ g
  pub less : g < h
  pub free : at W.labels g ≡ 0
  pub none : (j : ℕ) → g < j → j < h → at W.labels j ≢ 0

-- a copy on page g that ends too late for n words behind it
pub record EndsLate (W : World) (s : State) (g n : ℕ) : Type 0 where
  pub move : Move
  pub listed : Memᴰ move s.moves
  pub page : page_of W move.to ≡ g
  pub late : g * W.plan.page + W.plan.page < move.to + size_at W move.from + n

pub record Stacked (W : World) (s : State) : Type 0 where
  -- the copy page ends with a copy, up to its fill
  pub last : s.pages.copy ≢ 0
      → (j : Move) × Memᴰ j s.moves × (page_of W j.to ≡ s.pages.copy) × (j.to + size_at W j.from ≡ top W.plan s.pages)
  pub begins : (g h : ℕ) → NextFree W g h → h ≤ s.pages.copy → (k : Move) → Memᴰ k s.moves → k.to ≡ h * W.plan.page
      → EndsLate W s g (size_at W k.from)

pub stacked_none : (W : World) (s : State) → s.pages.copy ≡ 0 → Stacked W s
stacked_none W s e = record { last = λ n. absurd (n e); begins = λ g h N le. absurd (omega (arith, N.less)) }

-- nothing was copied
pub stacked_same : (W : World) (s t : State) → t.moves ≡ s.moves → t.pages.copy ≡ s.pages.copy → t.pages.fill ≡ s.pages.fill
    → Stacked W s → Stacked W t
unfolding top
stacked_same W s t moves copy fill S = record {
  last = λ n.
      let (j, mem, pg, end) = S.last (λ e. n (copy ∙ e)) in
      (j, subst (Memᴰ j) (sym moves) mem, pg ∙ sym copy, end ∙ sym same_top);
  begins = λ g h N le k mem e. up (S.begins g h N (rw copy at le) k (subst (Memᴰ k) moves mem) e);
}
  where
    same_top : top W.plan t.pages ≡ top W.plan s.pages
    same_top = omega (arith, ap (λ (i : ℕ). i * W.plan.page) copy)

    up : {g n : ℕ} → EndsLate W s g n → EndsLate W t g n
    up l = record { move = l.move; listed = subst (Memᴰ l.move) (sym moves) l.listed; page = l.page; late = l.late }

-- ---- an object copied

module _ (W : World) (s : State) (I : Inv W s) (U : Upward W s.pages) (S : Stacked W s) (fp : 0 < s.pages.fill)
    (x : ℕ) (D : Due W s x) (av : Avail W s (size_at W x)) where
  abbrev t : State
  t = room_for W s x

  abbrev t' : State
  t' = copied W s x

  R : Ready W t x
  R = (open_room W s I x D av).ready

  abbrev new : Move
  new = record { from = x; to = top W.plan t.pages }

  up : {g n : ℕ} → EndsLate W s g n → EndsLate W t' g n
  up e = record { move = e.move; listed = mem_up W t x R e.move e.listed; page = e.page; late = e.late }

  -- the copy page is as it was, with room; or it is the lowest free page, since there was none
  room : (t.pages ≡ s.pages) ⊎ ((t.pages ≡ take_page W.plan s.pages) × (W.plan.page < s.pages.fill + size_at W x))
  unfolding with_room
  room = go (leb (s.pages.fill + size_at W x) W.plan.page) refl
    where
      go : (b : Bool) → leb (s.pages.fill + size_at W x) W.plan.page ≡ b
          → (cond b s.pages (take_page W.plan s.pages) ≡ s.pages)
          ⊎ ((cond b s.pages (take_page W.plan s.pages) ≡ take_page W.plan s.pages) × (W.plan.page < s.pages.fill + size_at W x))
      go true e = inl refl
      go false e = inr (refl, leb-false _ _ e)

  -- the page behind which the lowest free one comes next is the copy page before
  module _ (lt : W.plan.page < s.pages.fill + size_at W x) where
    abbrev L : Lowest s.pages.labels W.plan.lo W.plan.hi
    L = av.page lt

    abbrev low : ℕ
    low = lowest_free s.pages.labels W.plan.lo W.plan.hi

    before_low : (g : ℕ) → NextFree W g low → g ≡ s.pages.copy
    before_low g N = omega (arith, not_behind, not_before)
      where
        not_behind : g ≤ s.pages.copy
        not_behind = go (dec_lt s.pages.copy g)
          where
            go : Dec (s.pages.copy < g) → g ≤ s.pages.copy
            go (no n) = omega arith
            go (yes l) = absurd (none_below s.pages.labels W.plan.lo W.plan.hi g N.low (omega (arith, N.less, L.high)) N.less
                (U.behind g l N.free))

        not_before : s.pages.copy ≤ g
        not_before = go (dec_lt g s.pages.copy)
          where
            go : Dec (g < s.pages.copy) → s.pages.copy ≤ g
            go (no n) = omega arith
            go (yes l) = absurd (N.none s.pages.copy l (take_past W s I av.unkept L U) I.copy_fresh)

    ends_late : (g : ℕ) → NextFree W g low → EndsLate W t' g (size_at W x)
    unfolding top
    ends_late g N =
        let e : g ≡ s.pages.copy = before_low g N in
        let (j, mem, pg, end) = S.last (omega (arith, N.low, W.low)) in
        let same : g * W.plan.page ≡ s.pages.copy * W.plan.page = ap (λ (i : ℕ). i * W.plan.page) e in
        record { move = j; listed = mem_up W t x R j mem; page = pg ∙ sym e; late = omega arith }

  pub copy_stacked : Stacked W t'
  unfolding put
  copy_stacked = record { last = λ n. (new, mem_new W t x R, top_page W t x R, ends); begins = begins }
    where
      ends : top W.plan t.pages + size_at W x ≡ top W.plan t'.pages
      ends = unfold top in omega arith

      begins : (g h : ℕ) → NextFree W g h → h ≤ t.pages.copy → (k : Move) → Memᴰ k t'.moves → k.to ≡ h * W.plan.page
          → EndsLate W t' g (size_at W k.from)
      begins g h N le k mem e = go (mem_split W t x R k mem)
        where
          page : page_of W k.to ≡ h
          page = ap (page_of W) e ∙ first_on_page W.pos h

          to : k ≡ new → k.to ≡ top W.plan t.pages
          to q = ap (λ (j : Move). j.to) q

          older : Memᴰ k s.moves → Dec (s.pages.copy < h) → EndsLate W t' g (size_at W k.from)
          older old (no n) = up (S.begins g h N (omega arith) k old e)
          older old (yes l) =
              let M = I.moved k old in
              absurd (W.new≢0 (sym M.label ∙ ap (at s.pages.labels) page ∙ U.behind h l (ap (at W.labels) (sym page) ∙ M.fresh)))

          newest : k ≡ new → (t.pages ≡ s.pages) ⊎ ((t.pages ≡ take_page W.plan s.pages) × (W.plan.page < s.pages.fill + size_at W x))
              → EndsLate W t' g (size_at W k.from)
          newest q (inl same) =
              let at_top : h * W.plan.page ≡ s.pages.copy * W.plan.page + s.pages.fill = sym e ∙ to q ∙ unfold top in ap (λ (p : Pages). top W.plan p) same in
              let below : h ≤ s.pages.copy = rw (ap (λ (p : Pages). p.copy) same) at le in
              absurd (omega (arith, mul-le-mul_right W.plan.page below))
          newest q (inr (taken, lt)) =
              let at_top : h * W.plan.page ≡ low lt * W.plan.page = sym e ∙ to q ∙ unfold top take_page in (ap (λ (p : Pages). top W.plan p) taken ∙ omega arith) in
              let here : h ≡ low lt = sym (first_on_page W.pos h) ∙ ap (page_of W) at_top ∙ first_on_page W.pos (low lt) in
              let late : EndsLate W t' g (size_at W x) = ends_late lt g (subst (NextFree W g) here N) in
              subst (λ (y : ℕ). EndsLate W t' g (size_at W y)) (sym (ap (λ (j : Move). j.from) q)) late

          go : Memᴰ k s.moves ⊎ (k ≡ new) → EndsLate W t' g (size_at W k.from)
          go (inl old) = older old (dec_lt s.pages.copy h)
          go (inr q) = newest q room
