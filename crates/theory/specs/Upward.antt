-- Copies go to free pages from the lowest on: up to the copy page no page is free, and of those behind it none is
-- taken. So the copy page is the last one taken, whatever its number in the queue.
use Rattle.std.specs.Prelude.{◌≡◌, refl, ◌≢◌, Bool, true, false, cond, List, ℕ, ◌+◌, ◌≤◌, ◌<◌, leb}
use Rattle.std.proofs.Common.{sym, ap, ◌∙◌, arith, get_or-set_same, leb-false}
use Rattle.std.proofs.Math.Decide.{ℕ_discrete, dec_lt}
use Rattle.std.proofs.Math.Seq.{get_or-set_other}
use Rattle.rules.specs.Ranges.{at}
use Rattle.rules.specs.Pages.{lowest_free}
use Rattle.rules.specs.Collection.{Pages, State, take_page, with_room, put, keep_page}
use Rattle.laws.specs.FreePages.{Lowest, none_below}
use Rattle.theory.specs.World.{size_at, World, Inv}
use Rattle.theory.specs.Take.{page_inside}
use Rattle.theory.specs.Keep.{free_else, free_up}
use Rattle.theory.specs.Forward.{Due, Within, Avail, copied, keeping}

pub record Upward (W : World) (p : Pages) : Type 0 where
  pub up_to : (g : ℕ) → W.plan.lo ≤ g → g ≤ p.copy → at p.labels g ≢ 0
  pub behind : (g : ℕ) → p.copy < g → at W.labels g ≡ 0 → at p.labels g ≡ 0

-- ---- a page taken

module _ (W : World) (s : State) (I : Inv W s) (unkept : s.pages.kept ≡ 0)
    (L : Lowest s.pages.labels W.plan.lo W.plan.hi) where
  abbrev g : ℕ
  g = lowest_free s.pages.labels W.plan.lo W.plan.hi

  -- it stands behind the copy page before, up to which none was free
  pub take_past : Upward W s.pages → s.pages.copy < g
  take_past U = go (dec_lt s.pages.copy g)
    where
      go : Dec (s.pages.copy < g) → s.pages.copy < g
      go (yes h) = h
      go (no n) = absurd (U.up_to g L.low (omega arith) L.free)

  take_upward : Upward W s.pages → Upward W (take_page W.plan s.pages)
  unfolding take_page
  take_upward U = record {
    up_to = λ h a b. up_to h a b (ℕ_discrete h g);
    behind = λ h a e. else h (omega arith) ∙ U.behind h (omega (arith, take_past U)) e;
  }
    where
      else : (h : ℕ) → h ≢ g → at (take_page W.plan s.pages).labels h ≡ at s.pages.labels h
      else h n = get_or-set_other s.pages.labels g h W.plan.new 0 n

      up_to : (h : ℕ) → W.plan.lo ≤ h → h ≤ g → Dec (h ≡ g) → at (take_page W.plan s.pages).labels h ≢ 0
      up_to h a b (yes q) z =
          let new = get_or-set_same s.pages.labels g W.plan.new 0 (page_inside W s I unkept L) in
          W.new≢0 (sym new ∙ ap (at (take_page W.plan s.pages).labels) (sym q) ∙ z)
      up_to h a b (no q) z =
          let free = sym (else h q) ∙ z in
          none_below s.pages.labels W.plan.lo W.plan.hi h a (omega (arith, L.high)) (omega arith) free

-- ---- an object copied, a page kept

pub copy_upward : (W : World) (s : State) → Inv W s → (x : ℕ) → Avail W s (size_at W x) → Upward W s.pages
    → Upward W (copied W s x).pages
unfolding with_room put
copy_upward W s I x av U = go (leb (s.pages.fill + size_at W x) W.plan.page) refl
  where
    filled : {p : Pages} {n : ℕ} → Upward W p
        → Upward W (record { labels = p.labels; queue = p.queue; copy = p.copy; fill = n; kept = p.kept })
    filled q = record { up_to = q.up_to; behind = q.behind }

    go : (b : Bool) → leb (s.pages.fill + size_at W x) W.plan.page ≡ b
        → Upward W (put W.plan (size_at W x) x (cond b s.pages (take_page W.plan s.pages)) s).pages
    go true e = filled U
    go false e = filled (take_upward W s I av.unkept (av.page (leb-false _ _ e)) U)

pub keep_upward : (W : World) (s : State) → Inv W s → Within s → (x : ℕ) → Due W s x → Upward W s.pages
    → Upward W (keeping W s x).pages
unfolding keep_page
keep_upward W s I within x D U = record {
  up_to = λ g a b e. U.up_to g a b (free_else W s I x D.object D.old within g e);
  behind = λ g a e. free_up W s I x D.object D.old within g (U.behind g a e);
}

-- before the first copy there is no copy page, and page 0 belongs to no block
pub none_upward : (W : World) (p : Pages) → p.copy ≡ 0 → p.labels ≡ W.labels → Upward W p
none_upward W p e same = record {
  up_to = λ g a b. absurd (omega (arith, W.low));
  behind = λ g a z. ap (λ (l : List ℕ). at l g) same ∙ z;
}
