-- Places tile the pages in use from their first words on, and only zeros stand behind the last; the queue holds each page with
-- the new label once, the copy page last as long as no page is kept. A page taken, an object put, a page kept and a reference stored keep
-- both.
use Rattle.std.specs.Prelude.{◌≡◌, refl, ◌≢◌, ◌⊎◌, length, set}
use Rattle.std.proofs.Common.{sym, ◌∙◌, subst, inl, add-zero, get_or-set_same}
use Rattle.std.proofs.Math.Path.{ap}
use Rattle.std.proofs.Math.Logic.{inr}
use mathlib.Core.List.{List, [], ◌∷◌}
use Prim.Native.Nat.{ℕ, suc, ◌+◌, ◌*◌, ◌≤◌, ◌<◌}
use Rattle.std.proofs.Math.Decide.{ℕ_discrete}
use native.Mathlib.Omega.{arith}
use Rattle.std.proofs.Math.ListN.{length-append}
use Rattle.std.proofs.Math.Seq.{get_or-set_other, get_or-append_seam}
use Rattle.rules.specs.Ranges.{at}
use Rattle.rules.specs.Pages.{lowest_free}
use Rattle.rules.specs.Collection.{State, on_pages, take_page, top, put, keep_page}
use Rattle.laws.specs.Pages.{same_page}
use Rattle.laws.specs.FreePages.{Lowest}
use Rattle.theory.specs.Queue.{Queued, join}
use Rattle.theory.specs.World.{page_of, label_of, size_at, World, Place, home, away, kept_place, Region, Inv}
use Rattle.theory.specs.Places.{SameOrApart, some_words, kept_obj, kept_fits, place_used, place_apart}
use Rattle.theory.specs.Put.{Ready, copy_label, top_page, put_out, put_else, place_up, place_split, mem_new}
use Rattle.theory.specs.Take.{page_inside, not_page}
use Rattle.theory.specs.Keep.{page_inside as kept-inside, new_up, free_else, free_up}
use Rattle.theory.specs.Store.{stored, Slot, index_inside, slot_region, stored_else, place_up as store-place, place_back as store-back}

-- what comes behind a place on page g that ends at z
pub data Next (W : World) (s : State) (g z : ℕ) : Type 0 where
  another : (x : ℕ) → Place W s x z → page_of W z ≡ g → Next W s g z
  full : z ≡ g * W.plan.page + W.plan.page → Next W s g z
  blank : ((w : ℕ) → page_of W w ≡ g → z ≤ w → at s.heap w ≡ 0) → (g ≡ s.pages.copy → z ≡ top W.plan s.pages) → Next W s g z

-- page g begins with a place, or it is the copy page and nothing is put there yet
abbrev pub Begins : World → State → ℕ → Type 0
Begins W s g = ((x : ℕ) × Place W s x (g * W.plan.page)) ⊎ ((g ≡ s.pages.copy) × (s.pages.fill ≡ 0))

pub record Tiled (W : World) (s : State) : Type 0 where
  pub next : (x y : ℕ) → Place W s x y → Next W s (page_of W y) (y + size_at W x)
  pub first : (g : ℕ) → at s.pages.labels g ≢ 0 → Begins W s g
  -- only zeros stand from the fill of the copy page on, and on free pages
  pub copy_blank : (w : ℕ) → page_of W w ≡ s.pages.copy → top W.plan s.pages ≤ w → at s.heap w ≡ 0
  pub free_blank : (w : ℕ) → label_of W s w ≡ 0 → at s.heap w ≡ 0
  -- no copy page yet, or one with the new label; and page 0 is free
  pub copy_is : ((s.pages.copy ≡ 0) × (s.pages.fill ≡ W.plan.page)) ⊎ (at s.pages.labels s.pages.copy ≡ W.plan.new)
  pub page0 : at s.pages.labels 0 ≡ 0

pub record Lined (W : World) (s : State) : Type 0 where
  pub queued : Queued W.plan.new s.pages.labels s.pages.queue
  -- copies go to the last page of the queue, as long as there are any
  pub last : s.pages.kept ≡ 0 → s.pages.fill < W.plan.page → (l : ℕ) × (length s.pages.queue ≡ suc l) × (at s.pages.queue l ≡ s.pages.copy)

-- ---- a page taken

module _ (W : World) (s : State) (I : Inv W s) (unkept : s.pages.kept ≡ 0) (L : Lowest s.pages.labels W.plan.lo W.plan.hi) where
  abbrev g : ℕ
  g = lowest_free s.pages.labels W.plan.lo W.plan.hi

  abbrev t : State
  t = on_pages s (take_page W.plan s.pages)

  abbrev ls : List ℕ
  ls = set s.pages.labels g W.plan.new

  take_place : (a b : ℕ) → Place W s a b → Place W t a b
  unfolding take_page
  take_place a b (home ob e) = home ob e
  take_place a b (away m mem ea eb) = away m mem ea eb

  take_back : (a b : ℕ) → Place W t a b → Place W s a b
  unfolding take_page
  take_back a b (home ob e) = home ob e
  take_back a b (away m mem ea eb) = away m mem ea eb

  pub take_tiled : 0 < s.pages.fill → Tiled W s → Tiled W t
  unfolding take_page
  take_tiled fp T = record {
    next = λ x y k. next x y (place_used W s I x y (take_back x y k)) (T.next x y (take_back x y k));
    first = λ h e. begins h (ℕ_discrete h g) e;
    copy_blank = λ w e l. T.free_blank w (ap (at s.pages.labels) e ∙ L.free);
    free_blank = λ w e. T.free_blank w (was_free w e (ℕ_discrete (page_of W w) g));
    copy_is = inr (get_or-set_same s.pages.labels g W.plan.new 0 (page_inside W s I unkept L));
    page0 = get_or-set_other s.pages.labels g 0 W.plan.new 0 (λ q. omega (arith, W.low, L.low)) ∙ T.page0;
  }
    where
      next : (x y : ℕ) → label_of W s y ≢ 0 → Next W s (page_of W y) (y + size_at W x) → Next W t (page_of W y) (y + size_at W x)
      next x y lc (another x' k e) = another x' (take_place _ _ k) e
      next x y lc (full e) = full e
      next x y lc (blank z q) = blank z (λ e. absurd (not_page W s I unkept L (page_of W y) lc e))

      begins : (h : ℕ) → Dec (h ≡ g) → at ls h ≢ 0 → Begins W t h
      begins h (yes q) e = inr (q, refl)
      begins h (no q) e = then (T.first h (λ z. e (get_or-set_other s.pages.labels g h W.plan.new 0 q ∙ z)))
        where
          then : Begins W s h → Begins W t h
          then (inl (x, k)) = inl (x, take_place x (h * W.plan.page) k)
          then (inr (a, b)) = absurd (omega arith)

      was_free : (w : ℕ) → at ls (page_of W w) ≡ 0 → Dec (page_of W w ≡ g) → label_of W s w ≡ 0
      was_free w e (yes q) = ap (at s.pages.labels) q ∙ L.free
      was_free w e (no q) = sym (get_or-set_other s.pages.labels g (page_of W w) W.plan.new 0 q) ∙ e

  pub take_lined : Lined W s → Lined W t
  unfolding take_page
  take_lined Q = record {
    queued = join W.plan.new s.pages.labels s.pages.queue g (page_inside W s I unkept L) (λ q. W.new≢0 (sym q ∙ L.free)) Q.queued;
    last = λ u h. (length s.pages.queue, length-append s.pages.queue (g ∷ []) ∙ omega arith, get_or-append_seam s.pages.queue g [] 0);
  }

-- ---- an object put

module _ (W : World) (s : State) (x : ℕ) (R : Ready W s x) where
  abbrev s' : State
  s' = put W.plan (size_at W x) x s.pages s

  -- a word of a page that is retained, or free, is not where x was
  not_x : (w : ℕ) → label_of W s w ≢ W.plan.old → w ≢ x
  not_x w h q = h (ap (label_of W s) q ∙ R.old)

  -- nor is a blank one
  not_blank : (w : ℕ) → at s.heap w ≡ 0 → w ≢ x
  not_blank w e q =
      let h : at s.heap x ≡ at W.heap x = simp add-zero at (R.same 0 (some_words W x R.object)) in
      let z : at s.heap x ≡ 0 = ap (at s.heap) (sym q) ∙ e in
      omega (arith, W.odd x R.object)

  above : (w : ℕ) → page_of W w ≡ s.pages.copy → top W.plan s.pages + size_at W x ≤ w → at s'.heap w ≡ at s.heap w
  above w e l = put_out W s x R w (not_x w (λ q. W.new≢old (sym (copy_label W s x R) ∙ ap (at s.pages.labels) (sym e) ∙ q))) (inr l)

  pub put_tiled : Tiled W s → Tiled W s'
  unfolding put top
  put_tiled T = record {
    next = λ a b k. next a b (place_split W s x R a b k);
    first = λ g e. begins g (T.first g e);
    copy_blank = λ w e l. above w e (omega arith) ∙ T.copy_blank w e (omega arith);
    free_blank = λ w e. put_else W s x R w (not_x w (λ q. W.old≢0 (sym q ∙ e)))
        (λ q. W.new≢0 (sym (copy_label W s x R) ∙ ap (at s.pages.labels) (sym q) ∙ e)) ∙ T.free_blank w e;
    copy_is = inr (copy_label W s x R);
    page0 = T.page0;
  }
    where
      y : ℕ
      y = top W.plan s.pages

      pg : page_of W y ≡ s.pages.copy
      pg = top_page W s x R

      newest : Place W s' x y
      newest = away (record { from = x; to = y }) (mem_new W s x R) refl refl

      before : (a b : ℕ) → Dec (page_of W b ≡ s.pages.copy) → Next W s (page_of W b) (b + size_at W a) → Next W s' (page_of W b) (b + size_at W a)
      before a b d (another a' k e) = another a' (place_up W s x R _ _ k) e
      before a b d (full e) = full e
      before a b (yes q) (blank f h) = another x (subst (Place W s' x) (sym (h q)) newest) (rw (h q) (pg ∙ sym q))
      before a b (no q) (blank f h) = blank
          (λ w e l. put_else W s x R w (not_blank w (f w e l)) (λ z. q (sym e ∙ z)) ∙ f w e l)
          (λ z. absurd (q z))

      fresh : Dec (s.pages.fill + size_at W x ≡ W.plan.page) → Next W s' (page_of W y) (y + size_at W x)
      fresh (yes e) = full (rw pg (omega arith))
      fresh (no n) = blank (λ w e l. above w (e ∙ pg) l ∙ T.copy_blank w (e ∙ pg) (omega arith)) (λ q. omega arith)

      next : (a b : ℕ) → Place W s a b ⊎ ((a ≡ x) × (b ≡ y)) → Next W s' (page_of W b) (b + size_at W a)
      next a b (inl k) = before a b (ℕ_discrete (page_of W b) s.pages.copy) (T.next a b k)
      next a b (inr (ea, eb)) = rw (ea, eb) (fresh (ℕ_discrete (s.pages.fill + size_at W x) W.plan.page))

      begins : (g : ℕ) → Begins W s g → Begins W s' g
      begins g (inl (a, k)) = inl (a, place_up W s x R a (g * W.plan.page) k)
      begins g (inr (e, z)) = inl (x, subst (Place W s' x) (omega (arith, ap (λ (k : ℕ). k * W.plan.page) e)) newest)

  pub put_lined : Lined W s → Lined W s'
  unfolding put
  put_lined Q = record { queued = Q.queued; last = λ u h. Q.last u (omega arith) }

-- ---- a page kept

module _ (W : World) (s : State) (I : Inv W s) (x : ℕ) (ob : W.Obj x) (old : label_of W s x ≡ W.plan.old) (within : s.pages.kept ≤ length s.pages.queue) where
  abbrev k' : State
  k' = on_pages s (keep_page W.plan (page_of W x) s.pages)

  keep_place : (a b : ℕ) → Place W s a b → Place W k' a b
  unfolding keep_page
  keep_place a b (home ob e) = home ob e
  keep_place a b (away m mem ea eb) = away m mem ea eb

  keep_back : (a b : ℕ) → Place W k' a b → Place W s a b
  unfolding keep_page
  keep_back a b (home ob e) = home ob e
  keep_back a b (away m mem ea eb) = away m mem ea eb

  pub keep_tiled : Tiled W s → Tiled W k'
  unfolding keep_page top
  keep_tiled T = record {
    next = λ a b k. next a b (T.next a b (keep_back a b k));
    first = λ h e. begins h (T.first h (λ z. e (free_up W s I x ob old within h z)));
    copy_blank = T.copy_blank;
    free_blank = λ w e. T.free_blank w (free_else W s I x ob old within (page_of W w) e);
    copy_is = copy T.copy_is;
    page0 = free_up W s I x ob old within 0 T.page0;
  }
    where
      next : (a b : ℕ) → Next W s (page_of W b) (b + size_at W a) → Next W k' (page_of W b) (b + size_at W a)
      next a b (another a' k e) = another a' (keep_place _ _ k) e
      next a b (full e) = full e
      next a b (blank z q) = blank z q

      begins : (h : ℕ) → Begins W s h → Begins W k' h
      begins h (inl (a, k)) = inl (a, keep_place a (h * W.plan.page) k)
      begins h (inr z) = inr z

      copy : ((s.pages.copy ≡ 0) × (s.pages.fill ≡ W.plan.page)) ⊎ (at s.pages.labels s.pages.copy ≡ W.plan.new)
          → ((s.pages.copy ≡ 0) × (s.pages.fill ≡ W.plan.page)) ⊎ (at (set s.pages.labels (page_of W x) W.plan.new) s.pages.copy ≡ W.plan.new)
      copy (inl z) = inl z
      copy (inr e) = inr (new_up W s I x ob old within s.pages.copy e)

  pub keep_lined : Lined W s → Lined W k'
  unfolding keep_page
  keep_lined Q = record {
    queued = join W.plan.new s.pages.labels s.pages.queue (page_of W x) (kept-inside W s I x ob old within) (λ q. W.new≢old (sym q ∙ old)) Q.queued;
    last = λ u h. absurd (omega arith);
  }

-- ---- a reference stored

module _ (W : World) (t : State) (I : Inv W t) (x y i u : ℕ) (S : Slot W t x y i u) where
  abbrev t' : State
  t' = stored t (y + i) u

  pub store_tiled : Tiled W t → Tiled W t'
  store_tiled T = record {
    next = λ a b k. next a b (store-back W t I x y i u S a b k) (T.next a b (store-back W t I x y i u S a b k));
    first = λ g e. begins g (T.first g e);
    copy_blank = λ w e l. other w (λ q. let b : y + i < top W.plan t.pages = region.below (ap (page_of W) (sym q) ∙ e) in omega arith) ∙ T.copy_blank w e l;
    free_blank = λ w e. other w (λ q. W.new≢0 (sym region.label ∙ ap (label_of W t) (sym q) ∙ e)) ∙ T.free_blank w e;
    copy_is = T.copy_is;
    page0 = T.page0;
  }
    where
      region : Region W t (y + i)
      region = slot_region W t I x y i u S

      other : (w : ℕ) → w ≢ y + i → at t'.heap w ≡ at t.heap w
      other = stored_else W t I x y i u S

      up : (a b : ℕ) → Place W t a b → Place W t' a b
      up = store-place W t I x y i u S

      ob : W.Obj x
      ob = kept_obj W t I x y S.kept

      lt : i < size_at W x
      lt = index_inside W t I x y i u S

      same : page_of W (y + i) ≡ page_of W y
      same = same_page W.pos y (size_at W x) i (kept_fits W t I x y S.kept) lt

      -- a word behind the last place of its page is not the one that is stored
      clear : (a b w : ℕ) → Place W t a b → ((w : ℕ) → page_of W w ≡ page_of W b → b + size_at W a ≤ w → at t.heap w ≡ 0)
          → page_of W w ≡ page_of W b → b + size_at W a ≤ w → SameOrApart W a b x y → w ≢ y + i
      clear a b w k f e l (inl (ea, eb)) q = let l' : b + size_at W x ≤ w = rw ea at l in omega (arith, lt)
      clear a b w k f e l (inr (inl z)) q =
          let o : at t.heap y ≡ 0 = f y (sym same ∙ ap (page_of W) (sym q) ∙ e) z in
          let h : at t.heap y ≡ at W.heap x = I.header x y S.kept in
          omega (arith, W.odd x ob)
      clear a b w k f e l (inr (inr z)) q = omega (arith, lt)

      next : (a b : ℕ) → Place W t a b → Next W t (page_of W b) (b + size_at W a) → Next W t' (page_of W b) (b + size_at W a)
      next a b k (another a' k' e) = another a' (up _ _ k') e
      next a b k (full e) = full e
      next a b k (blank f h) = blank (λ w e l. other w (clear a b w k f e l (place_apart W t I a b x y k (kept_place W t S.kept))) ∙ f w e l) h

      begins : (g : ℕ) → Begins W t g → Begins W t' g
      begins g (inl (a, k)) = inl (a, up a (g * W.plan.page) k)
      begins g (inr z) = inr z

  pub store_lined : Lined W t → Lined W t'
  store_lined Q = record { queued = Q.queued; last = Q.last }
