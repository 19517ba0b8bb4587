-- What the invariant tells of labels and of places: each place fits its page, no two places meet, and a place on a page with the
-- new label is a retained object, or what one left that was copied out of a kept page.
use Rattle.std.specs.Prelude.{◌≡◌, ◌≢◌, ◌⊎◌, ℕ, suc, ◌+◌, ◌*◌, ◌/◌, ◌%◌, ◌≤◌, ◌<◌, length}
use Rattle.std.proofs.Math.Path.{refl, ap}
use Rattle.std.proofs.Common.{sym, ◌∙◌, subst, inl, inr, add-zero, mul-le-mul_right, mod-lt, arith}
use mathlib.Core.List.Memᴰ
use mathlib.Core.List.{List, [], ◌∷◌, Memᴰ}
use Rattle.std.proofs.Math.Nat.{zero-div, mul-div_cancel_left}
use Rattle.std.proofs.Math.Decide.{ℕ_discrete, dec_lt}
use Rattle.rules.specs.Ranges.{at}
use Rattle.rules.specs.Header.{size_of}
use Rattle.rules.specs.Collection.{Move, State, top, size_at_copy}
use Rattle.laws.specs.Headers.{Left}
use Rattle.laws.specs.Pages.{split_page, same_page, pages_apart}
use Rattle.laws.specs.Safe.{SafeStep}
use Rattle.laws.specs.Walk.{size}
use Rattle.laws.specs.Words.{in_range}
use Rattle.theory.specs.KeptPages.{not_kept}
use Rattle.theory.specs.World.{page_of, label_of, label_was, size_at, World, Gone, NotGone, AsBefore, Kept, stayed, went, Place, home, away, kept_place, Region, Moved, KeptPage, LabelledOrKept, Inv}

-- two places: the same one, or one ends before the other begins
abbrev pub SameOrApart : World → ℕ → ℕ → ℕ → ℕ → Type 0
SameOrApart W a b x y = ((a ≡ x) × (b ≡ y)) ⊎ ((b + size_at W a ≤ y) ⊎ (y + size_at W x ≤ b))

-- what stands at a place: the retained object, or the even word of one that was copied
pub data Standing (W : World) (s : State) (x y : ℕ) : Type 0 where
  there : Kept W s x y → Standing W s x y
  left : (m : Move) → Memᴰ m s.moves → x ≡ m.from → y ≡ x → Standing W s x y

-- an object's page was in use
pub obj_used : (W : World) (x : ℕ) → W.Obj x → label_was W x ≢ 0
obj_used W x ob q = go (W.kind x ob)
  where
    go : (label_was W x ≡ W.plan.old) ⊎ (label_was W x ≡ W.plan.new) → ⊥
    go (inl e) = W.old≢0 (sym e ∙ q)
    go (inr e) = W.new≢0 (sym e ∙ q)

pub some_words : (W : World) (x : ℕ) → W.Obj x → 0 < size_at W x
some_words W x ob = omega (arith, W.shape x ob)

-- an object was copied, or not
pub gone_or_not : (W : World) (s : State) (x : ℕ) → Gone s x ⊎ NotGone s x
gone_or_not W s x = in_moves s.moves
  where
    in_moves : (l : List Move) → ((m : Move) × Memᴰ m l × (x ≡ m.from)) ⊎ ((m : Move) → Memᴰ m l → m.from ≢ x)
    in_moves [] = inr (λ m h. absurd (Memᴰ.not-nil h))
    in_moves (k ∷ l) = go (in_moves l) (ℕ_discrete x k.from)
      where
        go : ((m : Move) × Memᴰ m l × (x ≡ m.from)) ⊎ ((m : Move) → Memᴰ m l → m.from ≢ x) → Dec (x ≡ k.from)
            → ((m : Move) × Memᴰ m (k ∷ l) × (x ≡ m.from)) ⊎ ((m : Move) → Memᴰ m (k ∷ l) → m.from ≢ x)
        go d (yes e) = inl (k, Memᴰ.head refl, e)
        go (inl (m, h, e)) (no q) = inl (m, Memᴰ.tail h, e)
        go (inr f) (no q) = inr (λ m h e. then m e (Memᴰ.cases_cons h))
          where
            then : (m : Move) → m.from ≡ x → (m ≡ k) ⊎ Memᴰ m l → ⊥
            then m e (inl z) = q (sym e ∙ ap (λ (j : Move). j.from) z)
            then m e (inr z) = f m z e

module _ (W : World) (s : State) (I : Inv W s) where
  -- ---- labels

  pub hinted_label : (g : ℕ) → at W.labels g ≡ W.plan.new → at s.pages.labels g ≡ W.plan.new
  hinted_label g e = go (I.used g (λ q. W.new≢0 (sym e ∙ q)))
    where
      go : LabelledOrKept W s g → at s.pages.labels g ≡ W.plan.new
      go (inl q) = q ∙ e
      go (inr k) = k.label

  pub old_before : (x : ℕ) → W.Obj x → label_of W s x ≡ W.plan.old → label_was W x ≡ W.plan.old
  old_before x ob e = go (I.used (page_of W x) (obj_used W x ob))
    where
      go : LabelledOrKept W s (page_of W x) → label_was W x ≡ W.plan.old
      go (inl q) = sym q ∙ e
      go (inr k) = k.old

  -- an object's page has the old label or the new one
  pub obj_label : (x : ℕ) → W.Obj x → (label_of W s x ≡ W.plan.old) ⊎ (label_of W s x ≡ W.plan.new)
  obj_label x ob = go (W.kind x ob) (I.used (page_of W x) (obj_used W x ob))
    where
      go : (label_was W x ≡ W.plan.old) ⊎ (label_was W x ≡ W.plan.new) → LabelledOrKept W s (page_of W x)
          → (label_of W s x ≡ W.plan.old) ⊎ (label_of W s x ≡ W.plan.new)
      go k (inr q) = inr q.label
      go (inl k) (inl e) = inl (e ∙ k)
      go (inr k) (inl e) = inr (e ∙ k)

  pub obj_label_used : (x : ℕ) → W.Obj x → label_of W s x ≢ 0
  obj_label_used x ob q = go (obj_label x ob)
    where
      go : (label_of W s x ≡ W.plan.old) ⊎ (label_of W s x ≡ W.plan.new) → ⊥
      go (inl e) = W.old≢0 (sym e ∙ q)
      go (inr e) = W.new≢0 (sym e ∙ q)

  -- a page that had the old label and has the new one is kept
  pub old_new_kept : (g : ℕ) → at W.labels g ≡ W.plan.old → at s.pages.labels g ≡ W.plan.new → KeptPage W s g
  old_new_kept g o n = go (I.used g (λ q. W.old≢0 (sym o ∙ q)))
    where
      go : LabelledOrKept W s g → KeptPage W s g
      go (inl q) = absurd (W.new≢old (sym n ∙ q ∙ o))
      go (inr k) = k

  -- a word on a page in use is in the heap
  pub word_inside : (w : ℕ) → label_of W s w ≢ 0 → w < length s.heap
  word_inside w h =
      let g : page_of W w < length s.pages.labels = in_range s.pages.labels (page_of W w) h in
      let k : suc (page_of W w) * W.plan.page ≤ length W.labels * W.plan.page = mul-le-mul_right W.plan.page (omega (arith, I.labels_length)) in
      omega (arith, W.heap_length, I.heap_length, split_page W.plan.page w, mod-lt w W.pos)

  -- ---- places

  pub place_obj : (x y : ℕ) → Place W s x y → W.Obj x
  place_obj x y (home ob e) = ob
  place_obj x y (away m mem ex ey) = subst W.Obj (sym ex) (I.moved m mem).object

  pub kept_obj : (x y : ℕ) → Kept W s x y → W.Obj x
  kept_obj x y k = place_obj x y (kept_place W s k)

  pub place_used : (x y : ℕ) → Place W s x y → label_of W s y ≢ 0
  place_used x y (home ob e) q = obj_label_used x ob (ap (label_of W s) (sym e) ∙ q)
  place_used x y (away m mem ex ey) q = W.new≢0 (sym (I.moved m mem).label ∙ ap (label_of W s) (sym ey) ∙ q)

  pub place_fits : (x y : ℕ) → Place W s x y → y % W.plan.page + size_at W x ≤ W.plan.page
  place_fits x y (home ob e) = rw e (W.fits x ob)
  place_fits x y (away m mem ex ey) = rw (ex, ey) (I.moved m mem).fits

  pub kept_fits : (x y : ℕ) → Kept W s x y → y % W.plan.page + size_at W x ≤ W.plan.page
  kept_fits x y k = place_fits x y (kept_place W s k)

  pub place_end : (g x y : ℕ) → Place W s x y → page_of W y ≡ g → y + size_at W x ≤ g * W.plan.page + W.plan.page
  place_end g x y k e = omega (arith, place_fits x y k, split_page W.plan.page y, ap (λ (j : ℕ). j * W.plan.page) e)

  -- on the copy page: below the fill
  pub place_top : (x y : ℕ) → Place W s x y → page_of W y ≡ s.pages.copy → y + size_at W x ≤ top W.plan s.pages
  place_top x y (home ob e) q = absurd (obj_used W x ob (ap (label_was W) (sym e) ∙ ap (at W.labels) q ∙ I.copy_fresh))
  place_top x y (away m mem ex ey) q = rw (ex, ey) ((I.moved m mem).below (ap (page_of W) (sym ey) ∙ q))

  -- copies are on pages that were free, objects were not
  away_home : (m : Move) → Memᴰ m s.moves → (x : ℕ) → W.Obj x → page_of W x ≢ page_of W m.to
  away_home m mem x ob q = obj_used W x ob (ap (at W.labels) q ∙ (I.moved m mem).fresh)

  pub place_apart : (a b x y : ℕ) → Place W s a b → Place W s x y → SameOrApart W a b x y
  place_apart a b x y (home oa ea) (home ox ex) = go (dec_lt a x) (dec_lt x a)
    where
      go : Dec (a < x) → Dec (x < a) → SameOrApart W a b x y
      go (yes l) d = inr (inl (omega (arith, W.apart a x oa ox l)))
      go (no n) (yes l) = inr (inr (omega (arith, W.apart x a ox oa l)))
      go (no n) (no m) = inl (omega arith, omega arith)
  place_apart a b x y (home oa ea) (away m mem ex ey) =
      inr (pages_apart W.plan.page b (size_at W a) y (size_at W x) (place_fits a b (home oa ea)) (place_fits x y (away m mem ex ey))
      (λ q. away_home m mem a oa (ap (page_of W) (sym ea) ∙ q ∙ ap (page_of W) ey)))
  place_apart a b x y (away m mem ea eb) (home ox ex) =
      inr (pages_apart W.plan.page b (size_at W a) y (size_at W x) (place_fits a b (away m mem ea eb)) (place_fits x y (home ox ex))
      (λ q. away_home m mem x ox (ap (page_of W) (sym ex) ∙ sym q ∙ ap (page_of W) eb)))
  place_apart a b x y (away m mem ea eb) (away k mek ex ey) = go (I.copies_apart m k mem mek)
    where
      go : (m ≡ k) ⊎ ((m.to + size_at W m.from ≤ k.to) ⊎ (k.to + size_at W k.from ≤ m.to)) → SameOrApart W a b x y
      go (inl e) = inl (ea ∙ ap (λ (z : Move). z.from) e ∙ sym ex, eb ∙ ap (λ (z : Move). z.to) e ∙ sym ey)
      go (inr (inl h)) = inr (inl (rw (ea, eb, ey) h))
      go (inr (inr h)) = inr (inr (rw (ex, ey, eb) h))

  pub kept_apart : (a b x y : ℕ) → Kept W s a b → Kept W s x y → SameOrApart W a b x y
  kept_apart a b x y k l = place_apart a b x y (kept_place W s k) (kept_place W s l)

  -- ---- retained objects

  -- their words are in the region
  pub kept_region : (x y i : ℕ) → Kept W s x y → i < size_at W x → Region W s (y + i)
  kept_region x y i (stayed st e) h = subst (λ (z : ℕ). Region W s (z + i)) (sym e) (record {
    label = rw pg st.label;
    below = λ q. absurd (obj_used W x st.object (ap (at W.labels) (sym pg ∙ q) ∙ I.copy_fresh));
  })
    where
      pg : page_of W (x + i) ≡ page_of W x
      pg = same_page W.pos x (size_at W x) i (W.fits x st.object) h
  kept_region x y i (went m mem ex ey) h = subst (λ (z : ℕ). Region W s (z + i)) (sym ey) (record {
    label = rw pg M.label;
    below = λ q. let b : m.to + size_at W m.from ≤ top W.plan s.pages = M.below (sym pg ∙ q) in omega (arith, h');
  })
    where
      M : Moved W s m
      M = I.moved m mem

      h' : i < size_at W m.from
      h' = rw ex at h

      pg : page_of W (m.to + i) ≡ page_of W m.to
      pg = same_page W.pos m.to (size_at W m.from) i M.fits h'

  pub kept_label : (x y : ℕ) → Kept W s x y → label_of W s y ≡ W.plan.new
  kept_label x y k = simp add-zero at (kept_region x y 0 k (some_words W x (kept_obj x y k))).label

  -- a place on a page with the new label is one, or what one left
  pub standing : (x y : ℕ) → label_of W s y ≡ W.plan.new → Place W s x y → Standing W s x y
  standing x y l (away m mem ex ey) = there (went m mem ex ey)
  standing x y l (home ob e) = go (gone_or_not W s x)
    where
      go : Gone s x ⊎ NotGone s x → Standing W s x y
      go (inl (m, mem, ex)) = left m mem ex e
      go (inr n) = there (stayed (record { object = ob; label = ap (label_of W s) (sym e) ∙ l; not_gone = n }) e)

  -- where no page is kept, it is one
  pub unkept_standing : s.pages.kept ≡ 0 → (x y : ℕ) → label_of W s y ≡ W.plan.new → Place W s x y → Kept W s x y
  unkept_standing none x y l p = go (standing x y l p)
    where
      go : Standing W s x y → Kept W s x y
      go (there k) = k
      go (left m mem ex ey) =
          let old : label_was W y ≡ W.plan.old = ap (label_was W) (ey ∙ ex) ∙ (I.moved m mem).old in
          absurd (not_kept s.pages none (page_of W y) (old_new_kept (page_of W y) old l).listed)

  -- none of its words is where an object was copied from
  pub kept_from : (x y : ℕ) → Kept W s x y → (m : Move) → Memᴰ m s.moves
      → (y + size_at W x ≤ m.from) ⊎ (m.from + size_at W m.from ≤ y)
  kept_from x y K m mem = go (place_apart x y m.from m.from (kept_place W s K) (home (I.moved m mem).object refl))
    where
      not_there : Kept W s x y → y ≢ m.from
      not_there (stayed q e) z = q.not_gone m mem (sym z ∙ e)
      not_there (went k mek ex ey) z = away_home k mek m.from (I.moved m mem).object (ap (page_of W) (sym z ∙ ey))

      go : SameOrApart W x y m.from m.from → (y + size_at W x ≤ m.from) ⊎ (m.from + size_at W m.from ≤ y)
      go (inl e) = absurd (not_there K e.1)
      go (inr d) = d

  -- ---- what an object left that was copied, where page 0 is free

  to_nonzero : at s.pages.labels 0 ≡ 0 → (m : Move) → Memᴰ m s.moves → m.to ≢ 0
  to_nonzero free0 m mem t = W.new≢0 (sym (I.moved m mem).label ∙ ap (label_of W s) t ∙ ap (at s.pages.labels) (zero-div W.plan.page) ∙ free0)

  -- the even word, and by it the length at the copy: that of the object
  pub left_word : at s.pages.labels 0 ≡ 0 → (m : Move) → Memᴰ m s.moves → (room : ℕ) → size_at W m.from ≤ room → Left (at s.heap m.from) room
  left_word free0 m mem room h = record {
    even = omega (arith, (I.moved m mem).planted);
    some = omega (arith, (I.moved m mem).planted, to_nonzero free0 m mem);
    within = omega (arith, some_words W m.from (I.moved m mem).object);
  }

  pub left_copy : (m : Move) → Memᴰ m s.moves → at s.heap m.from / 2 ≡ m.to
  left_copy m mem = ap (λ (k : ℕ). k / 2) (I.moved m mem).planted ∙ mul-div_cancel_left m.to (omega arith)

  pub left_size : (m : Move) → Memᴰ m s.moves → size_at_copy s.heap (at s.heap m.from) ≡ size_at W m.from
  unfolding size_at_copy
  left_size m mem = ap (size s.heap) (left_copy m mem) ∙ ap size_of (I.header m.from m.to (went m mem refl refl))

  pub left_step : (m : Move) → Memᴰ m s.moves → (room : ℕ) → size_at W m.from ≤ room → SafeStep s.heap (at s.heap m.from) room
  left_step m mem room h = record {
    inside = rw (left_copy m mem) (word_inside m.to (λ q. W.new≢0 (sym (I.moved m mem).label ∙ q)));
    some = rw (left_size m mem) (some_words W m.from (I.moved m mem).object);
    fits = rw (left_size m mem) h;
  }

  -- no place begins with 0
  pub place_nonzero : at s.pages.labels 0 ≡ 0 → (x y : ℕ) → Place W s x y → at s.heap y ≢ 0
  place_nonzero free0 x y (away m mem ex ey) q =
      let h : at s.heap y ≡ at W.heap x = I.header x y (went m mem ex ey) in
      omega (arith, W.odd x (place_obj x y (away m mem ex ey)))
  place_nonzero free0 x y (home ob e) q = go (obj_label x ob)
    where
      z : at s.heap x ≡ 0
      z = ap (at s.heap) (sym e) ∙ q

      old : Gone s x ⊎ AsBefore W s x → ⊥
      old (inl (m, mem, eq)) = to_nonzero free0 m mem (let a : 2 * m.to ≡ 0 = sym (I.moved m mem).planted ∙ ap (at s.heap) (sym eq) ∙ z in omega arith)
      old (inr f) = let a : at s.heap x ≡ at W.heap x = simp add-zero at (f 0 (some_words W x ob)) in omega (arith, W.odd x ob, z)

      new : Standing W s x x → ⊥
      new (there k) = let a : at s.heap x ≡ at W.heap x = I.header x x k in omega (arith, W.odd x ob, z)
      new (left m mem ex ey) = old (inl (m, mem, ex))

      go : (label_of W s x ≡ W.plan.old) ⊎ (label_of W s x ≡ W.plan.new) → ⊥
      go (inl l) = old (I.unmoved x ob l)
      go (inr l) = new (standing x x l (home ob refl))
