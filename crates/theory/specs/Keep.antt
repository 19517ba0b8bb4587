-- The page of an object that fits nowhere is kept: it has the new label, so that its objects stay, but for those that were copied.
-- That keeps the invariant.
use Rattle.std.specs.Prelude.{◌≡◌, refl, ◌≢◌, ◌⊎◌, ℕ, ◌+◌, ◌≤◌, ◌<◌, length, set}
use Rattle.std.proofs.Math.Path.{sym, ap, subst}
use Rattle.std.proofs.Common.{◌∙◌, add-zero, arith, get_or-set_same, get_or-set_other}
use Rattle.std.proofs.Math.Logic.{inl, inr}
use mathlib.Core.List.Memᴰ
use mathlib.Core.List.{List, [], ◌∷◌, ◌++◌, Memᴰ}
use Rattle.std.proofs.Math.Decide.{ℕ_discrete}
use Rattle.std.proofs.Math.ListN.{length-set}
use Rattle.rules.specs.Ranges.{at}
use Rattle.rules.specs.Collection.{Move, State, on_pages, top, keep_page, kept_pages}
use Rattle.rules.specs.Demands.{Becomes}
use Rattle.laws.specs.Words.{in_range}
use Rattle.theory.specs.KeptPages.{kept_more}
use Rattle.theory.specs.World.{becomes_map, page_of, label_of, size_at, refs_at, World, Gone, NotGone, AsBefore, Stays, Kept, stayed, went, Swept, Moved, moved_on, KeptPage, LabelledOrKept, Inv}
use Rattle.theory.specs.Places.{some_words, old_before}
use Rattle.theory.specs.Take.{Extends, ext_kept}

module _ (W : World) (s : State) (I : Inv W s) (x : ℕ) (ob : W.Obj x) (old : label_of W s x ≡ W.plan.old) (within : s.pages.kept ≤ length s.pages.queue) where
  -- the page, the labels and the state after
  abbrev g : ℕ
  g = page_of W x

  abbrev ls : List ℕ
  ls = set s.pages.labels g W.plan.new

  abbrev t : State
  t = on_pages s (keep_page W.plan (page_of W x) s.pages)

  -- ---- labels

  pub page_inside : g < length s.pages.labels
  page_inside = in_range s.pages.labels g (λ q. W.old≢0 (sym old ∙ q))

  was_old : at W.labels g ≡ W.plan.old
  was_old = old_before W s I x ob old

  pub label_there : at ls g ≡ W.plan.new
  label_there = get_or-set_same s.pages.labels g W.plan.new 0 page_inside

  pub label_else : (k : ℕ) → k ≢ g → at ls k ≡ at s.pages.labels k
  label_else k h = get_or-set_other s.pages.labels g k W.plan.new 0 h

  pub new_up : (k : ℕ) → at s.pages.labels k ≡ W.plan.new → at ls k ≡ W.plan.new
  new_up k e = label_else k (λ q. W.new≢old (sym e ∙ ap (at s.pages.labels) q ∙ old)) ∙ e

  -- no page is free that was not, and none is taken
  pub free_else : (k : ℕ) → at ls k ≡ 0 → at s.pages.labels k ≡ 0
  free_else k e = go (ℕ_discrete k g)
    where
      go : Dec (k ≡ g) → at s.pages.labels k ≡ 0
      go (yes q) = absurd (W.new≢0 (sym label_there ∙ ap (at ls) (sym q) ∙ e))
      go (no q) = sym (label_else k q) ∙ e

  pub free_up : (k : ℕ) → at s.pages.labels k ≡ 0 → at ls k ≡ 0
  free_up k e = label_else k (λ q. W.old≢0 (sym old ∙ ap (at s.pages.labels) (sym q) ∙ e)) ∙ e

  -- ---- the pages kept

  pub listed : kept_pages t.pages ≡ kept_pages s.pages ++ (g ∷ [])
  listed = kept_more W.plan g s.pages within

  listed_up : (k : ℕ) → Memᴰ k (kept_pages s.pages) → Memᴰ k (kept_pages t.pages)
  listed_up k h = subst (Memᴰ k) (sym listed) (Memᴰ.append_left (g ∷ []) h)

  kept_there : KeptPage W t g
  unfolding keep_page
  kept_there = record { listed = subst (Memᴰ g) (sym listed) (Memᴰ.append_right (kept_pages s.pages) (Memᴰ.head refl)); old = was_old; label = label_there }

  kept_up : (k : ℕ) → KeptPage W s k → KeptPage W t k
  unfolding keep_page
  kept_up k q = record { listed = listed_up k q.listed; old = q.old; label = new_up k q.label }

  -- ---- what comes to stay: the uncopied objects of the page

  pub stays_up : (a : ℕ) → Stays W s a → Stays W t a
  unfolding keep_page
  stays_up a q = record { object = q.object; label = new_up (page_of W a) q.label; not_gone = q.not_gone }

  pub record Comes (a b : ℕ) : Type 0 where
    pub object : W.Obj a
    pub page : page_of W a ≡ page_of W x
    pub not_gone : NotGone s a
    pub here : b ≡ a

  pub kept_split : (a b : ℕ) → Kept W t a b → Kept W s a b ⊎ Comes a b
  unfolding keep_page
  kept_split a b (went m mem ea eb) = inl (went m mem ea eb)
  kept_split a b (stayed q e) = go (ℕ_discrete (page_of W a) g)
    where
      go : Dec (page_of W a ≡ g) → Kept W s a b ⊎ Comes a b
      go (yes z) = inr (record { object = q.object; page = z; not_gone = q.not_gone; here = e })
      go (no z) = inl (stayed (record { object = q.object; label = sym (label_else (page_of W a) z) ∙ q.label; not_gone = q.not_gone }) e)

  -- they are as they were
  comes_same : (a b : ℕ) → Comes a b → (i : ℕ) → i < size_at W a → at s.heap (b + i) ≡ at W.heap (a + i)
  comes_same a b N i h = go (I.unmoved a N.object (ap (at s.pages.labels) N.page ∙ old))
    where
      go : Gone s a ⊎ AsBefore W s a → at s.heap (b + i) ≡ at W.heap (a + i)
      go (inl (m, mem, e)) = absurd (N.not_gone m mem (sym e))
      go (inr f) = ap (λ (k : ℕ). at s.heap (k + i)) N.here ∙ f i h

  pub keep_ext : Extends W s t
  unfolding keep_page top
  keep_ext = record {
    region = λ w r. record { label = new_up (page_of W w) r.label; below = r.below };
    words = λ w r. refl;
    moves = λ m h. h;
    stays = stays_up;
  }

  -- ---- the invariant

  pub keep_inv : Inv W t
  unfolding keep_page top
  keep_inv = record {
    heap_length = I.heap_length;
    labels_length = length-set s.pages.labels g W.plan.new ∙ I.labels_length;
    used = λ k h. used k h (ℕ_discrete k g);
    kept = λ k h. kept k (Memᴰ.append_cases (kept_pages s.pages) (subst (Memᴰ k) listed h));
    free = λ k h. free k h (I.free k h);
    copy_fresh = I.copy_fresh;
    copy_label = λ q. new_up s.pages.copy (I.copy_label q);
    fill_within = I.fill_within;
    moved = moved;
    unmoved = λ a ob e. I.unmoved a ob (sym (label_else (page_of W a) (λ q. W.new≢old (sym label_there ∙ ap (at ls) (sym q) ∙ e))) ∙ e);
    header = λ a b k. header a b (kept_split a b k);
    data_words = λ a b i k l h. data_word a b i l h (kept_split a b k);
    references = λ a b i k l h. reference a b i l h (kept_split a b k);
    copies_apart = I.copies_apart;
  }
    where
      used : (k : ℕ) → at W.labels k ≢ 0 → Dec (k ≡ g) → (at ls k ≡ at W.labels k) ⊎ KeptPage W t k
      used k h (yes e) = inr (subst (KeptPage W t) (sym e) kept_there)
      used k h (no q) = then (I.used k h)
        where
          then : LabelledOrKept W s k → (at ls k ≡ at W.labels k) ⊎ KeptPage W t k
          then (inl z) = inl (label_else k q ∙ z)
          then (inr z) = inr (kept_up k z)

      kept : (k : ℕ) → Memᴰ k (kept_pages s.pages) ⊎ Memᴰ k (g ∷ []) → KeptPage W t k
      kept k (inl z) = kept_up k (I.kept k z)
      kept k (inr z) = subst (KeptPage W t) (sym (Memᴰ.eq_of_singleton z)) kept_there

      free : (k : ℕ) → at W.labels k ≡ 0 → (at s.pages.labels k ≡ 0) ⊎ (at s.pages.labels k ≡ W.plan.new) → (at ls k ≡ 0) ⊎ (at ls k ≡ W.plan.new)
      free k h (inl e) = inl (free_up k e)
      free k h (inr e) = inr (new_up k e)

      moved : (m : Move) → Memᴰ m s.moves → Moved W t m
      moved m h = let M : Moved W s m = I.moved m h in moved_on W s t m M stays_up (λ j k. k) M.planted (new_up (page_of W m.to) M.label) M.below

      header : (a b : ℕ) → Kept W s a b ⊎ Comes a b → at s.heap b ≡ at W.heap a
      header a b (inl k) = I.header a b k
      header a b (inr N) = simp add-zero at (comes_same a b N 0 (some_words W a N.object))

      data_word : (a b i : ℕ) → refs_at W a < i → i < size_at W a → Kept W s a b ⊎ Comes a b → at s.heap (b + i) ≡ at W.heap (a + i)
      data_word a b i l h (inl k) = I.data_words a b i k l h
      data_word a b i l h (inr N) = comes_same a b N i h

      reference : (a b i : ℕ) → 0 < i → i ≤ refs_at W a → Kept W s a b ⊎ Comes a b
          → (at s.heap (b + i) ≡ at W.heap (a + i)) ⊎ Becomes (Kept W t) (at W.heap (a + i)) (at s.heap (b + i))
      reference a b i l h (inr N) = inl (comes_same a b N i (omega (arith, W.shape a N.object)))
      reference a b i l h (inl k) = then (I.references a b i k l h)
        where
          then : (at s.heap (b + i) ≡ at W.heap (a + i)) ⊎ Swept W s a b i
              → (at s.heap (b + i) ≡ at W.heap (a + i)) ⊎ Becomes (Kept W t) (at W.heap (a + i)) (at s.heap (b + i))
          then (inl e) = inl e
          then (inr p) = inr (becomes_map (ext_kept W s t keep_ext) _ _ p)
