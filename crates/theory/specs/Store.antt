-- A reference stored: the sweep writes to a retained object's reference what it has become. That keeps the invariant.
use Rattle.std.specs.Prelude.{◌≡◌, refl, ◌≢◌, ◌⊎◌, ℕ, ◌+◌, ◌≤◌, ◌<◌, set}
use Rattle.std.proofs.Common.{sym, ap, ◌∙◌, inl, inr, add-zero, arith, length-set, get_or-set_same, get_or-set_other}
use mathlib.Core.List.{Memᴰ}
use Rattle.std.proofs.Math.Decide.{ℕ_discrete}
use Rattle.rules.specs.Ranges.{at}
use Rattle.rules.specs.Collection.{Move, State}
use Rattle.rules.specs.Demands.{Becomes}
use Rattle.laws.specs.Pages.{same_page}
use Rattle.theory.specs.World.{Swept, becomes_map, label_of, size_at, refs_at, World, Gone, AsBefore, Stays, Kept, stayed, went, Place, home, away, Region, Moved, moved_on, kept_same, labelled_same, Inv}
use Rattle.theory.specs.Places.{SameOrApart, some_words, word_inside, kept_obj, kept_region, kept_apart, kept_from}

-- the state with u stored at address w
abbrev pub stored : State → ℕ → ℕ → State
stored t w u = record { heap = set t.heap w u; pages = t.pages; objects = t.objects; words = t.words; moves = t.moves }

-- word i of the retained object at y, x before, is a reference, and u is what it has become
pub record Slot (W : World) (t : State) (x y i u : ℕ) : Type 0 where
  pub kept : Kept W t x y
  pub low : 0 < i
  pub high : i ≤ refs_at W x
  pub becomes : Becomes (Kept W t) (at W.heap (x + i)) u

module _ (W : World) (t : State) (I : Inv W t) (x y i u : ℕ) (S : Slot W t x y i u) where
  abbrev t' : State
  t' = stored t (y + i) u

  pub index_inside : i < size_at W x
  index_inside = omega (arith, W.shape x (kept_obj W t I x y S.kept), S.high)

  pub slot_region : Region W t (y + i)
  slot_region = kept_region W t I x y i S.kept index_inside

  -- ---- words

  pub stored_there : at t'.heap (y + i) ≡ u
  stored_there = get_or-set_same t.heap (y + i) u 0 (word_inside W t I (y + i) (λ q. W.new≢0 (sym slot_region.label ∙ q)))

  pub stored_else : (w : ℕ) → w ≢ y + i → at t'.heap w ≡ at t.heap w
  stored_else w ne = get_or-set_other t.heap (y + i) w u 0 ne

  -- pages with the old label stay, and so does what is planted
  old_same : (w : ℕ) → label_of W t w ≡ W.plan.old → at t'.heap w ≡ at t.heap w
  old_same w e = stored_else w (λ q. W.new≢old (sym slot_region.label ∙ ap (label_of W t) (sym q) ∙ e))

  planted_same : (m : Move) → Memᴰ m t.moves → at t'.heap m.from ≡ at t.heap m.from
  planted_same m mem = stored_else m.from (go (kept_from W t I x y S.kept m mem))
    where
      go : (y + size_at W x ≤ m.from) ⊎ (m.from + size_at W m.from ≤ y) → m.from ≢ y + i
      go (inl l) = omega (arith, index_inside)
      go (inr l) = omega (arith, W.shape m.from (I.moved m mem).object)

  -- a word of a retained object, other than that reference
  word_same : (a b j : ℕ) → Kept W t a b → j < size_at W a → (a ≡ x → j ≢ i) → at t'.heap (b + j) ≡ at t.heap (b + j)
  word_same a b j k h ne = stored_else (b + j) (go (kept_apart W t I a b x y k S.kept))
    where
      go : SameOrApart W a b x y → b + j ≢ y + i
      go (inl (ea, eb)) = λ q. ne ea (omega arith)
      go (inr (inl l)) = omega (arith, index_inside)
      go (inr (inr l)) = omega (arith, index_inside)

  -- ---- what stands where

  pub stays_up : (a : ℕ) → Stays W t a → Stays W t' a
  stays_up a q = record { object = q.object; label = q.label; not_gone = q.not_gone }

  pub kept_up : (a b : ℕ) → Kept W t a b → Kept W t' a b
  kept_up a b (stayed q e) = stayed (stays_up a q) e
  kept_up a b (went m mem ea eb) = went m mem ea eb

  pub kept_back : (a b : ℕ) → Kept W t' a b → Kept W t a b
  kept_back a b (stayed q e) = stayed (record { object = q.object; label = q.label; not_gone = q.not_gone }) e
  kept_back a b (went m mem ea eb) = went m mem ea eb

  pub place_up : (a b : ℕ) → Place W t a b → Place W t' a b
  place_up a b (home ob e) = home ob e
  place_up a b (away m mem ea eb) = away m mem ea eb

  pub place_back : (a b : ℕ) → Place W t' a b → Place W t a b
  place_back a b (home ob e) = home ob e
  place_back a b (away m mem ea eb) = away m mem ea eb

  -- ---- references: this one is forwarded now, the others stay

  pub slot_swept : Swept W t' x y i
  slot_swept = rw stored_there (becomes_map kept_up _ _ S.becomes)

  swept_or_same : (a b j : ℕ) → Kept W t a b → 0 < j → j ≤ refs_at W a → Swept W t' a b j ⊎ (at t'.heap (b + j) ≡ at t.heap (b + j))
  swept_or_same a b j k l h = go (ℕ_discrete a x) (ℕ_discrete j i)
    where
      inside : j < size_at W a
      inside = omega (arith, W.shape a (kept_obj W t I a b k))

      same_place : a ≡ x → SameOrApart W a b x y → b + j ≡ y + i → b ≡ y
      same_place e (inl (ea, eb)) q = eb
      same_place e (inr (inl z)) q = absurd (omega (arith, index_inside, inside))
      same_place e (inr (inr z)) q = absurd (omega (arith, index_inside, inside))

      there : a ≡ x → j ≡ i → Dec (b + j ≡ y + i) → Swept W t' a b j ⊎ (at t'.heap (b + j) ≡ at t.heap (b + j))
      there ea ej (yes q) = let eb : b ≡ y = same_place ea (kept_apart W t I a b x y k S.kept) q in inl (rw (ea, eb, ej) slot_swept)
      there ea ej (no q) = inr (stored_else (b + j) q)

      go : Dec (a ≡ x) → Dec (j ≡ i) → Swept W t' a b j ⊎ (at t'.heap (b + j) ≡ at t.heap (b + j))
      go (no n) d = inr (word_same a b j k inside (λ e q. n e))
      go (yes e) (no n) = inr (word_same a b j k inside (λ e q. n q))
      go (yes e) (yes q) = there e q (ℕ_discrete (b + j) (y + i))

  pub swept_up : (a b j : ℕ) → Kept W t a b → 0 < j → j ≤ refs_at W a → Swept W t a b j → Swept W t' a b j
  swept_up a b j k l h p = go (swept_or_same a b j k l h)
    where
      go : Swept W t' a b j ⊎ (at t'.heap (b + j) ≡ at t.heap (b + j)) → Swept W t' a b j
      go (inl q) = q
      go (inr e) = rw e (becomes_map kept_up _ _ p)

  references' : (a b j : ℕ) → Kept W t a b → 0 < j → j ≤ refs_at W a → (at t'.heap (b + j) ≡ at W.heap (a + j)) ⊎ Swept W t' a b j
  references' a b j k l h = go (swept_or_same a b j k l h) (I.references a b j k l h)
    where
      go : Swept W t' a b j ⊎ (at t'.heap (b + j) ≡ at t.heap (b + j)) → (at t.heap (b + j) ≡ at W.heap (a + j)) ⊎ Swept W t a b j
          → (at t'.heap (b + j) ≡ at W.heap (a + j)) ⊎ Swept W t' a b j
      go (inl q) d = inr q
      go (inr e) (inl q) = inl (e ∙ q)
      go (inr e) (inr p) = inr (rw e (becomes_map kept_up _ _ p))

  -- ---- the invariant

  pub store_inv : Inv W t'
  store_inv = record {
    heap_length = length-set t.heap (y + i) u ∙ I.heap_length;
    labels_length = I.labels_length;
    used = λ g h. labelled_same W t t' refl refl g (I.used g h);
    kept = λ g h. kept_same W t t' refl refl g (I.kept g h);
    free = I.free;
    copy_fresh = I.copy_fresh;
    copy_label = I.copy_label;
    fill_within = I.fill_within;
    moved = moved;
    unmoved = λ a ob old. unmoved a ob old (I.unmoved a ob old);
    header = λ a b k. header a b (kept_back a b k);
    data_words = λ a b j k l h. word_same a b j (kept_back a b k) h (λ e q. data_word a j e q l) ∙ I.data_words a b j (kept_back a b k) l h;
    references = λ a b j k l h. references' a b j (kept_back a b k) l h;
    copies_apart = I.copies_apart;
  }
    where
      moved : (m : Move) → Memᴰ m t.moves → Moved W t' m
      moved m h = let M : Moved W t m = I.moved m h in moved_on W t t' m M stays_up (λ j k. k) (planted_same m h ∙ M.planted) M.label M.below

      unmoved : (a : ℕ) → W.Obj a → label_of W t a ≡ W.plan.old → Gone t a ⊎ AsBefore W t a → Gone t' a ⊎ AsBefore W t' a
      unmoved a ob old (inl z) = inl z
      unmoved a ob old (inr f) = inr (λ j h. old_same (a + j) (ap (at t.pages.labels) (same_page W.pos a (size_at W a) j (W.fits a ob) h) ∙ old) ∙ f j h)

      header : (a b : ℕ) → Kept W t a b → at t'.heap b ≡ at W.heap a
      header a b k = (simp add-zero at (word_same a b 0 k (some_words W a (kept_obj W t I a b k)) (λ e q. omega (arith, S.low)))) ∙ I.header a b k

      data_word : (a j : ℕ) → a ≡ x → j ≡ i → refs_at W a < j → ⊥
      data_word a j e q l = let l' : refs_at W x < j = rw e at l in omega (arith, S.high)
