-- An object put at the copy page's fill keeps the invariant: nothing changes but the new block, and the header's place.
use Rattle.std.specs.Prelude.{◌≡◌, ◌≢◌, ◌⊎◌, Bool, ℕ, ◌+◌, ◌*◌, ◌-◌, ◌%◌, ◌≤◌, ◌<◌, take, drop}
use Rattle.std.proofs.Math.Path.{refl, ap}
use Rattle.std.proofs.Common.{sym, ◌∙◌, subst, inl, inr, add-zero, length-set}
use mathlib.Core.List.Memᴰ
use mathlib.Core.List.{List, [], ◌∷◌, ◌++◌, Memᴰ}
use Rattle.std.proofs.Math.Nat.{mul-add-mod_self_right, mod-eq_of_lt}
use Rattle.std.proofs.Math.Decide.{ℕ_discrete, dec_lt}
use native.Mathlib.Omega.{arith}
use Rattle.std.proofs.Math.ListN.{length}
use Rattle.std.proofs.lemmas.List.Edits.{sets}
use Rattle.std.proofs.Math.Seq.{length-sets, get_or-set_same, get_or-set_other}
use Rattle.rules.specs.Ranges.{at}
use Rattle.rules.specs.Collection.{Move, Pages, State, noted, top, put, kept_pages}
use Rattle.laws.specs.Pages.{page_of_lem, page_end, same_page, pages_apart}
use Rattle.laws.specs.Words.{in_range, copied_in, copied_out}
use Rattle.theory.specs.World.{page_of, label_of, label_was, size_at, refs_at, World, reach_up, Gone, AsBefore, Stays, Reach, Kept, stayed, went, becomes_map, Place, home, away, Swept, MovesApart, Region, Moved, moved_on, kept_same, labelled_same, Inv}
use Rattle.theory.specs.Places.{obj_used, some_words, old_before, kept_obj, kept_region}

-- ---- an object copied to the top

-- object x, reached, not yet copied, with room for it on the copy page
pub record Ready (W : World) (s : State) (x : ℕ) : Type 0 where
  pub inv : Inv W s
  pub object : W.Obj x
  pub old : label_of W s x ≡ W.plan.old
  pub reached : Reach W s x
  pub same : AsBefore W s x
  pub room : s.pages.fill + size_at W x ≤ W.plan.page

-- the move is written down
pub put_moves : (W : World) (n x : ℕ) (p : Pages) (s : State) → (put W.plan n x p s).moves ≡ s.moves ++ ((record { from = x; to = top W.plan p }) ∷ [])
unfolding put
put_moves W n x p s = ap (λ (b : Bool). noted b s.moves (record { from = x; to = top W.plan p })) W.logs

module _ (W : World) (s : State) (x : ℕ) (R : Ready W s x) where
  -- its size, where it goes, the move and the state after
  abbrev n : ℕ
  n = size_at W x

  abbrev y : ℕ
  y = top W.plan s.pages

  abbrev new : Move
  new = record { from = x; to = y }

  abbrev s' : State
  s' = put W.plan (size_at W x) x s.pages s

  some : 0 < n
  some = some_words W x R.object

  -- ---- where it goes

  pub copy_label : at s.pages.labels s.pages.copy ≡ W.plan.new
  copy_label = R.inv.copy_label (omega (arith, some, R.room))

  pub to_page : (i : ℕ) → i < n → page_of W (y + i) ≡ s.pages.copy
  unfolding top
  to_page i h =
      let e : y + i ≡ s.pages.copy * W.plan.page + (s.pages.fill + i) = omega arith in
      rw e (page_of_lem W.pos s.pages.copy (s.pages.fill + i) (omega (arith, R.room)))

  pub top_page : page_of W y ≡ s.pages.copy
  top_page = simp add-zero at (to_page 0 some)

  pub to_fits : y % W.plan.page + n ≤ W.plan.page
  unfolding top
  to_fits =
      let e : y % W.plan.page ≡ s.pages.fill = mul-add-mod_self_right s.pages.copy W.plan.page s.pages.fill ∙ mod-eq_of_lt (omega (arith, R.room, some)) in
      omega (arith, R.room)

  pub to_inside : y + n ≤ length s.heap
  unfolding top
  to_inside =
      let g : s.pages.copy < length W.labels = omega (arith, in_range s.pages.labels s.pages.copy (λ q. W.new≢0 (sym copy_label ∙ q)), R.inv.labels_length) in
      omega (arith, R.room, page_end s.pages.copy W.plan.page (length W.labels) g, W.heap_length, R.inv.heap_length)

  from_inside : x + n ≤ length s.heap
  from_inside = omega (arith, W.inside x R.object, R.inv.heap_length)

  was_old : label_was W x ≡ W.plan.old
  was_old = old_before W s R.inv x R.object R.old

  -- the copy is on a page that was free, so no object was there
  pub to_fresh : (i : ℕ) → i < n → label_was W (y + i) ≡ 0
  to_fresh i h = ap (at W.labels) (to_page i h) ∙ R.inv.copy_fresh

  -- ---- words

  abbrev block : List ℕ
  block = sets s.heap y (take n (drop x s.heap))

  length_same : length s'.heap ≡ length s.heap
  unfolding put
  length_same = simp (length-set, length-sets)

  -- what is neither the header's place nor in the new block stays
  pub put_out : (w : ℕ) → w ≢ x → (w < y) ⊎ (y + n ≤ w) → at s'.heap w ≡ at s.heap w
  unfolding put
  put_out w ne o = get_or-set_other block x w (2 * y) 0 ne ∙ copied_out s.heap x y n w o from_inside

  -- so a word that is not on the copy page
  pub put_else : (w : ℕ) → w ≢ x → page_of W w ≢ s.pages.copy → at s'.heap w ≡ at s.heap w
  put_else w ne pg = put_out w ne (go (dec_lt w y) (dec_lt w (y + n)))
    where
      go : Dec (w < y) → Dec (w < y + n) → (w < y) ⊎ (y + n ≤ w)
      go (yes a) d = inl a
      go (no a) (no b) = inr (omega arith)
      go (no a) (yes b) =
          let e : w ≡ y + (w - y) = omega arith in
          absurd (pg (ap (page_of W) e ∙ to_page (w - y) (omega arith)))

  -- and a word on a page that was in use
  put_used : (w : ℕ) → w ≢ x → label_was W w ≢ 0 → at s'.heap w ≡ at s.heap w
  put_used w ne e = put_else w ne (λ q. e (ap (at W.labels) q ∙ R.inv.copy_fresh))

  -- and a word of the region
  pub put_region : (w : ℕ) → Region W s w → at s'.heap w ≡ at s.heap w
  put_region w G = go (ℕ_discrete (page_of W w) s.pages.copy)
    where
      ne : w ≢ x
      ne q = W.new≢old (sym G.label ∙ ap (label_of W s) q ∙ R.old)

      go : Dec (page_of W w ≡ s.pages.copy) → at s'.heap w ≡ at s.heap w
      go (yes e) = put_out w ne (inl (G.below e))
      go (no q) = put_else w ne q

  pub put_keeps : (w : ℕ) → Region W s w → Region W s' w
  unfolding put top
  put_keeps w G = record { label = G.label; below = λ q. let b : w < y = G.below q in omega arith }

  put_in : (i : ℕ) → i < n → at s'.heap (y + i) ≡ at W.heap (x + i)
  unfolding put
  put_in i h = get_or-set_other block x (y + i) (2 * y) 0 ne ∙ copied_in s.heap x y n i h from_inside to_inside ∙ R.same i h
    where
      ne : y + i ≢ x
      ne q = W.old≢0 (sym was_old ∙ ap (label_was W) (sym q) ∙ to_fresh i h)

  planted : at s'.heap x ≡ 2 * y
  unfolding put
  planted = get_or-set_same block x (2 * y) 0 (rw length-sets (omega (arith, some, from_inside)))

  -- ---- the log, and what stands where

  pub mem_split : (m : Move) → Memᴰ m s'.moves → Memᴰ m s.moves ⊎ (m ≡ new)
  mem_split m h = go (Memᴰ.append_cases s.moves (subst (Memᴰ m) (put_moves W n x s.pages s) h))
    where
      go : Memᴰ m s.moves ⊎ Memᴰ m (new ∷ []) → Memᴰ m s.moves ⊎ (m ≡ new)
      go (inl a) = inl a
      go (inr b) = inr (Memᴰ.eq_of_singleton b)

  pub mem_up : (m : Move) → Memᴰ m s.moves → Memᴰ m s'.moves
  mem_up m h = subst (Memᴰ m) (sym (put_moves W n x s.pages s)) (Memᴰ.append_left (new ∷ []) h)

  pub mem_new : Memᴰ new s'.moves
  mem_new = subst (Memᴰ new) (sym (put_moves W n x s.pages s)) (Memᴰ.append_right s.moves (Memᴰ.head refl))

  pub stays_up : (a : ℕ) → Stays W s a → Stays W s' a
  stays_up a q = record { object = q.object; label = unfold put in q.label; not_gone = λ m h. go m (mem_split m h) }
    where
      go : (m : Move) → Memᴰ m s.moves ⊎ (m ≡ new) → m.from ≢ a
      go m (inl h) = q.not_gone m h
      go m (inr e) = λ z. W.new≢old (sym q.label ∙ ap (label_of W s) (sym z ∙ ap (λ (k : Move). k.from) e) ∙ R.old)

  stays_back : (a : ℕ) → Stays W s' a → Stays W s a
  stays_back a q = record { object = q.object; label = unfold put in q.label; not_gone = λ m h. q.not_gone m (mem_up m h) }

  kept_up : (a b : ℕ) → Kept W s a b → Kept W s' a b
  kept_up a b (stayed st e) = stayed (stays_up a st) e
  kept_up a b (went m mem ea eb) = went m (mem_up m mem) ea eb

  pub kept_split : (a b : ℕ) → Kept W s' a b → Kept W s a b ⊎ ((a ≡ x) × (b ≡ y))
  kept_split a b (stayed st e) = inl (stayed (stays_back a st) e)
  kept_split a b (went m mem ea eb) = go (mem_split m mem)
    where
      go : Memᴰ m s.moves ⊎ (m ≡ new) → Kept W s a b ⊎ ((a ≡ x) × (b ≡ y))
      go (inl k) = inl (went m k ea eb)
      go (inr e) = inr (ea ∙ ap (λ (k : Move). k.from) e, eb ∙ ap (λ (k : Move). k.to) e)

  pub place_up : (a b : ℕ) → Place W s a b → Place W s' a b
  place_up a b (home ob e) = home ob e
  place_up a b (away m mem ea eb) = away m (mem_up m mem) ea eb

  pub place_split : (a b : ℕ) → Place W s' a b → Place W s a b ⊎ ((a ≡ x) × (b ≡ y))
  place_split a b (home ob e) = inl (home ob e)
  place_split a b (away m mem ea eb) = go (mem_split m mem)
    where
      go : Memᴰ m s.moves ⊎ (m ≡ new) → Place W s a b ⊎ ((a ≡ x) × (b ≡ y))
      go (inl k) = inl (away m k ea eb)
      go (inr e) = inr (ea ∙ ap (λ (k : Move). k.from) e, eb ∙ ap (λ (k : Move). k.to) e)

  -- ---- each clause of the invariant

  moved' : (m : Move) → Memᴰ m s'.moves → Moved W s' m
  unfolding put top
  moved' m mem = go (mem_split m mem)
    where
      here : Moved W s' new
      here = record {
        object = R.object;
        old = was_old;
        reached = reach_up W s s' stays_up mem_up R.reached;
        planted = planted;
        fresh = ap (at W.labels) top_page ∙ R.inv.copy_fresh;
        label = ap (at s.pages.labels) top_page ∙ copy_label;
        fits = to_fits;
        below = λ q. omega arith;
      }

      not_x : (m : Move) → Memᴰ m s.moves → m.from ≢ x
      not_x m mem q =
          let a : at s.heap m.from ≡ 2 * m.to = (R.inv.moved m mem).planted in
          let b : at s.heap x ≡ at W.heap x = simp add-zero at (R.same 0 some) in
          let f : at s.heap m.from ≡ at s.heap x = ap (at s.heap) q in
          omega (arith, W.odd x R.object)

      go : Memᴰ m s.moves ⊎ (m ≡ new) → Moved W s' m
      go (inr e) = subst (λ (k : Move). Moved W s' k) (sym e) here
      go (inl k) =
          let M : Moved W s m = R.inv.moved m k in
          moved_on W s s' m M stays_up mem_up (put_used m.from (not_x m k) (obj_used W m.from M.object) ∙ M.planted) M.label
          (λ q. let b : m.to + size_at W m.from ≤ y = M.below q in omega arith)

  unmoved' : (a : ℕ) → W.Obj a → label_of W s a ≡ W.plan.old → Gone s' a ⊎ AsBefore W s' a
  unmoved' a ob old = go (ℕ_discrete a x) (R.inv.unmoved a ob old)
    where
      not_x : a ≢ x → (i : ℕ) → i < size_at W a → a + i ≢ x
      not_x ne i h = apart (dec_lt a x)
        where
          apart : Dec (a < x) → a + i ≢ x
          apart (yes l) = let k : a + size_at W a ≤ x = W.apart a x ob R.object l in omega arith
          apart (no l) = omega arith

      used : (i : ℕ) → i < size_at W a → label_was W (a + i) ≢ 0
      used i h z = obj_used W a ob (ap (at W.labels) (sym (same_page W.pos a (size_at W a) i (W.fits a ob) h)) ∙ z)

      go : Dec (a ≡ x) → Gone s a ⊎ AsBefore W s a → Gone s' a ⊎ AsBefore W s' a
      go (yes e) d = inl (new, mem_new, e)
      go (no q) (inl (m, mem, e)) = inl (m, mem_up m mem, e)
      go (no q) (inr f) = inr (λ i h. put_used (a + i) (not_x q i h) (used i h) ∙ f i h)

  -- word i of the retained object a, now at b: it stands as it did, or a is x
  abbrev StandsOrPut : ℕ → ℕ → ℕ → Type 0
  StandsOrPut a b i = ((at s'.heap (b + i) ≡ at s.heap (b + i)) × Kept W s a b) ⊎ (at s'.heap (b + i) ≡ at W.heap (a + i))

  word' : (a b i : ℕ) → i < size_at W a → Kept W s a b ⊎ ((a ≡ x) × (b ≡ y)) → StandsOrPut a b i
  word' a b i h (inl k) = inl (put_region (b + i) (kept_region W s R.inv a b i k h), k)
  word' a b i h (inr (ea, eb)) = inr (ap (λ (z : ℕ). at s'.heap (z + i)) eb ∙ put_in i (rw ea at h) ∙ ap (λ (z : ℕ). at W.heap (z + i)) (sym ea))

  kept_obj' : (a b : ℕ) → Kept W s' a b → W.Obj a
  kept_obj' a b k = go (kept_split a b k)
    where
      go : Kept W s a b ⊎ ((a ≡ x) × (b ≡ y)) → W.Obj a
      go (inl k) = kept_obj W s R.inv a b k
      go (inr (ea, eb)) = subst W.Obj (sym ea) R.object

  header' : (a b : ℕ) → Kept W s' a b → at s'.heap b ≡ at W.heap a
  header' a b k = go (simp add-zero at (word' a b 0 (some_words W a (kept_obj' a b k)) (kept_split a b k)))
    where
      go : ((at s'.heap b ≡ at s.heap b) × Kept W s a b) ⊎ (at s'.heap b ≡ at W.heap a) → at s'.heap b ≡ at W.heap a
      go (inl (e, k)) = e ∙ R.inv.header a b k
      go (inr e) = e

  data_words' : (a b i : ℕ) → Kept W s' a b → refs_at W a < i → i < size_at W a → at s'.heap (b + i) ≡ at W.heap (a + i)
  data_words' a b i k l h = go (word' a b i h (kept_split a b k))
    where
      go : StandsOrPut a b i → at s'.heap (b + i) ≡ at W.heap (a + i)
      go (inl (e, k)) = e ∙ R.inv.data_words a b i k l h
      go (inr e) = e

  references' : (a b i : ℕ) → Kept W s' a b → 0 < i → i ≤ refs_at W a → (at s'.heap (b + i) ≡ at W.heap (a + i)) ⊎ Swept W s' a b i
  references' a b i k l h = go (word' a b i (omega (arith, W.shape a (kept_obj' a b k))) (kept_split a b k))
    where
      old : at s'.heap (b + i) ≡ at s.heap (b + i) → (at s.heap (b + i) ≡ at W.heap (a + i)) ⊎ Swept W s a b i
          → (at s'.heap (b + i) ≡ at W.heap (a + i)) ⊎ Swept W s' a b i
      old e (inl q) = inl (e ∙ q)
      old e (inr p) = inr (rw e (becomes_map kept_up _ _ p))

      go : StandsOrPut a b i
          → (at s'.heap (b + i) ≡ at W.heap (a + i)) ⊎ Swept W s' a b i
      go (inl (e, k)) = old e (R.inv.references a b i k l h)
      go (inr e) = inl e

  copies_apart' : (m k : Move) → Memᴰ m s'.moves → Memᴰ k s'.moves → MovesApart W m k
  copies_apart' m k a b = go (mem_split m a) (mem_split k b)
    where
      before : (m : Move) → Memᴰ m s.moves → (m.to + size_at W m.from ≤ y) ⊎ (y + n ≤ m.to)
      before m mem = page (ℕ_discrete (page_of W m.to) s.pages.copy)
        where
          page : Dec (page_of W m.to ≡ s.pages.copy) → (m.to + size_at W m.from ≤ y) ⊎ (y + n ≤ m.to)
          page (yes e) = inl ((R.inv.moved m mem).below e)
          page (no q) = pages_apart W.plan.page m.to (size_at W m.from) y n (R.inv.moved m mem).fits to_fits (λ e. q (e ∙ top_page))

      turn : {A B : Type 0} → A ⊎ B → B ⊎ A
      turn (inl p) = inr p
      turn (inr p) = inl p

      go : Memᴰ m s.moves ⊎ (m ≡ new) → Memᴰ k s.moves ⊎ (k ≡ new) → MovesApart W m k
      go (inl p) (inl q) = R.inv.copies_apart m k p q
      go (inl p) (inr e) = subst (MovesApart W m) (sym e) (inr (before m p))
      go (inr e) (inl q) = subst (λ (z : Move). MovesApart W z k) (sym e) (inr (turn (before k q)))
      go (inr e) (inr f) = inl (e ∙ sym f)

  pub put_inv : Inv W s'
  unfolding put kept_pages
  put_inv = record {
    heap_length = length_same ∙ R.inv.heap_length;
    labels_length = R.inv.labels_length;
    used = λ g h. labelled_same W s s' refl refl g (R.inv.used g h);
    kept = λ g h. kept_same W s s' refl refl g (R.inv.kept g h);
    free = R.inv.free;
    copy_fresh = R.inv.copy_fresh;
    copy_label = λ q. copy_label;
    fill_within = R.room;
    moved = moved';
    unmoved = unmoved';
    header = header';
    data_words = data_words';
    references = references';
    copies_apart = copies_apart';
  }
