-- What an accepted collection leaves is sound: its objects are the retained ones, where they stand now, and the fillers.
use Rattle.std.specs.Prelude.{◌≡◌, ◌≢◌, ◌⊎◌, length}
use Rattle.std.proofs.Math.Path.{refl, ap}
use Rattle.std.proofs.Common.{sym, ◌∙◌, le_refl, eq-eqb, ne_eqb}
use Rattle.std.proofs.Math.Logic.{inl, inr}
use mathlib.Core.List.{List, Memᴰ}
use Prim.Native.Nat.{ℕ, suc, ◌+◌, ◌*◌, ◌-◌, ◌/◌, ◌<◌}
use Rattle.std.proofs.Math.Nat.{add-zero}
use native.Mathlib.Omega.{arith}
use Rattle.std.proofs.Math.ListN.{length-replicate}
use Rattle.rules.specs.Ranges.{at}
use Rattle.rules.specs.Pages.{other_label}
use Rattle.rules.specs.Lent.{Lent}
use Rattle.rules.specs.Walk.{starts, stop}
use Rattle.rules.specs.Sound.{InUse, IsObject, refs, payload, Opened, Valid, Sound}
use Rattle.rules.specs.Header.{header_of, refs_of}
use Rattle.rules.specs.Collection.{logged, Move, Filled, State, top, plan_of, freed_labels, freed_heap, filled as fillers, collection}
use Rattle.rules.specs.Demands.{Becomes}
use Rattle.laws.specs.Pages.{page_on, same_page, first_on_page}
use Rattle.laws.specs.Walk.{size, page_steps}
use Rattle.laws.specs.Words.{in_range}
use Rattle.theory.specs.World.{World, Kept, Place, home, kept_place, LabelledOrKept, Inv}
use Rattle.theory.specs.Places.{hinted_label, kept_obj, kept_fits, kept_label, Standing, there, left, standing, some_words}
use Rattle.theory.specs.Tile.{Begins, Tiled}
use Rattle.theory.specs.Cursor.{at_place}
use Rattle.theory.specs.Fillers.{FilledPage, filled_agree, kept_clear, filler_refs}
use Rattle.theory.specs.FillPages.{FilledAll}
use Rattle.theory.specs.Freed.{freed_labels_lem, freed_labels_length, freed_heap_lem, freed_heap_length}
use Rattle.theory.specs.Covers.{Covers, covers}
use Rattle.laws.specs.Collect.{Ready}
use Rattle.theory.specs.SoundHeap.{layout, other_label_lem, other≢0, other≢label}
use Rattle.laws.specs.Objects.{page_pos}
use Rattle.laws.specs.Valid.{label_pos}
use Rattle.theory.proofs.FirstState.{world, labels_length, used_kind, free_stays}
use Rattle.theory.proofs.Run.{W as world_of, t as swept_of, all_done, filled}

module _ (m : Lent) (roots hints : List ℕ) (A : Ready m roots) where
  -- the labels, the heap and all that is lent after
  abbrev l' : List ℕ
  l' = freed_labels m.rec.label (swept_of m roots hints A).pages.labels

  abbrev h' : List ℕ
  h' = freed_heap m.rec.page m.rec.label (swept_of m roots hints A).pages.labels (fillers (plan_of m logged) (swept_of m roots hints A)).heap

  abbrev pub m' : Lent
  m' = (collection logged m roots hints).lent

  abbrev s : State
  s = swept_of m roots hints A

  abbrev W : World
  W = world_of m roots hints A

  abbrev S : Sound m
  S = A.sound

  abbrev old : ℕ
  old = m.rec.label

  abbrev new : ℕ
  new = other_label m.rec.label

  pub inv : Inv W s
  inv = (all_done m roots hints A).good.inv

  pub tiled : Tiled W s
  tiled = (all_done m roots hints A).good.tiled

  -- the heap with its fillers, before pages are freed
  abbrev f : Filled
  f = fillers (plan_of m logged) (swept_of m roots hints A)

  pub F : FilledAll W s f
  F = filled m roots hints A

  -- ---- labels and words after

  label_old : (g : ℕ) → at s.pages.labels g ≡ old → at l' g ≡ 0
  label_old g e = freed_labels_lem old s.pages.labels g ∙ rw (eq-eqb _ _ e) refl

  label_else : (g : ℕ) → at s.pages.labels g ≢ old → at l' g ≡ at s.pages.labels g
  label_else g n = freed_labels_lem old s.pages.labels g ∙ rw (ne_eqb _ _ n) refl

  heap_length : length f.heap ≡ length s.pages.labels * m.rec.page
  unfolding world plan_of
  heap_length = F.heap_length ∙ inv.heap_length ∙ W.heap_length ∙ ap (λ (j : ℕ). j * m.rec.page) (sym inv.labels_length)

  word_old : (w : ℕ) → at s.pages.labels (w / m.rec.page) ≡ old → at h' w ≡ 0
  word_old w e = freed_heap_lem m.rec.page old (page_pos m S.valid) s.pages.labels f.heap heap_length w ∙ rw (eq-eqb _ _ e) refl

  word_else : (w : ℕ) → at s.pages.labels (w / m.rec.page) ≢ old → at h' w ≡ at f.heap w
  word_else w n = freed_heap_lem m.rec.page old (page_pos m S.valid) s.pages.labels f.heap heap_length w ∙ rw (ne_eqb _ _ n) refl

  -- after the sweep each page is free, old or new
  abbrev Kind : ℕ → Type 0
  Kind g = (at s.pages.labels g ≡ 0) ⊎ ((at s.pages.labels g ≡ old) ⊎ (at s.pages.labels g ≡ new))

  kinds : (g : ℕ) → Kind g
  unfolding world plan_of
  kinds g = go (S.labels g)
    where
      free : (at s.pages.labels g ≡ 0) ⊎ (at s.pages.labels g ≡ new) → Kind g
      free (inl e) = inl e
      free (inr e) = inr (inr e)

      used : (at W.labels g ≡ old) ⊎ (at W.labels g ≡ new) → Kind g
      used (inl e) = kept (inv.used g (λ q. label_pos m S.valid (sym e ∙ q)))
        where
          kept : LabelledOrKept W s g → Kind g
          kept (inl q) = inr (inl (q ∙ e))
          kept (inr k) = inr (inr k.label)
      used (inr e) = inr (inr (hinted_label W s inv g e))

      go : (at m.labels g ≡ 0) ⊎ (at m.labels g ≡ old) → Kind g
      go (inl e) = free (inv.free g (free_stays m roots hints A g e))
      go (inr e) = used (used_kind m roots hints A g e)

  not_old : (g : ℕ) → at s.pages.labels g ≡ new → at s.pages.labels g ≢ old
  not_old g e q = other≢label m S (sym e ∙ q)

  label_new : (g : ℕ) → at s.pages.labels g ≡ new → at l' g ≡ new
  label_new g e = label_else g (not_old g e) ∙ e

  used_new : (g : ℕ) → at l' g ≢ 0 → at s.pages.labels g ≡ new
  used_new g n = go (kinds g)
    where
      go : Kind g → at s.pages.labels g ≡ new
      go (inl e) = absurd (n (label_else g (λ q. label_pos m S.valid (sym q ∙ e)) ∙ e))
      go (inr (inl e)) = absurd (n (label_old g e))
      go (inr (inr e)) = e

  labels_after : length s.pages.labels ≡ m.rec.pages
  unfolding world
  labels_after = inv.labels_length ∙ labels_length m roots hints A

  -- a page with the new label is in use after, and no other
  pub new_in_use : (g : ℕ) → at s.pages.labels g ≡ new → InUse m' g
  unfolding world plan_of collection
  new_in_use g e =
      let nz : g ≢ 0 = λ q. other≢0 m S (sym e ∙ ap (at s.pages.labels) q ∙ tiled.page0) in
      record { low = omega arith; high = omega (arith, in_range s.pages.labels g (λ q. other≢0 m S (sym e ∙ q)), labels_after); label = label_new g e }

  pub in_use_new : (g : ℕ) → InUse m' g → at s.pages.labels g ≡ new
  unfolding plan_of collection
  in_use_new g u = used_new g (λ q. other≢0 m S (sym u.label ∙ q))

  -- ---- the walk of a page in use

  page_filled : (g : ℕ) → at s.pages.labels g ≡ new → FilledPage W s h' g
  unfolding world plan_of
  page_filled g e = filled_agree W s inv f.heap h' g (λ w q. word_else w (λ z. not_old g e (ap (at s.pages.labels) (sym q) ∙ z))) (F.pages g e)

  pub first_place : (g : ℕ) → at s.pages.labels g ≡ new → (x : ℕ) × Place W s x (g * m.rec.page)
  unfolding world plan_of
  first_place g e = go (tiled.first g (λ z. other≢0 m S (sym e ∙ z)))
    where
      go : Begins W s g → (x : ℕ) × Place W s x (g * m.rec.page)
      go (inl z) = z
      go (inr (a, b)) = absurd (omega (arith, (all_done m roots hints A).good.filled))

  walked : (g : ℕ) → at s.pages.labels g ≡ new → Covers W s h' g (g * m.rec.page) (starts m' g) (stop m' g)
  unfolding world plan_of collection
  walked g e = covers W s inv tiled h' g e (page_filled g e) (page_steps m' g) (le_refl _) refl (at_place (first_place g e).0 (first_place g e).1 (first_on_page (page_pos m S.valid) g))

  -- that of the copy page stops at its fill
  pub copy_stop : at s.pages.labels s.pages.copy ≡ new
      → stop m' s.pages.copy ≡ s.pages.copy * m.rec.page + s.pages.fill
  unfolding world plan_of collection top
  copy_stop e = (walked s.pages.copy e).end refl

  -- the objects after are the retained ones
  pub kept_object : (x y : ℕ) → Kept W s x y → IsObject m' y
  unfolding world plan_of collection
  kept_object x y K =
      let l = kept_label W s inv x y K in
      record {
        in_use = new_in_use (y / m.rec.page) l;
        met = (walked (y / m.rec.page) l).all x y (kept_place W s K) refl (page_on (page_pos m S.valid) y (y / m.rec.page) refl).0;
      }

  -- and the places that those copied out of kept pages left
  pub object_standing : (y : ℕ) → IsObject m' y → (x : ℕ) × Standing W s x y
  unfolding world plan_of collection
  object_standing y ob =
      let l = in_use_new (y / m.rec.page) ob.in_use in
      let (x, K, e) = (walked (y / m.rec.page) l).only y ob.met in
      (x, standing W s inv x y l K)

  module _ (j : Move) (mem : Memᴰ j s.moves) (l : at s.pages.labels (j.from / m.rec.page) ≡ new) where
    pub left_object : IsObject m' j.from
    unfolding world plan_of collection
    left_object = record {
      in_use = new_in_use (j.from / m.rec.page) l;
      met = (walked (j.from / m.rec.page) l).all j.from j.from (home (inv.moved j mem).object refl) refl (page_on (page_pos m S.valid) j.from (j.from / m.rec.page) refl).0;
    }

    pub left_header : at m'.heap j.from ≡ header_of (size m.heap j.from - 1) 0
    unfolding world plan_of collection
    left_header = (page_filled (j.from / m.rec.page) l).head j mem refl

    pub left_zeros : (i : ℕ) → 0 < i → i < size m.heap j.from → at m'.heap (j.from + i) ≡ 0
    unfolding world plan_of collection
    left_zeros = (page_filled (j.from / m.rec.page) l).zeros j mem refl

  -- their words are those that the sweep left
  pub kept_word : (x y i : ℕ) → Kept W s x y → i < size m.heap x → at m'.heap (y + i) ≡ at s.heap (y + i)
  unfolding world plan_of collection
  kept_word x y i K h =
      (page_filled (y / m.rec.page) (kept_label W s inv x y K)).same (y + i) (same_page (page_pos m S.valid) y (size m.heap x) i (kept_fits W s inv x y K) h)
      (kept_clear W s inv x y i K h)

  pub kept_header : (x y : ℕ) → Kept W s x y → at m'.heap y ≡ at m.heap x
  unfolding world
  kept_header x y K = (simp add-zero at (kept_word x y 0 K (some_words W x (kept_obj W s inv x y K)))) ∙ inv.header x y K

  pub kept_reference : (x y i : ℕ) → Kept W s x y → i < refs m x → Becomes (Kept W s) (payload m x i) (payload m' y i)
  unfolding world
  kept_reference x y i K h =
      let ea : x + suc i ≡ x + 1 + i = omega arith in
      let eb : y + suc i ≡ y + 1 + i = omega arith in
      let w : at m'.heap (y + suc i) ≡ at s.heap (y + suc i) = kept_word x y (suc i) K (omega (arith, W.shape x (kept_obj W s inv x y K))) in
      let d : Becomes (Kept W s) (at m.heap (x + suc i)) (at m'.heap (y + suc i)) = rw w ((all_done m roots hints A).done x y K (suc i) (omega arith) (omega arith)) in
      rw (ea, eb) at d

  -- ---- soundness

  valid : Valid m'
  unfolding world plan_of collection
  valid = record {
    page = S.valid.page;
    pages = S.valid.pages;
    heap = freed_heap_length m.rec.page old s.pages.labels f.heap heap_length ∙ F.heap_length ∙ inv.heap_length ∙ (layout m S).heap;
    labels = freed_labels_length old s.pages.labels ∙ labels_after;
    links = length-replicate (length m.links) 0 ∙ (layout m S).links;
    label = label (other_label_lem m S);
    opened = opened tiled.copy_is;
  }
    where
      label : ((old ≡ 1) × (new ≡ 2)) ⊎ ((old ≡ 2) × (new ≡ 1)) → (new ≡ 1) ⊎ (new ≡ 2)
      label (inl e) = inr e.1
      label (inr e) = inl e.1

      opened : ((s.pages.copy ≡ 0) × (s.pages.fill ≡ m.rec.page)) ⊎ (at s.pages.labels s.pages.copy ≡ new)
          → ((s.pages.copy ≡ 0) × (s.pages.fill ≡ m.rec.page)) ⊎ Opened m'
      opened (inl z) = inl z
      opened (inr e) = inr (record { page = new_in_use s.pages.copy e; low = (all_done m roots hints A).good.filled; high = inv.fill_within })

  pub after_sound : Sound m'
  unfolding world plan_of collection
  after_sound = record {
    valid = valid;
    zero = label_else 0 (λ q. label_pos m S.valid (sym q ∙ tiled.page0)) ∙ tiled.page0;
    blank = λ w e. blank w e (kinds (w / m.rec.page));
    labels = λ g. labels g (kinds g);
    some = λ g u. let e = in_use_new g u in
        let (x, K) = first_place g e in
        (g * m.rec.page, (walked g e).all x (g * m.rec.page) K (first_on_page (page_pos m S.valid) g) (le_refl _));
    tail = λ g w u q l. (walked g (in_use_new g u)).tail w q l;
    fill = λ n. fill n tiled.copy_is;
    references = λ y i ob h. let (x, K) = object_standing y ob in standing_references x y i ob K h;
  }
    where
      blank : (w : ℕ) → at l' (w / m.rec.page) ≡ 0 → Kind (w / m.rec.page) → at h' w ≡ 0
      blank w e (inl z) = word_else w (λ q. label_pos m S.valid (sym q ∙ z)) ∙ F.else w (λ k. other≢0 m S (sym (inv.kept _ k).label ∙ z)) ∙ tiled.free_blank w z
      blank w e (inr (inl z)) = word_old w z
      blank w e (inr (inr z)) = absurd (other≢0 m S (sym (label_new (w / m.rec.page) z) ∙ e))

      labels : (g : ℕ) → Kind g → (at l' g ≡ 0) ⊎ (at l' g ≡ new)
      labels g (inl z) = inl (label_else g (λ q. label_pos m S.valid (sym q ∙ z)) ∙ z)
      labels g (inr (inl z)) = inl (label_old g z)
      labels g (inr (inr z)) = inr (label_new g z)

      fill : s.pages.copy ≢ 0 → ((s.pages.copy ≡ 0) × (s.pages.fill ≡ m.rec.page)) ⊎ (at s.pages.labels s.pages.copy ≡ new)
          → stop m' s.pages.copy ≡ s.pages.copy * m.rec.page + s.pages.fill
      fill n (inl z) = absurd (n z.0)
      fill n (inr e) = copy_stop e

      references : (x y i : ℕ) → Kept W s x y → i < refs m' y → (payload m' y i ≡ 0) ⊎ IsObject m' (payload m' y i)
      references x y i K h = go (payload m x i) (kept_reference x y i K (rw (kept_header x y K) at h))
        where
          go : (v : ℕ) → Becomes (Kept W s) v (payload m' y i) → (payload m' y i ≡ 0) ⊎ IsObject m' (payload m' y i)
          go v (inl e) = inl e.1
          go v (inr K') = inr (kept_object v (payload m' y i) K')

      -- a filler has none
      standing_references : (x y i : ℕ) → IsObject m' y → Standing W s x y → i < refs m' y → (payload m' y i ≡ 0) ⊎ IsObject m' (payload m' y i)
      standing_references x y i ob (there K) h = references x y i K h
      standing_references x y i ob (left j mem ex ey) h =
          let e : y ≡ j.from = ey ∙ ex in
          let l : at s.pages.labels (j.from / m.rec.page) ≡ new = ap (λ (z : ℕ). at s.pages.labels (z / m.rec.page)) (sym e) ∙ in_use_new (y / m.rec.page) ob.in_use in
          let n : refs m' y ≡ 0 = ap (refs m') e ∙ ap refs_of (left_header j mem l) ∙ filler_refs (size m.heap j.from) in
          absurd (omega arith)
