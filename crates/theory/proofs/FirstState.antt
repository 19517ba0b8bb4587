-- An accepted collection's world, and that its first state, once the hints are read, is good.
use Rattle.std.specs.Prelude.{◌≡◌, ◌≢◌, ◌⊎◌}
use Rattle.std.proofs.Math.Path.{refl, sym, ap, subst}
use Rattle.std.proofs.Common.{◌∙◌, mul-le-mul_right}
use Rattle.std.proofs.Math.Logic.{inl, inr}
use mathlib.Core.List.Memᴰ
use mathlib.Core.List.{List, [], Memᴰ}
use Prim.Native.Nat.{ℕ, ◌+◌, ◌*◌, ◌-◌, ◌/◌, ◌≤◌, ◌<◌}
use native.Mathlib.Omega.{arith}
use Rattle.std.proofs.Math.ListN.{length}
use Rattle.rules.specs.Ranges.{at, block, sum}
use Rattle.rules.specs.Header.{refs_of}
use Rattle.rules.specs.Pages.{pages_named, pages_used, other_label}
use Rattle.rules.specs.Lent.{Lent}
use Rattle.rules.specs.Walk.{starts, stop}
use Rattle.rules.specs.Sound.{InUse, IsObject, Sound}
use Rattle.rules.specs.Collection.{logged, Plan, Pages, State, plan_of, begun, after_hints}
use Rattle.rules.specs.Collect.{is_unhinted}
use Rattle.rules.specs.Demands.{Hinted}
use Rattle.laws.specs.Lists.{block_mem}
use Rattle.laws.specs.Pages.{heap_fits}
use Rattle.laws.specs.Walk.{size, page_steps, met_next}
use Rattle.laws.specs.LookUp.{placed}
use Rattle.laws.specs.Safe.{SafeHints}
use Rattle.laws.specs.FreePages.{not_free, free_pages, used_and_free, free_same}
use Rattle.laws.specs.Room.{words_used}
use Rattle.theory.specs.Sums.{gather_mem}
use Rattle.theory.specs.Packing.{packed_none}
use Rattle.theory.specs.KeptPages.{not_kept}
use Rattle.theory.specs.World.{World, Kept, stayed, went, Place, home, away, Inv}
use Rattle.theory.proofs.Packs.{froms, Packs}
use Rattle.theory.specs.Upward.{none_upward}
use Rattle.theory.specs.Stacked.{stacked_none}
use Rattle.theory.specs.Causes.{causes_none}
use Rattle.theory.specs.Tile.{Next, another, blank, Tiled}
use Rattle.theory.proofs.Good.{Good}
use Rattle.theory.specs.Hints.{Unhinted, Hinting, begun_hinting, hint_pages_lem, pages_get, free_as_before, hints_safe}
use Rattle.laws.specs.Collect.{Ready}
use Rattle.theory.specs.SoundHeap.{layout, other≢0, other≢label, in_use, met_of, object_fits, object_nonzero, first_object, objects_unhinted, words_are, unhinted_is}
use Rattle.laws.specs.Objects.{met_object, met_page, objects_apart, page_pos}
use Rattle.laws.specs.Valid.{label_pos}

module _ (m : Lent) (roots hints : List ℕ) (A : Ready m roots) where
  abbrev S : Sound m
  S = A.sound

  -- the plan that writes the moves down, the pages that are named, and the pages as the hints leave them
  abbrev pub k : Plan
  k = plan_of m logged

  abbrev pub named : List ℕ
  named = pages_named m.rec.page 1 m.rec.pages hints

  abbrev pub p : Pages
  p = after_hints (plan_of m logged) m hints

  -- ---- before the hints, and after them

  pub U : Unhinted k (begun m)
  unfolding plan_of begun
  U = record { old≢0 = label_pos m S.valid; new≢0 = other≢0 m S; new≢old = other≢label m S; labels = S.labels; queue = refl }

  B : Hinting k (begun m) named (begun m)
  B = begun_hinting k (begun m) U named

  pub H : Hinting k (begun m) named p
  unfolding after_hints plan_of
  H = hint_pages_lem k (begun m) U named named (begun m) B (λ g q. q)

  pub hints_run_safe : SafeHints k (pages_named k.page k.lo k.hi hints) (begun m)
  unfolding plan_of begun
  hints_run_safe = hints_safe k (begun m) U named (layout m S).labels (omega (arith, (layout m S).pages_low)) (layout m S).pages_high named (begun m) B (λ g q. q)

  -- a page has the new label exactly where it is hinted
  pub hinted_new : (g : ℕ) → Hinted m hints g → at p.labels g ≡ other_label m.rec.label
  unfolding after_hints plan_of begun
  hinted_new g h = pages_get k (begun m) U named named (begun m) B (λ g q. q) g h.named h.in_use.label

  pub new_hinted : (g : ℕ) → at p.labels g ≡ other_label m.rec.label → Hinted m hints g
  unfolding plan_of begun
  new_hinted g e = let (a, b) = H.hinted g e in record { in_use = in_use m S g a; named = b }

  pub used_kind : (g : ℕ) → at m.labels g ≡ m.rec.label → (at p.labels g ≡ m.rec.label) ⊎ (at p.labels g ≡ other_label m.rec.label)
  unfolding plan_of begun
  used_kind g e = H.used g e

  pub free_stays : (g : ℕ) → at m.labels g ≡ 0 → at p.labels g ≡ 0
  unfolding plan_of begun
  free_stays g e = H.none g e

  pub free_same_pages : free_pages p.labels 1 m.rec.pages ≡ free_pages m.labels 1 m.rec.pages
  unfolding begun
  free_same_pages = free_same p.labels m.labels 1 m.rec.pages (free_as_before k (begun m) U named p H)

  pub labels_length : length p.labels ≡ m.rec.pages
  unfolding plan_of begun
  labels_length = H.labels_length ∙ (layout m S).labels

  -- ---- the world

  pub old_object : (x : ℕ) → IsObject m x → at p.labels (x / m.rec.page) ≡ m.rec.label → Memᴰ x (objects_unhinted m hints)
  unfolding objects_unhinted
  old_object x ob e = gather_mem (is_unhinted m hints) (starts m) (block 1 m.rec.pages) (x / m.rec.page) x
      (block_mem 1 m.rec.pages (x / m.rec.page) ob.in_use.low ob.in_use.high)
      (unhinted_is m hints (x / m.rec.page) (not_free m.labels (x / m.rec.page) (λ q. label_pos m S.valid (sym ob.in_use.label ∙ q)))
      (λ q. other≢label m S (sym (hinted_new (x / m.rec.page) (record { in_use = ob.in_use; named = q })) ∙ e)))
      ob.met

  -- the heap holds them
  pub few_words : sum (size m.heap) (objects_unhinted m hints) ≤ length m.heap
  few_words =
      let c : pages_used m.labels 1 m.rec.pages ≤ m.rec.pages = omega (arith, used_and_free m.labels 1 m.rec.pages) in
      let q : pages_used m.labels 1 m.rec.pages * m.rec.page ≤ m.rec.pages * m.rec.page = mul-le-mul_right m.rec.page c in
      omega (arith, words_are m hints, words_used m hints, (layout m S).heap)

  unfoldable pub world : World
  unfolding plan_of
  world = record {
    plan = plan_of m logged;
    heap = m.heap;
    labels = p.labels;
    Obj = IsObject m;
    Root = λ x. IsObject m x × Memᴰ x roots;
    logs = refl;
    pos = page_pos m S.valid;
    low = omega arith;
    high = sym labels_length;
    old≢0 = label_pos m S.valid;
    new≢0 = other≢0 m S;
    new≢old = other≢label m S;
    heap_length = rw labels_length (layout m S).heap;
    small = omega (arith, (layout m S).heap, heap_fits (layout m S).page_high (layout m S).pages_high);
    few = omega (arith, labels_length, (layout m S).pages_high);
    kind = λ x ob. used_kind (x / m.rec.page) ob.in_use.label;
    fits = object_fits m S;
    shape = λ x ob. (placed m x (layout m S) ob).shape;
    odd = λ x ob. (met_of m S x ob).header.odd;
    inside = λ x ob. (placed m x (layout m S) ob).inside;
    apart = objects_apart m (page_pos m S.valid);
    nonzero = object_nonzero m S;
    references = references;
    olds = objects_unhinted m hints;
    all = old_object;
    most = few_words;
    hinted = length p.queue;
  }
    where
      references : (x i : ℕ) → IsObject m x → 0 < i → i ≤ refs_of (at m.heap x) → (at m.heap (x + i) ≡ 0) ⊎ IsObject m (at m.heap (x + i))
      references x i ob low high = let e : x + 1 + (i - 1) ≡ x + i = omega arith in rw e at (S.references x (i - 1) ob (omega arith))

  -- ---- the first state

  abbrev pub s : State
  s = record { heap = m.heap; pages = p; objects = 0; words = 0; moves = [] }

  kept_self : (x y : ℕ) → Kept world s x y → y ≡ x
  kept_self x y (stayed q e) = e
  kept_self x y (went n mem ex ey) = absurd (Memᴰ.not-nil mem)

  first_inv : Inv world s
  unfolding world plan_of begun
  first_inv = record {
    heap_length = refl;
    labels_length = refl;
    used = λ g e. inl refl;
    kept = λ g h. absurd (not_kept p H.kept g h);
    free = λ g e. inl e;
    copy_fresh = ap (at p.labels) H.copy ∙ free_stays 0 S.zero;
    copy_label = λ h. absurd (omega (arith, H.fill));
    fill_within = omega (arith, H.fill);
    moved = λ n mem. absurd (Memᴰ.not-nil mem);
    unmoved = λ x ob e. inr (λ i h. refl);
    header = λ x y q. ap (at m.heap) (kept_self x y q);
    data_words = λ x y i q l h. ap (λ (j : ℕ). at m.heap (j + i)) (kept_self x y q);
    references = λ x y i q l h. inl (ap (λ (j : ℕ). at m.heap (j + i)) (kept_self x y q));
    copies_apart = λ n l mem. absurd (Memᴰ.not-nil mem);
  }

  was_used : (g : ℕ) → at p.labels g ≢ 0 → InUse m g
  was_used g n = go (S.labels g)
    where
      go : (at m.labels g ≡ 0) ⊎ (at m.labels g ≡ m.rec.label) → InUse m g
      go (inl q) = absurd (n (free_stays g q))
      go (inr q) = in_use m S g q

  pub was_free : (g : ℕ) → at p.labels g ≡ 0 → at m.labels g ≡ 0
  was_free g e = go (S.labels g)
    where
      us : (at p.labels g ≡ m.rec.label) ⊎ (at p.labels g ≡ other_label m.rec.label) → ⊥
      us (inl z) = label_pos m S.valid (sym z ∙ e)
      us (inr z) = other≢0 m S (sym z ∙ e)

      go : (at m.labels g ≡ 0) ⊎ (at m.labels g ≡ m.rec.label) → at m.labels g ≡ 0
      go (inl q) = q
      go (inr q) = absurd (us (used_kind g q))

  first_tiled : Tiled world s
  unfolding world plan_of begun
  first_tiled = record {
    next = next;
    first = λ g e. inl (g * m.rec.page, home (first_object m S g (was_used g e)) refl);
    copy_blank = λ w e l. S.blank w (ap (at m.labels) (e ∙ H.copy) ∙ S.zero);
    free_blank = λ w e. S.blank w (was_free (w / m.rec.page) e);
    copy_is = inl (H.copy, H.fill);
    page0 = free_stays 0 S.zero;
  }
    where
      next : (x y : ℕ) → Place world s x y → Next world s (y / m.rec.page) (y + size m.heap x)
      next x y (away n mem ex ey) = absurd (Memᴰ.not-nil mem)
      next x y (home ob e) = subst (λ (z : ℕ). Next world s (z / m.rec.page) (z + size m.heap x)) (sym e) (go (met_next m.heap (page_steps m g) x ob.met))
        where
          g : ℕ
          g = x / m.rec.page

          go : Memᴰ (x + size m.heap x) (starts m g) ⊎ (x + size m.heap x ≡ stop m g) → Next world s g (x + size m.heap x)
          go (inl mem) = another (x + size m.heap x) (home (met_object m (page_pos m S.valid) g (x + size m.heap x) ob.in_use mem) refl) (met_page m (page_pos m S.valid) g (x + size m.heap x) mem)
          go (inr q) = blank (λ w e l. S.tail g w ob.in_use e (omega (arith, q)))
              (λ z. absurd (label_pos m S.valid (sym ob.in_use.label ∙ ap (at m.labels) (z ∙ H.copy) ∙ S.zero)))

  first_packs : Packs world s
  unfolding world plan_of begun froms sum
  first_packs = record {
    taken = 0;
    joined = omega (arith, H.kept);
    left = omega arith;
    unkept = λ enough. H.kept;
    distinct = tt;
    packed = packed_none _ _;
    words = refl;
    objects = omega arith;
  }

  pub first_good : Good world s
  unfolding world plan_of begun
  first_good = record {
    inv = first_inv;
    packs = first_packs;
    tiled = first_tiled;
    lined = record { queued = H.queued; last = λ u h. absurd (omega (arith, H.fill)) };
    upward = none_upward world p H.copy refl;
    stacked = stacked_none world s H.copy;
    causes = causes_none world s H.kept (λ j mem. absurd (Memᴰ.not-nil mem));
    filled = omega (arith, H.fill, page_pos m S.valid);
  }
