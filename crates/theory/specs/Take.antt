-- What a later state keeps of an earlier one; and a page taken keeps the invariant, where no page is kept so far.
use Rattle.std.specs.Prelude.{◌≡◌, refl, ◌≢◌, ◌⊎◌, ℕ, ◌+◌, ◌<◌, length, set}
use Rattle.std.proofs.Math.Path.{sym}
use Rattle.std.proofs.Common.{ap, ◌∙◌, inr, zero-le, arith, get_or-set_other}
use Rattle.std.proofs.Math.Logic.{inl}
use mathlib.Core.List.{List, Memᴰ}
use Rattle.std.proofs.Math.Decide.{ℕ_discrete}
use Rattle.std.proofs.Math.ListN.{length-set}
use Rattle.std.proofs.Math.Seq.{get_or-set_same}
use Rattle.rules.specs.Ranges.{at}
use Rattle.rules.specs.Pages.{lowest_free}
use Rattle.rules.specs.Collection.{Move, State, on_pages, take_page, put}
use Rattle.rules.specs.Demands.{Becomes}
use Rattle.laws.specs.FreePages.{Lowest}
use Rattle.theory.specs.KeptPages.{not_kept}
use Rattle.theory.specs.World.{becomes_map, page_of, size_at, World, Stays, Kept, stayed, went, Region, Moved, moved_on, LabelledOrKept, Inv}
use Rattle.theory.specs.Places.{obj_used}
use Rattle.theory.specs.Put.{Ready, put_region, put_keeps, mem_up, stays_up}

-- ---- what is kept: the region and its words, the moves, and what stays

pub record Extends (W : World) (s t : State) : Type 0 where
  pub region : (w : ℕ) → Region W s w → Region W t w
  pub words : (w : ℕ) → Region W s w → at t.heap w ≡ at s.heap w
  pub moves : (m : Move) → Memᴰ m s.moves → Memᴰ m t.moves
  pub stays : (x : ℕ) → Stays W s x → Stays W t x

pub ext_refl : (W : World) (s : State) → Extends W s s
ext_refl W s = record { region = λ w r. r; words = λ w r. refl; moves = λ m h. h; stays = λ x q. q }

pub ext_trans : (W : World) (s t u : State) → Extends W s t → Extends W t u → Extends W s u
ext_trans W s t u E F = record {
  region = λ w r. F.region w (E.region w r);
  words = λ w r. F.words w (E.region w r) ∙ E.words w r;
  moves = λ m h. F.moves m (E.moves m h);
  stays = λ x q. F.stays x (E.stays x q);
}

pub ext_kept : (W : World) (s t : State) → Extends W s t → (a b : ℕ) → Kept W s a b → Kept W t a b
ext_kept W s t E a b (stayed q e) = stayed (E.stays a q) e
ext_kept W s t E a b (went m mem ea eb) = went m (E.moves m mem) ea eb

pub put_ext : (W : World) (t : State) (x : ℕ) (R : Ready W t x) → Extends W t (put W.plan (size_at W x) x t.pages t)
put_ext W t x R = record { region = put_keeps W t x R; words = put_region W t x R; moves = mem_up W t x R; stays = stays_up W t x R }

-- ---- a page taken

module _ (W : World) (s : State) (I : Inv W s) (unkept : s.pages.kept ≡ 0) (L : Lowest s.pages.labels W.plan.lo W.plan.hi) where
  -- the page, the labels and the state after
  abbrev pub g : ℕ
  g = lowest_free s.pages.labels W.plan.lo W.plan.hi

  abbrev pub ls : List ℕ
  ls = set s.pages.labels g W.plan.new

  abbrev pub t : State
  t = on_pages s (take_page W.plan s.pages)

  pub page_inside : g < length s.pages.labels
  page_inside = omega (arith, L.high, W.high, I.labels_length)

  pub not_page : (k : ℕ) → at s.pages.labels k ≢ 0 → k ≢ g
  not_page k h e = h (ap (at s.pages.labels) e ∙ L.free)

  pub label_up : (k : ℕ) → at s.pages.labels k ≢ 0 → at ls k ≡ at s.pages.labels k
  label_up k h = get_or-set_other s.pages.labels g k W.plan.new 0 (not_page k h)

  used_same : (k : ℕ) → at W.labels k ≢ 0 → at s.pages.labels k ≡ at W.labels k
  used_same k h = go (I.used k h)
    where
      go : LabelledOrKept W s k → at s.pages.labels k ≡ at W.labels k
      go (inl e) = e
      go (inr q) = absurd (not_kept s.pages unkept k q.listed)

  fresh : at W.labels g ≡ 0
  fresh = go (ℕ_discrete (at W.labels g) 0)
    where
      go : Dec (at W.labels g ≡ 0) → at W.labels g ≡ 0
      go (yes e) = e
      go (no q) = absurd (q (sym (used_same g q) ∙ L.free))

  used_label : (k : ℕ) → at W.labels k ≢ 0 → at ls k ≡ at s.pages.labels k
  used_label k h = get_or-set_other s.pages.labels g k W.plan.new 0 (λ e. h (ap (at W.labels) e ∙ fresh))

  free' : (k : ℕ) → at W.labels k ≡ 0 → (at ls k ≡ 0) ⊎ (at ls k ≡ W.plan.new)
  free' k h = go (ℕ_discrete k g)
    where
      then : at ls k ≡ at s.pages.labels k → (at s.pages.labels k ≡ 0) ⊎ (at s.pages.labels k ≡ W.plan.new) → (at ls k ≡ 0) ⊎ (at ls k ≡ W.plan.new)
      then e (inl q) = inl (e ∙ q)
      then e (inr q) = inr (e ∙ q)

      go : Dec (k ≡ g) → (at ls k ≡ 0) ⊎ (at ls k ≡ W.plan.new)
      go (yes e) = inr (ap (at ls) e ∙ get_or-set_same s.pages.labels g W.plan.new 0 page_inside)
      go (no q) = then (get_or-set_other s.pages.labels g k W.plan.new 0 q) (I.free k h)

  new_used : (k : ℕ) → at s.pages.labels k ≡ W.plan.new → at s.pages.labels k ≢ 0
  new_used k e q = W.new≢0 (sym e ∙ q)

  new_up : (k : ℕ) → at s.pages.labels k ≡ W.plan.new → at ls k ≡ W.plan.new
  new_up k e = label_up k (new_used k e) ∙ e

  take_stays : (a : ℕ) → Stays W s a → Stays W t a
  unfolding take_page
  take_stays a q = record { object = q.object; label = new_up (page_of W a) q.label; not_gone = q.not_gone }

  stays_back : (a : ℕ) → Stays W t a → Stays W s a
  unfolding take_page
  stays_back a q = record { object = q.object; label = sym (used_label (page_of W a) (obj_used W a q.object)) ∙ q.label; not_gone = q.not_gone }

  pub take_back : (a b : ℕ) → Kept W t a b → Kept W s a b
  unfolding take_page
  take_back a b (stayed q e) = stayed (stays_back a q) e
  take_back a b (went m mem ea eb) = went m mem ea eb

  pub take_ext : Extends W s t
  unfolding take_page
  take_ext = record {
    region = λ w r. record { label = new_up (page_of W w) r.label; below = λ q. absurd (not_page (page_of W w) (new_used (page_of W w) r.label) q) };
    words = λ w r. refl;
    moves = λ m h. h;
    stays = take_stays;
  }

  pub take_inv : Inv W t
  unfolding take_page
  take_inv = record {
    heap_length = I.heap_length;
    labels_length = length-set s.pages.labels g W.plan.new ∙ I.labels_length;
    used = λ k h. inl (used_label k h ∙ used_same k h);
    kept = λ k h. absurd (not_kept t.pages unkept k h);
    free = free';
    copy_fresh = fresh;
    copy_label = λ q. get_or-set_same s.pages.labels g W.plan.new 0 page_inside;
    fill_within = zero-le;
    moved = moved;
    unmoved = λ x ob e. I.unmoved x ob (sym (used_label (page_of W x) (obj_used W x ob)) ∙ e);
    header = λ a b k. I.header a b (take_back a b k);
    data_words = λ a b i k. I.data_words a b i (take_back a b k);
    references = λ a b i k l h. go a b i (I.references a b i (take_back a b k) l h);
    copies_apart = I.copies_apart;
  }
    where
      moved : (m : Move) → Memᴰ m s.moves → Moved W t m
      moved m h =
          let M : Moved W s m = I.moved m h in
          moved_on W s t m M take_stays (λ j k. k) M.planted (new_up (page_of W m.to) M.label) (λ q. absurd (not_page (page_of W m.to) (new_used (page_of W m.to) M.label) q))

      go : (a b i : ℕ) → (at s.heap (b + i) ≡ at W.heap (a + i)) ⊎ Becomes (Kept W s) (at W.heap (a + i)) (at s.heap (b + i))
          → (at s.heap (b + i) ≡ at W.heap (a + i)) ⊎ Becomes (Kept W t) (at W.heap (a + i)) (at s.heap (b + i))
      go a b i (inl e) = inl e
      go a b i (inr p) = inr (becomes_map (ext_kept W s t take_ext) _ _ p)
