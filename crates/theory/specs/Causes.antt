-- Why pages are kept: each for an object that stays and is reached without that page and those kept after it, the first
-- for one that does not fit the copy page, and none while a page is free. And what was copied is reached without any
-- kept page.
use Rattle.std.specs.Prelude.{◌≡◌, refl, ◌≢◌, ◌⊎◌, Bool, true, false, cond, ℕ, ◌+◌, ◌≤◌, ◌<◌, leb, take}
use Rattle.std.proofs.Math.Path.{sym, ap}
use Rattle.std.proofs.Common.{◌∙◌, subst, inl, inr, le_refl}
use mathlib.Core.List.{List, [], ◌∷◌, ◌++◌, Memᴰ}
use Rattle.std.proofs.Math.Decide.{ℕ_discrete, dec_lt}
use native.Mathlib.Omega.{arith}
use Rattle.std.proofs.Math.ListN.{length, length-append, get_or-append}
use Rattle.std.proofs.Math.Seq.{take-length, get_or-append_seam}
use Rattle.std.proofs.lemmas.List.{take-append-le}
use Rattle.rules.specs.Ranges.{at}
use Rattle.rules.specs.Collection.{Move, State, take_page, with_room, top, put, can_copy, keep_page, kept_pages}
use Rattle.laws.specs.FreePages.{none_free}
use Rattle.theory.specs.KeptPages.{kept_none, kept_length}
use Rattle.theory.specs.World.{page_of, label_was, size_at, World, Live, live_map, Gone, Stays, Reach, MovesUp, or_gone, Inv}
use Rattle.theory.specs.Places.{old_new_kept}
use Rattle.theory.specs.Put.{mem_split}
use Rattle.theory.specs.Keep.{listed, label_there, stays_up, free_else}
use Rattle.theory.specs.Forward.{Due, due_not_gone, Avail, Within, cannot_says, How, idle, copies, keeps, room_for, copied, open_room, copy_ext, keeping}

-- object x stays, on a page that was hinted or on one of the first i that are kept
pub record StaysBy (W : World) (s : State) (i x : ℕ) : Type 0 where
  pub stays : Stays W s x
  pub page : (label_was W x ≡ W.plan.new) ⊎ Memᴰ (page_of W x) (take i (kept_pages s.pages))

-- object x is reached by references of such objects and of objects that were copied
abbrev pub ReachedBy : World → State → ℕ → ℕ → Type 0
ReachedBy W s i x = Live W.heap W.Obj W.Root (StaysBy W s i) (λ z. StaysBy W s i z ⊎ Gone s z) x

pub by_up : (W : World) (s t : State) (i : ℕ) → ((a : ℕ) → StaysBy W s i a → StaysBy W t i a) → MovesUp s t → {x : ℕ}
    → ReachedBy W s i x → ReachedBy W t i x
by_up W s t i f up = live_map f (or_gone s t f up)

-- the i-th page that is kept holds an object that stays, and is reached where those before alone are kept; for the
-- first there was no room on the copy page
pub record Cause (W : World) (s : State) (i : ℕ) : Type 0 where
  pub from : ℕ
  pub page : page_of W from ≡ at (kept_pages s.pages) i
  pub stays : Stays W s from
  pub reached : ReachedBy W s i from
  pub tight : i ≡ 0 → W.plan.page < s.pages.fill + size_at W from

pub record Causes (W : World) (s : State) : Type 0 where
  pub each : (i : ℕ) → i < length (kept_pages s.pages) → Cause W s i
  pub full : 0 < s.pages.kept → (g : ℕ) → W.plan.lo ≤ g → g < W.plan.hi → at s.pages.labels g ≢ 0
  pub moved : (j : Move) → Memᴰ j s.moves → ReachedBy W s 0 j.from

-- no page is kept so far
pub causes_none : (W : World) (s : State) → s.pages.kept ≡ 0
    → ((j : Move) → Memᴰ j s.moves → ReachedBy W s 0 j.from) → Causes W s
causes_none W s e moved = record {
  each = λ i h. absurd (let n : length (kept_pages s.pages) ≡ 0 = ap (λ (l : List ℕ). length l) (kept_none s.pages e) in omega arith);
  full = λ h. absurd (omega arith);
  moved = moved;
}

-- ---- a copy keeps no page, and is made while none is kept

copied_kept : (W : World) (s : State) (x : ℕ) → (copied W s x).pages.kept ≡ s.pages.kept
unfolding with_room take_page put
copied_kept W s x = go (leb (s.pages.fill + size_at W x) W.plan.page)
  where
    go : (b : Bool) → (cond b s.pages (take_page W.plan s.pages)).kept ≡ s.pages.kept
    go true = refl
    go false = refl

module _ (W : World) (s : State) (I : Inv W s) where
  abbrev known : ℕ
  known = length (kept_pages s.pages)

  -- what stays is on a hinted page or on one that is kept already
  by_all : (a : ℕ) → Stays W s a → StaysBy W s known a
  by_all a q = record { stays = q; page = go (W.kind a q.object) }
    where
      go : (label_was W a ≡ W.plan.old) ⊎ (label_was W a ≡ W.plan.new)
          → (label_was W a ≡ W.plan.new) ⊎ Memᴰ (page_of W a) (take known (kept_pages s.pages))
      go (inr e) = inl e
      go (inl e) = inr (subst (Memᴰ (page_of W a)) (sym (take-length (kept_pages s.pages))) (old_new_kept W s I (page_of W a) e q.label).listed)

  reach_by : {x : ℕ} → Reach W s x → ReachedBy W s known x
  reach_by = live_map by_all (or_gone s s by_all (λ m k. k))

module _ (W : World) (s : State) (I : Inv W s) (C : Causes W s) (x : ℕ) (D : Due W s x) (av : Avail W s (size_at W x)) where
  none_known : length (kept_pages s.pages) ≡ 0
  none_known = ap (λ (l : List ℕ). length l) (kept_none s.pages av.unkept)

  copy_up : {a : ℕ} → ReachedBy W s 0 a → ReachedBy W (copied W s x) 0 a
  copy_up = by_up W s (copied W s x) 0 (λ a q. record { stays = (copy_ext W s I x D av).stays a q.stays; page = q.page }) (copy_ext W s I x D av).moves

  copy_causes : Causes W (copied W s x)
  copy_causes = causes_none W (copied W s x) (copied_kept W s x ∙ av.unkept)
      (λ j mem. copy_up (go j (mem_split W (room_for W s x) x (open_room W s I x D av).ready j mem)))
    where
      go : (j : Move) → Memᴰ j s.moves ⊎ (j ≡ record { from = x; to = top W.plan (room_for W s x).pages })
          → ReachedBy W s 0 j.from
      go j (inl mem) = C.moved j mem
      go j (inr e) =
          let now : ReachedBy W s 0 x = subst (λ (i : ℕ). ReachedBy W s i x) none_known (reach_by W s I D.reached) in
          subst (ReachedBy W s 0) (sym (ap (λ (k : Move). k.from) e)) now

-- ---- a page kept

module _ (W : World) (s : State) (I : Inv W s) (within : Within s) (C : Causes W s) (x : ℕ) (D : Due W s x) (cant : can_copy W.plan (size_at W x) s.pages ≡ false) where
  abbrev t : State
  t = keeping W s x

  are : kept_pages t.pages ≡ kept_pages s.pages ++ (page_of W x ∷ [])
  are = listed W s I x D.object D.old within

  -- of those before, the reasons stand
  before : (i : ℕ) → i ≤ length (kept_pages s.pages) → take i (kept_pages t.pages) ≡ take i (kept_pages s.pages)
  before i h = ap (take i) are ∙ take-append-le i (kept_pages s.pages) (page_of W x ∷ []) h

  up : (i : ℕ) → i ≤ length (kept_pages s.pages) → (a : ℕ) → StaysBy W s i a → StaysBy W t i a
  up i h a q = record { stays = stays_up W s I x D.object D.old within a q.stays; page = go q.page }
    where
      go : (label_was W a ≡ W.plan.new) ⊎ Memᴰ (page_of W a) (take i (kept_pages s.pages))
          → (label_was W a ≡ W.plan.new) ⊎ Memᴰ (page_of W a) (take i (kept_pages t.pages))
      go (inl e) = inl e
      go (inr m) = inr (subst (Memᴰ (page_of W a)) (sym (before i h)) m)

  keep_causes : Causes W t
  unfolding keep_page
  keep_causes = record {
    each = λ i h. each i (dec_lt i (length (kept_pages s.pages))) h;
    full = λ h g a b e. full (ℕ_discrete s.pages.kept 0) g a b (free_else W s I x D.object D.old within g e);
    moved = λ j mem. by_up W s t 0 (up 0 (omega arith)) (λ m k. k) (C.moved j mem);
  }
    where
      each : (i : ℕ) → Dec (i < length (kept_pages s.pages)) → i < length (kept_pages t.pages) → Cause W t i
      each i (yes lt) h =
          let c : Cause W s i = C.each i lt in
          record {
            from = c.from;
            page = c.page ∙ sym (ap (λ (l : List ℕ). at l i) are ∙ get_or-append (kept_pages s.pages) (page_of W x ∷ []) 0 i lt);
            stays = stays_up W s I x D.object D.old within c.from c.stays;
            reached = by_up W s t i (up i (omega arith)) (λ m k. k) c.reached;
            tight = c.tight;
          }
      each i (no n) h =
          let len : length (kept_pages t.pages) ≡ length (kept_pages s.pages) + 1 = ap (λ (l : List ℕ). length l) are ∙ length-append (kept_pages s.pages) (page_of W x ∷ []) in
          let e : i ≡ length (kept_pages s.pages) = omega arith in
          rw e (record {
            from = x;
            page = sym (ap (λ (l : List ℕ). at l (length (kept_pages s.pages))) are ∙ get_or-append_seam (kept_pages s.pages) (page_of W x) [] 0);
            stays = record { object = D.object; label = label_there W s I x D.object D.old within; not_gone = due_not_gone W s I x D };
            reached = by_up W s t (length (kept_pages s.pages)) (up (length (kept_pages s.pages)) (le_refl _)) (λ m k. k) (reach_by W s I D.reached);
            tight = λ z. (cannot_says W s (size_at W x) (omega (arith, kept_length s.pages within)) cant).0;
          })

      full : Dec (s.pages.kept ≡ 0) → (g : ℕ) → W.plan.lo ≤ g → g < W.plan.hi → at s.pages.labels g ≢ 0
      full (yes e) = none_free s.pages.labels W.plan.lo W.plan.hi (cannot_says W s (size_at W x) e cant).1
      full (no n) = C.full (omega arith)

pub causes_how : (W : World) (s : State) (v : ℕ) (t : State) → Inv W s → Within s → Causes W s → How W s v t → Causes W t
causes_how W s v t I within C (idle u p e) = subst (Causes W) (sym e) C
causes_how W s v t I within C (copies D av e) = subst (Causes W) (sym e) (copy_causes W s I C v D av)
causes_how W s v t I within C (keeps D cant e) = subst (Causes W) (sym e) (keep_causes W s I within C v D cant)
