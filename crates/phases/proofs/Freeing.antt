-- Laws of freeing: the zeros of a page, then page by page what is done and what is left gives.
use mathlib.Core.Path.{◌≡◌, refl, sym, ap, ◌∙◌}
use mathlib.Core.Bool.{Bool, true, false, cond}
use mathlib.Core.List.{List, [], ◌∷◌, ◌++◌, append-nil, append_assoc}
use Prim.Native.Nat.{ℕ, suc, ◌+◌, ◌-◌, ◌*◌, ◌≤◌, ◌<◌}
use native.Mathlib.Nat.{suc-mul, mul-le-mul_right}
use native.Mathlib.Omega.{arith}
use native.Mathlib.Numerals.{add-one}
use lib.ListN.{length, set, take, drop, replicate, drop_of_length-le, length-append, length-take, length-drop, length-replicate}
use lib.Seq.{sets, sets-eq, drop-cons, take-suc, take-suc-set, take_all, drop-set-lt, take-add, drop-drop, take_at, drop_at}
use lib.Dec.{eqb}
use borrow.Author.Tests.{eqb-true, eqb-false, eq-eqb, ne_eqb}
use borrow.Rule.Slice.PartMut.{mid_of, put_mid}
use Rattle.rules.specs.Ranges.{at}
use Rattle.rules.specs.Collection.{freed_heap, freed_labels}
use Rattle.laws.specs.Pages.{page_end}

-- zeros put in the place of n words
pub cleared_is : (h part : List ℕ) (a n : ℕ) → a + n ≤ length h → part ≡ replicate (length (mid_of a (a + n - a) h)) 0 → put_mid a (a + n - a) h part ≡ sets h a (replicate n 0)
cleared_is h part a n fits e =
    let m : a + n - a ≡ n = omega arith in
    let many : length (mid_of a n h) ≡ n = simp (length-take, length-drop) (omega arith) in
    let part_is : part ≡ replicate n 0 = e ∙ rw (m, many) in
    let zeros : length {A = ℕ} (replicate n 0) ≡ n = length-replicate n 0 in
    rw (m, part_is, drop-drop n a h) (sym (rw (zeros, append_assoc) at (sets-eq (replicate n 0) h a (rw zeros fits))))

-- ---- the pages: those below g are done

pub record Freeing (P old : ℕ) (goal_h goal_l h l : List ℕ) (g : ℕ) : Type 0 where
  pub heap : take (g * P) h ++ freed_heap P old (drop g l) (drop (g * P) h) ≡ goal_h
  pub labels : take g l ++ freed_labels old (drop g l) ≡ goal_l

pub freeing_begin : (P old : ℕ) (h l : List ℕ) → Freeing P old (freed_heap P old l h) (freed_labels old l) h l 0
freeing_begin P old h l = let e : 0 * P ≡ 0 = omega arith in record { heap = rw e; labels = refl }

module _ (P old T : ℕ) (goal_h goal_l h l : List ℕ) (g : ℕ) (F : Freeing P old goal_h goal_l h l g) (hl : length h ≡ T * P) (ll : length l ≡ T) where
  pub freeing_end : T ≤ g → (h ≡ goal_h) × (l ≡ goal_l)
  unfolding freed_heap freed_labels
  freeing_end p =
      let le : length h ≤ g * P = omega (arith, mul-le-mul_right P p) in
      let lq : length l ≤ g = omega arith in
      let d : drop g l ≡ [] = drop_of_length-le l lq in
      let a : take (g * P) h ++ [] ≡ goal_h = rw d at F.heap in
      let b : take g l ++ [] ≡ goal_l = rw d at F.labels in
      (sym (take_all (g * P) h le) ∙ sym (append-nil (take (g * P) h)) ∙ a, sym (take_all g l lq) ∙ sym (append-nil (take g l)) ∙ b)

  module _ (p : g < T) where
    here : g < length l
    here = omega arith

    fits : g * P + P ≤ length h
    fits = omega (arith, page_end g P T p)

    more : (g + 1) * P ≡ g * P + P
    more = ap (λ (k : ℕ). k * P) (add-one g) ∙ suc-mul g P

    -- what the pages after g give
    abbrev rest : List ℕ
    rest = freed_heap P old (drop (suc g) l) (drop P (drop (g * P) h))

    kept : (at l g ≡ old → ⊥) → Freeing P old goal_h goal_l h l (g + 1)
    unfolding freed_heap freed_labels
    kept n =
        let a : take (g * P) h ++ (take P (drop (g * P) h) ++ rest) ≡ goal_h = rw (drop-cons l g 0 here, ne_eqb (at l g) old n) at F.heap in
        let b : take g l ++ (at l g ∷ freed_labels old (drop (suc g) l)) ≡ goal_l = rw (drop-cons l g 0 here, ne_eqb (at l g) old n) at F.labels in
        record {
          heap = rw (more, add-one g, take-add (g * P) P h, ← (drop-drop P (g * P) h), append_assoc (take (g * P) h) (take P (drop (g * P) h)) rest) a;
          labels = rw (add-one g, take-suc l g 0 here, append_assoc (take g l) (at l g ∷ []) (freed_labels old (drop (suc g) l))) b;
        }

    freed : at l g ≡ old → Freeing P old goal_h goal_l (sets h (g * P) (replicate P 0)) (set l g 0) (g + 1)
    unfolding freed_heap freed_labels
    freed y =
        let a : take (g * P) h ++ (replicate P 0 ++ rest) ≡ goal_h = rw (drop-cons l g 0 here, eq-eqb (at l g) old y) at F.heap in
        let b : take g l ++ (0 ∷ freed_labels old (drop (suc g) l)) ≡ goal_l = rw (drop-cons l g 0 here, eq-eqb (at l g) old y) at F.labels in
        let z : length {A = ℕ} (replicate P 0) ≡ P = length-replicate P 0 in
        let s : sets h (g * P) (replicate P 0) ≡ (take (g * P) h ++ replicate P 0) ++ drop (g * P + P) h
        = rw z at (sets-eq (replicate P 0) h (g * P) (omega (arith, fits, z))) in
        let n : length (take (g * P) h ++ replicate P 0) ≡ g * P + P = rw (length-append, length-take, z) (omega (arith, fits)) in
        let t : take (g * P + P) (sets h (g * P) (replicate P 0)) ≡ take (g * P) h ++ replicate P 0 = rw s (take_at (take (g * P) h ++ replicate P 0) (drop (g * P + P) h) (g * P + P) n) in
        let d : drop (g * P + P) (sets h (g * P) (replicate P 0)) ≡ drop (g * P + P) h = rw s (drop_at (take (g * P) h ++ replicate P 0) (drop (g * P + P) h) (g * P + P) n) in
        let dl : drop (suc g) (set l g 0) ≡ drop (suc g) l = drop-set-lt (suc g) l g 0 (omega arith) in
        let tl : take (suc g) (set l g 0) ≡ take g l ++ (0 ∷ []) = take-suc-set l g 0 here in
        record {
          heap = rw (more, add-one g, t, d, dl, ← (drop-drop P (g * P) h), append_assoc (take (g * P) h) (replicate P 0) rest) a;
          labels = rw (add-one g, dl, tl, append_assoc (take g l) (0 ∷ []) (freed_labels old (drop (suc g) l))) b;
        }

    -- as the code leaves page g
    pub freeing_turn : (h' l' : List ℕ) → h' ≡ cond (eqb (at l g) old) (sets h (g * P) (replicate P 0)) h → l' ≡ cond (eqb (at l g) old) (set l g 0) l → Freeing P old goal_h goal_l h' l' (g + 1)
    freeing_turn h' l' a b = rw (a, b) (go (eqb (at l g) old) refl)
      where
        go : (t : Bool) → eqb (at l g) old ≡ t → Freeing P old goal_h goal_l (cond t (sets h (g * P) (replicate P 0)) h) (cond t (set l g 0) l) (g + 1)
        go true e = freed (eqb-true (at l g) old e)
        go false e = kept (eqb-false (at l g) old e)
