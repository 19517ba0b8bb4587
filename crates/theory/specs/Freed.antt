-- Step 4, word by word: pages with the old label are zeroed and become free, all else stays.
use Rattle.std.specs.Prelude.{◌≡◌, refl, Bool, true, false, cond, List, [], ◌∷◌, ◌++◌, ℕ, zero, suc, ◌+◌, ◌*◌, ◌-◌, ◌/◌, ◌≤◌, ◌<◌, eqb, length, take, drop, replicate}
use Rattle.std.proofs.Common.{sym, ap, ◌∙◌, add-one, arith, length-take, length-drop, length-append, get_or-take, get_or-drop, get_or-append-add}
use Rattle.std.proofs.Math.Nat.{div-eq_of_lt, add-div_left}
use Rattle.std.proofs.Math.Decide.{dec_lt}
use Rattle.std.proofs.lemmas.List.{length-replicate, get_or-replicate}
use Rattle.std.proofs.Math.ListN.{get_or-append, get_or-eq_default}
use Rattle.rules.specs.Ranges.{at}
use Rattle.rules.specs.Collection.{freed_labels, freed_heap}

cond_same : (b : Bool) → ◌≡◌ {A = ℕ} 0 (cond b 0 0)
cond_same true = refl
cond_same false = refl

pub freed_labels_lem : (old : ℕ) (labels : List ℕ) (g : ℕ) → at (freed_labels old labels) g ≡ cond (eqb (at labels g) old) 0 (at labels g)
unfolding freed_labels
freed_labels_lem old [] g = cond_same (eqb 0 old)
freed_labels_lem old (l ∷ ls) zero = refl
freed_labels_lem old (l ∷ ls) (suc g) = freed_labels_lem old ls g

pub freed_labels_length : (old : ℕ) (labels : List ℕ) → length (freed_labels old labels) ≡ length labels
unfolding freed_labels
freed_labels_length old [] = refl
freed_labels_length old (l ∷ ls) = ap suc (freed_labels_length old ls)

-- one page
module _ (P old l : ℕ) (h : List ℕ) where
  abbrev page : List ℕ
  page = cond (eqb l old) (replicate P 0) (take P h)

  page_length : P ≤ length h → length page ≡ P
  page_length le = go (eqb l old)
    where
      go : (b : Bool) → length (cond b (replicate P 0) (take P h)) ≡ P
      go true = length-replicate P 0
      go false = rw length-take (omega arith)

  page_word : (w : ℕ) → w < P → at page w ≡ cond (eqb l old) 0 (at h w)
  page_word w lt = go (eqb l old)
    where
      go : (b : Bool) → at (cond b (replicate P 0) (take P h)) w ≡ cond b 0 (at h w)
      go true = get_or-replicate P w 0 0 lt
      go false = get_or-take P h w 0 lt

pub freed_heap_length : (P old : ℕ) (labels h : List ℕ) → length h ≡ length labels * P → length (freed_heap P old labels h) ≡ length h
unfolding freed_heap
freed_heap_length P old [] h e = omega arith
freed_heap_length P old (l ∷ ls) h e =
    rw (length-append, page_length P old l h (omega arith), freed_heap_length P old ls (drop P h) (rw length-drop (omega arith)), length-drop) (omega arith)

pub freed_heap_lem : (P old : ℕ) → 0 < P → (labels h : List ℕ) → length h ≡ length labels * P → (w : ℕ) → at (freed_heap P old labels h) w ≡ cond (eqb (at labels (w / P)) old) 0 (at h w)
unfolding freed_heap
freed_heap_lem P old pos [] h e w = rw (get_or-eq_default h 0 {n = w} (omega arith)) (cond_same (eqb 0 old))
freed_heap_lem P old pos (l ∷ ls) h e w = go (λ v. freed_heap_lem P old pos ls (drop P h) (rw length-drop (omega arith)) v) (dec_lt w P)
  where
    A : List ℕ
    A = cond (eqb l old) (replicate P 0) (take P h)

    B : List ℕ
    B = freed_heap P old ls (drop P h)

    len_a : length A ≡ P
    len_a = page_length P old l h (omega arith)

    go : ((v : ℕ) → at B v ≡ cond (eqb (at ls (v / P)) old) 0 (at (drop P h) v)) → Dec (w < P) → at (A ++ B) w ≡ cond (eqb (at (l ∷ ls) (w / P)) old) 0 (at h w)
    go ih (yes lt) = rw (div-eq_of_lt lt) (get_or-append A B 0 w (omega (arith, len_a)) ∙ page_word P old l h w lt)
    go ih (no n) =
        let ew : w ≡ P + (w - P) = omega arith in
        let eg : w / P ≡ suc ((w - P) / P) = ap (λ (k : ℕ). k / P) ew ∙ add-div_left (w - P) pos ∙ add-one _ in
        let ea : at (A ++ B) w ≡ at B (w - P) = ap (at (A ++ B)) (ew ∙ ap (λ (k : ℕ). k + (w - P)) (sym len_a)) ∙ get_or-append-add A B (w - P) 0 in
        let ed : at (drop P h) (w - P) ≡ at h w = get_or-drop P h (w - P) 0 ∙ ap (at h) (sym ew) in
        rw eg (ea ∙ ih (w - P) ∙ ap (cond (eqb (at ls ((w - P) / P)) old) 0) ed)
