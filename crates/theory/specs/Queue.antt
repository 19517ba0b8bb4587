-- The queue holds each page with the new label once. So it is never longer than there are pages, and shorter while some page
-- has another label.
use Rattle.std.specs.Prelude.{◌≡◌, ◌≢◌, ℕ, ◌+◌, ◌≤◌, ◌<◌, length, set}
use Rattle.std.proofs.Common.{sym, ap, ◌∙◌, arith, length-set, length-append, get_or-set_same, get_or-set_other}
use mathlib.Core.List.{List, [], ◌∷◌, ◌++◌, Memᴰ}
use Rattle.std.proofs.Math.Decide.{ℕ_discrete, dec_lt}
use Rattle.std.proofs.Math.ListN.{get_or-append}
use Rattle.std.proofs.Math.Seq.{get_or-append_seam}
use Rattle.rules.specs.Ranges.{at}
use Rattle.rules.specs.Demands.{Once}
use Rattle.laws.specs.Words.{in_range}
use Rattle.theory.specs.Sums.{mem_at, places_distinct, below_length}

pub record Queued (new : ℕ) (labels queue : List ℕ) : Type 0 where
  pub all : (g : ℕ) → at labels g ≡ new → (j : ℕ) × (j < length queue) × (at queue j ≡ g)
  pub once : Once queue
  pub only : (j : ℕ) → j < length queue → at labels (at queue j) ≡ new

pub join : (new : ℕ) (labels queue : List ℕ) (g : ℕ) → g < length labels → at labels g ≢ new → Queued new labels queue
    → Queued new (set labels g new) (queue ++ (g ∷ []))
join new labels queue g inside ne Q = record {
  all = λ h e. al h (ℕ_discrete h g) e;
  once = λ i j hi hj e. on i j (dec_lt i (length queue)) (dec_lt j (length queue)) hi hj e;
  only = λ j h. ol j (dec_lt j (length queue)) h;
}
  where
    q' : List ℕ
    q' = queue ++ (g ∷ [])

    len' : length q' ≡ length queue + 1
    len' = length-append queue (g ∷ [])

    before : (j : ℕ) → j < length queue → at q' j ≡ at queue j
    before j h = get_or-append queue (g ∷ []) 0 j h

    last : (j : ℕ) → ¬ (j < length queue) → j < length q' → at q' j ≡ g
    last j n h = let e : j ≡ length queue = omega (arith, len') in rw e (get_or-append_seam queue g [] 0)

    apart : (j : ℕ) → j < length queue → at queue j ≢ g
    apart j h e = ne (ap (at labels) (sym e) ∙ Q.only j h)

    al : (h : ℕ) → Dec (h ≡ g) → at (set labels g new) h ≡ new → (j : ℕ) × (j < length q') × (at q' j ≡ h)
    al h (yes e) z = (length queue, omega (arith, len'), get_or-append_seam queue g [] 0 ∙ sym e)
    al h (no n) z =
        let r : (j : ℕ) × (j < length queue) × (at queue j ≡ h) = Q.all h (sym (get_or-set_other labels g h new 0 n) ∙ z) in
        (r.0, omega (arith, len', r.1), before r.0 r.1 ∙ r.2)

    on : (i j : ℕ) → Dec (i < length queue) → Dec (j < length queue) → i < length q' → j < length q' → at q' i ≡ at q' j → i ≡ j
    on i j (yes a) (yes b) hi hj e = Q.once i j a b (sym (before i a) ∙ e ∙ before j b)
    on i j (yes a) (no b) hi hj e = absurd (apart i a (sym (before i a) ∙ e ∙ last j b hj))
    on i j (no a) (yes b) hi hj e = absurd (apart j b (sym (before j b) ∙ sym e ∙ last i a hi))
    on i j (no a) (no b) hi hj e = omega (arith, len')

    ol : (j : ℕ) → Dec (j < length queue) → j < length q' → at (set labels g new) (at q' j) ≡ new
    ol j (yes a) h = rw (before j a) (get_or-set_other labels g (at queue j) new 0 (apart j a) ∙ Q.only j a)
    ol j (no a) h = rw (last j a h) (get_or-set_same labels g new 0 inside)

pub queue_short : (new : ℕ) (labels queue : List ℕ) → new ≢ 0 → Queued new labels queue → length queue ≤ length labels
queue_short new labels queue nz Q = below_length queue (length labels) (places_distinct queue Q.once) sub
  where
    sub : (z : ℕ) → Memᴰ z queue → z < length labels
    sub z m = let (j, a, b) = mem_at queue z m in in_range labels z (λ e. nz (sym (Q.only j a) ∙ ap (at labels) b ∙ e))

-- a page that is not in it can still join
pub queue_room : (new : ℕ) (labels queue : List ℕ) (g : ℕ) → new ≢ 0 → g < length labels → at labels g ≢ new → Queued new labels queue → length queue < length labels
queue_room new labels queue g nz inside ne Q =
    let h : length (queue ++ (g ∷ [])) ≤ length (set labels g new) = queue_short new (set labels g new) (queue ++ (g ∷ [])) nz (join new labels queue g inside ne Q) in
    omega (arith, simp (length-append, length-set) at h)
