-- The roots in order: those done, and what is left gives.
use Rattle.std.proofs.Common.{◌≡◌, refl, sym, ap, ◌∙◌, List, [], ◌∷◌, ◌++◌, ℕ, suc, ◌+◌, ◌≤◌, ◌<◌, length, take, drop, arith, add-one, append_assoc, drop-cons}
use mathlib.Core.List.{append-nil}
use lib.ListN.{set, length-set, drop_of_length-le}
use lib.Seq.{take-suc-set, take_all, drop-set-lt}
use Rattle.rules.specs.Ranges.{at}
use Rattle.rules.specs.Collection.{Plan, State, forward, forward_roots}
use Rattle.laws.specs.Safe.{SafeForward, SafeRoots}
use Rattle.copies.specs.Code.{forwarded_of, rooted_of}

-- i of the roots are done; K' is the plan as the code has it by then
pub record Rooting (K : Plan) (first : List ℕ) (begun : State) (K' : Plan) (roots : List ℕ) (s : State) (i : ℕ) : Type 0 where
  pub plan : K' ≡ K
  pub many : length roots ≡ length first
  pub same : rooted_of (take i roots ++ (forward_roots K (drop i roots) s).roots) (forward_roots K (drop i roots) s).state ≡ forward_roots K first begun
  pub safe : SafeRoots K (drop i roots) s

pub rooting_begin : (K : Plan) (roots : List ℕ) (s : State) → SafeRoots K roots s → Rooting K roots s K roots s 0
rooting_begin K roots s safe = record { plan = refl; many = refl; same = refl; safe = safe }

module _ {K : Plan} {first : List ℕ} {begun : State} {K' : Plan} {roots : List ℕ} {s : State} {i : ℕ} (W : Rooting K first begun K' roots s i) where
  pub rooting_end : length first ≤ i → rooted_of roots s ≡ forward_roots K first begun
  unfolding forward_roots
  rooting_end h₀ = let h : length roots ≤ i = omega (arith, W.many) in ap (λ (l : List ℕ). rooted_of l s) (sym (take_all i roots h) ∙ sym (append-nil (take i roots))) ∙ (rw (drop_of_length-le roots h) at W.same)

  module _ (within : i < length first) where
    h : i < length roots
    h = omega (arith, W.many)

    pub rooting_safe : SafeForward K' (at roots i) s
    unfolding SafeRoots
    rooting_safe = rw W.plan (rw (drop-cons roots i 0 h) at W.safe).0

    pub rooting_turn : (v : ℕ) (t : State) → forwarded_of v t ≡ forward K' (at roots i) s → (K'' : Plan) → K'' ≡ K' → Rooting K first begun K'' (set roots i v) t (i + 1)
    unfolding forward_roots SafeRoots
    rooting_turn v t e₀ K'' k =
        let e : forwarded_of v t ≡ forward K (at roots i) s = rw W.plan at e₀ in
        let rest : List ℕ = drop (suc i) roots in
        let d : drop (suc i) (set roots i v) ≡ rest = drop-set-lt (suc i) roots i v (omega arith) in
        let n : take (suc i) (set roots i v) ≡ take i roots ++ (v ∷ []) = take-suc-set roots i v h in
        let a : rooted_of (take i roots ++ ((forward K (at roots i) s).value ∷ (forward_roots K rest (forward K (at roots i) s).state).roots)) (forward_roots K rest (forward K (at roots i) s).state).state ≡ forward_roots K first begun = rw (drop-cons roots i 0 h) at W.same in
        let b : rooted_of (take i roots ++ (v ∷ (forward_roots K rest t).roots)) (forward_roots K rest t).state ≡ forward_roots K first begun = rw (← e) at a in
        record {
          plan = k ∙ W.plan;
          many = rw length-set W.many;
          same = rw (add-one i, d, n, append_assoc (take i roots) (v ∷ []) (forward_roots K rest t).roots) b;
          safe = rw (add-one i, d) (rw (← e) at (rw (drop-cons roots i 0 h) at W.safe).1);
        }
