-- Two runs in step sweep an object's references in step, as long as neither keeps a page.
use Rattle.std.specs.Prelude.{◌≡◌}
use Rattle.std.proofs.Common.{sym, arith}
use Prim.Native.Nat.{ℕ, zero, suc, ◌+◌, ◌≤◌, ◌<◌}
use Rattle.rules.specs.Ranges.{at}
use Rattle.rules.specs.Collection.{State, forward, sweep_reference, sweep_references}
use Rattle.theory.specs.World.{refs_at, World, Kept}
use Rattle.theory.specs.Store.{kept_back}
use Rattle.theory.proofs.Good.{Good, Grow, grow_refl, grow_trans}
use Rattle.theory.proofs.SweepReferences.{store_grow, reference_went, slot, reference_good, reference_grow}
use Rattle.theory.specs.NoneKept.{references_kept}
use Rattle.theory.proofs.Alike.{Alike, refs_same, Turned, InStep, partner_stays, how_step}

-- from s and u, in step, to t and r, in step
pub record Steps (W Z : World) (Pair : ℕ → ℕ → Type 0) (s u t r : State) : Type 0 where
  pub good : Good W t
  pub grow : Grow W s t
  pub good' : Good Z r
  pub grow' : Grow Z u r
  pub step : InStep W Z Pair t r

pub steps_none : (W Z : World) (Pair : ℕ → ℕ → Type 0) (s u : State) → Good W s → Good Z u → InStep W Z Pair s u → Steps W Z Pair s u s u
steps_none W Z Pair s u G H S = record { good = G; grow = grow_refl W s; good' = H; grow' = grow_refl Z u; step = S }

pub steps_trans : (W Z : World) (Pair : ℕ → ℕ → Type 0) (s u t r t' r' : State) → Steps W Z Pair s u t r → Steps W Z Pair t r t' r' → Steps W Z Pair s u t' r'
steps_trans W Z Pair s u t r t' r' B C = record {
  good = C.good;
  grow = grow_trans W s t t' B.grow C.grow;
  good' = C.good';
  grow' = grow_trans Z u r r' B.grow' C.grow';
  step = C.step;
}

module _ (W Z : World) (Pair : ℕ → ℕ → Type 0) (A : Alike W Z Pair) where
  -- ---- a reference

  module _ (s u : State) (G : Good W s) (H : Good Z u) (S : InStep W Z Pair s u) (x y a b i : ℕ) (p : Pair x y) (K : Kept W s x a) (L : Kept Z u y b) (low : 0 < i) (high : i ≤ refs_at W x) where
    high' : i ≤ refs_at Z y
    high' = rw (refs_same W Z Pair A x y p) high

    abbrev t : State
    t = (forward W.plan (at s.heap (a + i)) s).state

    abbrev r : State
    r = (forward Z.plan (at u.heap (b + i)) u).state

    -- forwarded, and then stored
    reference_steps : (sweep_reference W.plan (a + i) s).pages.kept ≡ 0 → (sweep_reference Z.plan (b + i) u).pages.kept ≡ 0
        → Steps W Z Pair s u (sweep_reference W.plan (a + i) s) (sweep_reference Z.plan (b + i) u)
    unfolding sweep_reference
    reference_steps none none' =
        let F = reference_went W s G x a i K low high in
        let E = reference_went Z u H y b i L low high' in
        let M = store_grow W t F.good.inv x a i _ (slot W s G x a i K low high) in
        let N = store_grow Z r E.good.inv y b i _ (slot Z u H y b i L low high') in
        let T : InStep W Z Pair t r = how_step W Z Pair A s u G H S _ _ (A.references x y i p low high) t r none none' F.how E.how in
        record {
          good = reference_good W s G x a i K low high;
          grow = reference_grow W s G x a i K low high;
          good' = reference_good Z u H y b i L low high';
          grow' = reference_grow Z u H y b i L low high';
          step = record {
            fill = T.fill;
            turns = T.turns;
            objects = T.objects;
            words = T.words;
            first = λ z c k. partner_stays W Z Pair t r _ _ M N T.turns z c (T.first z c (kept_back W t F.good.inv x a i _ (slot W s G x a i K low high) z c k));
            second = λ z c k. partner_stays Z W (Turned Pair) r t _ _ N M (sym T.turns) z c (T.second z c (kept_back Z r E.good.inv y b i _ (slot Z u H y b i L low high') z c k));
          };
        }

  -- ---- the references of an object, those after the first j

  pub references_steps : (n j : ℕ) (s u : State) → Good W s → Good Z u → InStep W Z Pair s u → (x y a b : ℕ) → Pair x y → Kept W s x a → Kept Z u y b → j + n ≡ refs_at W x
      → (w z : ℕ) → w ≡ a + suc j → z ≡ b + suc j → (sweep_references W.plan n w s).pages.kept ≡ 0 → (sweep_references Z.plan n z u).pages.kept ≡ 0
      → Steps W Z Pair s u (sweep_references W.plan n w s) (sweep_references Z.plan n z u)
  unfolding sweep_references
  references_steps zero j s u G H S x y a b p K L e w z ew ez none none' = steps_none W Z Pair s u G H S
  references_steps (suc n) j s u G H S x y a b p K L e w z ew ez none none' =
      let t : State = sweep_reference W.plan w s in
      let r : State = sweep_reference Z.plan z u in
      let on : t.pages.kept ≡ 0 = omega (arith, references_kept W.plan n (suc w) t, none) in
      let on' : r.pages.kept ≡ 0 = omega (arith, references_kept Z.plan n (suc z) r, none') in
      let B : Steps W Z Pair s u t r = first on on' in
      steps_trans W Z Pair s u t r _ _ B
      (references_steps n (suc j) t r B.good B.good' B.step x y a b p (B.grow.kept x a K) (B.grow'.kept y b L) (omega (arith, e)) (suc w) (suc z) (omega (arith, ew)) (omega (arith, ez)) none none')
    where
      first : (sweep_reference W.plan w s).pages.kept ≡ 0 → (sweep_reference Z.plan z u).pages.kept ≡ 0 → Steps W Z Pair s u (sweep_reference W.plan w s) (sweep_reference Z.plan z u)
      first on on' = rw (ew, ez) (reference_steps s u G H S x y a b (suc j) p K L (omega arith) (omega (arith, e)) (rw ew at on) (rw ez at on'))
