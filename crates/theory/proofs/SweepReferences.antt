-- The sweep of one retained object's references: each ends forwarded, the whole invariant holds, and it is safe.
use Rattle.std.specs.Prelude.{◌≡◌, ◌⊎◌, ℕ, zero, suc, ◌+◌, ◌≤◌, ◌<◌}
use Rattle.std.proofs.Math.Path.{refl}
use Rattle.std.proofs.Common.{sym, ◌∙◌, inl, inr, le_refl, arith}
use Rattle.std.proofs.Math.Decide.{ℕ_discrete}
use Rattle.rules.specs.Ranges.{at}
use Rattle.rules.specs.Collection.{State, Forwarded, forward, sweep_reference, sweep_references}
use Rattle.rules.specs.Demands.{Becomes}
use Rattle.laws.specs.Safe.{SafeForward, SafeReferences}
use Rattle.theory.specs.World.{Swept, refs_at, World, ref, Retained, Reach, Kept, stayed, went, Inv}
use Rattle.theory.specs.Places.{kept_obj, kept_label}
use Rattle.theory.specs.Forward.{idle, forward_self}
use Rattle.theory.proofs.Packs.{Packs}
use Rattle.theory.specs.Stacked.{stacked_same}
use Rattle.theory.specs.Causes.{StaysBy, by_up, Cause, Causes}
use Rattle.theory.proofs.ForwardSafe.{forward_safe}
use Rattle.theory.specs.Store.{stored, Slot, stays_up, kept_up, kept_back, slot_swept, swept_up, store_inv}
use Rattle.theory.specs.Tile.{store_tiled, store_lined}
use Rattle.theory.proofs.Good.{Good, Grow, grow_refl, grow_trans, kept_reach, Went, forward_went}

-- ---- a reference stored

module _ (W : World) (t : State) (I : Inv W t) (x y i u : ℕ) (S : Slot W t x y i u) where
  abbrev t' : State
  t' = stored t (y + i) u

  pub store_grow : Grow W t t'
  store_grow = record {
    region = λ w r. record { label = r.label; below = r.below };
    kept = kept_up W t I x y i u S;
    swept = swept_up W t I x y i u S;
    fresh = λ a b k. inl (kept_back W t I x y i u S a b k);
    longer = le_refl _;
    prefix = λ j h. refl;
  }

  store_packs : Packs W t → Packs W t'
  store_packs K = record { taken = K.taken; joined = K.joined; left = K.left; unkept = K.unkept; distinct = K.distinct; packed = K.packed; words = K.words; objects = K.objects }

  store_causes : Causes W t → Causes W t'
  store_causes C = record { each = λ j h. each (C.each j h); full = C.full; moved = λ m k. by_up W t t' 0 (by 0) (λ m k. k) (C.moved m k) }
    where
      by : (j a : ℕ) → StaysBy W t j a → StaysBy W t' j a
      by j a q = record { stays = stays_up W t I x y i u S a q.stays; page = q.page }

      each : {j : ℕ} → Cause W t j → Cause W t' j
      each {j} c = record {
        from = c.from;
        page = c.page;
        stays = stays_up W t I x y i u S c.from c.stays;
        reached = by_up W t t' j (by j) (λ m k. k) c.reached;
        tight = c.tight;
      }

-- ---- a reference swept

module _ (W : World) (s : State) (G : Good W s) (x y i : ℕ) (K : Kept W s x y) (low : 0 < i) (high : i ≤ refs_at W x) where
  ob : W.Obj x
  ob = kept_obj W s G.inv x y K

  abbrev v : ℕ
  v = at W.heap (x + i)

  abbrev f : Forwarded
  f = forward W.plan (at s.heap (y + i)) s

  pub reference_went : Went W s v f (SafeForward W.plan (at s.heap (y + i)) s)
  reference_went = go (G.inv.references x y i K low high)
    where
      as_before : at s.heap (y + i) ≡ v → Went W s v f (SafeForward W.plan (at s.heap (y + i)) s)
      as_before e = rw e (forward_went W s G v (which (W.references x i ob low high)))
        where
          retained : Kept W s x y → Retained W s x
          retained (stayed q z) = inl q
          retained (went m mem ex ey) = inr (m, mem, ex)

          which : (v ≡ 0) ⊎ W.Obj v → (v ≡ 0) ⊎ (W.Obj v × Reach W s v)
          which (inl z) = inl z
          which (inr o) = inr (o, ref x i (kept_reach W s G.inv x y K) (retained K) low high refl o)

      go : (at s.heap (y + i) ≡ v) ⊎ Becomes (Kept W s) v (at s.heap (y + i)) → Went W s v f (SafeForward W.plan (at s.heap (y + i)) s)
      go (inl e) = as_before e
      go (inr (inl (a, b))) = as_before (b ∙ sym a)
      go (inr (inr k)) =
          rw (forward_self W s G.inv v (at s.heap (y + i)) k) (record {
            safe = forward_safe W s G.inv G.packs G.lined.queued (at s.heap (y + i)) (inr (inr (kept_label W s G.inv _ _ k)));
            good = G;
            grow = grow_refl W s;
            becomes = inr k;
            how = idle _ (inr k) refl;
          })

  abbrev t : State
  t = f.state

  pub slot : Slot W t x y i f.value
  slot = record { kept = reference_went.grow.kept x y K; low = low; high = high; becomes = reference_went.becomes }

  pub reference_good : Good W (sweep_reference W.plan (y + i) s)
  unfolding sweep_reference
  reference_good = record {
    inv = store_inv W t reference_went.good.inv x y i f.value slot;
    packs = store_packs W t reference_went.good.inv x y i f.value slot reference_went.good.packs;
    tiled = store_tiled W t reference_went.good.inv x y i f.value slot reference_went.good.tiled;
    lined = store_lined W t reference_went.good.inv x y i f.value slot reference_went.good.lined;
    upward = reference_went.good.upward;
    stacked = stacked_same W t _ refl refl refl reference_went.good.stacked;
    causes = store_causes W t reference_went.good.inv x y i f.value slot reference_went.good.causes;
    filled = reference_went.good.filled;
  }

  pub reference_grow : Grow W s (sweep_reference W.plan (y + i) s)
  unfolding sweep_reference
  reference_grow = grow_trans W s t _ reference_went.grow (store_grow W t reference_went.good.inv x y i f.value slot)

  reference_swept : Swept W (sweep_reference W.plan (y + i) s) x y i
  unfolding sweep_reference
  reference_swept = slot_swept W t reference_went.good.inv x y i f.value slot

-- ---- the references of an object, those after the first j

pub record Refs (W : World) (s : State) (x y : ℕ) (t : State) (Safe : Type 0) : Type 0 where
  pub safe : Safe
  pub good : Good W t
  pub grow : Grow W s t
  pub done : (i : ℕ) → 0 < i → i ≤ refs_at W x → Swept W t x y i

pub sweep_references_lem : (W : World) (n j : ℕ) (s : State) → Good W s → (x y : ℕ) → Kept W s x y → j + n ≡ refs_at W x
    → ((i : ℕ) → 0 < i → i ≤ j → Swept W s x y i)
    → Refs W s x y (sweep_references W.plan n (suc (y + j)) s) (SafeReferences W.plan n (suc (y + j)) s)
unfolding sweep_references SafeReferences
sweep_references_lem W zero j s G x y K e done = record { safe = tt; good = G; grow = grow_refl W s; done = λ i a b. done i a (omega arith) }
sweep_references_lem W (suc n) j s G x y K e done =
    let le : suc j ≤ refs_at W x = omega arith in
    let u : State = sweep_reference W.plan (y + suc j) s in
    let A : Grow W s u = reference_grow W s G x y (suc j) K (omega arith) le in
    let r : Refs W u x y (sweep_references W.plan n (suc (y + suc j)) u) (SafeReferences W.plan n (suc (y + suc j)) u) =
    sweep_references_lem W n (suc j) u (reference_good W s G x y (suc j) K (omega arith) le) x y (A.kept x y K) (omega arith) (more le A) in
    let q : suc (y + j) ≡ y + suc j = omega arith in
    rw q (record {
      safe = ((reference_went W s G x y (suc j) K (omega arith) le).safe, r.safe);
      good = r.good;
      grow = grow_trans W s u _ A r.grow;
      done = r.done;
    })
  where
    more : suc j ≤ refs_at W x → Grow W s (sweep_reference W.plan (y + suc j) s) → (i : ℕ) → 0 < i → i ≤ suc j → Swept W (sweep_reference W.plan (y + suc j) s) x y i
    more le A i a b = go (ℕ_discrete i (suc j))
      where
        go : Dec (i ≡ suc j) → Swept W (sweep_reference W.plan (y + suc j) s) x y i
        go (yes q) = rw q (reference_swept W s G x y (suc j) K (omega arith) le)
        go (no q) = A.swept x y i K a (omega arith) (done i a (omega arith))
