-- What Q-6 asks, in a user's words: every collection of a sound heap with good roots completes, and refusal 8 never occurs. So a heap is
-- never stuck: whatever it holds, a collection with nothing in the root cells and no hints leaves every page free.
use Rattle.std.proofs.Math.Path.{◌≡◌}
use Rattle.std.proofs.Common.{sym, ◌∙◌, inl, inr}
use Rattle.std.specs.Prelude.{◌≢◌, ◌⊎◌, Bool, cond, ℕ}
use Rattle.std.proofs.Math.Bool.{true, false}
use mathlib.Core.List.Memᴰ
use mathlib.Core.List.{List, [], Memᴰ}
use native.Mathlib.Omega.{arith}
use Rattle.rules.specs.Ranges.{each}
use Rattle.rules.specs.Pages.{pages_named}
use Rattle.rules.specs.Lent.{Lent, is_valid}
use Rattle.rules.specs.Walk.{is_reference}
use Rattle.rules.specs.Sound.{InUse, Sound, is_sound}
use Rattle.rules.specs.Collection.{plainly, collection}
use Rattle.rules.specs.Collect.{CollectOutcome, refusal_of_collect, collect}
use Rattle.rules.specs.Demands.{Hinted, ReachedBy, staying, by_root, by_reference, OnHintedOrKept, HoldsCopy, Faithful, GoodRoots}
use Rattle.laws.specs.Collect.{ready_is, collect_refusal}
use Rattle.kept.specs.Accepted.{collect_says}
use Rattle.theory.specs.Sums.{member_length}
use Rattle.theory.specs.SoundHeap.{object_nonzero}
use Rattle.theory.proofs.Collections.{collect_faithful, collect_ready}

module _ (m : Lent) (roots hints : List ℕ) where
  -- "every collection of a sound heap with good roots completes"
  pub completes : Sound m → GoodRoots m roots → (collect m roots hints).refusal ≡ 0
  completes S good = collect_refusal m roots hints ∙ ready_is m roots (record { sound = S; roots = good })

  -- and no other does
  pub completed_sound : (collect m roots hints).refusal ≡ 0 → Sound m
  completed_sound z = (collect_says m roots hints z).ready.sound

  pub completed_roots : (collect m roots hints).refusal ≡ 0 → GoodRoots m roots
  completed_roots z = (collect_says m roots hints z).ready.roots

  -- what it leaves has good roots too, so that a program may collect again
  pub completed_leaves : (collect m roots hints).refusal ≡ 0 → GoodRoots (collect m roots hints).lent (collect m roots hints).roots
  completed_leaves z = (collect_ready m roots hints (sym (collect_refusal m roots hints) ∙ z)).roots

  -- "8 is shown never to occur": of any memory, roots and hints
  pub never_eight : (collect m roots hints).refusal ≢ 8
  unfolding refusal_of_collect
  never_eight z = go (is_valid m) (is_sound m) (each (is_reference m) roots) (sym (collect_refusal m roots hints) ∙ z)
    where
      go : (v s r : Bool) → ◌≡◌ {A = ℕ} (cond v (cond s (cond r 0 6) 7) 1) 8 → ⊥
      go true true true q = omega arith
      go true true false q = omega arith
      go true false r q = omega arith
      go false s r q = omega arith

-- ---- "A full heap that can't collect" there is none

-- a collection of m with these root cells, all 0, and no hints
module _ (m : Lent) (roots : List ℕ) (let_go : (r : ℕ) → Memᴰ r roots → r ≡ 0) (S : Sound m) where
  abbrev o : CollectOutcome
  o = collect m roots []

  accepts : (collect m roots []).refusal ≡ 0
  accepts = completes m roots [] S (λ r k. inl (let_go r k))

  -- no page is hinted
  unhinted : (g : ℕ) → Hinted m [] g → ⊥
  unfolding pages_named
  unhinted g h = Memᴰ.not-nil h.named

  -- so nothing is reached but from what stays on kept pages
  unreached : {kept : List ℕ} {Pairs : ℕ → ℕ → Type 0} {Through : ℕ → Type 0} → ((g : ℕ) → Memᴰ g kept → ⊥)
      → {x : ℕ} → ReachedBy m roots (OnHintedOrKept m [] kept Pairs) Through x → ⊥
  unreached none (staying ob (inl h)) = unhinted _ h
  unreached none (staying ob (inr q)) = none _ q.page
  unreached none (by_root {x = x} ob k) = object_nonzero m S x ob (let_go x k)
  unreached none (by_reference z i r t h e ob) = unreached none r

  pub comes_free : (g : ℕ) → InUse (collect m roots []).lent g → ⊥
  comes_free g u = let (Pairs, F) = collect_faithful m roots [] (sym (collect_refusal m roots []) ∙ accepts) in free Pairs F
    where
      free : (Pairs : ℕ → ℕ → Type 0) → Faithful m roots [] o (collection plainly m roots []) Pairs → ⊥
      free Pairs F = go (F.pages g u)
        where
          -- the first kept page would hold something that is reached without it
          none : (h : ℕ) → Memᴰ h (collection plainly m roots []).kept → ⊥
          none h k = unreached (λ j q. Memᴰ.not-nil q) (F.keeps.holds 0 (member_length k)).1.reached

          go : Hinted m [] g ⊎ (HoldsCopy m Pairs g ⊎ Memᴰ g (collection plainly m roots []).kept) → ⊥
          go (inl h) = unhinted g h
          go (inr (inl c)) = unreached none (F.paired.only c.from c.to c.pair)
          go (inr (inr k)) = none g k
