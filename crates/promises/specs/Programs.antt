-- Demand 3 tied to the code: what a program holds that makes these calls, and no other writes to heap or tables, giving each
-- call the record last returned. That each call did what its contract says is all that is used of the code.
use Rattle.std.specs.Prelude.{◌≡◌, List, ℕ}
use Rattle.std.proofs.Common.{sym, ap, ◌∙◌, subst}
use Rattle.rules.specs.Lent.{Lent}
use Rattle.rules.specs.Sound.{Sound}
use Rattle.rules.specs.Calls.{Outcome, start}
use Rattle.rules.specs.Collection.{plainly, collection}
use Rattle.rules.specs.Collect.{CollectOutcome, accepted_collect}
use Rattle.rules.specs.Demands.{to_start, to_allocate, to_look_up, to_load, to_store, to_collect, after, Faithful, FindsPages}
use Rattle.rules.specs.InARow.{NamesNoneTaken, Repeats}
use Rattle.kept.specs.Start.{start_sound}
use Rattle.laws.specs.Collect.{collect_refusal}
use Rattle.theory.proofs.Collections.{collect_finds, collect_faithful}
use Rattle.promises.specs.CallContracts.{Left, held, Starts, Allocates, LooksUp, Loads, Stores, LeftCollected, held_collected, outcome_left, Collects}
use Rattle.promises.specs.Demand3.{call_sound}
use Rattle.promises.specs.InARow.{two_in_a_row}

-- m is what a program holds after an accepted start and any calls since, accepted or refused
pub data Held : Lent → Type 0 where
  begun : (m : Lent) (P T : ℕ) (x : Left) → Starts m P T x → x.answer.refusal ≡ 0 → Held (held x)
  restarted : (m : Lent) (P T : ℕ) (x : Left) → Held m → Starts m P T x → Held (held x)
  allocated : (m : Lent) (d p : ℕ) (x : Left) → Held m → Allocates m d p x → Held (held x)
  looked_up_lem : (m : Lent) (a : ℕ) (x : Left) → Held m → LooksUp m a x → Held (held x)
  loaded : (m : Lent) (a i : ℕ) (x : Left) → Held m → Loads m a i x → Held (held x)
  stored : (m : Lent) (a i v : ℕ) (x : Left) → Held m → Stores m a i v x → Held (held x)
  collected : (m : Lent) (roots hints : List ℕ) (x : LeftCollected) → Held m → Collects m roots hints x → Held (held_collected x)

lent_of : (o q : Outcome) → o ≡ q → q.lent ≡ o.lent
lent_of o q e = sym (ap (λ (z : Outcome). z.lent) e)

-- "the heap stays sound"
pub held_sound : {m : Lent} → Held m → Sound m
unfolding after
held_sound (begun m P T x c e) =
    let z : (start m P T).refusal ≡ 0 = sym (ap (λ (o : Outcome). o.refusal) c) ∙ e in
    subst Sound (lent_of _ _ c) (start_sound m P T z)
held_sound (restarted m P T x h c) = subst Sound (lent_of _ _ c) (call_sound m (held_sound h) (to_start P T))
held_sound (allocated m d p x h c) = subst Sound (lent_of _ _ c) (call_sound m (held_sound h) (to_allocate d p))
held_sound (looked_up_lem m a x h c) = subst Sound (lent_of _ _ c) (call_sound m (held_sound h) (to_look_up a))
held_sound (loaded m a i x h c) = subst Sound (lent_of _ _ c) (call_sound m (held_sound h) (to_load a i))
held_sound (stored m a i v x h c) = subst Sound (lent_of _ _ c) (call_sound m (held_sound h) (to_store a i v))
held_sound (collected m roots hints x h c) =
    subst Sound (sym (ap (λ (o : CollectOutcome). o.lent) c)) (call_sound m (held_sound h) (to_collect roots hints))

-- Q-7 of two calls in a row, the second with what the first left
pub collected_twice : (m : Lent) (roots hints : List ℕ) (x y : LeftCollected) → Collects m roots hints x → Collects (held_collected x) x.roots hints y
    → x.answer.refusal ≡ 0 → x.answer.kept ≡ 0 → NamesNoneTaken m hints (outcome_left x) → y.answer.kept ≡ 0 → Repeats (outcome_left x) hints (outcome_left y)
collected_twice m roots hints x y c d e none names none' =
    two_in_a_row m roots hints (outcome_left x) (outcome_left y) (record { first = c; accepted = e; kept = none; second = d; names = names; kept_again = none' })

-- a collection that answered refusal 0: it found its pages, and what it left is faithful to what was there
pub record Kept (m : Lent) (roots hints : List ℕ) (x : LeftCollected) : Type 1 where
  pub finds : FindsPages m hints (outcome_left x) (collection plainly m roots hints).taken
  pub pairs : (Pairs : ℕ → ℕ → Type 0) × Faithful m roots hints (outcome_left x) (collection plainly m roots hints) Pairs

pub collected_kept : (m : Lent) (roots hints : List ℕ) (x : LeftCollected) → Collects m roots hints x → x.answer.refusal ≡ 0 → Kept m roots hints x
unfolding accepted_collect
collected_kept m roots hints x c e =
    let z = sym (collect_refusal m roots hints) ∙ sym (ap (λ (o : CollectOutcome). o.refusal) c) ∙ e in
    let (Pairs, F) = collect_faithful m roots hints z in
    record {
      finds = subst (λ (o : CollectOutcome). FindsPages m hints o (collection plainly m roots hints).taken) (sym c) (collect_finds m roots hints z);
      pairs = (Pairs, subst (λ (o : CollectOutcome). Faithful m roots hints o (collection plainly m roots hints) Pairs) (sym c) F);
    }
