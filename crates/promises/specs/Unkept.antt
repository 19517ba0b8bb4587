-- With no page kept for want of room, demand 3 of a collection is what it was before Q-6, both ways: for Q-7 and Q-13.
use Rattle.std.specs.Prelude.{◌≡◌, refl, ◌⊎◌, ℕ, length}
use Rattle.std.proofs.Common.{sym, ap, ◌∙◌, inl, inr, arith}
use mathlib.Core.List.Memᴰ
use mathlib.Core.List.{List, [], ◌∷◌, Memᴰ}
use Rattle.rules.specs.Lent.{Lent}
use Rattle.rules.specs.Collection.{Collection}
use Rattle.rules.specs.Collect.{CollectOutcome}
use Rattle.rules.specs.Demands.{Hinted, OnHinted, ReachedBy, staying, by_root, by_reference, Paired, HoldsCopy, OnHintedOrKept, Faithful, FaithfulUnkept}

-- what is reached stays so where more may stay, and more is passed through
pub reached_map : {m : Lent} {roots : List ℕ} {Stay Stay' Through Through' : ℕ → Type 0}
    → ((x : ℕ) → Stay x → Stay' x) → ((x : ℕ) → Through x → Through' x)
    → {x : ℕ} → ReachedBy m roots Stay Through x → ReachedBy m roots Stay' Through' x
reached_map f g (staying {x = x} ob q) = staying ob (f x q)
reached_map f g (by_root ob k) = by_root ob k
reached_map f g (by_reference z i r t h e ob) = by_reference z i (reached_map f g r) (g z t) h e ob

-- the pairing goes by what stays, and no more
pub paired_map : {m : Lent} {roots : List ℕ} {Stay Stay' : ℕ → Type 0} {o : CollectOutcome} {Pairs : ℕ → ℕ → Type 0}
    → ((x : ℕ) → Stay x → Stay' x) → ((x : ℕ) → Stay' x → Stay x) → Paired m roots Stay o Pairs → Paired m roots Stay' o Pairs
paired_map f g D = record {
  reached = λ x r. D.reached x (reached_map g (λ z t. t) r);
  only = λ x y p. reached_map f (λ z t. t) (D.only x y p);
  object = D.object;
  once = D.once;
  back = D.back;
  sizes = D.sizes;
  counts = D.counts;
  data_words = D.data_words;
  references = D.references;
  root_cells = D.root_cells;
  roots_agree = D.roots_agree;
}

none : (l : List ℕ) → length l ≡ 0 → (x : ℕ) → Memᴰ x l → ⊥
none [] e x k = Memᴰ.not-nil k
none (y ∷ l) e x k = omega arith

module _ (m : Lent) (roots hints : List ℕ) (o : CollectOutcome) (c : Collection) (Pairs : ℕ → ℕ → Type 0) where
  -- where no page is kept, what stays is on hinted pages
  module _ (empty : (g : ℕ) → Memᴰ g c.kept → ⊥) where
    hinted_alone : (x : ℕ) → OnHintedOrKept m hints c.kept Pairs x → OnHinted m hints x
    hinted_alone x (inl h) = h
    hinted_alone x (inr q) = absurd (empty _ q.page)

  -- "With nothing kept, the demand is what it was"
  pub as_before : o.kept ≡ 0 → Faithful m roots hints o c Pairs → FaithfulUnkept m roots hints o Pairs
  as_before e F = record {
    paired = paired_map (hinted_alone empty) (λ x h. inl h) F.paired;
    nothing = λ y ob. nothing y (F.nothing y ob);
    stays = F.stays;
    pages = λ g u. pages g (F.pages g u);
  }
    where
      empty : (g : ℕ) → Memᴰ g c.kept → ⊥
      empty = none c.kept (sym F.keeps.count ∙ e)

      nothing : (y : ℕ) → ((x : ℕ) × Pairs x y) ⊎ Memᴰ y c.fillers → (x : ℕ) × Pairs x y
      nothing y (inl p) = p
      nothing y (inr k) = absurd (empty _ (F.fills.left y k).1)

      pages : (g : ℕ) → Hinted m hints g ⊎ (HoldsCopy m Pairs g ⊎ Memᴰ g c.kept) → Hinted m hints g ⊎ HoldsCopy m Pairs g
      pages g (inl h) = inl h
      pages g (inr (inl k)) = inr k
      pages g (inr (inr k)) = absurd (empty g k)

  -- and there are no fillers
  pub unfilled : o.kept ≡ 0 → Faithful m roots hints o c Pairs → o.fillers ≡ 0
  unfilled e F = F.fills.count ∙ empty c.fillers (λ y k. none c.kept (sym F.keeps.count ∙ e) _ (F.fills.left y k).1)
    where
      empty : (l : List ℕ) → ((y : ℕ) → Memᴰ y l → ⊥) → length l ≡ 0
      empty [] f = refl
      empty (y ∷ l) f = absurd (f y (Memᴰ.head refl))

  pub and_back : (c.kept ≡ []) × (o.kept ≡ 0) → (c.fillers ≡ []) × (o.fillers ≡ 0) → FaithfulUnkept m roots hints o Pairs → Faithful m roots hints o c Pairs
  and_back (no_kept, kept0) (no_fillers, fillers0) F = record {
    paired = paired_map (λ x h. inl h) (hinted_alone empty) F.paired;
    nothing = λ y ob. inl (F.nothing y ob);
    stays = F.stays;
    pages = λ g u. pages g (F.pages g u);
    keeps = record {
      used = λ g k. absurd (empty g k);
      unhinted = λ g k. absurd (empty g k);
      in_use = λ g k. absurd (empty g k);
      all = λ x ob k. absurd (empty _ k);
      holds = λ i h. absurd (let n : length c.kept ≡ 0 = kept_length in omega arith);
      room = λ h. absurd (let n : length c.kept ≡ 0 = kept_length in omega arith);
      once = λ i j h. absurd (let n : length c.kept ≡ 0 = kept_length in omega arith);
      count = kept0 ∙ sym kept_length;
    };
    fills = record {
      left = λ y k. absurd (no_filler y k);
      all = λ y z k. absurd (empty _ k);
      object = λ y k. absurd (no_filler y k);
      unpaired = λ x y k. absurd (no_filler y k);
      sizes = λ y k. absurd (no_filler y k);
      counts = λ y k. absurd (no_filler y k);
      zeros = λ y i k. absurd (no_filler y k);
      once = λ i j h. absurd (let n : length c.fillers ≡ 0 = fillers_length in omega arith);
      count = fillers0 ∙ sym fillers_length;
    };
  }
    where
      kept_length : length c.kept ≡ 0
      kept_length = ap (λ (l : List ℕ). length l) no_kept

      fillers_length : length c.fillers ≡ 0
      fillers_length = ap (λ (l : List ℕ). length l) no_fillers

      empty : (g : ℕ) → Memᴰ g c.kept → ⊥
      empty = none c.kept kept_length

      no_filler : (y : ℕ) → Memᴰ y c.fillers → ⊥
      no_filler = none c.fillers fillers_length

      pages : (g : ℕ) → Hinted m hints g ⊎ HoldsCopy m Pairs g → Hinted m hints g ⊎ (HoldsCopy m Pairs g ⊎ Memᴰ g c.kept)
      pages g (inl h) = inl h
      pages g (inr k) = inr (inl k)
