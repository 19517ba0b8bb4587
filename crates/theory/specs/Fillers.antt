-- Fillers, and pages that have them: the places that copied objects left are fillers, all else is as the sweep left it. On a page of
-- which no object was copied nothing becomes a filler; so every page with the new label is filled in this sense.
use Rattle.std.specs.Prelude.{◌≡◌, refl, ◌⊎◌, ℕ, zero, suc, ◌+◌, ◌-◌, ◌≤◌, ◌<◌, length}
use Rattle.std.proofs.Common.{sym, ◌∙◌, inl, inr, mod-lt, arith}
use mathlib.Core.List.{List, Memᴰ}
use Rattle.std.proofs.Math.Decide.{ℕ_discrete}
use Rattle.std.proofs.lemmas.List.{length-replicate}
use Rattle.rules.specs.Ranges.{at}
use Rattle.rules.specs.Header.{header_of, size_of, refs_of}
use Rattle.rules.specs.Collection.{Move, State, filler}
use Rattle.laws.specs.Headers.{Header, size_made, refs_made, header_made}
use Rattle.laws.specs.Pages.{same_page, pages_apart}
use Rattle.laws.specs.Words.{zeros_at}
use Rattle.theory.specs.World.{page_of, size_at, World, Kept, Place, home, Inv}
use Rattle.theory.specs.Places.{some_words, kept_from}

-- ---- a filler

pub filler_length : (n : ℕ) → 0 < n → length (filler n) ≡ n
unfolding filler
filler_length n h = rw length-replicate (omega arith)

pub filler_head : (n : ℕ) → at (filler n) 0 ≡ header_of (n - 1) 0
unfolding filler
filler_head n = refl

pub filler_zeros : (n i : ℕ) → 0 < i → at (filler n) i ≡ 0
unfolding filler
filler_zeros n zero h = absurd (omega arith)
filler_zeros n (suc i) h = zeros_at (n - 1) i

pub filler_refs : (n : ℕ) → refs_of (header_of (n - 1) 0) ≡ 0
filler_refs n = refs_made (n - 1) 0 (omega arith) (omega arith)

module _ (n : ℕ) (some : 0 < n) where
  whole : n - 1 + 1 ≡ n
  whole = omega arith

  pub filler_size : size_of (header_of (n - 1) 0) ≡ n
  filler_size = size_made (n - 1) 0 (omega arith) (omega arith) ∙ whole

  pub filler_header : (room : ℕ) → n ≤ room → Header (header_of (n - 1) 0) room
  filler_header room f = header_made (n - 1) 0 (omega arith) (omega arith) room (omega (arith, whole))

-- ---- a page filled

-- a word in no place that a copied object left
abbrev pub Clear : World → State → ℕ → Type 0
Clear W t w = (m : Move) → Memᴰ m t.moves → (w < m.from) ⊎ (m.from + size_at W m.from ≤ w)

-- page g of h is that of t's heap, with fillers
pub record FilledPage (W : World) (t : State) (h : List ℕ) (g : ℕ) : Type 0 where
  pub same : (w : ℕ) → page_of W w ≡ g → Clear W t w → at h w ≡ at t.heap w
  pub head : (m : Move) → Memᴰ m t.moves → page_of W m.from ≡ g → at h m.from ≡ header_of (size_at W m.from - 1) 0
  pub zeros : (m : Move) → Memᴰ m t.moves → page_of W m.from ≡ g → (i : ℕ) → 0 < i → i < size_at W m.from → at h (m.from + i) ≡ 0

module _ (W : World) (t : State) (I : Inv W t) where
  pub from_some : (m : Move) → Memᴰ m t.moves → 0 < size_at W m.from
  from_some m mem = some_words W m.from (I.moved m mem).object

  pub from_place : (m : Move) → Memᴰ m t.moves → Place W t m.from m.from
  from_place m mem = home (I.moved m mem).object refl

  -- the words of a retained object
  pub kept_clear : (x y i : ℕ) → Kept W t x y → i < size_at W x → Clear W t (y + i)
  kept_clear x y i K h m mem = go (kept_from W t I x y K m mem)
    where
      go : (y + size_at W x ≤ m.from) ⊎ (m.from + size_at W m.from ≤ y) → (y + i < m.from) ⊎ (m.from + size_at W m.from ≤ y + i)
      go (inl l) = inl (omega arith)
      go (inr l) = inr (omega arith)

  -- only objects copied from a word's own page matter
  pub page_clear : (w : ℕ) → ((m : Move) → Memᴰ m t.moves → page_of W m.from ≡ page_of W w → (w < m.from) ⊎ (m.from + size_at W m.from ≤ w)) → Clear W t w
  page_clear w f m mem = go (ℕ_discrete (page_of W m.from) (page_of W w))
    where
      go : Dec (page_of W m.from ≡ page_of W w) → (w < m.from) ⊎ (m.from + size_at W m.from ≤ w)
      go (yes q) = f m mem q
      go (no q) = then (pages_apart W.plan.page w 1 m.from (size_at W m.from) (omega (arith, mod-lt w W.pos)) (W.fits m.from (I.moved m mem).object) (λ z. q (sym z)))
        where
          then : (w + 1 ≤ m.from) ⊎ (m.from + size_at W m.from ≤ w) → (w < m.from) ⊎ (m.from + size_at W m.from ≤ w)
          then (inl l) = inl (omega arith)
          then (inr l) = inr l

  -- where the places of page g end at or before a, the words from a on
  pub stop_clear : (g a : ℕ) → ((x y : ℕ) → Place W t x y → page_of W y ≡ g → y + size_at W x ≤ a) → (w : ℕ) → page_of W w ≡ g → a ≤ w → Clear W t w
  stop_clear g a none w e l = page_clear w (λ m mem q. inr (let z : m.from + size_at W m.from ≤ a = none m.from m.from (from_place m mem) (q ∙ e) in omega arith))

  -- what agrees with it on the page is filled too
  pub filled_agree : (h h' : List ℕ) (g : ℕ) → ((w : ℕ) → page_of W w ≡ g → at h' w ≡ at h w) → FilledPage W t h g → FilledPage W t h' g
  filled_agree h h' g agree F = record {
    same = λ w e c. agree w e ∙ F.same w e c;
    head = λ m mem e. agree m.from e ∙ F.head m mem e;
    zeros = λ m mem e i low high.
        agree (m.from + i) (same_page W.pos m.from (size_at W m.from) i (W.fits m.from (I.moved m mem).object) high ∙ e) ∙ F.zeros m mem e i low high;
  }
