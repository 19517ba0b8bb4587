-- Which collectors demand 3 rejects that keep pages needlessly. First in general: one that keeps a page beside a free
-- one, one that keeps a page from which nothing is reached, and one that spreads copies over more pages than they fill.
-- Then four on small heaps: what each leaves there is faithful by no pairing and by no lists of pages and fillers.
use Rattle.std.specs.Prelude.{◌≡◌, ◌≢◌, ◌⊎◌, ℕ, ◌+◌, ◌*◌, ◌/◌, ◌≤◌, ◌<◌, length, take}
use Rattle.std.proofs.Math.Path.{refl}
use Rattle.std.proofs.Common.{sym, ◌∙◌, inl, inr, get_or-take, length-take-le}
use mathlib.Core.List.Memᴰ
use mathlib.Core.List.{List, [], ◌∷◌, ◌++◌, Memᴰ}
use native.Mathlib.Omega.{arith}
use Rattle.rules.specs.Ranges.{at}
use Rattle.rules.specs.Header.{header_of, size_of}
use Rattle.rules.specs.Pages.{pages_named}
use Rattle.rules.specs.Lent.{Lent}
use Rattle.rules.specs.Walk.{stop}
use Rattle.rules.specs.Sound.{IsObject, refs}
use Rattle.rules.specs.Collection.{Collection}
use Rattle.rules.specs.Collect.{CollectOutcome}
use Rattle.rules.specs.Demands.{Hinted, OnHinted, ReachedBy, staying, by_root, by_reference, Reached, Becomes}
use Rattle.rules.specs.Demands.{HoldsCopy, OnHintedOrKept, Moved, ReachedKeeping, Faithful, Took, FindsPages}
use Rattle.rules.specs.Unfolded.{the_rules}
use Rattle.rules.specs.Heaps.{control, page, memory, under}
use Rattle.theory.specs.Sums.{gather, mem_at, member_length}
use Rattle.promises.specs.Unkept.{reached_map}
use Rattle.promises.specs.Listed.{Each, objects, each_object}

-- ---- in general

module _ (m : Lent) (roots hints : List ℕ) (o : CollectOutcome) (c : Collection) (Pairs : ℕ → ℕ → Type 0) (F : Faithful m roots hints o c Pairs) where
  -- it keeps page h, and page g was free and holds no copy
  pub keeps_beside_a_free_page : (g h : ℕ) → Memᴰ h c.kept → 1 ≤ g → g < m.rec.pages → at m.labels g ≡ 0
      → (HoldsCopy m Pairs g → ⊥) → ⊥
  keeps_beside_a_free_page g h k low high free none = none ((F.keeps.room (member_length k)).full g low high free)

  -- nothing on the first page that it keeps is reached but from that page itself
  pub keeps_unreached : 0 < length c.kept → ((x : ℕ) → x / m.rec.page ≡ at c.kept 0 → Reached m roots (OnHinted m hints) x → ⊥) → ⊥
  keeps_unreached some none =
      let (x, K) = F.keeps.holds 0 some in
      none x K.page (reached_map hinted (λ z t. tt) K.reached)
    where
      hinted : (z : ℕ) → OnHintedOrKept m hints [] Pairs z → OnHinted m hints z
      hinted z (inl h) = h
      hinted z (inr q) = absurd (Memᴰ.not-nil q.page)

-- it begins page h with an object that fits what is left of page g, the next lower page taken
pub spreads_copies : (m : Lent) (hints : List ℕ) (o : CollectOutcome) (taken : List ℕ) → FindsPages m hints o taken
    → (g h : ℕ) → Took m o g → Took m o h → g < h → ((j : ℕ) → g < j → j < h → Took m o j → ⊥)
    → stop o.lent g + size_of (at o.lent.heap (h * m.rec.page)) ≤ g * o.lent.rec.page + o.lent.rec.page
    → ⊥
spreads_copies m hints o taken F g h tg th lt none fits = omega (arith, F.stacked g h tg th lt none)

-- ---- on small heaps: pages of 8 words, page 3 free; root cells hold 8 and 16; no hints

abbrev cells : List ℕ
cells = 8 ∷ 16 ∷ []

-- what a collector leaves; its numbers are of no account here
abbrev left : List ℕ → List ℕ → List ℕ → CollectOutcome
left roots labels heap = record {
  refusal = 0;
  hinted = 0;
  taken = 1;
  objects = 1;
  words = 5;
  kept = 1;
  fillers = 0;
  lent = under (memory labels heap) (control 8 (length labels) 2 0 8);
  roots = roots;
}

reached_object : {m : Lent} {roots : List ℕ} {Stay Through : ℕ → Type 0} {x : ℕ} → ReachedBy m roots Stay Through x
    → IsObject m x
reached_object (staying ob q) = ob
reached_object (by_root ob k) = ob
reached_object (by_reference z i r t h e ob) = ob

module _ (m : Lent) (o : CollectOutcome) (c : Collection) (Pairs : ℕ → ℕ → Type 0) (F : Faithful m cells [] o c Pairs) where
  unhinted : (g : ℕ) → Hinted m [] g → ⊥
  unfolding pages_named
  unhinted g h = Memᴰ.not-nil h.named

  -- an object in a root cell is where the cell says
  cell : (x y : ℕ) → x ≢ 0 → Becomes Pairs x y → Pairs x y
  cell x y n (inl e) = absurd (n e.0)
  cell x y n (inr p) = p

  first : Pairs 8 (at o.roots 0)
  first = cell 8 _ (omega arith) (F.paired.roots_agree 0 (omega arith))

  second : Pairs 16 (at o.roots 1)
  second = cell 16 _ (omega arith) (F.paired.roots_agree 1 (omega arith))

  -- what holds of each object before, as the one that is paired with another, holds of each pair
  each_pair : (Q : ℕ → ℕ → Type 0) → Each (λ x. (y : ℕ) → Pairs x y → Q x y) (objects m) → (x y : ℕ) → Pairs x y → Q x y
  each_pair Q all x y p =
      each_object m (λ x. (y : ℕ) → Pairs x y → Q x y) all x (reached_object (F.paired.only x y p)) y p

  -- a page in use to which nothing moved is kept
  unmoved_kept : (g : ℕ) → 1 ≤ g → g < o.lent.rec.pages → at o.lent.labels g ≡ o.lent.rec.label
      → ((x y : ℕ) → Pairs x y → y / m.rec.page ≡ g → y ≡ x) → Memᴰ g c.kept
  unmoved_kept g low high label same = go (F.pages g (record { low = low; high = high; label = label }))
    where
      go : Hinted m [] g ⊎ (HoldsCopy m Pairs g ⊎ Memᴰ g c.kept) → Memᴰ g c.kept
      go (inl h) = absurd (unhinted g h)
      go (inr (inl h)) = absurd (h.copied (same h.from h.to h.pair h.there))
      go (inr (inr k)) = k

  -- of the three objects on these heaps the one at 13 is in no root cell
  not_a_cell : (x : ℕ) → x ≡ 13 → Memᴰ x cells → ⊥
  not_a_cell x e k = go (Memᴰ.cases_cons k)
    where
      go : (x ≡ 8) ⊎ Memᴰ x (16 ∷ []) → ⊥
      go (inl q) = omega arith
      go (inr j) = omega (arith, Memᴰ.eq_of_singleton j)

  -- page i of those kept is not among those before
  not_before : (i g : ℕ) → i < length c.kept → at c.kept i ≡ g → Memᴰ g (take i c.kept) → ⊥
  not_before i g lt e k =
      let (j, lj, ej) = mem_at (take i c.kept) g k in
      let short : length (take i c.kept) ≡ i = length-take-le i c.kept (omega arith) in
      let ej' : at c.kept j ≡ g = sym (get_or-take i c.kept j 0 (omega arith)) ∙ ej in
      let z : j ≡ i = F.keeps.once j i (omega arith) lt (ej' ∙ sym e) in
      omega arith

-- ---- Keeps garbage. Page 1 has an object of 5 words, in a root cell, and one of 3 that nothing reaches; page 2 has one of
-- 8, in a root cell. The first goes to 24, the last keeps page 2. Page 1 is kept too, with a filler and the garbage. It
-- holds no object that stayed and is reached (`KeptFor`).

abbrev pub stuffed : Lent
stuffed = memory (0 ∷ 1 ∷ 1 ∷ 0 ∷ [])
    (page []
    ++ page (header_of 4 0 ∷ 1 ∷ 2 ∷ 3 ∷ 4 ∷ header_of 2 0 ∷ 5 ∷ 6 ∷ [])
    ++ page (header_of 7 0 ∷ 1 ∷ 2 ∷ 3 ∷ 4 ∷ 5 ∷ 6 ∷ 7 ∷ [])
    ++ page [])

abbrev pub garbage : CollectOutcome
garbage = left (24 ∷ 16 ∷ []) (0 ∷ 2 ∷ 2 ∷ 2 ∷ [])
    (page []
    ++ page (header_of 4 0 ∷ 0 ∷ 0 ∷ 0 ∷ 0 ∷ header_of 2 0 ∷ 5 ∷ 6 ∷ [])
    ++ page (header_of 7 0 ∷ 1 ∷ 2 ∷ 3 ∷ 4 ∷ 5 ∷ 6 ∷ 7 ∷ [])
    ++ page (header_of 4 0 ∷ 1 ∷ 2 ∷ 3 ∷ 4 ∷ []))

module _ (c : Collection) (Pairs : ℕ → ℕ → Type 0) (F : Faithful stuffed cells [] garbage c Pairs) where
  -- nothing moved to page 1: of the objects there now none has the size of the garbage but itself
  garbage_same : (x y : ℕ) → Pairs x y → y / 8 ≡ 1 → y ≡ x
  unfolding the_rules Each objects gather
  garbage_same = each_pair stuffed garbage c Pairs F (λ x y. y / 8 ≡ 1 → y ≡ x) (
    λ y p e. absurd (omega (arith, F.paired.once 8 y 24 p (first stuffed garbage c Pairs F))),
    (
      λ y p e. each_object garbage.lent (λ y. size_of (at garbage.lent.heap y) ≡ 3 → y / 8 ≡ 1 → y ≡ 13)
          (λ s q. absurd (omega arith), (λ s q. refl, (λ s q. absurd (omega arith), (λ s q. absurd (omega arith), tt)))) y (F.paired.object 13 y p) (F.paired.sizes 13 y p) e,
      (λ y p e. absurd (omega (arith, F.paired.once 16 y 16 p (second stuffed garbage c Pairs F))), tt),
    ),
  )

  -- the garbage is reached from no page but its own: no object has references
  garbage_unreached : (i x : ℕ) → i < length c.kept → at c.kept i ≡ 1 → x ≡ 13
      → ReachedKeeping stuffed cells [] (take i c.kept) Pairs x → ⊥
  unfolding the_rules Each objects gather
  garbage_unreached i x lt e z (staying ob (inl h)) = unhinted stuffed garbage c Pairs F (x / 8) h
  garbage_unreached i x lt e z (staying ob (inr q)) = not_before stuffed garbage c Pairs F i 1 lt e (rw z at q.page)
  garbage_unreached i x lt e z (by_root ob k) = not_a_cell stuffed garbage c Pairs F x z k
  garbage_unreached i x lt e z (by_reference y n r t h q ob) =
      each_object stuffed (λ y. n < refs stuffed y → ⊥) (λ h. omega arith, (λ h. omega arith, (λ h. omega arith, tt))) y (reached_object r) h

  pub keeps_garbage : ⊥
  unfolding the_rules Each objects gather
  keeps_garbage =
      let (i, lt, e) = mem_at c.kept 1 (unmoved_kept stuffed garbage c Pairs F 1 (omega arith) (omega arith) refl garbage_same) in
      let (x, K) = F.keeps.holds i lt in
      each_object stuffed (λ x. Pairs x x → x / 8 ≡ 1 → ReachedKeeping stuffed cells [] (take i c.kept) Pairs x → ⊥) (
        λ p q r. omega (arith, F.paired.once 8 8 24 p (first stuffed garbage c Pairs F)),
        (λ p q r. garbage_unreached i 13 lt e refl r, (λ p q r. omega arith, tt)),
      )
      x (reached_object K.reached) K.stayed (K.page ∙ e) K.reached

-- ---- Copies nothing: the same heap, both pages kept as they are, and page 3 left free. It holds no copy (`NoRoom.full`).

abbrev pub idle : CollectOutcome
idle = left cells (0 ∷ 2 ∷ 2 ∷ 0 ∷ []) stuffed.heap

module _ (c : Collection) (Pairs : ℕ → ℕ → Type 0) (F : Faithful stuffed cells [] idle c Pairs) where
  idle_same : (x y : ℕ) → Pairs x y → y / 8 ≡ 1 → y ≡ x
  unfolding the_rules Each objects gather
  idle_same = each_pair stuffed idle c Pairs F (λ x y. y / 8 ≡ 1 → y ≡ x) (
    λ y p e. F.paired.once 8 y 8 p (first stuffed idle c Pairs F),
    (
      λ y p e. each_object idle.lent (λ y. size_of (at idle.lent.heap y) ≡ 3 → y ≡ 13)
          (λ s. absurd (omega arith), (λ s. refl, (λ s. absurd (omega arith), tt))) y (F.paired.object 13 y p) (F.paired.sizes 13 y p),
      (λ y p e. absurd (omega (arith, F.paired.once 16 y 16 p (second stuffed idle c Pairs F))), tt),
    ),
  )

  pub copies_nothing : ⊥
  unfolding the_rules Each objects gather
  copies_nothing = keeps_beside_a_free_page stuffed cells [] idle c Pairs F 3 1
      (unmoved_kept stuffed idle c Pairs F 1 (omega arith) (omega arith) refl idle_same)
      (omega arith) (omega arith) refl
      (λ h. each_object idle.lent (λ y. y / 8 ≡ 3 → ⊥) (λ e. omega arith, (λ e. omega arith, (λ e. omega arith, tt)))
      h.to (F.paired.object h.from h.to h.pair) h.there)

-- ---- Keeps though the copy page has room. Page 1 has an object of 5 words, in a root cell, and garbage; page 2 has one of
-- 2, in a root cell. The first goes to 24, and page 2 is kept though 5 and 2 words fit page 3 (`NoRoom.tight`).

abbrev pub roomy : Lent
roomy = memory (0 ∷ 1 ∷ 1 ∷ 0 ∷ [])
    (page []
    ++ page (header_of 4 0 ∷ 1 ∷ 2 ∷ 3 ∷ 4 ∷ header_of 2 0 ∷ 5 ∷ 6 ∷ [])
    ++ page (header_of 1 0 ∷ 7 ∷ [])
    ++ page [])

abbrev pub hasty : CollectOutcome
hasty = left (24 ∷ 16 ∷ []) (0 ∷ 0 ∷ 2 ∷ 2 ∷ [])
    (page [] ++ page [] ++ page (header_of 1 0 ∷ 7 ∷ []) ++ page (header_of 4 0 ∷ 1 ∷ 2 ∷ 3 ∷ 4 ∷ []))

module _ (c : Collection) (Pairs : ℕ → ℕ → Type 0) (F : Faithful roomy cells [] hasty c Pairs) where
  hasty_same : (x y : ℕ) → Pairs x y → y / 8 ≡ 2 → y ≡ x
  unfolding the_rules Each objects gather
  hasty_same = each_pair roomy hasty c Pairs F (λ x y. y / 8 ≡ 2 → y ≡ x) (
    λ y p e. absurd (omega (arith, F.paired.once 8 y 24 p (first roomy hasty c Pairs F))),
    (
      λ y p e. each_object hasty.lent (λ y. size_of (at hasty.lent.heap y) ≡ 3 → y ≡ 13)
          (λ s. absurd (omega arith), (λ s. absurd (omega arith), tt)) y (F.paired.object 13 y p) (F.paired.sizes 13 y p),
      (λ y p e. F.paired.once 16 y 16 p (second roomy hasty c Pairs F), tt),
    ),
  )

  pub keeps_beside_room : ⊥
  unfolding the_rules Each objects gather
  keeps_beside_room =
      let k = unmoved_kept roomy hasty c Pairs F 2 (omega arith) (omega arith) refl hasty_same in
      let (x, K, over) = (F.keeps.room (member_length k)).tight in
      each_object roomy (λ x. Pairs x x → 32 < 29 + size_of (at roomy.heap x) → ⊥)
      (λ p h. omega (arith, F.paired.once 8 8 24 p (first roomy hasty c Pairs F)), (λ p h. omega arith, (λ p h. omega arith, tt)))
      x (reached_object K.reached) K.stayed
      (over 3 (record { low = omega arith; high = omega arith; free = refl; above = λ h a b. absurd (omega arith) }))

-- ---- Copies on after a page was kept. Page 1 has an object of 5 words, in a root cell, and one of 2; to that only the one of
-- 8 on page 2 refers, which is in a root cell. The first goes to 24, page 2 is kept, and then the one of 2 words goes
-- to 29, though it is reached from the kept page alone (`NoRoom.moved`).

abbrev pub chained : Lent
chained = memory (0 ∷ 1 ∷ 1 ∷ 0 ∷ [])
    (page []
    ++ page (header_of 4 0 ∷ 1 ∷ 2 ∷ 3 ∷ 4 ∷ header_of 1 0 ∷ 5 ∷ [])
    ++ page (header_of 7 1 ∷ 13 ∷ 2 ∷ 3 ∷ 4 ∷ 5 ∷ 6 ∷ 7 ∷ [])
    ++ page [])

abbrev pub late : CollectOutcome
late = left (24 ∷ 16 ∷ []) (0 ∷ 0 ∷ 2 ∷ 2 ∷ [])
    (page []
    ++ page []
    ++ page (header_of 7 1 ∷ 29 ∷ 2 ∷ 3 ∷ 4 ∷ 5 ∷ 6 ∷ 7 ∷ [])
    ++ page (header_of 4 0 ∷ 1 ∷ 2 ∷ 3 ∷ 4 ∷ header_of 1 0 ∷ 5 ∷ []))

module _ (c : Collection) (Pairs : ℕ → ℕ → Type 0) (F : Faithful chained cells [] late c Pairs) where
  third : Pairs 13 29
  unfolding the_rules
  third = cell chained late c Pairs F 13 29 (omega arith)
      (F.paired.references 16 16 0 (second chained late c Pairs F) (omega arith))

  late_same : (x y : ℕ) → Pairs x y → y / 8 ≡ 2 → y ≡ x
  unfolding the_rules Each objects gather
  late_same = each_pair chained late c Pairs F (λ x y. y / 8 ≡ 2 → y ≡ x) (
    λ y p e. absurd (omega (arith, F.paired.once 8 y 24 p (first chained late c Pairs F))),
    (
      λ y p e. absurd (omega (arith, F.paired.once 13 y 29 p third)),
      (λ y p e. F.paired.once 16 y 16 p (second chained late c Pairs F), tt),
    ),
  )

  late_unreached : (x : ℕ) → x ≡ 13 → ReachedKeeping chained cells [] [] Pairs x → ⊥
  unfolding the_rules Each objects gather
  late_unreached x z (staying ob (inl h)) = unhinted chained late c Pairs F (x / 8) h
  late_unreached x z (staying ob (inr q)) = Memᴰ.not-nil q.page
  late_unreached x z (by_root ob k) = not_a_cell chained late c Pairs F x z k
  late_unreached x z (by_reference y n r t h q ob) =
      each_object chained (λ y. n < refs chained y → OnHintedOrKept chained [] [] Pairs y ⊎ Moved Pairs y → ⊥)
      (λ h t. omega arith, (λ h t. omega arith, (λ h t. stays t, tt))) y (reached_object r) h t
    where
      -- the object that refers to it stays, on a kept page
      stays : OnHintedOrKept chained [] [] Pairs 16 ⊎ Moved Pairs 16 → ⊥
      stays (inl (inl h)) = unhinted chained late c Pairs F 2 h
      stays (inl (inr q)) = Memᴰ.not-nil q.page
      stays (inr (y, p, n)) = n (F.paired.once 16 y 16 p (second chained late c Pairs F))

  pub copies_after_keeping : ⊥
  copies_after_keeping =
      let k = unmoved_kept chained late c Pairs F 2 (omega arith) (omega arith) refl late_same in
      late_unreached 13 refl ((F.keeps.room (member_length k)).moved 13 (29, third, omega arith))
