-- The words copied are among those of the objects on pages that no hint names, and the pages taken are no more than those words may
-- need. So where as many are free, no page is kept for want of room.
use Rattle.std.specs.Prelude.{◌≡◌, ◌⊎◌, Bool, true, false, cond, leb, length, set}
use Rattle.std.proofs.Math.Path.{refl}
use Rattle.std.proofs.Common.{sym, ap, ◌∙◌, subst, inl, inr, zero-add, arith, length-append, leb-true, leb-false}
use mathlib.Core.List.Memᴰ
use mathlib.Core.List.{List, [], ◌∷◌, ◌++◌, Memᴰ}
use Prim.Native.Nat.{ℕ, ◌+◌, ◌≤◌, ◌<◌}
use Rattle.rules.specs.Ranges.{sum}
use Rattle.rules.specs.Pages.{is_free, pages_needed}
use Rattle.rules.specs.Collection.{Move, State, on_pages, put, take_page, with_room, can_copy, keep_page}
use Rattle.laws.specs.Walk.{size}
use Rattle.laws.specs.FreePages.{Lowest, free_pages, lowest, free_less, free_same, free_relabelled}
use Rattle.theory.specs.Sums.{sum_snoc, Distinct, distinct_snoc, sub_sum}
use Rattle.theory.specs.Packing.{Packed, packed_same, packed_new}
use Rattle.theory.proofs.Packing.{packed_enough}
use Rattle.theory.specs.World.{page_of, size_at, World, Inv}
use Rattle.theory.specs.Places.{some_words, old_before}
use Rattle.theory.specs.Put.{put_moves}
use Rattle.theory.specs.Take.{page_inside}
use Rattle.theory.specs.Keep.{page_inside as kept-inside}
use Rattle.theory.specs.Forward.{Due, due_not_gone, Avail, cannot_says, Within, How, idle, copies, keeps, copied, keeping}

-- ---- the objects that were copied

unfoldable pub froms : List Move → List ℕ
froms [] = []
froms (m ∷ ms) = m.from ∷ froms ms

froms_snoc : (ms : List Move) (m : Move) → froms (ms ++ (m ∷ [])) ≡ froms ms ++ (m.from ∷ [])
unfolding froms
froms_snoc [] m = refl
froms_snoc (k ∷ ms) m = ap {B = List ℕ} (λ r. k.from ∷ r) (froms_snoc ms m)

mem_froms : (ms : List Move) {x : ℕ} → Memᴰ x (froms ms) → (m : Move) × Memᴰ m ms × (x ≡ m.from)
unfolding froms
mem_froms [] h = absurd (Memᴰ.not-nil h)
mem_froms (k ∷ ms) {x} h = go (λ q. mem_froms ms q) (Memᴰ.cases_cons h)
  where
    go : (Memᴰ x (froms ms) → (m : Move) × Memᴰ m ms × (x ≡ m.from)) → (x ≡ k.from) ⊎ Memᴰ x (froms ms) → (m : Move) × Memᴰ m (k ∷ ms) × (x ≡ m.from)
    go r (inl e) = (k, Memᴰ.head refl, e)
    go r (inr q) = let t : (m : Move) × Memᴰ m ms × (x ≡ m.from) = r q in (t.0, Memᴰ.tail t.1, t.2)

-- the words copied, and those that may have to be
abbrev pub words_of : World → State → ℕ
words_of W s = sum (size W.heap) (froms s.moves)

abbrev pub words_old : World → ℕ
words_old W = sum (size W.heap) W.olds

-- free pages of the block; at first as many as all those words may need
abbrev pub free_in : World → List ℕ → ℕ
free_in W labels = free_pages labels W.plan.lo W.plan.hi

abbrev pub Enough : World → Type 0
Enough W = pages_needed W.plan.page (words_old W) ≤ free_in W W.labels

pub record Packs (W : World) (s : State) : Type 0 where
  pub taken : ℕ
  -- the queue: hinted pages, those taken, those kept
  pub joined : length s.pages.queue ≡ W.hinted + taken + s.pages.kept
  pub left : free_in W s.pages.labels + taken ≡ free_in W W.labels
  pub unkept : Enough W → s.pages.kept ≡ 0
  pub distinct : Distinct (froms s.moves)
  pub packed : Packed W.plan.page taken s.pages.fill (words_of W s)
  pub words : s.words ≡ words_of W s
  pub objects : s.objects ≤ s.words

pub packs_within : (W : World) (s : State) → Packs W s → Within s
packs_within W s K = omega (arith, K.joined)

-- ---- how many

module _ (W : World) (s : State) (I : Inv W s) (K : Packs W s) where
  copied_old : (z : ℕ) → Memᴰ z (froms s.moves) → Memᴰ z W.olds
  copied_old z a = let (m, k, e) = mem_froms s.moves a in Memᴰ.cast e (W.all m.from (I.moved m k).object (I.moved m k).old)

  pub words_old_lem : words_of W s ≤ words_old W
  words_old_lem = sub_sum (size W.heap) (froms s.moves) W.olds K.distinct copied_old

  -- "at most .. pages are taken", by words
  pub packs_few : 0 < s.pages.fill → K.taken ≤ pages_needed W.plan.page (words_old W)
  packs_few fp = packed_enough (words_old W) words_old_lem fp K.packed

  module _ (x : ℕ) (D : Due W s x) where
    not_copied : Memᴰ x (froms s.moves) → ⊥
    not_copied h = let (m, k, e) = mem_froms s.moves h in due_not_gone W s I x D m k (sym e)

    pub words_left : words_of W s + size_at W x ≤ words_old W
    words_left =
        let l : List ℕ = froms s.moves ++ (x ∷ []) in
        let h : sum (size W.heap) l ≤ words_old W = sub_sum (size W.heap) l W.olds (distinct_snoc (froms s.moves) x K.distinct not_copied) sub in
        omega (arith, sum_snoc (size W.heap) (froms s.moves) x)
      where
        sub : (z : ℕ) → Memᴰ z (froms s.moves ++ (x ∷ [])) → Memᴰ z W.olds
        sub z h = go (Memᴰ.append_cases (froms s.moves) h)
          where
            go : Memᴰ z (froms s.moves) ⊎ Memᴰ z (x ∷ []) → Memᴰ z W.olds
            go (inl a) = copied_old z a
            go (inr b) = Memᴰ.cast (Memᴰ.eq_of_singleton b) (W.all x D.object (old_before W s I x D.object D.old))

    -- words that do not fit find a free page, where there are enough
    some_free : Enough W → W.plan.page < s.pages.fill + size_at W x → 0 < free_in W s.pages.labels
    some_free enough lt =
        let b : K.taken + 1 ≤ pages_needed W.plan.page (words_old W) =
        packed_enough (words_old W) words_left (some_words W x D.object) (packed_new (size_at W x) lt K.packed) in
        omega (arith, K.left)

    -- so no page is kept
    none_kept : Enough W → can_copy W.plan (size_at W x) s.pages ≡ false → ⊥
    none_kept enough cant =
        let (lt, full) = cannot_says W s (size_at W x) (K.unkept enough) cant in
        let L : Lowest s.pages.labels W.plan.lo W.plan.hi = lowest _ _ _ (some_free enough lt) in
        omega (arith, L.high)

  -- ---- an object copied

  module _ (x : ℕ) (D : Due W s x) (av : Avail W s (size_at W x)) where
    module _ (l : List Move) (y : ℕ) (is : l ≡ s.moves ++ ((record { from = x; to = y }) ∷ [])) where
      froms_are : froms l ≡ froms s.moves ++ (x ∷ [])
      froms_are = ap froms is ∙ froms_snoc s.moves (record { from = x; to = y })

      weight : sum (size W.heap) (froms l) ≡ words_of W s + size_at W x
      weight = ap (sum (size W.heap)) froms_are ∙ sum_snoc (size W.heap) (froms s.moves) x

      distinct' : Distinct (froms l)
      distinct' = subst Distinct (sym froms_are) (distinct_snoc (froms s.moves) x K.distinct (not_copied x D))

    copy_packs : Packs W (copied W s x)
    unfolding with_room put take_page
    copy_packs = go (leb (s.pages.fill + size_at W x) W.plan.page) refl
      where
        n : ℕ
        n = size_at W x

        same : s.pages.fill + n ≤ W.plan.page → Packs W (put W.plan n x s.pages s)
        same h =
            let is = put_moves W n x s.pages s in
            record {
              taken = K.taken;
              joined = K.joined;
              left = K.left;
              unkept = K.unkept;
              distinct = distinct' _ _ is;
              packed = subst (Packed W.plan.page K.taken (s.pages.fill + n)) (sym (weight _ _ is)) (packed_same n K.packed);
              words = sym (weight _ _ is ∙ ap (λ (k : ℕ). k + n) (sym K.words));
              objects = omega (arith, K.objects, some_words W x D.object);
            }

        other : W.plan.page < s.pages.fill + n → Packs W (put W.plan n x (take_page W.plan s.pages) s)
        other lt =
            let L = av.page lt in
            let is = put_moves W n x (take_page W.plan s.pages) s in
            record {
              taken = K.taken + 1;
              joined = length-append s.pages.queue _ ∙ omega (arith, K.joined);
              left = omega (arith, free_less s.pages.labels W.plan.lo W.plan.hi _ W.plan.new L.low L.high (page_inside W s I av.unkept L) L.free W.new≢0, K.left);
              unkept = K.unkept;
              distinct = distinct' _ _ is;
              packed = subst (Packed W.plan.page (K.taken + 1) (0 + n)) (sym (weight _ _ is)) (rw zero-add (packed_new n lt K.packed));
              words = sym (weight _ _ is ∙ ap (λ (k : ℕ). k + n) (sym K.words));
              objects = omega (arith, K.objects, some_words W x D.object);
            }

        go : (b : Bool) → leb (s.pages.fill + size_at W x) W.plan.page ≡ b
            → Packs W (put W.plan (size_at W x) x (cond b s.pages (take_page W.plan s.pages)) (on_pages s (cond b s.pages (take_page W.plan s.pages))))
        go true e = same (leb-true _ _ e)
        go false e = other (leb-false _ _ e)

-- ---- a page kept: nothing is copied

keep_packs : (W : World) (s : State) → Inv W s → Packs W s → (x : ℕ) → Due W s x → can_copy W.plan (size_at W x) s.pages ≡ false → Packs W (keeping W s x)
unfolding keep_page
keep_packs W s I K x D cant = record {
  taken = K.taken;
  joined = length-append s.pages.queue _ ∙ omega (arith, K.joined);
  left = ap (λ (n : ℕ). n + K.taken) (free_same _ s.pages.labels W.plan.lo W.plan.hi same) ∙ K.left;
  unkept = λ enough. absurd (none_kept W s I K x D enough cant);
  distinct = K.distinct;
  packed = K.packed;
  words = K.words;
  objects = K.objects;
}
  where
    same : (g : ℕ) → is_free (set s.pages.labels (page_of W x) W.plan.new) g ≡ is_free s.pages.labels g
    same = free_relabelled s.pages.labels (page_of W x) W.plan.new (λ q. W.old≢0 (sym D.old ∙ q)) W.new≢0 (kept-inside W s I x D.object D.old (packs_within W s K))

pub packs_how : (W : World) (s : State) (v : ℕ) (t : State) → Inv W s → Packs W s → How W s v t → Packs W t
packs_how W s v t I K (idle u p e) = subst (Packs W) (sym e) K
packs_how W s v t I K (copies D av e) = subst (Packs W) (sym e) (copy_packs W s I K v D av)
packs_how W s v t I K (keeps D cant e) = subst (Packs W) (sym e) (keep_packs W s I K v D cant)
