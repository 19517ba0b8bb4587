-- Step 4 on one page that is kept: the walk, which is the sweep's, makes fillers of the places that copied objects left, and no
-- other word changes.
use Rattle.std.specs.Prelude.{◌≡◌, refl, ◌≢◌, ◌⊎◌, true, false, ℕ, zero, suc, ◌+◌, ◌*◌, ◌-◌, ◌/◌, ◌≤◌, ◌<◌, length}
use Rattle.std.proofs.Common.{sym, ◌∙◌, subst, inl, inr, true≢false, add-zero, le_refl, arith}
use Rattle.std.proofs.Math.Path.{ap}
use mathlib.Core.List.Memᴰ
use mathlib.Core.List.{List, [], ◌∷◌, ◌++◌, append-nil, append_assoc, Memᴰ}
use Rattle.std.proofs.Math.Decide.{dec_lt}
use Rattle.std.proofs.lemmas.List.Edits.{sets}
use Rattle.std.proofs.Math.Seq.{length-sets}
use Rattle.rules.specs.Ranges.{at}
use Rattle.rules.specs.Header.{header_of, size_of, is_header}
use Rattle.rules.specs.Collection.{Move, State, is_left, size_at_copy, filler, Filled, fill_place, fill_page}
use Rattle.laws.specs.Headers.{Left, header_is, header_full, left_is, left_odd, left_full, left_no_header}
use Rattle.laws.specs.Pages.{on_page, first_on_page, page_end}
use Rattle.laws.specs.Safe.{SafeStep, SafeFill}
use Rattle.laws.specs.Words.{sets_other, sets_in, in_range}
use Rattle.theory.specs.Sums.{Distinct}
use Rattle.theory.specs.World.{page_of, label_was, size_at, World, Kept, Place, kept_place, KeptPage, Inv}
use Rattle.theory.specs.Places.{SameOrApart, Standing, there, left, some_words, place_obj, kept_obj, place_end, place_apart, standing, kept_from, left_word, left_copy, left_size, left_step}
use Rattle.theory.specs.Tile.{Begins, Tiled}
use Rattle.theory.specs.Cursor.{Cursor, at_place, at_stop, behind_place}
use Rattle.theory.specs.Fillers.{filler_length, filler_head, filler_zeros, Clear, from_place, from_some}

-- ---- filling a page that is kept

-- what is still to fill, On, and the pages that copies went to are as the sweep left them
pub record Unfilled (W : World) (t : State) (On : ℕ → Type 0) (h : List ℕ) : Type 0 where
  pub heap_length : length h ≡ length t.heap
  pub rest : (w : ℕ) → On w → at h w ≡ at t.heap w
  pub copies : (w : ℕ) → label_was W w ≡ 0 → at h w ≡ at t.heap w

abbrev pub OnFrom : World → ℕ → ℕ → ℕ → Type 0
OnFrom W g a w = (page_of W w ≡ g) × (a ≤ w)

-- from s the filling of page g left s', with fillers from a on, at the places `more`
pub record FilledFrom (W : World) (t : State) (g a : ℕ) (s s' : Filled) (Safe : Type 0) : Type 0 where
  pub safe : Safe
  pub heap_length : length s'.heap ≡ length s.heap
  pub else : (w : ℕ) → (page_of W w ≢ g) ⊎ (w < a) → at s'.heap w ≡ at s.heap w
  pub same : (w : ℕ) → page_of W w ≡ g → a ≤ w → Clear W t w → at s'.heap w ≡ at t.heap w
  pub head : (m : Move) → Memᴰ m t.moves → page_of W m.from ≡ g → a ≤ m.from → at s'.heap m.from ≡ header_of (size_at W m.from - 1) 0
  pub zeros : (m : Move) → Memᴰ m t.moves → page_of W m.from ≡ g → a ≤ m.from → (i : ℕ) → 0 < i → i < size_at W m.from → at s'.heap (m.from + i) ≡ 0
  pub more : List ℕ
  pub places : s'.places ≡ s.places ++ more
  pub left : (y : ℕ) → Memᴰ y more → (m : Move) × Memᴰ m t.moves × (y ≡ m.from) × (page_of W y ≡ g) × (a ≤ y)
  pub all : (m : Move) → Memᴰ m t.moves → page_of W m.from ≡ g → a ≤ m.from → Memᴰ m.from more
  pub once : Distinct more

-- what fill_page leaves, and that it is safe; and of the whole page
abbrev FilledBy : World → State → ℕ → ℕ → ℕ → ℕ → Filled → Type 0
FilledBy W t g f a room s = FilledFrom W t g a s (fill_page f a room s) (SafeFill f a room s.heap)

abbrev pub FilledWhole : World → State → ℕ → Filled → Type 0
FilledWhole W t g s = FilledBy W t g W.plan.page (g * W.plan.page) W.plan.page s

module _ (W : World) (t : State) (I : Inv W t) (T : Tiled W t) (g : ℕ) (K : KeptPage W t g) where
  abbrev FillOk : ℕ → Type 0
  FillOk f = (a room : ℕ) (s : Filled) → Unfilled W t (OnFrom W g a) s.heap → g * W.plan.page ≤ a → a + room ≡ g * W.plan.page + W.plan.page → room ≤ f → Cursor W t g a room
      → FilledBy W t g f a room s

  -- nothing is left on the page
  fill_end : (a : ℕ) (s : Filled) (Safe : Type 0) → Safe → Unfilled W t (OnFrom W g a) s.heap → ((x y : ℕ) → Place W t x y → page_of W y ≡ g → y + size_at W x ≤ a) → FilledFrom W t g a s s Safe
  fill_end a s Safe safe U none = record {
    safe = safe;
    heap_length = refl;
    else = λ w d. refl;
    same = λ w e l c. U.rest w (e, l);
    head = λ m mem e l. absurd (past m mem e l);
    zeros = λ m mem e l i low high. absurd (past m mem e l);
    more = [];
    places = sym (append-nil s.places);
    left = λ y k. absurd (Memᴰ.not-nil k);
    all = λ m mem e l. absurd (past m mem e l);
    once = tt;
  }
    where
      past : (m : Move) → Memᴰ m t.moves → page_of W m.from ≡ g → a ≤ m.from → ⊥
      past m mem e l = let q : m.from + size_at W m.from ≤ a = none m.from m.from (from_place W t I m mem) e in omega (arith, from_some W t I m mem)

  -- a retained object is stepped over
  module _ (f a room : ℕ) (s : Filled) (U : Unfilled W t (OnFrom W g a) s.heap) (lo : g * W.plan.page ≤ a) (e : a + room ≡ g * W.plan.page + W.plan.page) (le : room ≤ suc f)
      (x : ℕ) (k : Kept W t x a) (pg : page_of W a ≡ g) where
    ob : W.Obj x
    ob = kept_obj W t I x a k

    hd : at s.heap a ≡ at W.heap x
    hd = U.rest a (pg, le_refl a) ∙ I.header x a k

    fits : size_at W x ≤ room
    fits = omega (arith, place_end W t I g x a (kept_place W t k) pg)

    is : is_header (at W.heap x) room ≡ true
    is = header_is (at W.heap x) room (record { odd = W.odd x ob; shape = W.shape x ob; fits = fits })

    -- no object was copied from within it
    beyond : (m : Move) → Memᴰ m t.moves → a ≤ m.from → a + size_at W x ≤ m.from
    beyond m mem l = go (kept_from W t I x a k m mem)
      where
        go : (a + size_at W x ≤ m.from) ⊎ (m.from + size_at W m.from ≤ a) → a + size_at W x ≤ m.from
        go (inl q) = q
        go (inr q) = absurd (omega (arith, from_some W t I m mem))

    over : (s' : Filled) (Safe Safe' : Type 0) → (Safe → Safe') → FilledFrom W t g (a + size_at W x) s s' Safe → FilledFrom W t g a s s' Safe'
    over s' Safe Safe' safe r = record {
      safe = safe r.safe;
      heap_length = r.heap_length;
      else = λ w d. before w d;
      same = λ w q l c. within w q l c (dec_lt w (a + size_at W x));
      head = λ m mem q l. r.head m mem q (beyond m mem l);
      zeros = λ m mem q l. r.zeros m mem q (beyond m mem l);
      more = r.more;
      places = r.places;
      left = λ y q. let (m, mem, ey, ep, l) = r.left y q in (m, mem, ey, ep, omega arith);
      all = λ m mem q l. r.all m mem q (beyond m mem l);
      once = r.once;
    }
      where
        before : (w : ℕ) → (page_of W w ≢ g) ⊎ (w < a) → at s'.heap w ≡ at s.heap w
        before w (inl q) = r.else w (inl q)
        before w (inr q) = r.else w (inr (omega arith))

        within : (w : ℕ) → page_of W w ≡ g → a ≤ w → Clear W t w → Dec (w < a + size_at W x) → at s'.heap w ≡ at t.heap w
        within w q l c (yes lt) = r.else w (inr lt) ∙ U.rest w (q, l)
        within w q l c (no n) = r.same w q (omega arith) c

    fill_there : FillOk f → FilledBy W t g (suc f) a room s
    unfolding fill_page SafeFill
    fill_there ih =
        rw (hd, is, left_odd (at W.heap x) room (W.odd x ob))
        (over _ _ _ (λ z. (λ q. z, λ q. absurd (true≢false (sym q))))
        (ih (a + size_at W x) (room - size_at W x) s (record { heap_length = U.heap_length; rest = λ w (q, l). U.rest w (q, omega arith); copies = U.copies })
        (omega arith) (omega (arith, fits)) (omega (arith, some_words W x ob, fits))
        (behind_place W t I T g x a (room - size_at W x) (kept_place W t k) pg (omega (arith, fits)))))

  -- the place that an object left becomes a filler
  module _ (f room : ℕ) (s : Filled) (m : Move) (mem : Memᴰ m t.moves) (U : Unfilled W t (OnFrom W g m.from) s.heap) (lo : g * W.plan.page ≤ m.from)
      (e : m.from + room ≡ g * W.plan.page + W.plan.page) (le : room ≤ suc f) (pg : page_of W m.from ≡ g) where
    abbrev a : ℕ
    a = m.from

    abbrev n : ℕ
    n = size_at W m.from

    abbrev filled_heap : List ℕ
    filled_heap = sets s.heap a (filler n)

    abbrev with_filler : Filled
    with_filler = record { heap = filled_heap; places = s.places ++ (a ∷ []) }

    room_left : size_at W m.from ≤ room
    room_left = omega (arith, place_end W t I g a a (from_place W t I m mem) pg)

    word : at s.heap a ≡ at t.heap a
    word = U.rest a (pg, le_refl a)

    copy_same : at s.heap (at t.heap a / 2) ≡ at t.heap (at t.heap a / 2)
    copy_same = rw (left_copy W t I m mem) (U.copies m.to (I.moved m mem).fresh)

    size_left : size_at_copy s.heap (at t.heap a) ≡ size_at W m.from
    unfolding size_at_copy
    size_left = ap size_of copy_same ∙ left_size W t I m mem

    is_left_lem : Left (at t.heap a) room
    is_left_lem = left_word W t I T.page0 m mem room room_left

    step_safe : SafeStep s.heap (at t.heap a) room
    step_safe =
        let S : SafeStep t.heap (at t.heap a) room = left_step W t I m mem room room_left in
        record { inside = rw U.heap_length S.inside; some = rw size_left (from_some W t I m mem); fits = rw size_left room_left }

    -- the words of the filler, and all others
    filler_in : (i : ℕ) → i < n → at filled_heap (a + i) ≡ at (filler n) i
    filler_in i h =
        let q : a + size_at W m.from ≤ length t.heap = omega (arith, W.inside a (I.moved m mem).object, I.heap_length) in
        sets_in s.heap a (filler n) i (omega (arith, filler_length n (from_some W t I m mem))) (omega (arith, filler_length n (from_some W t I m mem), U.heap_length))

    filler_out : (w : ℕ) → (w < a) ⊎ (a + n ≤ w) → at filled_heap w ≡ at s.heap w
    filler_out w (inl l) = sets_other s.heap a (filler n) w (inl l)
    filler_out w (inr l) = sets_other s.heap a (filler n) w (inr (omega (arith, filler_length n (from_some W t I m mem))))

    filler_else : (w : ℕ) → page_of W w ≢ g → at filled_heap w ≡ at s.heap w
    filler_else w q = filler_out w (go (dec_lt w a) (dec_lt w (a + n)))
      where
        go : Dec (w < a) → Dec (w < a + n) → (w < a) ⊎ (a + n ≤ w)
        go (yes l) d = inl l
        go (no l) (no k) = inr (omega arith)
        go (no l) (yes k) = absurd (q (on_page W.pos w g (omega arith) (omega (arith, room_left))))

    unfilled : Unfilled W t (OnFrom W g (a + n)) filled_heap
    unfilled = record {
      heap_length = length-sets s.heap a (filler n) ∙ U.heap_length;
      rest = λ w (q, l). filler_out w (inr l) ∙ U.rest w (q, omega arith);
      copies = λ w q. filler_else w (λ z. W.old≢0 (sym K.old ∙ ap (at W.labels) (sym z) ∙ q)) ∙ U.copies w q;
    }

    -- another object that was copied from here on was copied from behind it
    same_or_beyond : (k : Move) → Memᴰ k t.moves → a ≤ k.from → (k.from ≡ a) ⊎ (a + n ≤ k.from)
    same_or_beyond k mek l = go (place_apart W t I k.from k.from a a (from_place W t I k mek) (from_place W t I m mem))
      where
        go : SameOrApart W k.from k.from a a → (k.from ≡ a) ⊎ (a + n ≤ k.from)
        go (inl (q, z)) = inl q
        go (inr (inl z)) = absurd (omega (arith, from_some W t I k mek))
        go (inr (inr z)) = inr z

    over_left : (s' : Filled) (Safe Safe' : Type 0) → (Safe → Safe') → FilledFrom W t g (a + n) with_filler s' Safe → FilledFrom W t g a s s' Safe'
    over_left s' Safe Safe' safe r = record {
      safe = safe r.safe;
      heap_length = r.heap_length ∙ length-sets s.heap a (filler n);
      else = λ w d. before w d;
      same = λ w q l c. within w q l c (c m mem);
      head = λ k mek q l. head k mek q (same_or_beyond k mek l);
      zeros = λ k mek q l i low high. zeros k mek q i low high (same_or_beyond k mek l);
      more = a ∷ r.more;
      places = r.places ∙ append_assoc s.places (a ∷ []) r.more;
      left = λ y q. from y (Memᴰ.cases_cons q);
      all = λ k mek q l. all k mek q (same_or_beyond k mek l);
      once = (λ q. let (k, mek, ey, ep, l) = r.left a q in omega (arith, from_some W t I m mem), r.once);
    }
      where
        here : (i : ℕ) → i < n → at s'.heap (a + i) ≡ at (filler n) i
        here i h = r.else (a + i) (inr (omega arith)) ∙ filler_in i h

        before : (w : ℕ) → (page_of W w ≢ g) ⊎ (w < a) → at s'.heap w ≡ at s.heap w
        before w (inl q) = r.else w (inl q) ∙ filler_else w q
        before w (inr q) = r.else w (inr (omega arith)) ∙ filler_out w (inl q)

        within : (w : ℕ) → page_of W w ≡ g → a ≤ w → Clear W t w → (w < a) ⊎ (a + n ≤ w) → at s'.heap w ≡ at t.heap w
        within w q l c (inl z) = absurd (omega arith)
        within w q l c (inr z) = r.same w q z c

        head : (k : Move) → Memᴰ k t.moves → page_of W k.from ≡ g → (k.from ≡ a) ⊎ (a + n ≤ k.from) → at s'.heap k.from ≡ header_of (size_at W k.from - 1) 0
        head k mek q (inr z) = r.head k mek q z
        head k mek q (inl z) = rw z ((simp add-zero at (here 0 (from_some W t I m mem))) ∙ filler_head n)

        zeros : (k : Move) → Memᴰ k t.moves → page_of W k.from ≡ g → (i : ℕ) → 0 < i → i < size_at W k.from → (k.from ≡ a) ⊎ (a + n ≤ k.from) → at s'.heap (k.from + i) ≡ 0
        zeros k mek q i low high (inr z) = r.zeros k mek q z i low high
        zeros k mek q i low high (inl z) = rw z (here i (rw z at high) ∙ filler_zeros n i low)

        from : (y : ℕ) → (y ≡ a) ⊎ Memᴰ y r.more → (k : Move) × Memᴰ k t.moves × (y ≡ k.from) × (page_of W y ≡ g) × (a ≤ y)
        from y (inl q) = (m, mem, q, ap (page_of W) q ∙ pg, omega arith)
        from y (inr q) = let (k, mek, ey, ep, l) = r.left y q in (k, mek, ey, ep, omega arith)

        all : (k : Move) → Memᴰ k t.moves → page_of W k.from ≡ g → (k.from ≡ a) ⊎ (a + n ≤ k.from) → Memᴰ k.from (a ∷ r.more)
        all k mek q (inl z) = Memᴰ.head z
        all k mek q (inr z) = Memᴰ.tail (r.all k mek q z)

    fill_left : FillOk f → FilledBy W t g (suc f) a room s
    unfolding fill_page fill_place SafeFill
    fill_left ih =
        rw (word, size_left, left_no_header (at t.heap a) room room is_left_lem, left_is (at t.heap a) room is_left_lem)
        (over_left _ _ _ (λ z. (λ q. absurd (true≢false (sym q)), λ q. (step_safe, z)))
        (ih (a + n) (room - n) with_filler unfilled (omega arith) (omega (arith, room_left)) (omega (arith, from_some W t I m mem, room_left))
        (behind_place W t I T g a a (room - n) (from_place W t I m mem) pg (omega (arith, room_left)))))

  fill_none : FillOk zero
  unfolding fill_page SafeFill
  fill_none a room s U lo e le (at_stop h l none bl tp) = fill_end a s (Unit {0}) tt U none
  fill_none a room s U lo e le (at_place x k pg) = absurd (omega (arith, place_end W t I g x a k pg, some_words W x (place_obj W t I x a k)))

  -- at the stop, and at a place
  fill_stop : (f a room : ℕ) (s : Filled) → Unfilled W t (OnFrom W g a) s.heap → ((x y : ℕ) → Place W t x y → page_of W y ≡ g → y + size_at W x ≤ a)
      → is_header (at s.heap a) room ≡ false → is_left (at s.heap a) room ≡ false → FilledBy W t g (suc f) a room s
  unfolding fill_page SafeFill
  fill_stop f a room s U none h l = rw (h, l) (fill_end a s _ (λ q. absurd (true≢false (sym q)), λ q. absurd (true≢false (sym q))) U none)

  fill_place_lem : (f a room : ℕ) (s : Filled) → Unfilled W t (OnFrom W g a) s.heap → g * W.plan.page ≤ a → a + room ≡ g * W.plan.page + W.plan.page → room ≤ suc f
      → (x : ℕ) → page_of W a ≡ g → Standing W t x a → FillOk f → FilledBy W t g (suc f) a room s
  fill_place_lem f a room s U lo e le x pg (there k) ih = fill_there f a room s U lo e le x k pg ih
  fill_place_lem f a room s U lo e le x pg (left m mem ex ey) ih =
      subst (λ (b : ℕ). Unfilled W t (OnFrom W g b) s.heap → g * W.plan.page ≤ b → b + room ≡ g * W.plan.page + W.plan.page → page_of W b ≡ g → FilledBy W t g (suc f) b room s)
      (sym (ey ∙ ex)) (λ U lo e pg. fill_left f room s m mem U lo e le pg ih) U lo e pg

  fill_more : (f : ℕ) → FillOk f → FillOk (suc f)
  fill_more f ih a room s U lo e le (at_place x k pg) = fill_place_lem f a room s U lo e le x pg (standing W t I x a (ap (at t.pages.labels) pg ∙ K.label) k) ih
  fill_more f ih a zero s U lo e le (at_stop h l none bl tp) = fill_stop f a zero s U none (header_full _) (left_full _)
  fill_more f ih a (suc room) s U lo e le (at_stop h l none bl tp) =
      let q : at s.heap a ≡ at t.heap a = U.rest a (on_page W.pos a g lo (omega arith), le_refl a) in
      fill_stop f a (suc room) s U none (rw q h) (rw q l)

  fill_ok : (f : ℕ) → FillOk f
  fill_ok zero = fill_none
  fill_ok (suc f) = fill_more f (fill_ok f)

  -- the whole page
  page_start : Cursor W t g (g * W.plan.page) W.plan.page
  page_start = go (T.first g (λ z. W.new≢0 (sym K.label ∙ z)))
    where
      go : Begins W t g → Cursor W t g (g * W.plan.page) W.plan.page
      go (inl (x, k)) = at_place x k (first_on_page W.pos g)
      go (inr (a, b)) = absurd (W.old≢0 (sym K.old ∙ ap (at W.labels) a ∙ I.copy_fresh))

  pub page_inside : g * W.plan.page + W.plan.page ≤ length t.heap
  page_inside =
      let q : g < length t.pages.labels = in_range t.pages.labels g (λ z. W.new≢0 (sym K.label ∙ z)) in
      omega (arith, page_end g W.plan.page (length W.labels) (omega (arith, I.labels_length)), W.heap_length, I.heap_length)

  pub fill_whole : (s : Filled) → Unfilled W t (OnFrom W g (g * W.plan.page)) s.heap → FilledWhole W t g s
  fill_whole s U = fill_ok W.plan.page (g * W.plan.page) W.plan.page s U (le_refl _) refl (le_refl _) page_start
