-- The pages that an accepted collection takes: they were free, each is taken once, and they are no more than the words on pages
-- that no hint names may need. All that were free are taken before a page is kept, the highest-numbered last; and where
-- there are as many as may be needed, none is kept.
use Rattle.std.specs.Prelude.{◌≡◌, refl, ◌⊎◌, drop}
use Rattle.std.proofs.Common.{sym, ◌∙◌, inl, inr, le_trans, length-drop}
use Rattle.std.proofs.Math.Path.{ap}
use mathlib.Core.List.Memᴰ
use mathlib.Core.List.{List, [], Memᴰ}
use Prim.Native.Nat.{ℕ, ◌+◌, ◌*◌, ◌-◌, ◌/◌, ◌≤◌, ◌<◌}
use Rattle.std.proofs.Math.Decide.{dec_lt}
use native.Mathlib.Omega.{arith}
use Rattle.std.proofs.Math.ListN.{length}
use Rattle.std.proofs.Math.Seq.{get_or-take, get_or-drop, length-take-le}
use Rattle.rules.specs.Ranges.{at}
use Rattle.rules.specs.Header.{size_of}
use Rattle.rules.specs.Pages.{other_label}
use Rattle.rules.specs.Walk.{stop}
use Rattle.rules.specs.Lent.{Lent}
use Rattle.rules.specs.Sound.{InUse, Sound}
use Rattle.rules.specs.Collection.{logged, Move, State, plan_of, unkept_pages, kept_pages, collection}
use Rattle.rules.specs.Collect.{CollectOutcome, needed_for, accepted_collect}
use Rattle.rules.specs.Demands.{LastFree, Overfills, Took, FindsPages}
use Rattle.laws.specs.Pages.{first_on_page}
use Rattle.laws.specs.Walk.{size, page_steps, met_below}
use Rattle.laws.specs.Objects.{page_pos}
use Rattle.laws.specs.FreePages.{free_pages}
use Rattle.theory.specs.Sums.{mem_at, at_mem}
use Rattle.theory.specs.KeptPages.{kept_none, kept_length, kept_at}
use Rattle.theory.specs.World.{World, went, Place, home, away, LabelledOrKept}
use Rattle.theory.specs.Stacked.{NextFree}
use Rattle.theory.proofs.Packs.{packs_within, packs_few}
use Rattle.theory.proofs.Good.{Grow, grow_trans}
use Rattle.laws.specs.Collect.{Ready}
use Rattle.theory.specs.SoundHeap.{other≢0, other≢label, words_are}
use Rattle.laws.specs.Valid.{label_pos}
use Rattle.theory.proofs.FirstState.{p as pages_of, s as first_of, H, world, labels_length, used_kind, free_stays, was_free as first_free, free_same_pages}
use Rattle.theory.proofs.Run.{W as world_of, r as rooted_of, t as swept_of, roots_done, all_done}
use Rattle.theory.proofs.After.{m' as lent_of, inv, tiled, first_place, kept_object, kept_header, new_in_use, in_use_new}

module _ (m : Lent) (roots hints : List ℕ) (A : Ready m roots) where
  abbrev S : Sound m
  S = A.sound

  abbrev W : World
  W = world_of m roots hints A

  abbrev s : State
  s = swept_of m roots hints A

  abbrev new : ℕ
  new = other_label m.rec.label

  abbrev told : CollectOutcome
  told = accepted_collect (collection logged m roots hints)

  -- the queue after the hints is a prefix of the queue at the end
  abbrev before : List ℕ
  before = (pages_of m roots hints A).queue

  abbrev queue : List ℕ
  queue = s.pages.queue

  grown : Grow W (first_of m roots hints A) s
  grown = grow_trans W (first_of m roots hints A) (rooted_of m roots hints A).state s (roots_done m roots hints A).grow (all_done m roots hints A).grow

  -- those kept stand behind them
  within : s.pages.kept ≤ length queue
  within = packs_within W s (all_done m roots hints A).good.packs

  abbrev pub taken : List ℕ
  taken = drop (length before) (unkept_pages s.pages)

  unkept_length : length (unkept_pages s.pages) ≡ length queue - s.pages.kept
  unfolding unkept_pages
  unkept_length = length-take-le (length queue - s.pages.kept) queue (omega arith)

  pub taken_length : length taken ≡ length queue - s.pages.kept - length before
  taken_length = length-drop (length before) (unkept_pages s.pages) ∙ ap (λ (n : ℕ). n - length before) unkept_length

  place_unkept : (j : ℕ) → j < length taken → length before + j + s.pages.kept < length queue
  place_unkept j h = omega (arith, taken_length)

  place_inside : (j : ℕ) → j < length taken → length before + j < length queue
  place_inside j h = omega (arith, place_unkept j h)

  place : (j : ℕ) → j < length taken → at taken j ≡ at queue (length before + j)
  unfolding unkept_pages
  place j h = get_or-drop (length before) (unkept_pages s.pages) j 0 ∙ get_or-take (length queue - s.pages.kept) queue (length before + j) 0 (omega (arith, place_unkept j h))

  queue_new : (j : ℕ) → j < length queue → at s.pages.labels (at queue j) ≡ new
  unfolding world plan_of
  queue_new j h = (all_done m roots hints A).good.lined.queued.only j h

  -- a page that was taken is not kept
  not_kept : (j : ℕ) → j < length taken → Memᴰ (at taken j) (kept_pages s.pages) → ⊥
  not_kept j h k =
      let (i, lt, e) = mem_at (kept_pages s.pages) (at taken j) k in
      let len : length (kept_pages s.pages) ≡ s.pages.kept = kept_length s.pages within in
      let z : length queue - s.pages.kept + i ≡ length before + j =
      (all_done m roots hints A).good.lined.queued.once (length queue - s.pages.kept + i) (length before + j) (omega (arith, within)) (place_inside j h)
      (sym (kept_at s.pages i) ∙ e ∙ place j h) in
      omega (arith, place_unkept j h)

  -- a page of the queue behind those of the hints, and not kept, was free
  was_free : (j : ℕ) → j < length taken → at m.labels (at taken j) ≡ 0
  unfolding world plan_of
  was_free j h = go (S.labels g)
    where
      g : ℕ
      g = at taken j

      label : at s.pages.labels g ≡ new
      label = ap (at s.pages.labels) (place j h) ∙ queue_new (length before + j) (place_inside j h)

      used : (at (pages_of m roots hints A).labels g ≡ m.rec.label) ⊎ (at (pages_of m roots hints A).labels g ≡ new) → ⊥
      used (inl e) = old ((inv m roots hints A).used g (λ q. label_pos m S.valid (sym e ∙ q)))
        where
          old : LabelledOrKept W s g → ⊥
          old (inl q) = other≢label m S (sym label ∙ q ∙ e)
          old (inr k) = not_kept j h k.listed
      used (inr e) =
          let (i, lt, q) = (H m roots hints A).queued.all g e in
          let z : i ≡ length before + j = (all_done m roots hints A).good.lined.queued.once i (length before + j) (le_trans lt grown.longer) (place_inside j h)
          (grown.prefix i lt ∙ q ∙ place j h) in
          omega arith

      go : (at m.labels g ≡ 0) ⊎ (at m.labels g ≡ m.rec.label) → at m.labels g ≡ 0
      go (inl e) = e
      go (inr e) = absurd (used (used_kind m roots hints A g e))

  -- it is in use after
  pub taken_in_use : (g : ℕ) → Memᴰ g taken → InUse (lent_of m roots hints A) g
  taken_in_use g mem =
      let (j, lt, e) = mem_at taken g mem in
      new_in_use m roots hints A g (ap (at s.pages.labels) (sym e ∙ place j lt) ∙ queue_new (length before + j) (place_inside j lt))

  taken_words : length taken ≤ needed_for m hints
  unfolding world plan_of
  taken_words =
      let G = (all_done m roots hints A).good in
      rw (← words_are m hints) (omega (arith, taken_length, G.packs.joined, packs_few W s G.inv G.packs G.filled))

  -- a page that was free and has the new label is taken
  pub new_taken : (g : ℕ) → at m.labels g ≡ 0 → at s.pages.labels g ≡ new → Memᴰ g taken
  unfolding world plan_of
  new_taken g e z = queued ((all_done m roots hints A).good.lined.queued.all g z)
    where
      fresh : at W.labels g ≡ 0
      fresh = free_stays m roots hints A g e

      -- it is in the queue, behind the hinted ones and before the kept ones
      queued : (j : ℕ) × (j < length queue) × (at queue j ≡ g) → Memᴰ g taken
      queued (j, lt, q) = Memᴰ.cast (sym here) (at_mem taken (j - length before) inside)
        where
          behind : length before ≤ j
          behind = go (dec_lt j (length before))
            where
              go : Dec (j < length before) → length before ≤ j
              go (no n) = omega arith
              go (yes l) = absurd (other≢0 m S (sym ((H m roots hints A).queued.only j l) ∙ ap (at W.labels) (sym (grown.prefix j l) ∙ q) ∙ fresh))

          unkept : j + s.pages.kept < length queue
          unkept = go (dec_lt (j + s.pages.kept) (length queue))
            where
              go : Dec (j + s.pages.kept < length queue) → j + s.pages.kept < length queue
              go (yes l) = l
              go (no n) =
                  let i : ℕ = j - (length queue - s.pages.kept) in
                  let lt' : i < length (kept_pages s.pages) = omega (arith, kept_length s.pages within, within) in
                  let z : at (kept_pages s.pages) i ≡ g = kept_at s.pages i ∙ ap (at queue) (omega (arith, within)) ∙ q in
                  absurd (label_pos m S.valid (sym ((inv m roots hints A).kept g (Memᴰ.cast (sym z) (at_mem (kept_pages s.pages) i lt'))).old ∙ fresh))

          inside : j - length before < length taken
          inside = omega (arith, taken_length, unkept, behind)

          here : at taken (j - length before) ≡ g
          here = place (j - length before) inside ∙ ap (at queue) (omega (arith, behind)) ∙ q

  -- a page that was free and has the new label comes next behind another
  stacked : (g h : ℕ) → Took m told g → Took m told h → g < h → ((j : ℕ) → g < j → j < h → Took m told j → ⊥)
      → Overfills (lent_of m roots hints A) g (size (lent_of m roots hints A).heap (h * m.rec.page))
  unfolding world plan_of collection accepted_collect
  stacked g h tg th lt none = go (first_place m roots hints A h new_h).0 (first_place m roots hints A h new_h).1
    where
      new_h : at s.pages.labels h ≡ new
      new_h = in_use_new m roots hints A h th.in_use

      free_h : at W.labels h ≡ 0
      free_h = free_stays m roots hints A h th.free

      -- no page behind the copy page is taken
      upto : h ≤ s.pages.copy
      upto = by (dec_lt s.pages.copy h)
        where
          by : Dec (s.pages.copy < h) → h ≤ s.pages.copy
          by (no n) = omega arith
          by (yes l) = absurd (W.new≢0 (sym new_h ∙ (all_done m roots hints A).good.upward.behind h l free_h))

      next : NextFree W g h
      next = record { low = tg.in_use.low; less = lt; free = free_stays m roots hints A g tg.free; none = λ j a b e. between j a b e ((inv m roots hints A).free j e) }
        where
          between : (j : ℕ) → g < j → j < h → at W.labels j ≡ 0
              → (at s.pages.labels j ≡ 0) ⊎ (at s.pages.labels j ≡ new) → ⊥
          between j a b e (inl z) = (all_done m roots hints A).good.upward.up_to j (omega (arith, tg.in_use.low)) (omega (arith, upto)) z
          between j a b e (inr z) = none j a b (record { free = first_free m roots hints A j e; in_use = new_in_use m roots hints A j z })

      -- a copy ends where its object does, and before the walk's stop
      late : (k : Move) → Memᴰ k s.moves → k.to ≡ h * m.rec.page
          → Overfills (lent_of m roots hints A) g (size (lent_of m roots hints A).heap (h * m.rec.page))
      late k mem e =
          let l = (all_done m roots hints A).good.stacked.begins g h next upto k mem e in
          let j = l.move in
          let copy : (i : Move) → Memᴰ i s.moves → size (lent_of m roots hints A).heap i.to ≡ size m.heap i.from =
          λ i q. ap size_of (kept_header m roots hints A i.from i.to (went i q refl refl)) in
          let ob = kept_object m roots hints A j.from j.to (went j l.listed refl refl) in
          let end = met_below (page_steps (lent_of m roots hints A) (j.to / m.rec.page)) j.to ob.met in
          let end' : j.to + size (lent_of m roots hints A).heap j.to ≤ stop (lent_of m roots hints A) g = rw l.page at end in
          let first : size (lent_of m roots hints A).heap (h * m.rec.page) ≡ size m.heap k.from = ap (size (lent_of m roots hints A).heap) (sym e) ∙ copy k mem in
          omega (arith, l.late, copy j l.listed)

      go : (x : ℕ) → Place W s x (h * m.rec.page)
          → Overfills (lent_of m roots hints A) g (size (lent_of m roots hints A).heap (h * m.rec.page))
      go x (away k mem ex ey) = late k mem (sym ey)
      go x (home ob e) = absurd (used (W.kind x ob))
        where
          page : x / m.rec.page ≡ h
          page = ap (λ (a : ℕ). a / m.rec.page) (sym e) ∙ first_on_page (page_pos m S.valid) h

          used : (at W.labels (x / m.rec.page) ≡ m.rec.label) ⊎ (at W.labels (x / m.rec.page) ≡ new) → ⊥
          used (inl q) = W.old≢0 (sym q ∙ ap (at W.labels) page ∙ free_h)
          used (inr q) = W.new≢0 (sym q ∙ ap (at W.labels) page ∙ free_h)

  pub finds : FindsPages m hints told taken
  unfolding collection accepted_collect plan_of
  finds = record {
    took = λ g mem. record { free = let (j, lt, e) = mem_at taken g mem in ap (at m.labels) (sym e) ∙ was_free j lt; in_use = taken_in_use g mem };
    all = λ g k. new_taken g k.free (in_use_new m roots hints A g k.in_use);
    distinct = λ i j hi hj e.
        let z : length before + i ≡ length before + j =
        (all_done m roots hints A).good.lined.queued.once (length before + i) (length before + j) (place_inside i hi) (place_inside j hj) (sym (place i hi) ∙ e ∙ place j hj) in
        omega arith;
    stacked = stacked;
    count = refl;
    few = taken_words;
  }

  -- where a page is kept, that is each page that was free
  pub free_taken : 0 < s.pages.kept → (g : ℕ) → 1 ≤ g → g < m.rec.pages → at m.labels g ≡ 0 → Memᴰ g taken
  unfolding world plan_of
  free_taken pos g low high e = then ((inv m roots hints A).free g (free_stays m roots hints A g e))
    where
      then : (at s.pages.labels g ≡ 0) ⊎ (at s.pages.labels g ≡ new) → Memᴰ g taken
      then (inl z) = absurd ((all_done m roots hints A).good.causes.full pos g low (omega (arith, W.high, labels_length m roots hints A)) z)
      then (inr z) = new_taken g e z

  -- and the highest-numbered of them is the copy page
  pub last_copy : 0 < s.pages.kept → (g : ℕ) → LastFree m g → g ≡ s.pages.copy
  unfolding world plan_of collection
  last_copy pos g F = omega (arith, not_behind, not_before)
    where
      not_behind : g ≤ s.pages.copy
      not_behind = go (dec_lt s.pages.copy g)
        where
          go : Dec (s.pages.copy < g) → g ≤ s.pages.copy
          go (no n) = omega arith
          go (yes l) = absurd ((all_done m roots hints A).good.causes.full pos g F.low (omega (arith, F.high, W.high, labels_length m roots hints A))
              ((all_done m roots hints A).good.upward.behind g l (free_stays m roots hints A g F.free)))

      not_before : s.pages.copy ≤ g
      not_before = go (dec_lt g s.pages.copy) (tiled m roots hints A).copy_is
        where
          go : Dec (g < s.pages.copy)
              → ((s.pages.copy ≡ 0) × (s.pages.fill ≡ m.rec.page)) ⊎ (at s.pages.labels s.pages.copy ≡ new) → s.pages.copy ≤ g
          go (no n) c = omega arith
          go (yes l) (inl (e, z)) = absurd (omega arith)
          go (yes l) (inr e) =
              let u = new_in_use m roots hints A s.pages.copy e in
              absurd (F.above s.pages.copy l u.high (first_free m roots hints A s.pages.copy (inv m roots hints A).copy_fresh))

  -- where as many pages are free as the words may need, none is kept
  pub none_kept : needed_for m hints ≤ free_pages m.labels 1 m.rec.pages → kept_pages s.pages ≡ []
  unfolding world plan_of
  none_kept h = kept_none s.pages ((all_done m roots hints A).good.packs.unkept (rw (words_are m hints, free_same_pages m roots hints A) h))
