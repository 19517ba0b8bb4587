-- Step 4 on the pages kept, one after another; and so every page with the new label is filled.
use Rattle.std.specs.Prelude.{◌≡◌, refl, ◌≢◌, ◌⊎◌, ℕ, ◌*◌, ◌≤◌, length}
use Rattle.std.proofs.Common.{sym, ◌∙◌, inl, inr}
use Rattle.std.proofs.Math.Path.{ap, subst}
use mathlib.Core.List.Memᴰ
use mathlib.Core.List.{List, [], ◌∷◌, ◌++◌, append-nil, append_assoc, Memᴰ}
use Rattle.std.proofs.Math.Decide.{ℕ_discrete}
use Rattle.rules.specs.Ranges.{at}
use Rattle.rules.specs.Collection.{Move, State, Filled, fill_page, fill_pages, kept_pages, filled}
use Rattle.rules.specs.Demands.{Once}
use Rattle.laws.specs.Pages.{page_on}
use Rattle.laws.specs.Fills.{page_heap}
use Rattle.laws.specs.Safe.{SafeFills}
use Rattle.theory.specs.Sums.{Distinct, distinct_append, places_distinct, distinct_places}
use Rattle.theory.specs.Queue.{Queued}
use Rattle.theory.specs.KeptPages.{kept_once}
use Rattle.theory.specs.World.{page_of, World, KeptPage, Inv}
use Rattle.theory.specs.Places.{old_new_kept}
use Rattle.theory.specs.Tile.{Tiled}
use Rattle.theory.specs.Fillers.{FilledPage, filled_agree}
use Rattle.theory.specs.FillPage.{Unfilled, FilledWhole, fill_whole, page_inside}

-- ---- filling pages one after another

abbrev OnPages : World → List ℕ → ℕ → Type 0
OnPages W l w = Memᴰ (page_of W w) l

record FilledList (W : World) (t : State) (l : List ℕ) (s s' : Filled) : Type 0 where
  safe : SafeFills W.plan.page l s.heap
  heap_length : length s'.heap ≡ length s.heap
  else : (w : ℕ) → (Memᴰ (page_of W w) l → ⊥) → at s'.heap w ≡ at s.heap w
  pages : (g : ℕ) → Memᴰ g l → FilledPage W t s'.heap g
  more : List ℕ
  places : s'.places ≡ s.places ++ more
  left : (y : ℕ) → Memᴰ y more → (m : Move) × Memᴰ m t.moves × (y ≡ m.from) × Memᴰ (page_of W y) l
  all : (m : Move) → Memᴰ m t.moves → Memᴰ (page_of W m.from) l → Memᴰ m.from more
  once : Distinct more

-- page g, then the rest
module _ (W : World) (t : State) (I : Inv W t) (T : Tiled W t) (g : ℕ) (gs : List ℕ) (d : Distinct (g ∷ gs)) (K : KeptPage W t g) (s : Filled)
    (U : Unfilled W t (OnPages W (g ∷ gs)) s.heap) where
  abbrev s1 : Filled
  s1 = fill_page W.plan.page (g * W.plan.page) W.plan.page s

  abbrev s2 : Filled
  s2 = fill_pages W.plan.page gs s1

  first : FilledWhole W t g s
  first = fill_whole W t I T g K s (record { heap_length = U.heap_length; rest = λ w (e, l). U.rest w (Memᴰ.head e); copies = U.copies })

  first_page : FilledPage W t s1.heap g
  first_page = record {
    same = λ w e c. first.same w e (page_on W.pos w g e).0 c;
    head = λ m mem e. first.head m mem e (page_on W.pos m.from g e).0;
    zeros = λ m mem e. first.zeros m mem e (page_on W.pos m.from g e).0;
  }

  -- a page of gs is not g
  not_first : (j : ℕ) → Memᴰ j gs → j ≢ g
  not_first j k e = d.0 (Memᴰ.cast (sym e) k)

  unfilled_rest : Unfilled W t (OnPages W gs) s1.heap
  unfilled_rest = record {
    heap_length = first.heap_length ∙ U.heap_length;
    rest = λ w k. first.else w (inl (not_first (page_of W w) k)) ∙ U.rest w (Memᴰ.tail k);
    copies = λ w q. first.else w (inl (λ z. W.old≢0 (sym K.old ∙ ap (at W.labels) (sym z) ∙ q))) ∙ U.copies w q;
  }

  safe_rest : SafeFills W.plan.page gs s1.heap
      → SafeFills W.plan.page gs (fill_page W.plan.page (g * W.plan.page) W.plan.page (record { heap = s.heap; places = [] })).heap
  safe_rest = subst (SafeFills W.plan.page gs) (page_heap W.plan.page (g * W.plan.page) W.plan.page s.heap s.places)

  fill_cons : FilledList W t gs s1 s2 → FilledList W t (g ∷ gs) s (fill_pages W.plan.page (g ∷ gs) s)
  unfolding fill_pages SafeFills
  fill_cons R = record {
    safe = (rw U.heap_length (page_inside W t I T g K), (first.safe, safe_rest R.safe));
    heap_length = R.heap_length ∙ first.heap_length;
    else = λ w n. R.else w (λ q. n (Memᴰ.tail q)) ∙ first.else w (inl (λ q. n (Memᴰ.head q)));
    pages = λ j k. pages j (Memᴰ.cases_cons k);
    more = first.more ++ R.more;
    places = R.places ∙ ap (λ (l : List ℕ). l ++ R.more) first.places ∙ append_assoc s.places first.more R.more;
    left = λ y k. from y (Memᴰ.append_cases first.more k);
    all = λ m mem k. all m mem (Memᴰ.cases_cons k);
    once = distinct_append first.more R.more first.once R.once (λ y a b. not_first (page_of W y) (R.left y b).3 (first.left y a).3);
  }
    where
      pages : (j : ℕ) → (j ≡ g) ⊎ Memᴰ j gs → FilledPage W t s2.heap j
      pages j (inl e) = subst (FilledPage W t s2.heap) (sym e) (filled_agree W t I s1.heap s2.heap g (λ w q. R.else w (λ k. d.0 (Memᴰ.cast (sym q) k))) first_page)
      pages j (inr k) = R.pages j k

      from : (y : ℕ) → Memᴰ y first.more ⊎ Memᴰ y R.more → (m : Move) × Memᴰ m t.moves × (y ≡ m.from) × Memᴰ (page_of W y) (g ∷ gs)
      from y (inl k) = let (m, mem, ey, ep, l) = first.left y k in (m, mem, ey, Memᴰ.head ep)
      from y (inr k) = let (m, mem, ey, q) = R.left y k in (m, mem, ey, Memᴰ.tail q)

      all : (m : Move) → Memᴰ m t.moves → (page_of W m.from ≡ g) ⊎ Memᴰ (page_of W m.from) gs → Memᴰ m.from (first.more ++ R.more)
      all m mem (inl e) = Memᴰ.append_left R.more (first.all m mem e (page_on W.pos m.from g e).0)
      all m mem (inr k) = Memᴰ.append_right first.more (R.all m mem k)

fill_list : (W : World) (t : State) → Inv W t → Tiled W t → (l : List ℕ) → Distinct l → ((g : ℕ) → Memᴰ g l → KeptPage W t g) → (s : Filled) → Unfilled W t (OnPages W l) s.heap
    → FilledList W t l s (fill_pages W.plan.page l s)
unfolding fill_pages SafeFills
fill_list W t I T [] d kept s U = record {
  safe = tt;
  heap_length = refl;
  else = λ w n. refl;
  pages = λ g k. absurd (Memᴰ.not-nil k);
  more = [];
  places = sym (append-nil s.places);
  left = λ y k. absurd (Memᴰ.not-nil k);
  all = λ m mem k. absurd (Memᴰ.not-nil k);
  once = tt;
}
fill_list W t I T (g ∷ gs) d kept s U =
    let K : KeptPage W t g = kept g (Memᴰ.head refl) in
    fill_cons W t I T g gs d K s U (fill_list W t I T gs d.1 (λ j k. kept j (Memᴰ.tail k)) _ (unfilled_rest W t I T g gs d K s U))

-- ---- the pages kept, and so all with the new label

pub record FilledAll (W : World) (t : State) (f : Filled) : Type 0 where
  pub heap_length : length f.heap ≡ length t.heap
  pub pages : (g : ℕ) → at t.pages.labels g ≡ W.plan.new → FilledPage W t f.heap g
  pub else : (w : ℕ) → (Memᴰ (page_of W w) (kept_pages t.pages) → ⊥) → at f.heap w ≡ at t.heap w
  -- the places filled are those that copied objects left on the pages kept
  pub left : (y : ℕ) → Memᴰ y f.places → (m : Move) × Memᴰ m t.moves × (y ≡ m.from) × Memᴰ (page_of W y) (kept_pages t.pages)
  pub all : (m : Move) → Memᴰ m t.moves → Memᴰ (page_of W m.from) (kept_pages t.pages) → Memᴰ m.from f.places
  pub once : Once f.places
  pub safe : SafeFills W.plan.page (kept_pages t.pages) t.heap

abbrev start : State → Filled
start t = record { heap = t.heap; places = [] }

pub filled_all : (W : World) (t : State) → Inv W t → Tiled W t → Queued W.plan.new t.pages.labels t.pages.queue → t.pages.kept ≤ length t.pages.queue
    → FilledAll W t (filled W.plan t)
unfolding filled
filled_all W t I T Q within = record {
  heap_length = R.heap_length;
  pages = λ g e. pages g e (ℕ_discrete (at W.labels g) W.plan.old);
  else = R.else;
  left = λ y k. R.left y (rw R.places at k);
  all = λ m mem k. rw R.places (R.all m mem k);
  once = rw R.places (distinct_places R.more R.once);
  safe = R.safe;
}
  where
    R : FilledList W t (kept_pages t.pages) (start t) (fill_pages W.plan.page (kept_pages t.pages) (start t))
    R = fill_list W t I T (kept_pages t.pages) (places_distinct (kept_pages t.pages) (kept_once t.pages within Q.once)) I.kept (start t)
        (record { heap_length = refl; rest = λ w k. refl; copies = λ w q. refl })

    pages : (g : ℕ) → at t.pages.labels g ≡ W.plan.new → Dec (at W.labels g ≡ W.plan.old) → FilledPage W t (fill_pages W.plan.page (kept_pages t.pages) (start t)).heap g
    pages g e (yes q) = R.pages g (old_new_kept W t I g q e).listed
    -- no object was copied from it
    pages g e (no q) = record {
      same = λ w z c. R.else w (λ k. q (ap (at W.labels) (sym z) ∙ (I.kept (page_of W w) k).old));
      head = λ m mem z. absurd (q (ap (at W.labels) (sym z) ∙ (I.moved m mem).old));
      zeros = λ m mem z i low high. absurd (q (ap (at W.labels) (sym z) ∙ (I.moved m mem).old));
    }
