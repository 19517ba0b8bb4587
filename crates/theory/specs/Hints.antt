-- Step 1: what the hints leave of the pages, and that reading them is safe. Only the list of pages that they name is seen here,
-- never the hint words.
use Rattle.std.specs.Prelude.{◌≡◌, ◌≢◌, ◌⊎◌, Bool, cond, ℕ, ◌≤◌, ◌<◌}
use Rattle.std.proofs.Math.Path.{refl, ap}
use Rattle.std.proofs.Common.{sym, ◌∙◌, subst, inl, inr, arith, length-set}
use Rattle.std.proofs.Math.Bool.{true, false}
use mathlib.Core.List.Memᴰ
use mathlib.Core.List.{List, [], ◌∷◌, ◌++◌, Memᴰ}
use Rattle.std.proofs.Math.Decide.{ℕ_discrete}
use Rattle.std.proofs.Math.Dec.{eqb}
use Rattle.std.proofs.Math.ListN.{length, set}
use Rattle.std.proofs.Math.Seq.{get_or-set_same, get_or-set_other}
use borrow.Author.Tests.{eqb-true, eqb-false}
use Rattle.rules.specs.Ranges.{at}
use Rattle.rules.specs.Pages.{is_free}
use Rattle.rules.specs.Collection.{Plan, Pages, hint_page, hint_pages}
use Rattle.laws.specs.Safe.{SafeHints}
use Rattle.laws.specs.Words.{in_range}
use Rattle.laws.specs.FreePages.{free_is, not_free}
use Rattle.theory.specs.Queue.{Queued, join, queue_room}

-- before the first hint: each label is 0 or the old one, and the queue is empty
pub record Unhinted (k : Plan) (b : Pages) : Type 0 where
  pub old≢0 : k.old ≢ 0
  pub new≢0 : k.new ≢ 0
  pub new≢old : k.new ≢ k.old
  pub labels : (g : ℕ) → (at b.labels g ≡ 0) ⊎ (at b.labels g ≡ k.old)
  pub queue : b.queue ≡ []

-- some of the pages that are named have joined
pub record Hinting (k : Plan) (b : Pages) (named : List ℕ) (s : Pages) : Type 0 where
  pub copy : s.copy ≡ b.copy
  pub fill : s.fill ≡ b.fill
  pub kept : s.kept ≡ b.kept
  pub labels_length : length s.labels ≡ length b.labels
  pub none : (g : ℕ) → at b.labels g ≡ 0 → at s.labels g ≡ 0
  pub used : (g : ℕ) → at b.labels g ≡ k.old → (at s.labels g ≡ k.old) ⊎ (at s.labels g ≡ k.new)
  pub hinted : (g : ℕ) → at s.labels g ≡ k.new → (at b.labels g ≡ k.old) × Memᴰ g named
  pub queued : Queued k.new s.labels s.queue

module _ (k : Plan) (b : Pages) (U : Unhinted k b) (named : List ℕ) where
  pub begun_hinting : Hinting k b named b
  begun_hinting = record {
    copy = refl;
    fill = refl;
    kept = refl;
    labels_length = refl;
    none = λ g e. e;
    used = λ g e. inl e;
    hinted = λ g e. absurd (never g e (U.labels g));
    queued = record {
      all = λ g e. absurd (never g e (U.labels g));
      once = λ i j h. absurd (empty i h);
      only = λ j h. absurd (empty j h);
    };
  }
    where
      never : (g : ℕ) → at b.labels g ≡ k.new → (at b.labels g ≡ 0) ⊎ (at b.labels g ≡ k.old) → ⊥
      never g e (inl q) = U.new≢0 (sym e ∙ q)
      never g e (inr q) = U.new≢old (sym e ∙ q)

      empty : (j : ℕ) → j < length b.queue → ⊥
      empty j h = omega (arith, ap length U.queue)

  was_old : (s : Pages) → Hinting k b named s → (g : ℕ) → at s.labels g ≡ k.old → at b.labels g ≡ k.old
  was_old s H g e = go (U.labels g)
    where
      go : (at b.labels g ≡ 0) ⊎ (at b.labels g ≡ k.old) → at b.labels g ≡ k.old
      go (inl q) = absurd (U.old≢0 (sym e ∙ H.none g q))
      go (inr q) = q

  old_inside : (s : Pages) (g : ℕ) → at s.labels g ≡ k.old → g < length s.labels
  old_inside s g e = in_range s.labels g (λ q. U.old≢0 (sym e ∙ q))

  old_not_new : (s : Pages) (g : ℕ) → at s.labels g ≡ k.old → at s.labels g ≢ k.new
  old_not_new s g e q = U.new≢old (sym q ∙ e)

  -- page g, which is named, joins
  module _ (s : Pages) (H : Hinting k b named s) (g : ℕ) (old : at s.labels g ≡ k.old) (mem : Memᴰ g named) where
    abbrev ls : List ℕ
    ls = set s.labels g k.new

    inside : g < length s.labels
    inside = old_inside s g old

    join_hinting : Hinting k b named (record { labels = ls; queue = s.queue ++ (g ∷ []); copy = s.copy; fill = s.fill; kept = s.kept })
    join_hinting = record {
      copy = H.copy;
      fill = H.fill;
      kept = H.kept;
      labels_length = length-set s.labels g k.new ∙ H.labels_length;
      none = λ j e. get_or-set_other s.labels g j k.new 0 (λ q. U.old≢0 (sym (was_old s H g old) ∙ ap (at b.labels) (sym q) ∙ e)) ∙ H.none j e;
      used = λ j e. us j e (ℕ_discrete j g);
      hinted = λ j e. nm j e (ℕ_discrete j g);
      queued = join k.new s.labels s.queue g inside (old_not_new s g old) H.queued;
    }
      where
        us : (j : ℕ) → at b.labels j ≡ k.old → Dec (j ≡ g) → (at ls j ≡ k.old) ⊎ (at ls j ≡ k.new)
        us j e (yes q) = inr (ap (at ls) q ∙ get_or-set_same s.labels g k.new 0 inside)
        us j e (no q) = then (get_or-set_other s.labels g j k.new 0 q) (H.used j e)
          where
            then : at ls j ≡ at s.labels j → (at s.labels j ≡ k.old) ⊎ (at s.labels j ≡ k.new) → (at ls j ≡ k.old) ⊎ (at ls j ≡ k.new)
            then z (inl a) = inl (z ∙ a)
            then z (inr a) = inr (z ∙ a)

        nm : (j : ℕ) → at ls j ≡ k.new → Dec (j ≡ g) → (at b.labels j ≡ k.old) × Memᴰ j named
        nm j e (yes q) = (ap (at b.labels) q ∙ was_old s H g old, Memᴰ.cast q mem)
        nm j e (no q) = H.hinted j (sym (get_or-set_other s.labels g j k.new 0 q) ∙ e)

  hint_page_lem : (s : Pages) → Hinting k b named s → (g : ℕ) → Memᴰ g named → Hinting k b named (hint_page k g s)
  unfolding hint_page
  hint_page_lem s H g mem = go (eqb (at s.labels g) k.old) refl
    where
      go : (t : Bool) → eqb (at s.labels g) k.old ≡ t
          → Hinting k b named (cond t (record { labels = set s.labels g k.new; queue = s.queue ++ (g ∷ []); copy = s.copy; fill = s.fill; kept = s.kept }) s)
      go true e = join_hinting s H g (eqb-true _ _ e) mem
      go false e = H

  pub hint_pages_lem : (gs : List ℕ) (s : Pages) → Hinting k b named s → ((g : ℕ) → Memᴰ g gs → Memᴰ g named) → Hinting k b named (hint_pages k gs s)
  unfolding hint_pages
  hint_pages_lem [] s H sub = H
  hint_pages_lem (g ∷ gs) s H sub = hint_pages_lem gs (hint_page k g s) (hint_page_lem s H g (sub g (Memᴰ.head refl))) (λ z q. sub z (Memᴰ.tail q))

  -- ---- each page in use that is named has the new label at the end

  page_keeps : (s : Pages) (j g : ℕ) → at s.labels g ≡ k.new → at (hint_page k j s).labels g ≡ k.new
  unfolding hint_page
  page_keeps s j g e = go (eqb (at s.labels j) k.old) refl (ℕ_discrete g j)
    where
      go : (t : Bool) → eqb (at s.labels j) k.old ≡ t → Dec (g ≡ j)
          → at (cond t (record { labels = set s.labels j k.new; queue = s.queue ++ (j ∷ []); copy = s.copy; fill = s.fill; kept = s.kept }) s).labels g ≡ k.new
      go false q d = e
      go true q (no n) = get_or-set_other s.labels j g k.new 0 n ∙ e
      go true q (yes y) = absurd (U.new≢old (sym e ∙ ap (at s.labels) y ∙ eqb-true _ _ q))

  pages_keep : (gs : List ℕ) (s : Pages) (g : ℕ) → at s.labels g ≡ k.new → at (hint_pages k gs s).labels g ≡ k.new
  unfolding hint_pages
  pages_keep [] s g e = e
  pages_keep (j ∷ gs) s g e = pages_keep gs (hint_page k j s) g (page_keeps s j g e)

  page_gets : (s : Pages) → Hinting k b named s → (g : ℕ) → at b.labels g ≡ k.old → at (hint_page k g s).labels g ≡ k.new
  unfolding hint_page
  page_gets s H g us = go (eqb (at s.labels g) k.old) refl (H.used g us)
    where
      go : (t : Bool) → eqb (at s.labels g) k.old ≡ t → (at s.labels g ≡ k.old) ⊎ (at s.labels g ≡ k.new)
          → at (cond t (record { labels = set s.labels g k.new; queue = s.queue ++ (g ∷ []); copy = s.copy; fill = s.fill; kept = s.kept }) s).labels g ≡ k.new
      go true q d = get_or-set_same s.labels g k.new 0 (old_inside s g (eqb-true _ _ q))
      go false q (inl e) = absurd (eqb-false _ _ q e)
      go false q (inr e) = e

  pub pages_get : (gs : List ℕ) (s : Pages) → Hinting k b named s → ((g : ℕ) → Memᴰ g gs → Memᴰ g named) → (g : ℕ) → Memᴰ g gs
      → at b.labels g ≡ k.old → at (hint_pages k gs s).labels g ≡ k.new
  unfolding hint_pages
  pages_get [] s H sub g mem us = absurd (Memᴰ.not-nil mem)
  pages_get (j ∷ gs) s H sub g mem us =
      go (λ q. pages_get gs (hint_page k j s) (hint_page_lem s H j (sub j (Memᴰ.head refl))) (λ z q. sub z (Memᴰ.tail q)) g q us) (Memᴰ.cases_cons mem)
    where
      go : (Memᴰ g gs → at (hint_pages k gs (hint_page k j s)).labels g ≡ k.new) → (g ≡ j) ⊎ Memᴰ g gs → at (hint_pages k gs (hint_page k j s)).labels g ≡ k.new
      go ih (inr q) = ih q
      go ih (inl q) = pages_keep gs (hint_page k j s) g (subst (λ (i : ℕ). at (hint_page k i s).labels g ≡ k.new) q (page_gets s H g us))

  -- ---- the same pages are free, and reading the hints is safe

  pub free_as_before : (s : Pages) → Hinting k b named s → (g : ℕ) → is_free s.labels g ≡ is_free b.labels g
  free_as_before s H g = go (U.labels g)
    where
      us : (at s.labels g ≡ k.old) ⊎ (at s.labels g ≡ k.new) → at s.labels g ≢ 0
      us (inl e) q = U.old≢0 (sym e ∙ q)
      us (inr e) q = U.new≢0 (sym e ∙ q)

      go : (at b.labels g ≡ 0) ⊎ (at b.labels g ≡ k.old) → is_free s.labels g ≡ is_free b.labels g
      go (inl e) = free_is s.labels g (H.none g e) ∙ sym (free_is b.labels g e)
      go (inr e) = not_free s.labels g (us (H.used g e)) ∙ sym (not_free b.labels g (λ q. U.old≢0 (sym e ∙ q)))

  pub hints_safe : length b.labels ≡ k.hi → 0 < k.hi → k.hi ≤ 4096 → (gs : List ℕ) (s : Pages) → Hinting k b named s
      → ((g : ℕ) → Memᴰ g gs → Memᴰ g named) → SafeHints k gs s
  unfolding SafeHints
  hints_safe len low few [] s H sub = tt
  hints_safe len low few (g ∷ gs) s H sub = (
    record { new = U.new≢old; labels = H.labels_length ∙ len; low = low; few = few; queue = room },
    hints_safe len low few gs (hint_page k g s) (hint_page_lem s H g (sub g (Memᴰ.head refl))) (λ z q. sub z (Memᴰ.tail q)),
  )
    where
      room : (j : ℕ) → at s.labels j ≡ k.old → length s.queue < k.hi
      room j e =
          let h : length s.queue < length s.labels = queue_room k.new s.labels s.queue j U.new≢0 (old_inside s j e) (old_not_new s j e) H.queued in
          omega (arith, H.labels_length)

-- ---- two readings of the same list

-- of the pages named, the same ones have the old label
abbrev pub SameOld : Plan → Plan → List ℕ → Pages → Pages → Type 0
SameOld k l gs p q = (g : ℕ) → Memᴰ g gs → (at p.labels g ≡ k.old → at q.labels g ≡ l.old) × (at q.labels g ≡ l.old → at p.labels g ≡ k.old)

-- a page that has the old label after g joined is another, and had it before
still_old : (k : Plan) (b : Pages) → Unhinted k b → (p : Pages) (g h : ℕ) → at p.labels g ≡ k.old → at (set p.labels g k.new) h ≡ k.old → (h ≢ g) × (at p.labels h ≡ k.old)
still_old k b U p g h e z = (other, sym (get_or-set_other p.labels g h k.new 0 other) ∙ z)
  where
    other : h ≢ g
    other q = U.new≢old (sym (get_or-set_same p.labels g k.new 0 (old_inside k b U [] p g e)) ∙ ap (at (set p.labels g k.new)) (sym q) ∙ z)

module _ (k l : Plan) (b d : Pages) (U : Unhinted k b) (U' : Unhinted l d) where
  -- then the same pages join, in the same order
  pub queues_same : (gs : List ℕ) (p q : Pages) → q.queue ≡ p.queue → SameOld k l gs p q → (hint_pages l gs q).queue ≡ (hint_pages k gs p).queue
  unfolding hint_pages hint_page
  queues_same [] p q e same = e
  queues_same (g ∷ gs) p q e same =
      go (queues_same gs) (eqb (at p.labels g) k.old) refl (eqb (at q.labels g) l.old) refl
    where
      joined : Plan → Pages → Pages
      joined j p = record { labels = set p.labels g j.new; queue = p.queue ++ (g ∷ []); copy = p.copy; fill = p.fill; kept = p.kept }

      here : (at p.labels g ≡ k.old → at q.labels g ≡ l.old) × (at q.labels g ≡ l.old → at p.labels g ≡ k.old)
      here = same g (Memᴰ.head refl)

      rest : SameOld k l gs p q
      rest h mem = same h (Memᴰ.tail mem)

      both : at p.labels g ≡ k.old → at q.labels g ≡ l.old → SameOld k l gs (joined k p) (joined l q)
      both ep eq h mem = (
        λ z. let (n, o) = still_old k b U p g h ep z in get_or-set_other q.labels g h l.new 0 n ∙ (rest h mem).0 o,
        λ z. let (n, o) = still_old l d U' q g h eq z in get_or-set_other p.labels g h k.new 0 n ∙ (rest h mem).1 o,
      )

      go : ((p q : Pages) → q.queue ≡ p.queue → SameOld k l gs p q → (hint_pages l gs q).queue ≡ (hint_pages k gs p).queue)
          → (x : Bool) → eqb (at p.labels g) k.old ≡ x → (y : Bool) → eqb (at q.labels g) l.old ≡ y
          → (hint_pages l gs (cond y (joined l q) q)).queue ≡ (hint_pages k gs (cond x (joined k p) p)).queue
      go ih true ex true ey = ih (joined k p) (joined l q) (ap (λ (z : List ℕ). z ++ (g ∷ [])) e) (both (eqb-true _ _ ex) (eqb-true _ _ ey))
      go ih false ex false ey = ih p q e rest
      go ih true ex false ey = absurd (eqb-false _ _ ey (here.0 (eqb-true _ _ ex)))
      go ih false ex true ey = absurd (eqb-false _ _ ex (here.1 (eqb-true _ _ ey)))
