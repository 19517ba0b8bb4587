-- Laws of hinted pages that join the queue: one page, the pages of one hint word, all words in order.
use mathlib.Core.Path.{◌≡◌, refl, sym, ◌∙◌}
use mathlib.Core.Logic.{◌≢◌}
use mathlib.Core.Bool.{Bool, true, false, cond, ◌&&◌}
use mathlib.Core.List.{List, [], ◌∷◌, ◌++◌}
use Prim.Native.Nat.{ℕ, ◌+◌, ◌-◌, ◌/◌, ◌%◌, ◌≤◌, ◌<◌}
use native.Mathlib.Omega.{arith}
use native.Mathlib.Numerals.{add-one}
use lib.ListN.{length, set, drop, drop_of_length-le}
use lib.Seq.{drop-cons, get_or-set_same}
use lib.Dec.{eqb, leb, ltb}
use borrow.Author.Tests.{ltb-true, ne_eqb}
use Rattle.rules.specs.Tests.{and_right}
use Rattle.rules.specs.Ranges.{at}
use Rattle.rules.specs.Pages.{page_named, page_named_before, pages_of_hint, pages_named}
use Rattle.rules.specs.Collection.{Plan, Pages, hint_page, hint_pages}
use Rattle.laws.specs.Pages.{before_same}
use Rattle.laws.specs.Safe.{SafeHints}

-- ---- one hint word: its own page, then that of the word before

-- a page that is named twice joins once
hint_twice : (K : Plan) (g : ℕ) (s : Pages) → K.new ≢ K.old → g < length s.labels → hint_page K g (hint_page K g s) ≡ hint_page K g s
unfolding hint_page
hint_twice K g s ne h = go (eqb (at s.labels g) K.old) refl
  where
    once : Bool → Pages
    once b = cond b (record { labels = set s.labels g K.new; queue = s.queue ++ (g ∷ []); copy = s.copy; fill = s.fill; kept = s.kept }) s

    go : (b : Bool) → eqb (at s.labels g) K.old ≡ b
        → cond (eqb (at (once b).labels g) K.old)
        (record { labels = set (once b).labels g K.new; queue = (once b).queue ++ (g ∷ []); copy = (once b).copy; fill = (once b).fill; kept = (once b).kept }) (once b) ≡ once b
    go true e = rw (get_or-set_same s.labels g K.new 0 h, ne_eqb K.new K.old ne)
    go false e = rw e

-- the page that a word names is among the pages, and so is that of the word before
pub named_within : (P lo hi w : ℕ) → 0 < hi → page_named P lo hi w < hi
unfolding page_named
named_within P lo hi w some = go (leb lo (w / P) && ltb (w / P) hi) refl
  where
    go : (b : Bool) → (leb lo (w / P) && ltb (w / P) hi) ≡ b → cond b (w / P) 0 < hi
    go true e = ltb-true _ _ (and_right (leb lo (w / P)) _ e)
    go false e = some

pub before_within : (P lo hi w : ℕ) → 0 < hi → page_named_before P lo hi w < hi
unfolding page_named_before
before_within P lo hi w some = go (leb 1 w)
  where
    go : (b : Bool) → cond b (page_named P lo hi (w - 1)) 0 < hi
    go true = named_within P lo hi (w - 1) some
    go false = some

-- where the word does not begin a page, there is nothing more to do than with its own page
pub word_once : (K : Plan) (w : ℕ) (s t : Pages) → SafeHints K (pages_of_hint K.page K.lo K.hi w) s → t ≡ hint_page K (page_named K.page K.lo K.hi w) s → w % K.page ≢ 0
    → t ≡ hint_pages K (pages_of_hint K.page K.lo K.hi w) s
unfolding SafeHints hint_pages pages_of_hint
word_once K w s t S e n =
    e ∙ rw (before_same K.page K.lo K.hi w n) (sym (hint_twice K _ s S.0.new (omega (arith, named_within K.page K.lo K.hi w S.0.low, S.0.labels))))

-- ---- the hint words in order: what is left to do from the i-th on gives what there was to do at first

-- what there is to do with the pages of one word, and then with the rest
hints_both : (K : Plan) (gs rest : List ℕ) (s : Pages) → hint_pages K (gs ++ rest) s ≡ hint_pages K rest (hint_pages K gs s)
unfolding hint_pages
hints_both K [] rest s = refl
hints_both K (g ∷ gs) rest s = hints_both K gs rest (hint_page K g s)

safe_both : (K : Plan) (gs rest : List ℕ) (s : Pages) → SafeHints K (gs ++ rest) s → SafeHints K gs s × SafeHints K rest (hint_pages K gs s)
unfolding hint_pages SafeHints
safe_both K [] rest s S = (tt, S)
safe_both K (g ∷ gs) rest s S = let (a, b) = safe_both K gs rest (hint_page K g s) S.1 in ((S.0, a), b)

-- The first i words are done: what is left gives what all of them give at first, and is safe. K' is the plan as the code
-- has it by then.
pub record Hinting (K : Plan) (ws : List ℕ) (begun : Pages) (K' : Plan) (s : Pages) (i : ℕ) : Type 0 where
  pub plan : K' ≡ K
  pub same : hint_pages K (pages_named K.page 1 K.hi (drop i ws)) s ≡ hint_pages K (pages_named K.page 1 K.hi ws) begun
  pub safe : SafeHints K (pages_named K.page 1 K.hi (drop i ws)) s

module _ {K : Plan} {ws : List ℕ} {begun : Pages} {K' : Plan} {s : Pages} {i : ℕ} (H : Hinting K ws begun K' s i) where
  pub hints_end : length ws ≤ i → s ≡ hint_pages K (pages_named K.page 1 K.hi ws) begun
  unfolding hint_pages pages_named
  hints_end h = rw (drop_of_length-le ws h) at H.same

  module _ (h : i < length ws) where
    abbrev this : List ℕ
    this = pages_of_hint K.page 1 K.hi (at ws i)

    abbrev rest : List ℕ
    rest = pages_named K.page 1 K.hi (drop (i + 1) ws)

    -- the pages of this word, then those of the words after it
    split : pages_named K.page 1 K.hi (drop i ws) ≡ this ++ rest
    unfolding pages_named
    split = rw (add-one, drop-cons ws i 0 h)

    parts : SafeHints K this s × SafeHints K rest (hint_pages K this s)
    parts = safe_both K this rest s (rw split at H.safe)

    pub hints_safe : SafeHints K' (pages_of_hint K'.page 1 K'.hi (at ws i)) s
    hints_safe = rw H.plan parts.0

    pub hints_turn : (t : Pages) → t ≡ hint_pages K' (pages_of_hint K'.page 1 K'.hi (at ws i)) s → (K'' : Plan) → K'' ≡ K' → Hinting K ws begun K'' t (i + 1)
    hints_turn t q K'' k =
        let q' : t ≡ hint_pages K this s = rw H.plan at q in
        record {
          plan = k ∙ H.plan;
          same = rw q' (sym (hints_both K this rest s) ∙ (rw split at H.same));
          safe = rw q' parts.1;
        }
