-- Two runs in step sweep a page in step, as long as neither keeps one: where the one finds an object, the other finds its partner, and they
-- stop together.
use Rattle.std.specs.Prelude.{◌≡◌, ℕ, zero, suc, ◌+◌, ◌*◌, ◌-◌, ◌≤◌, ◌<◌, length}
use Rattle.std.proofs.Common.{sym, ap, ◌∙◌, subst, le_trans, arith}
use Rattle.rules.specs.Ranges.{at}
use Rattle.rules.specs.Collection.{State, sweep_references, sweep_page}
use Rattle.laws.specs.Pages.{split_page}
use Rattle.theory.specs.World.{page_of, size_at, refs_at, World, Kept, kept_place}
use Rattle.theory.specs.Places.{some_words, kept_obj, unkept_standing}
use Rattle.theory.specs.Cursor.{Cursor, at_place, at_stop, behind_place}
use Rattle.theory.proofs.Good.{Good}
use Rattle.theory.proofs.SweepPage.{queued_label, object_fits, object_step}
use Rattle.theory.specs.NoneKept.{page_kept}
use Rattle.theory.proofs.Alike.{Alike, size_same, refs_same, Partner, Turned, InStep, turned, step_turned}
use Rattle.theory.proofs.AlikeReferences.{Steps, steps_none, steps_trans, references_steps}

-- an object retained on the one is paired with one retained on the other, at the same place
across : (W Z : World) (Pair : ℕ → ℕ → Type 0) → Alike W Z Pair → (s u : State) → Good W s → InStep W Z Pair s u
    → (i g g' a b room : ℕ) → i < length s.pages.queue → at s.pages.queue i ≡ g → at u.pages.queue i ≡ g'
    → a + room ≡ g * W.plan.page + W.plan.page → b + room ≡ g' * Z.plan.page + Z.plan.page
    → (x : ℕ) → Kept W s x a → page_of W a ≡ g → (y : ℕ) × Pair x y × Kept Z u y b × (page_of Z b ≡ g')
across W Z Pair A s u G S i g g' a b room lt eg eg' ea eb x K pg = (P.y, P.pair, subst (Kept Z u P.y) here P.kept, ap (page_of Z) (sym here) ∙ page)
  where
    P : Partner W Z Pair s u x a
    P = S.first x a K

    turn : P.twin.turn ≡ i
    turn = G.lined.queued.once P.twin.turn i P.twin.within lt (P.twin.here ∙ pg ∙ sym eg)

    page : page_of Z P.b ≡ g'
    page = sym P.twin.there ∙ ap (at u.pages.queue) turn ∙ eg'

    here : P.b ≡ b
    here = omega (arith, split_page W.plan.page a, split_page Z.plan.page P.b, P.twin.place, A.page, ap (λ (k : ℕ). k * W.plan.page) pg, ap (λ (k : ℕ). k * Z.plan.page) page)

module _ (W Z : World) (Pair : ℕ → ℕ → Type 0) (A : Alike W Z Pair) (i g g' : ℕ) where
  abbrev PageSteps : ℕ → Type 0
  PageSteps f = (a b room : ℕ) (s u : State) → Good W s → Good Z u → InStep W Z Pair s u → i < length s.pages.queue → at s.pages.queue i ≡ g → at u.pages.queue i ≡ g'
      → a + room ≡ g * W.plan.page + W.plan.page → b + room ≡ g' * Z.plan.page + Z.plan.page → Cursor W s g a room → Cursor Z u g' b room
      → (sweep_page W.plan f a room s).pages.kept ≡ 0 → (sweep_page Z.plan f b room u).pages.kept ≡ 0
      → Steps W Z Pair s u (sweep_page W.plan f a room s) (sweep_page Z.plan f b room u)

  page_none : PageSteps zero
  unfolding sweep_page
  page_none a b room s u G H S lt eg eg' ea eb c d none none' = steps_none W Z Pair s u G H S

  module _ (f : ℕ) (ih : PageSteps f) (a b room : ℕ) (s u : State) (G : Good W s) (H : Good Z u) (S : InStep W Z Pair s u)
      (lt : i < length s.pages.queue) (eg : at s.pages.queue i ≡ g) (eg' : at u.pages.queue i ≡ g')
      (ea : a + room ≡ g * W.plan.page + W.plan.page) (eb : b + room ≡ g' * Z.plan.page + Z.plan.page)
      (none : (sweep_page W.plan (suc f) a room s).pages.kept ≡ 0) (none' : (sweep_page Z.plan (suc f) b room u).pages.kept ≡ 0) where
    abbrev Goal : Type 0
    Goal = Steps W Z Pair s u (sweep_page W.plan (suc f) a room s) (sweep_page Z.plan (suc f) b room u)

    lt' : i < length u.pages.queue
    lt' = omega (arith, S.turns)

    -- both on an object
    module _ (x y : ℕ) (p : Pair x y) (K : Kept W s x a) (pg : page_of W a ≡ g) (L : Kept Z u y b) (pg' : page_of Z b ≡ g') where
      abbrev n : ℕ
      n = size_at W x

      fits : n ≤ room
      fits = object_fits W g a room s G.inv ea x K pg

      abbrev t : State
      t = sweep_references W.plan (refs_at W x) (suc a) s

      abbrev r : State
      r = sweep_references Z.plan (refs_at W x) (suc b) u

      abbrev t' : State
      t' = sweep_page W.plan f (a + n) (room - n) t

      abbrev r' : State
      r' = sweep_page Z.plan f (b + n) (room - n) r

      is : sweep_page W.plan (suc f) a room s ≡ t'
      is = object_step W g a room s G.inv ea x K pg f

      is' : sweep_page Z.plan (suc f) b room u ≡ r'
      is' =
          object_step Z g' b room u H.inv eb y L pg' f
          ∙ ap (λ (k : ℕ). sweep_page Z.plan f (b + k) (room - k) (sweep_references Z.plan (refs_at Z y) (suc b) u)) (size_same W Z Pair A x y p)
          ∙ ap (λ (k : ℕ). sweep_page Z.plan f (b + n) (room - n) (sweep_references Z.plan k (suc b) u)) (refs_same W Z Pair A x y p)

      end : t'.pages.kept ≡ 0
      end = ap (λ (q : State). q.pages.kept) (sym is) ∙ none

      end' : r'.pages.kept ≡ 0
      end' = ap (λ (q : State). q.pages.kept) (sym is') ∙ none'

      B : Steps W Z Pair s u t r
      B = references_steps W Z Pair A (refs_at W x) 0 s u G H S x y a b p K L (omega arith) (suc a) (suc b) (omega arith) (omega arith)
          (omega (arith, page_kept W.plan f (a + n) (room - n) t, end)) (omega (arith, page_kept Z.plan f (b + n) (room - n) r, end'))

      -- and so behind it
      C : Steps W Z Pair t r t' r'
      C = ih (a + n) (b + n) (room - n) t r B.good B.good' B.step (le_trans lt B.grow.longer) (B.grow.prefix i lt ∙ eg) (B.grow'.prefix i lt' ∙ eg')
          (omega (arith, fits)) (omega (arith, fits))
          (behind_place W t B.good.inv B.good.tiled g x a (room - n) (kept_place W t (B.grow.kept x a K)) pg (omega (arith, fits)))
          (subst (λ (k : ℕ). Cursor Z r g' (b + k) (room - n)) (size_same W Z Pair A x y p)
          (behind_place Z r B.good'.inv B.good'.tiled g' y b (room - n) (kept_place Z r (B.grow'.kept y b L)) pg' (omega (arith, fits, size_same W Z Pair A x y p))))
          end end'

      on_objects : Goal
      on_objects = rw (is, is') (steps_trans W Z Pair s u t r t' r' B C)

    page_cases : Cursor W s g a room → Cursor Z u g' b room → Goal
    unfolding sweep_page
    page_cases (at_place x P pg) d =
        let K : Kept W s x a = unkept_standing W s G.inv (omega (arith, page_kept W.plan (suc f) a room s, none)) x a (queued_label W s G g (i, lt, eg) a pg) P in
        let (y, p, L, pg') = across W Z Pair A s u G S i g g' a b room lt eg eg' ea eb x K pg in
        on_objects x y p K pg L pg'
    page_cases (at_stop h n last bl tp) (at_stop h' n' last' bl' tp') = rw (h, n) (rw (h', n') (steps_none W Z Pair s u G H S))
    page_cases (at_stop h n last bl tp) (at_place y P pg') =
        let L : Kept Z u y b = unkept_standing Z u H.inv (omega (arith, page_kept Z.plan (suc f) b room u, none')) y b (queued_label Z u H g' (i, lt', eg') b pg') P in
        let (x, p, K, pg) = across Z W (Turned Pair) (turned W Z Pair A) u s H (step_turned W Z Pair s u S) i g' g b a room lt' eg' eg eb ea y L pg' in
        absurd (omega (arith, last x a (kept_place W s K) pg, some_words W x (kept_obj W s G.inv x a K)))

  page_more : (f : ℕ) → PageSteps f → PageSteps (suc f)
  page_more f ih a b room s u G H S lt eg eg' ea eb c d none none' = page_cases f ih a b room s u G H S lt eg eg' ea eb none none' c d

  pub page_steps : (f : ℕ) → PageSteps f
  page_steps zero = page_none
  page_steps (suc f) = page_more f (page_steps f)
