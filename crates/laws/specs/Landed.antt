-- What is found at an address tells where it lies, on any memory: at an object's start, inside an object, or in none.
use Rattle.std.specs.Prelude.{◌≡◌, ◌≢◌, ◌⊎◌, Bool, ◌&&◌, ℕ, ◌+◌, ◌-◌, ◌/◌, ◌≤◌, ◌<◌, ltb}
use Rattle.std.proofs.Math.Path.{refl, ap}
use Rattle.std.proofs.Common.{sym, ◌∙◌, subst, inl, inr, true≢false}
use Rattle.std.proofs.Math.Bool.{true, false, cond}
use mathlib.Core.List.Memᴰ
use mathlib.Core.List.{List, [], ◌∷◌, Memᴰ}
use Rattle.std.proofs.Math.Nat.{div-zero}
use native.Mathlib.Omega.{arith}
use Rattle.std.proofs.Math.Decide.{dec_lt, ℕ_discrete}
use Rattle.std.proofs.Math.Dec.{eqb}
use borrow.Author.Tests.{eqb-false, ltb-true, lt-ltb}
use Rattle.rules.specs.declared.Found.{Found}
use Rattle.rules.specs.declared.Found.TheVariants.{Start, Inside, Nothing}
use Rattle.rules.specs.Tests.{and_left, and_right, and_is}
use Rattle.rules.specs.Ranges.{at}
use Rattle.rules.specs.Header.{size_of}
use Rattle.rules.specs.Lent.{Lent}
use Rattle.rules.specs.Walk.{starts, is_in_use, landing, found}
use Rattle.rules.specs.Sound.{InUse, IsObject}
use Rattle.rules.specs.Demands.{LiesInside}
use Rattle.laws.specs.Walk.{page_steps, met}
use Rattle.laws.specs.LookUp.{in_use_says, in_use_is, found_object}
use Rattle.laws.specs.Objects.{met_object, object_page, objects_apart}

-- what is found differs in kind
abbrev kind : Found → ℕ
kind (Start w) = 0
kind (Inside s) = 1
kind Nothing = 2

-- ---- among the objects of one walk

-- x is a's object: a is behind its start and before its end
abbrev holds : List ℕ → ℕ → ℕ → Bool
holds h a x = ltb x a && ltb a (x + size_of (at h x))

module _ (h : List ℕ) (a : ℕ) where
  landing_inside : (s : ℕ) (xs : List ℕ) → landing h a xs ≡ Inside s → Memᴰ s xs × (holds h a s ≡ true)
  unfolding landing
  landing_inside s [] e = absurd (omega (arith, ap kind e))
  landing_inside s (x ∷ xs) e = go (eqb a x) (holds h a x) refl e (landing_inside s xs)
    where
      same : Inside x ≡ Inside s → x ≡ s
      same e = cc

      go : (b i : Bool) → holds h a x ≡ i → cond b (Start (at h x)) (cond i (Inside x) (landing h a xs)) ≡ Inside s
          → (landing h a xs ≡ Inside s → Memᴰ s xs × (holds h a s ≡ true)) → Memᴰ s (x ∷ xs) × (holds h a s ≡ true)
      go true i q e ih = absurd (omega (arith, ap kind e))
      go false true q e ih = (Memᴰ.head (sym (same e)), ap (holds h a) (sym (same e)) ∙ q)
      go false false q e ih = let (k, t) = ih e in (Memᴰ.tail k, t)

  landing_nothing : (xs : List ℕ) → landing h a xs ≡ Nothing → (s : ℕ) → Memᴰ s xs → (a ≢ s) × (holds h a s ≡ false)
  unfolding landing
  landing_nothing [] e s k = absurd (Memᴰ.not-nil k)
  landing_nothing (x ∷ xs) e s k = go (eqb a x) (holds h a x) refl refl e (Memᴰ.cases_cons k) (λ t j. landing_nothing xs t s j)
    where
      go : (b i : Bool) → eqb a x ≡ b → holds h a x ≡ i → cond b (Start (at h x)) (cond i (Inside x) (landing h a xs)) ≡ Nothing → (s ≡ x) ⊎ Memᴰ s xs
          → (landing h a xs ≡ Nothing → Memᴰ s xs → (a ≢ s) × (holds h a s ≡ false)) → (a ≢ s) × (holds h a s ≡ false)
      go true i p q e d ih = absurd (omega (arith, ap kind e))
      go false true p q e d ih = absurd (omega (arith, ap kind e))
      go false false p q e (inl z) ih = (λ j. eqb-false a x p (j ∙ z), ap (holds h a) z ∙ q)
      go false false p q e (inr j) ih = ih e j

-- ---- in the heap

-- a is not in the object at s, but before it or behind it
abbrev pub Apart : Lent → ℕ → ℕ → Type 0
Apart m a s = (a < s) ⊎ (s + size_of (at m.heap s) ≤ a)

-- which no word of the object is
not_apart : (m : Lent) (a s : ℕ) → s ≤ a → a < s + size_of (at m.heap s) → Apart m a s → ⊥
not_apart m a s p q (inl l) = omega arith
not_apart m a s p q (inr l) = omega arith

-- where a page from 1 on is in use, pages have words
used_pos : (m : Lent) (a : ℕ) → InUse m (a / m.rec.page) → 0 < m.rec.page
used_pos m a u = go (ℕ_discrete m.rec.page 0)
  where
    none : m.rec.page ≡ 0 → a / m.rec.page ≡ 0
    none e = rw e (div-zero a)

    go : Dec (m.rec.page ≡ 0) → 0 < m.rec.page
    go (yes e) = absurd (omega (arith, u.low, none e))
    go (no n) = omega arith

module _ (m : Lent) (a : ℕ) where
  pub found_inside : (s : ℕ) → found m a ≡ Inside s → LiesInside m a s
  unfolding found
  found_inside s e = go (is_in_use m (a / m.rec.page)) refl e
    where
      go : (b : Bool) → is_in_use m (a / m.rec.page) ≡ b → cond b (landing m.heap a (starts m (a / m.rec.page))) Nothing ≡ Inside s → LiesInside m a s
      go true u e =
          let U = in_use_says m (a / m.rec.page) u in
          let (k, t) = landing_inside m.heap a s (starts m (a / m.rec.page)) e in
          record { object = met_object m (used_pos m a U) (a / m.rec.page) s U k; behind = ltb-true s a (and_left _ _ t); before = ltb-true _ _ (and_right (ltb s a) _ t) }
      go false u e = absurd (omega (arith, ap kind e))

  pub found_nothing : found m a ≡ Nothing → (s : ℕ) → IsObject m s → Apart m a s
  unfolding found
  found_nothing e s o = go (dec_lt a s) (dec_lt a (s + size_of (at m.heap s)))
    where
      -- it would be on a's page, and met there
      here : s ≤ a → a < s + size_of (at m.heap s) → Apart m a s
      here l h = absurd (tell (landing_nothing m.heap a (starts m (a / m.rec.page)) none s (subst (λ (g : ℕ). Memᴰ s (starts m g)) (sym page) o.met)))
        where
          page : a / m.rec.page ≡ s / m.rec.page
          page = let z : a ≡ s + (a - s) = omega arith in ap (λ (w : ℕ). w / m.rec.page) z ∙ object_page m (used_pos m s o.in_use) s (a - s) o (omega arith)

          none : landing m.heap a (starts m (a / m.rec.page)) ≡ Nothing
          none = let u : is_in_use m (a / m.rec.page) ≡ true = ap (is_in_use m) page ∙ in_use_is m _ o.in_use in (rw u at e)

          tell : (a ≢ s) × (holds m.heap a s ≡ false) → ⊥
          tell (n, q) = true≢false (sym (and_is (lt-ltb s a (omega arith)) (lt-ltb _ _ h)) ∙ q)

      go : Dec (a < s) → Dec (a < s + size_of (at m.heap s)) → Apart m a s
      go (yes l) d = inl l
      go (no n) (no k) = inr (omega arith)
      go (no n) (yes k) = here (omega arith) k

  -- and each the other way round: only one of the three can be
  pub inside_found : (s : ℕ) → LiesInside m a s → found m a ≡ Inside s
  inside_found s L = go (found m a) refl
    where
      pos : 0 < m.rec.page
      pos = used_pos m s L.object.in_use

      one : (t : ℕ) → LiesInside m a t → Dec (s < t) → Dec (t < s) → t ≡ s
      one t K (yes l) d = absurd (omega (arith, objects_apart m pos s t L.object K.object l, L.before, K.behind))
      one t K (no n) (yes l) = absurd (omega (arith, objects_apart m pos t s K.object L.object l, K.before, L.behind))
      one t K (no n) (no k) = omega arith

      go : (f : Found) → found m a ≡ f → f ≡ Inside s
      go (Start w) e = absurd (omega (arith, objects_apart m pos s a L.object (found_object m a w e).0 L.behind, L.before))
      go (Inside t) e = ap Inside (one t (found_inside t e) (dec_lt s t) (dec_lt t s))
      go Nothing e = absurd (not_apart m a s (omega (arith, L.behind)) L.before (found_nothing e s L.object))

  pub nothing_found : ((s : ℕ) → IsObject m s → Apart m a s) → found m a ≡ Nothing
  nothing_found none = go (found m a) refl
    where
      go : (f : Found) → found m a ≡ f → f ≡ Nothing
      go (Start w) e = let o = (found_object m a w e).0 in absurd (not_apart m a a (omega arith) (omega (arith, (met m.heap (page_steps m (a / m.rec.page)) a o.met).header.shape)) (none a o))
      go (Inside s) e = let L = found_inside s e in absurd (not_apart m a s (omega (arith, L.behind)) L.before (none s L.object))
      go Nothing e = refl
