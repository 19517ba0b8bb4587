-- What 'hinted' comes to since Q-1, in a user's words. A page is hinted where it is in use and a hint word, or the word before
-- one, lies on it; so an address from an object's first word to just past its last one keeps the object, where it is and as it is.
use Rattle.std.specs.Prelude.{◌≡◌, refl, ◌≢◌, ◌⊎◌, Bool, true, false, cond, ◌&&◌, ℕ, ◌+◌, ◌-◌, ◌/◌, ◌≤◌, ◌<◌, leb, ltb}
use Rattle.std.proofs.Common.{sym, ◌∙◌, subst, inl, inr, arith, leb-true}
use mathlib.Core.List.Memᴰ
use mathlib.Core.List.{List, [], ◌∷◌, Memᴰ}
use Rattle.std.proofs.Math.Decide.{dec_lt}
use Rattle.rules.specs.Ranges.{at}
use Rattle.rules.specs.Header.{size_of}
use Rattle.rules.specs.Pages.{page_named, page_named_before, pages_of_hint, pages_named}
use Rattle.rules.specs.Lent.{Lent}
use Rattle.rules.specs.Sound.{InUse, IsObject, Sound, refs, payload}
use Rattle.rules.specs.Collect.{collect}
use Rattle.rules.specs.Demands.{FromStart, Hinted, staying}
use Rattle.laws.specs.Pages.{named_is, before_is}
use Rattle.laws.specs.Valid.{valid_layout}
use Rattle.laws.specs.Objects.{page_pos, object_page}
use Rattle.laws.specs.LookUp.{placed}
use Rattle.promises.specs.Demand3.{demand3}

-- "A hint word w names its own page first and then, if w is at least 1, the page of w - 1"
abbrev pub Names : ℕ → ℕ → ℕ → Type 0
Names P w g = (w / P ≡ g) ⊎ ((1 ≤ w) × ((w - 1) / P ≡ g))

-- ---- a page is named exactly where a word names it

own_says : (P lo hi w g : ℕ) → g ≢ 0 → g ≡ page_named P lo hi w → w / P ≡ g
unfolding page_named
own_says P lo hi w g n = go (leb lo (w / P) && ltb (w / P) hi)
  where
    go : (b : Bool) → g ≡ cond b (w / P) 0 → w / P ≡ g
    go true e = sym e
    go false e = absurd (n e)

before_says : (P lo hi w g : ℕ) → g ≢ 0 → g ≡ page_named_before P lo hi w → (1 ≤ w) × ((w - 1) / P ≡ g)
unfolding page_named_before
before_says P lo hi w g n = go (leb 1 w) refl
  where
    go : (b : Bool) → leb 1 w ≡ b → g ≡ cond b (page_named P lo hi (w - 1)) 0 → (1 ≤ w) × ((w - 1) / P ≡ g)
    go true t e = (leb-true 1 w t, own_says P lo hi (w - 1) g n e)
    go false t e = absurd (n e)

named_by : (P lo hi : ℕ) (ws : List ℕ) (g : ℕ) → g ≢ 0 → Memᴰ g (pages_named P lo hi ws) → (w : ℕ) × Memᴰ w ws × Names P w g
unfolding pages_named pages_of_hint
named_by P lo hi [] g n mem = absurd (Memᴰ.not-nil mem)
named_by P lo hi (w ∷ ws) g n mem = own (named_by P lo hi ws g n) (Memᴰ.cases_cons mem)
  where
    rest : (Memᴰ g (pages_named P lo hi ws) → (v : ℕ) × Memᴰ v ws × Names P v g)
        → (g ≡ page_named_before P lo hi w) ⊎ Memᴰ g (pages_named P lo hi ws) → (v : ℕ) × Memᴰ v (w ∷ ws) × Names P v g
    rest ih (inl e) = (w, Memᴰ.head refl, inr (before_says P lo hi w g n e))
    rest ih (inr q) = let (v, a, b) = ih q in (v, Memᴰ.tail a, b)

    own : (Memᴰ g (pages_named P lo hi ws) → (v : ℕ) × Memᴰ v ws × Names P v g)
        → (g ≡ page_named P lo hi w) ⊎ Memᴰ g (page_named_before P lo hi w ∷ pages_named P lo hi ws) → (v : ℕ) × Memᴰ v (w ∷ ws) × Names P v g
    own ih (inl e) = (w, Memᴰ.head refl, inl (own_says P lo hi w g n e))
    own ih (inr q) = rest ih (Memᴰ.cases_cons q)

own_is : (P lo hi w g : ℕ) → lo ≤ g → g < hi → w / P ≡ g → g ≡ page_named P lo hi w
own_is P lo hi w g a b e = sym e ∙ sym (named_is P lo hi w (omega (arith, e)) (omega (arith, e)))

is_named : (P lo hi : ℕ) (ws : List ℕ) (w g : ℕ) → Memᴰ w ws → lo ≤ g → g < hi → Names P w g → Memᴰ g (pages_named P lo hi ws)
unfolding pages_named pages_of_hint
is_named P lo hi [] w g mem a b n = absurd (Memᴰ.not-nil mem)
is_named P lo hi (v ∷ ws) w g mem a b n = go (λ q. is_named P lo hi ws w g q a b n) (Memᴰ.cases_cons mem) n
  where
    go : (Memᴰ w ws → Memᴰ g (pages_named P lo hi ws)) → (w ≡ v) ⊎ Memᴰ w ws → Names P w g
        → Memᴰ g (page_named P lo hi v ∷ page_named_before P lo hi v ∷ pages_named P lo hi ws)
    go ih (inr q) m = Memᴰ.tail (Memᴰ.tail (ih q))
    go ih (inl q) (inl e) = Memᴰ.head (own_is P lo hi v g a b (rw q at e))
    go ih (inl q) (inr e) = Memᴰ.tail (Memᴰ.head (rw q at (own_is P lo hi (w - 1) g a b e.1 ∙ sym (before_is P lo hi w e.0))))

-- ---- a page is hinted exactly where it is in use and a hint word names it

pub hinted_says : (m : Lent) (hints : List ℕ) (g : ℕ) → Hinted m hints g → InUse m g × ((w : ℕ) × Memᴰ w hints × Names m.rec.page w g)
hinted_says m hints g H =
    let low : 1 ≤ g = H.in_use.low in
    (H.in_use, named_by m.rec.page 1 m.rec.pages hints g (omega arith) H.named)

pub hinted_is : (m : Lent) (hints : List ℕ) (g w : ℕ) → InUse m g → Memᴰ w hints → Names m.rec.page w g → Hinted m hints g
hinted_is m hints g w u mem n = record { in_use = u; named = is_named m.rec.page 1 m.rec.pages hints w g mem u.low u.high n }

-- ---- an object whose words, or the word just past its end, a hint names

pub record Stays (m o : Lent) (x : ℕ) : Type 0 where
  pub object : IsObject o x
  pub size : size_of (at o.heap x) ≡ size_of (at m.heap x)
  pub count : refs o x ≡ refs m x
  pub data_words : (i : ℕ) → refs m x ≤ i → i + 1 < size_of (at m.heap x) → payload o x i ≡ payload m x i

-- from its first word to just past its last one
pub record HeldBy (m : Lent) (hints : List ℕ) (x : ℕ) : Type 0 where
  pub word : ℕ
  pub hint : Memᴰ word hints
  pub from : x ≤ word
  pub upto : word ≤ x + size_of (at m.heap x)

module _ (m : Lent) (hints : List ℕ) (x : ℕ) (S : Sound m) (ob : IsObject m x) where
  abbrev P : ℕ
  P = m.rec.page

  abbrev n : ℕ
  n = size_of (at m.heap x)

  -- each word of the object lies on its page
  on_page : (v : ℕ) → x ≤ v → v < x + n → v / P ≡ x / P
  on_page v a b = let e : x + (v - x) ≡ v = omega arith in rw e at (object_page m (page_pos m S.valid) x (v - x) ob (omega arith))

  held_names : (w : ℕ) → x ≤ w → w ≤ x + n → Dec (w < x + n) → Names P w (x / P)
  held_names w a b (yes l) = inl (on_page w a l)
  held_names w a b (no l) =
      let some : refs m x < n = (placed m x (valid_layout m S.valid) ob).shape in
      inr (omega arith, on_page (w - 1) (omega arith) (omega arith))

  pub held_hinted : HeldBy m hints x → Hinted m hints (x / P)
  held_hinted h = hinted_is m hints (x / P) h.word ob.in_use h.hint (held_names h.word h.from h.upto (dec_lt h.word (x + n)))

-- "the array moves" no more: after an accepted collection it is where it was
pub held_stays : (m : Lent) (roots hints : List ℕ) (x : ℕ) → FromStart m → (collect m roots hints).refusal ≡ 0 → IsObject m x → HeldBy m hints x
    → Stays m (collect m roots hints).lent x
held_stays m roots hints x f e ob h =
    let H = held_hinted m hints x (demand3.sound m f) ob h in
    let (Pairs, F) = demand3.faithful m roots hints f e in
    let D = F.paired in
    let (y, p) = D.reached x (staying ob (inl H)) in
    let q = subst (λ (z : ℕ). Pairs x z) (F.stays x y p H) p in
    record { object = D.object x x q; size = D.sizes x x q; count = D.counts x x q; data_words = λ i a b. D.data_words x x i q a b }
