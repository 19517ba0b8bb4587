-- Soundness as a test and as a proposition agree, on every memory: `sound_says` and `sound_is`.
use Rattle.std.specs.Prelude.{◌≡◌, refl, ◌≢◌, ◌⊎◌, Bool, true, false, cond, ◌&&◌, length, eqb, leb}
use Rattle.std.proofs.Common.{sym, ap, ◌∙◌, inl, inr, mul-le-mul_right, eqb-true, eq-eqb, ne_eqb, leb-true, le-leb}
use mathlib.Core.List.Memᴰ
use mathlib.Core.List.{List, [], ◌∷◌, Memᴰ}
use Prim.Native.Nat.{ℕ, ◌+◌, ◌*◌, ◌-◌, ◌/◌, ◌≤◌, ◌<◌}
use Rattle.std.proofs.Math.Decide.{ℕ_discrete, dec_lt}
use native.Mathlib.Omega.{arith}
use Rattle.std.proofs.Math.ListN.{get_or-eq_default}
use Rattle.rules.specs.Tests.{and_left, and_right, and_is}
use Rattle.rules.specs.Ranges.{at, block, each}
use Rattle.rules.specs.Pages.{is_free}
use Rattle.rules.specs.Lent.{Lent, is_valid}
use Rattle.rules.specs.Walk.{starts, stop, is_reference}
use Rattle.rules.specs.Sound.{Opened, is_blank, refs_good, is_used_sound, is_page_sound, is_fill_sound, is_sound, InUse, IsObject, refs, payload, Valid, Sound}
use Rattle.laws.specs.Lists.{each_true, true_each, each_block, block_each}
use Rattle.laws.specs.Pages.{on_page, page_on, split_page}
use Rattle.laws.specs.Valid.{Layout, valid_says, valid_is, valid_layout, label_pos}
use Rattle.laws.specs.Walk.{page_steps, steps_upto}
use Rattle.laws.specs.Objects.{met_object}
use Rattle.laws.specs.LookUp.{reference_says, reference_is}

-- ---- zeros and references

pub blank_says : (h : List ℕ) (a e : ℕ) → is_blank h a e ≡ true → (w : ℕ) → a ≤ w → w < e → at h w ≡ 0
unfolding is_blank
blank_says h a e q w lo hi = eqb-true _ _ (each_block (λ w. eqb (at h w) 0) a e q w lo hi)

pub blank_is : (h : List ℕ) (a e : ℕ) → ((w : ℕ) → a ≤ w → w < e → at h w ≡ 0) → is_blank h a e ≡ true
unfolding is_blank
blank_is h a e f = block_each (λ w. eqb (at h w) 0) a e (λ w lo hi. eq-eqb _ _ (f w lo hi))

-- past the heap only zeros stand, which are references
pub blank_past : (h : List ℕ) (a e : ℕ) → (e ≤ a) ⊎ (length h ≤ a) → is_blank h a e ≡ true
blank_past h a e (inl p) = blank_is h a e (λ w lo hi. absurd (omega arith))
blank_past h a e (inr p) = blank_is h a e (λ w lo hi. get_or-eq_default h 0 (omega arith))

pub references_past : (m : Lent) (a e : ℕ) → (e ≤ a) ⊎ (length m.heap ≤ a) → each (λ w. is_reference m (at m.heap w)) (block a e) ≡ true
references_past m a e (inl p) = block_each (λ w. is_reference m (at m.heap w)) a e (λ w lo hi. absurd (omega arith))
references_past m a e (inr p) = block_each (λ w. is_reference m (at m.heap w)) a e (λ w lo hi. reference_is m _ (inl (get_or-eq_default m.heap 0 (omega arith))))

module _ (m : Lent) (x : ℕ) where
  good_says : refs_good m x ≡ true → (i : ℕ) → i < refs m x → (payload m x i ≡ 0) ⊎ IsObject m (payload m x i)
  unfolding refs_good
  good_says q i h = reference_says m _ (each_block (λ w. is_reference m (at m.heap w)) (x + 1) (x + 1 + refs m x) q (x + 1 + i) (omega arith) (omega arith))

  good_is : ((i : ℕ) → i < refs m x → (payload m x i ≡ 0) ⊎ IsObject m (payload m x i)) → refs_good m x ≡ true
  unfolding refs_good
  good_is f = block_each (λ w. is_reference m (at m.heap w)) (x + 1) (x + 1 + refs m x) (λ w lo hi.
      let e : x + 1 + (w - (x + 1)) ≡ w = omega arith in
      reference_is m _ (rw e at (f (w - (x + 1)) (omega arith))))

-- ---- one page

-- a page in use
pub record UsedSound (m : Lent) (g : ℕ) : Type 0 where
  pub label : at m.labels g ≡ m.rec.label
  pub some : 1 ≤ length (starts m g)
  pub references : (x : ℕ) → Memᴰ x (starts m g) → (i : ℕ) → i < refs m x → (payload m x i ≡ 0) ⊎ IsObject m (payload m x i)
  pub fill : g ≡ m.rec.opened → stop m g ≡ g * m.rec.page + m.rec.fill
  pub tail : (w : ℕ) → stop m g ≤ w → w < g * m.rec.page + m.rec.page → at m.heap w ≡ 0

fill_says : (m : Lent) (g : ℕ) → is_fill_sound m g ≡ true → g ≡ m.rec.opened → stop m g ≡ g * m.rec.page + m.rec.fill
unfolding is_fill_sound
fill_says m g e q = eqb-true _ _ (rw (eq-eqb g m.rec.opened q) at e)

fill_is : (m : Lent) (g : ℕ) → (g ≡ m.rec.opened → stop m g ≡ g * m.rec.page + m.rec.fill) → is_fill_sound m g ≡ true
unfolding is_fill_sound
fill_is m g f = go (eqb g m.rec.opened) refl
  where
    go : (b : Bool) → eqb g m.rec.opened ≡ b → cond b (eqb (stop m g) (g * m.rec.page + m.rec.fill)) true ≡ true
    go true q = eq-eqb _ _ (f (eqb-true _ _ q))
    go false q = refl

used_says : (m : Lent) (g : ℕ) → is_used_sound m g ≡ true → UsedSound m g
unfolding is_used_sound
used_says m g e =
    let e1 = and_right (eqb (at m.labels g) m.rec.label) _ e in
    let e2 = and_right (leb 1 (length (starts m g))) _ e1 in
    let e3 = and_right (each (refs_good m) (starts m g)) _ e2 in
    record {
      label = eqb-true _ _ (and_left _ _ e);
      some = leb-true 1 (length (starts m g)) (and_left _ _ e1);
      references = λ x k. good_says m x (each_true (refs_good m) (starts m g) (and_left _ _ e2) x k);
      fill = fill_says m g (and_left _ _ e3);
      tail = blank_says m.heap (stop m g) _ (and_right (is_fill_sound m g) _ e3);
    }

used_is : (m : Lent) (g : ℕ) → UsedSound m g → is_used_sound m g ≡ true
unfolding is_used_sound
used_is m g u =
    and_is (eq-eqb _ _ u.label) (and_is (le-leb 1 (length (starts m g)) u.some)
    (and_is (true_each (refs_good m) (starts m g) (λ x k. good_is m x (u.references x k)))
    (and_is (fill_is m g u.fill) (blank_is m.heap (stop m g) _ u.tail))))

-- a page free and blank, or in use
abbrev pub PageSound : Lent → ℕ → Type 0
PageSound m g = ((at m.labels g ≡ 0) × ((w : ℕ) → g * m.rec.page ≤ w → w < g * m.rec.page + m.rec.page → at m.heap w ≡ 0)) ⊎ UsedSound m g

page_says : (m : Lent) (g : ℕ) → is_page_sound m g ≡ true → PageSound m g
unfolding is_page_sound is_free
page_says m g e = go (eqb (at m.labels g) 0) refl e
  where
    go : (b : Bool) → eqb (at m.labels g) 0 ≡ b → cond b (is_blank m.heap (g * m.rec.page) (g * m.rec.page + m.rec.page)) (is_used_sound m g) ≡ true → PageSound m g
    go true q z = inl (eqb-true _ _ q, blank_says m.heap _ _ z)
    go false q z = inr (used_says m g z)

-- ---- the whole

member : (a : ℕ) (xs : List ℕ) → Memᴰ a xs → 1 ≤ length xs
member a [] k = absurd (Memᴰ.not-nil k)
member a (x ∷ xs) k = omega arith

first_of : (xs : List ℕ) → 1 ≤ length xs → (a : ℕ) × Memᴰ a xs
first_of [] h = absurd (omega arith)
first_of (x ∷ xs) h = (x, Memᴰ.head refl)

module _ (m : Lent) where
  pub sound_says : is_sound m ≡ true → Sound m
  unfolding is_sound is_free
  sound_says e = record {
    valid = va;
    zero = free0;
    blank = λ w q. bl w q (ℕ_discrete (w / P) 0) (dec_lt (w / P) m.rec.pages);
    labels = λ g. lb g (ℕ_discrete g 0) (dec_lt g m.rec.pages);
    some = λ g u. first_of (starts m g) (us g u).some;
    tail = λ g w u q l. (us g u).tail w l (page_on pos w g q).1;
    fill = λ n. fl n va.opened;
    references = λ x i ob h. (us (x / P) ob.in_use).references x ob.met i h;
  }
    where
      P : ℕ
      P = m.rec.page

      va : Valid m
      va = valid_says m (and_left _ _ e)

      y : Layout m m.rec.page m.rec.pages
      y = valid_layout m va

      pos : 0 < m.rec.page
      pos = omega (arith, y.page_low)

      e1 : (eqb (at m.labels 0) 0 && (is_blank m.heap 0 m.rec.page && each (is_page_sound m) (block 1 m.rec.pages))) ≡ true
      e1 = and_right (is_valid m) _ e

      e2 : (is_blank m.heap 0 m.rec.page && each (is_page_sound m) (block 1 m.rec.pages)) ≡ true
      e2 = and_right (eqb (at m.labels 0) 0) _ e1

      e3 : each (is_page_sound m) (block 1 m.rec.pages) ≡ true
      e3 = and_right (is_blank m.heap 0 m.rec.page) _ e2

      free0 : at m.labels 0 ≡ 0
      free0 = eqb-true _ _ (and_left _ _ e1)

      page : (g : ℕ) → 1 ≤ g → g < m.rec.pages → PageSound m g
      page g a b = page_says m g (each_block (is_page_sound m) 1 m.rec.pages e3 g a b)

      us : (g : ℕ) → InUse m g → UsedSound m g
      us g u = go (page g u.low u.high)
        where
          go : PageSound m g → UsedSound m g
          go (inl z) = absurd (label_pos m va (sym u.label ∙ z.0))
          go (inr s) = s

      bl : (w : ℕ) → at m.labels (w / P) ≡ 0 → Dec (w / P ≡ 0) → Dec (w / P < m.rec.pages) → at m.heap w ≡ 0
      bl w q (yes z) d = blank_says m.heap 0 m.rec.page (and_left _ _ e2) w (omega arith) (omega (arith, (page_on pos w 0 z).1))
      bl w q (no z) (yes h) = go (page (w / P) (omega arith) h)
        where
          go : PageSound m (w / P) → at m.heap w ≡ 0
          go (inl s) = s.1 w (page_on pos w _ refl).0 (page_on pos w _ refl).1
          go (inr s) = absurd (label_pos m va (sym s.label ∙ q))
      bl w q (no z) (no h) =
          get_or-eq_default m.heap 0 {n = w} (let k : m.rec.pages * P ≤ w / P * P = mul-le-mul_right P (omega arith) in omega (arith, y.heap, split_page P w))

      lb : (g : ℕ) → Dec (g ≡ 0) → Dec (g < m.rec.pages) → (at m.labels g ≡ 0) ⊎ (at m.labels g ≡ m.rec.label)
      lb g (yes z) d = inl (ap (at m.labels) z ∙ free0)
      lb g (no z) (yes h) = go (page g (omega arith) h)
        where
          go : PageSound m g → (at m.labels g ≡ 0) ⊎ (at m.labels g ≡ m.rec.label)
          go (inl s) = inl s.0
          go (inr s) = inr s.label
      lb g (no z) (no h) = inl (get_or-eq_default m.labels 0 {n = g} (omega (arith, y.labels)))

      fl : m.rec.opened ≢ 0 → ((m.rec.opened ≡ 0) × (m.rec.fill ≡ m.rec.page)) ⊎ Opened m → stop m m.rec.opened ≡ m.rec.opened * m.rec.page + m.rec.fill
      fl n (inl z) = absurd (n z.0)
      fl n (inr o) = (us m.rec.opened o.page).fill refl

  pub sound_is : Sound m → is_sound m ≡ true
  unfolding is_sound is_page_sound is_free
  sound_is S =
      and_is (valid_is m S.valid) (and_is (eq-eqb _ _ S.zero)
      (and_is (blank_is m.heap 0 m.rec.page (λ w lo hi. S.blank w (ap (at m.labels) (on_page pos w 0 (omega arith) (omega arith)) ∙ S.zero)))
      (block_each (is_page_sound m) 1 m.rec.pages (λ g lo hi. pg g lo hi (S.labels g)))))
    where
      y : Layout m m.rec.page m.rec.pages
      y = valid_layout m S.valid

      pos : 0 < m.rec.page
      pos = omega (arith, y.page_low)

      us : (g : ℕ) → InUse m g → UsedSound m g
      us g u = record {
        label = u.label;
        some = member (S.some g u).0 (starts m g) (S.some g u).1;
        references = λ x k i h. S.references x i (met_object m pos g x u k) h;
        fill = λ q. ap (stop m) q ∙ S.fill (λ z. omega (arith, u.low)) ∙ ap (λ (j : ℕ). j * m.rec.page + m.rec.fill) (sym q);
        tail = λ w lo hi. S.tail g w u (on_page pos w g (omega (arith, (steps_upto (page_steps m g)).0)) hi) lo;
      }

      pg : (g : ℕ) → 1 ≤ g → g < m.rec.pages → (at m.labels g ≡ 0) ⊎ (at m.labels g ≡ m.rec.label) → is_page_sound m g ≡ true
      pg g lo hi (inl z) = rw (eq-eqb _ _ z) (blank_is m.heap _ _ (λ w a b. S.blank w (ap (at m.labels) (on_page pos w g a b) ∙ z)))
      pg g lo hi (inr z) =
          rw (ne_eqb (at m.labels g) 0 (λ n. label_pos m S.valid (sym z ∙ n))) (used_is m g (us g (record { low = lo; high = hi; label = z })))
