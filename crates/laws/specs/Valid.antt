-- That nothing is refused 1 is a test, `is_valid`, and a proposition, `Valid`: they agree. Beside them `Layout`, the plain
-- numbers that code needs of it.
use Rattle.std.specs.Prelude.{◌≡◌, ◌≢◌, ◌⊎◌, Bool, true, false, cond, ◌&&◌, ◌||◌, ℕ, ◌+◌, ◌*◌, ◌≤◌, ◌<◌, length, eqb, leb, ltb}
use Rattle.std.proofs.Math.Path.{refl}
use Rattle.std.proofs.Common.{inl, inr, arith, eqb-true, leb-true, ltb-true, eq-eqb, ne_eqb, le-leb, lt-ltb}
use Rattle.std.proofs.Math.Decide.{ℕ_discrete}
use Rattle.std.proofs.lemmas.Bool.{eqb-false}
use Rattle.rules.specs.declared.Record.{Record}
use Rattle.rules.specs.Tests.{and_left, and_right, and_is}
use Rattle.rules.specs.Ranges.{at}
use Rattle.rules.specs.Pages.{is_shape}
use Rattle.rules.specs.Lent.{Lent, is_laid_out, is_laid, is_label, is_open, is_valid}
use Rattle.rules.specs.Sound.{Opened, Valid}
use Rattle.laws.specs.Pages.{shape_says, size_power, power_size, heap_fits, page_end}

-- lengths, P and T
pub record Layout (m : Lent) (P T : ℕ) : Type 0 where
  pub page_low : 8 ≤ P
  pub page_high : P ≤ 1024
  pub pages_low : 3 ≤ T
  pub pages_high : T ≤ 4096
  pub heap : length m.heap ≡ T * P
  pub labels : length m.labels ≡ T
  pub links : length m.links ≡ T

pub layout_says : (m : Lent) (P T : ℕ) → is_laid m P T ≡ true → Layout m P T
unfolding is_laid_out
layout_says m P T e =
    let s = shape_says P T (and_left _ _ e) in
    let e1 = and_right (is_shape P T) _ e in
    let e2 = and_right (eqb (length m.heap) (T * P)) _ e1 in
    record {
      page_low = s.page_low;
      page_high = s.page_high;
      pages_low = s.pages_low;
      pages_high = s.pages_high;
      heap = eqb-true _ _ (and_left _ _ e1);
      labels = eqb-true _ _ (and_left _ _ e2);
      links = eqb-true _ _ (and_right (eqb (length m.labels) T) _ e2);
    }

-- a page below T lies in the heap, and every address fits
pub page_within : {m : Lent} {P T : ℕ} → Layout m P T → (g : ℕ) → g < T → (g * P + P ≤ length m.heap) × (length m.heap ≤ 4194304)
page_within {m} {P} {T} y g h = omega (arith, y.heap, heap_fits y.page_high y.pages_high, page_end g P T h)

-- ---- the label and the open page

label_says : (l : ℕ) → is_label l ≡ true → (l ≡ 1) ⊎ (l ≡ 2)
unfolding is_label
label_says l e = go (eqb l 1) refl e
  where
    go : (b : Bool) → eqb l 1 ≡ b → (b || eqb l 2) ≡ true → (l ≡ 1) ⊎ (l ≡ 2)
    go true q t = inl (eqb-true l 1 q)
    go false q t = inr (eqb-true l 2 t)

label_is : (l : ℕ) → (l ≡ 1) ⊎ (l ≡ 2) → is_label l ≡ true
unfolding is_label
label_is l (inl q) = rw (eq-eqb l 1 q)
label_is l (inr q) = go (eqb l 1)
  where
    go : (b : Bool) → (b || eqb l 2) ≡ true
    go true = refl
    go false = eq-eqb l 2 q

pub label_in : (l : ℕ) → 1 ≤ l → l ≤ 2 → is_label l ≡ true
label_in l a b = label_is l (go (ℕ_discrete l 1))
  where
    go : Dec (l ≡ 1) → (l ≡ 1) ⊎ (l ≡ 2)
    go (yes q) = inl q
    go (no q) = inr (omega arith)

pub label_out : (l : ℕ) → (l < 1) ⊎ (2 < l) → is_label l ≡ false
unfolding is_label
label_out l (inl h) = rw (ne_eqb l 1 (λ q. omega arith), ne_eqb l 2 (λ q. omega arith))
label_out l (inr h) = rw (ne_eqb l 1 (λ q. omega arith), ne_eqb l 2 (λ q. omega arith))

module _ (m : Lent) where
  open_says : is_open m.labels m.rec ≡ true → ((m.rec.opened ≡ 0) × (m.rec.fill ≡ m.rec.page)) ⊎ Opened m
  unfolding is_open
  open_says e = go (eqb m.rec.opened 0) refl e
    where
      r : Record
      r = m.rec

      rest : Bool
      rest = ltb r.opened r.pages && (eqb (at m.labels r.opened) r.label && (leb 1 r.fill && leb r.fill r.page))

      go : (b : Bool) → eqb m.rec.opened 0 ≡ b → cond b (eqb r.fill r.page) rest ≡ true → ((m.rec.opened ≡ 0) × (m.rec.fill ≡ m.rec.page)) ⊎ Opened m
      go true q t = inl (eqb-true _ _ q, eqb-true _ _ t)
      go false q t =
          let n = eqb-false m.rec.opened 0 q in
          let t1 = and_right (ltb r.opened r.pages) _ t in
          let t2 = and_right (eqb (at m.labels r.opened) r.label) _ t1 in
          inr (record {
            page = record { low = omega arith; high = ltb-true _ _ (and_left _ _ t); label = eqb-true _ _ (and_left _ _ t1) };
            low = leb-true 1 r.fill (and_left _ _ t2);
            high = leb-true _ _ (and_right (leb 1 r.fill) _ t2);
          })

  open_is : ((m.rec.opened ≡ 0) × (m.rec.fill ≡ m.rec.page)) ⊎ Opened m → is_open m.labels m.rec ≡ true
  unfolding is_open
  open_is (inl (z, f)) = rw (eq-eqb _ _ z) (eq-eqb _ _ f)
  open_is (inr o) =
      rw (ne_eqb m.rec.opened 0 (λ z. omega (arith, o.page.low)))
      (and_is (lt-ltb _ _ o.page.high) (and_is (eq-eqb _ _ o.page.label) (and_is (le-leb 1 m.rec.fill o.low) (le-leb _ _ o.high))))

  -- ---- the whole

  pub valid_laid : is_valid m ≡ true → Layout m m.rec.page m.rec.pages
  unfolding is_valid
  valid_laid e = layout_says m m.rec.page m.rec.pages (and_left _ _ e)

  pub valid_says : is_valid m ≡ true → Valid m
  unfolding is_valid is_laid_out is_shape
  valid_says e =
      let y = layout_says m m.rec.page m.rec.pages (and_left _ _ e) in
      let e1 = and_right (is_laid m m.rec.page m.rec.pages) _ e in
      record {
        page = size_power m.rec.page (and_left _ _ (and_left _ _ (and_left _ _ e)));
        pages = (y.pages_low, y.pages_high);
        heap = y.heap;
        labels = y.labels;
        links = y.links;
        label = label_says m.rec.label (and_left _ _ e1);
        opened = open_says (and_right (is_label m.rec.label) _ e1);
      }

  pub valid_is : Valid m → is_valid m ≡ true
  unfolding is_valid is_laid_out is_shape
  valid_is v =
      and_is (and_is (and_is (power_size m.rec.page v.page) (and_is (le-leb 3 m.rec.pages v.pages.0) (le-leb m.rec.pages 4096 v.pages.1)))
      (and_is (eq-eqb _ _ v.heap) (and_is (eq-eqb _ _ v.labels) (eq-eqb _ _ v.links))))
      (and_is (label_is m.rec.label v.label) (open_is v.opened))

  pub valid_layout : Valid m → Layout m m.rec.page m.rec.pages
  valid_layout v = valid_laid (valid_is v)

  -- what code needs of the open page: it is there, and the fill is on it
  pub open_within : Valid m → (m.rec.opened < m.rec.pages) × (m.rec.fill ≤ m.rec.page)
  open_within v = go v.opened
    where
      go : ((m.rec.opened ≡ 0) × (m.rec.fill ≡ m.rec.page)) ⊎ Opened m → (m.rec.opened < m.rec.pages) × (m.rec.fill ≤ m.rec.page)
      go (inl (z, f)) = (omega (arith, v.pages.0), omega arith)
      go (inr o) = (o.page.high, o.high)

  -- the current label is not that of a free page
  pub label_pos : Valid m → m.rec.label ≢ 0
  label_pos v z = go v.label
    where
      go : (m.rec.label ≡ 1) ⊎ (m.rec.label ≡ 2) → ⊥
      go (inl q) = omega arith
      go (inr q) = omega arith
