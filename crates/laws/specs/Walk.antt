-- Laws of the walk. `objects h a e` is the walk from address a to the page's end e: loops over headers go by its two laws.
-- `Steps` is the same without fuel, for inductions.
use Rattle.std.specs.Prelude.{◌≡◌, refl, ◌⊎◌, Bool, true, false, cond, ℕ, zero, suc, ◌+◌, ◌*◌, ◌-◌, ◌≤◌, ◌<◌, length}
use Rattle.std.proofs.Common.{sym, ap, ◌∙◌, inl, inr}
use Rattle.std.proofs.Math.Path.{subst}
use mathlib.Core.List.Memᴰ
use mathlib.Core.List.{List, [], ◌∷◌, Memᴰ}
use native.Mathlib.Omega.{arith}
use Rattle.rules.specs.Ranges.{at, sum}
use Rattle.rules.specs.Header.{size_of, is_header}
use Rattle.rules.specs.Lent.{Lent}
use Rattle.rules.specs.Walk.{walk, behind, starts, stop, words_on}
use Rattle.laws.specs.Headers.{Header, header_says, header_full}

abbrev pub size : List ℕ → ℕ → ℕ
size h x = size_of (at h x)

-- ---- a walk by its steps: from a, with `room` words left, it meets the list and stops at z

pub data Steps (h : List ℕ) : ℕ → ℕ → List ℕ → ℕ → Type 0 where
  stops : {a room : ℕ} → is_header (at h a) room ≡ false → Steps h a room [] a
  step : {a room z : ℕ} {l : List ℕ} → is_header (at h a) room ≡ true → Steps h (a + size h a) (room - size h a) l z → Steps h a room (a ∷ l) z

walk_step : (f a room : ℕ) (h : List ℕ) → walk (suc f) h a room ≡ cond (is_header (at h a) room) (a ∷ walk f h (a + size h a) (room - size h a)) []
unfolding walk
walk_step f a room h = refl

walk_zero : (a room : ℕ) (h : List ℕ) → walk zero h a room ≡ []
unfolding walk
walk_zero a room h = refl

pub behind_nil : (h : List ℕ) (a : ℕ) → behind h a [] ≡ a
unfolding behind
behind_nil h a = refl

pub behind_cons : (h : List ℕ) (a x : ℕ) (xs : List ℕ) → behind h a (x ∷ xs) ≡ behind h (x + size h x) xs
unfolding behind
behind_cons h a x xs = refl

pub steps : (f a room : ℕ) (h : List ℕ) → room ≤ f → Steps h a room (walk f h a room) (behind h a (walk f h a room))
steps zero a room h le =
    rw (walk_zero, behind_nil) (stops {a = a} {room = room} (let e : room ≡ 0 = omega arith in rw e (header_full (at h a))))
steps (suc f) a room h le = rw walk_step (go (is_header (at h a) room) refl (λ q. steps f (a + size h a) (room - size h a) h q))
  where
    rest : List ℕ
    rest = walk f h (a + size h a) (room - size h a)

    go : (b : Bool) → is_header (at h a) room ≡ b
        → (room - size h a ≤ f → Steps h (a + size h a) (room - size h a) rest (behind h (a + size h a) rest))
        → Steps h a room (cond b (a ∷ rest) []) (behind h a (cond b (a ∷ rest) []))
    go true e ih = rw (behind_cons h a a rest) (step e (ih (let H = header_says _ _ e in omega (arith, H.shape))))
    go false e ih = rw behind_nil (stops e)

-- its steps determine a walk
pub steps_walk : {h : List ℕ} {a room z : ℕ} {l : List ℕ} → Steps h a room l z → (f : ℕ) → room ≤ f → walk f h a room ≡ l
steps_walk {h} (stops {a = a} {room = room} e) zero le = walk_zero a room h
steps_walk {h} (stops {a = a} {room = room} e) (suc f) le = rw (walk_step, e) refl
steps_walk {h} (step {a = a} {room = room} e r) zero le = absurd (let H = header_says (at h a) room e in omega (arith, H.shape, H.fits))
steps_walk {h} (step {a = a} {room = room} {l = l} e r) (suc f) le =
    rw (walk_step, e) (ap {B = List ℕ} (λ k. a ∷ k) (steps_walk r f (let H = header_says (at h a) room e in omega (arith, H.shape))))

pub steps_behind : {h : List ℕ} {a room z : ℕ} {l : List ℕ} → Steps h a room l z → behind h a l ≡ z
steps_behind {h} (stops {a = a} e) = behind_nil h a
steps_behind {h} (step {a = a} {l = l} e r) = behind_cons h a a l ∙ steps_behind r

-- ---- the walk from a to the page's end e

unfoldable pub objects : List ℕ → ℕ → ℕ → List ℕ
objects h a e = walk (e - a) h a (e - a)

module _ (h : List ℕ) (a e : ℕ) where
  pub objects_end : is_header (at h a) (e - a) ≡ false → objects h a e ≡ []
  unfolding objects
  objects_end q = steps_walk (stops {a = a} {room = e - a} q) (e - a) (omega arith)

  pub objects_past : e ≤ a → objects h a e ≡ []
  objects_past p = objects_end (let z : e - a ≡ 0 = omega arith in rw z (header_full (at h a)))

  pub objects_step : is_header (at h a) (e - a) ≡ true → objects h a e ≡ a ∷ objects h (a + size h a) e
  unfolding objects
  objects_step q =
      let b = a + size h a in
      let z : e - b ≡ e - a - size h a = omega arith in
      let rest : Steps h b (e - a - size h a) (walk (e - b) h b (e - b)) (behind h b (walk (e - b) h b (e - b))) =
      subst (λ (r : ℕ). Steps h b r (walk (e - b) h b (e - b)) (behind h b (walk (e - b) h b (e - b)))) z (steps (e - b) b (e - b) h (omega arith)) in
      steps_walk (step {a = a} {room = e - a} q rest) (e - a) (omega arith)

-- ---- as a loop over headers meets it: the walk to e began at base, is at a, and will stop where all of it does

pub record Onward (h : List ℕ) (base e a : ℕ) : Type 0 where
  pub from : base ≤ a
  pub upto : base ≤ e → a ≤ e
  pub stop : behind h a (objects h a e) ≡ behind h base (objects h base e)

pub onward_begins : (h : List ℕ) (base e : ℕ) → Onward h base e base
onward_begins h base e = record { from = omega arith; upto = λ le. le; stop = refl }

module _ (h : List ℕ) (base e a : ℕ) (W : Onward h base e a) where
  pub onward_on : is_header (at h a) (e - a) ≡ true → Onward h base e (a + size h a)
  onward_on q =
      let H = header_says _ _ q in
      record {
        from = omega (arith, W.from);
        upto = λ le. omega (arith, W.upto le, H.fits);
        stop = sym (behind_cons h a a (objects h (a + size h a) e)) ∙ (rw (objects_step h a e q) at W.stop);
      }

  pub onward_ends : is_header (at h a) (e - a) ≡ false → a ≡ behind h base (objects h base e)
  onward_ends q = sym (behind_nil h a) ∙ (rw (objects_end h a e q) at W.stop)

-- the walk of page g
pub starts_are : (m : Lent) (g : ℕ) → starts m g ≡ objects m.heap (g * m.rec.page) (g * m.rec.page + m.rec.page)
unfolding starts objects
starts_are m g = let z : g * m.rec.page + m.rec.page - g * m.rec.page ≡ m.rec.page = omega arith in rw z

pub page_steps : (m : Lent) (g : ℕ) → Steps m.heap (g * m.rec.page) m.rec.page (starts m g) (stop m g)
unfolding starts stop
page_steps m g = steps m.rec.page (g * m.rec.page) m.rec.page m.heap (omega arith)

-- ---- what a walk meets

pub record Met (h : List ℕ) (a room b : ℕ) : Type 0 where
  pub from : a ≤ b
  pub upto : b < a + room
  pub header : Header (at h b) (a + room - b)

pub met : (h : List ℕ) {a room z : ℕ} {l : List ℕ} → Steps h a room l z → (b : ℕ) → Memᴰ b l → Met h a room b
met h (stops e) b m = absurd (Memᴰ.not-nil m)
met h (step {a = a} {room = room} {z = z} {l = l} e r) b m = go (λ k. met h r b k) (Memᴰ.cases_cons m)
  where
    H : Header (at h a) room
    H = header_says _ _ e

    go : (Memᴰ b l → Met h (a + size h a) (room - size h a) b) → (b ≡ a) ⊎ Memᴰ b l → Met h a room b
    go ih (inl q) = rw q (record { from = omega arith; upto = omega (arith, H.shape, H.fits); header = let e : a + room - a ≡ room = omega arith in rw e H })
    go ih (inr k) =
        let M : Met h (a + size h a) (room - size h a) b = ih k in
        let e : a + size h a + (room - size h a) - b ≡ a + room - b = omega (arith, H.fits) in
        record { from = omega (arith, M.from); upto = omega (arith, M.upto, H.fits); header = rw e at M.header }

-- the first word, or the walk stops there
pub steps_first : (h : List ℕ) {a room z : ℕ} {l : List ℕ} → Steps h a room l z → Memᴰ a l ⊎ (a ≡ z)
steps_first h (stops e) = inr refl
steps_first h (step e r) = inl (Memᴰ.head refl)

-- a walk that meets something meets its first word
pub first_header : (h : List ℕ) {a room z : ℕ} {l : List ℕ} → Steps h a room l z → {b : ℕ} → Memᴰ b l → is_header (at h a) room ≡ true
first_header h (stops e) m = absurd (Memᴰ.not-nil m)
first_header h (step e r) m = e

-- the stop lies within, and no header stands there
pub steps_upto : {h : List ℕ} {a room z : ℕ} {l : List ℕ} → Steps h a room l z → (a ≤ z) × (z ≤ a + room)
steps_upto (stops e) = (omega arith, omega arith)
steps_upto {h} (step {a = a} {room = room} e r) =
    let K : Header (at h a) room = header_says _ _ e in
    let q : (a + size h a ≤ _) × (_ ≤ a + size h a + (room - size h a)) = steps_upto r in
    (omega arith, omega (arith, K.fits))

pub steps_stop : {h : List ℕ} {a room z : ℕ} {l : List ℕ} → Steps h a room l z → is_header (at h z) (a + room - z) ≡ false
steps_stop {h} (stops {a = a} {room = room} e) = let w : a + room - a ≡ room = omega arith in rw w e
steps_stop {h} (step {a = a} {room = room} {z = z} e r) =
    let K : Header (at h a) room = header_says _ _ e in
    let w : a + size h a + (room - size h a) - z ≡ a + room - z = omega (arith, K.fits) in
    rw w at (steps_stop r)

-- what it meets lies end to end, from its first word to the stop
pub steps_words : {h : List ℕ} {a room z : ℕ} {l : List ℕ} → Steps h a room l z → a + sum (size h) l ≡ z
unfolding sum
steps_words (stops e) = omega arith
steps_words (step e r) = omega (arith, steps_words r)

-- the words in objects on a page are no more than P
pub words_on_page : (m : Lent) (g : ℕ) → words_on m g ≤ m.rec.page
unfolding words_on
words_on_page m g = omega (arith, steps_words (page_steps m g), (steps_upto (page_steps m g)).1)

-- it stops past its first word exactly where it meets something
pub steps_some : {h : List ℕ} {a room z : ℕ} {l : List ℕ} → Steps h a room l z → a < z → 1 ≤ length l
steps_some (stops e) p = absurd (omega arith)
steps_some (step e r) p = omega arith

pub steps_none : {h : List ℕ} {a room z : ℕ} {l : List ℕ} → Steps h a room l z → 1 ≤ length l → a < z
steps_none (stops e) p = absurd (omega arith)
steps_none {h} (step {a = a} {room = room} e r) p =
    let K : Header (at h a) room = header_says _ _ e in omega (arith, K.shape, (steps_upto r).0)

-- every object ends at the stop or before it
pub met_below : {h : List ℕ} {a room z : ℕ} {l : List ℕ} → Steps h a room l z → (b : ℕ) → Memᴰ b l → b + size h b ≤ z
met_below (stops e) b m = absurd (Memᴰ.not-nil m)
met_below {h} (step {a = a} {room = room} {z = z} {l = l} e r) b m = go (λ k. met_below r b k) (steps_upto r).0 (Memᴰ.cases_cons m)
  where
    go : (Memᴰ b l → b + size h b ≤ z) → a + size h a ≤ z → (b ≡ a) ⊎ Memᴰ b l → b + size h b ≤ z
    go ih q (inl e) = rw e q
    go ih q (inr k) = ih k

-- two objects of a walk do not meet
pub met_apart : (h : List ℕ) {a room z : ℕ} {l : List ℕ} → Steps h a room l z → (b d : ℕ) → Memᴰ b l → Memᴰ d l → b < d → b + size h b ≤ d
met_apart h (stops e) b d m k lt = absurd (Memᴰ.not-nil m)
met_apart h (step {a = a} {room = room} {z = z} {l = l} e r) b d m k lt =
    go (λ p q. met_apart h r b d p q lt) (λ x p. met h r x p) (Memᴰ.cases_cons m) (Memᴰ.cases_cons k)
  where
    go : (Memᴰ b l → Memᴰ d l → b + size h b ≤ d) → ((x : ℕ) → Memᴰ x l → Met h (a + size h a) (room - size h a) x)
        → (b ≡ a) ⊎ Memᴰ b l → (d ≡ a) ⊎ Memᴰ d l → b + size h b ≤ d
    go ih mt (inl p) (inl q) = absurd (omega arith)
    go ih mt (inl p) (inr q) = rw p (mt d q).from
    go ih mt (inr p) (inl q) = absurd (omega (arith, (mt b p).from))
    go ih mt (inr p) (inr q) = ih p q

-- after an object: another, or the stop
pub met_next : (h : List ℕ) {a room z : ℕ} {l : List ℕ} → Steps h a room l z → (b : ℕ) → Memᴰ b l → Memᴰ (b + size h b) l ⊎ (b + size h b ≡ z)
met_next h (stops e) b m = absurd (Memᴰ.not-nil m)
met_next h (step {a = a} {room = room} {z = z} {l = l} e r) b m = go (λ p. met_next h r b p) (Memᴰ.cases_cons m) (steps_first h r)
  where
    up : (x : ℕ) → Memᴰ x l ⊎ (x ≡ z) → Memᴰ x (a ∷ l) ⊎ (x ≡ z)
    up x (inl p) = inl (Memᴰ.tail p)
    up x (inr q) = inr q

    go : (Memᴰ b l → Memᴰ (b + size h b) l ⊎ (b + size h b ≡ z)) → (b ≡ a) ⊎ Memᴰ b l → Memᴰ (a + size h a) l ⊎ (a + size h a ≡ z)
        → Memᴰ (b + size h b) (a ∷ l) ⊎ (b + size h b ≡ z)
    go ih (inl q) f = rw q (up (a + size h a) f)
    go ih (inr p) f = up (b + size h b) (ih p)

-- a walk that meets something meets its first word
pub met_first : (h : List ℕ) {a room z : ℕ} {l : List ℕ} → Steps h a room l z → {b : ℕ} → Memᴰ b l → Memᴰ a l
met_first h (stops e) m = absurd (Memᴰ.not-nil m)
met_first h (step e r) m = Memᴰ.head refl
