-- Walks in another heap: one that differs elsewhere, or has one more object where the walk stopped.
use Rattle.std.specs.Prelude.{◌≡◌, refl, true, false, ℕ, ◌+◌, ◌*◌, ◌-◌, ◌<◌}
use Rattle.std.proofs.Common.{sym, ap, ◌∙◌, subst, le_refl, arith}
use mathlib.Core.List.{List, [], ◌∷◌, ◌++◌, Memᴰ}
use Rattle.std.proofs.Math.Decide.{dec_lt}
use Rattle.rules.specs.Ranges.{at}
use Rattle.rules.specs.Header.{size_of, is_header}
use Rattle.rules.specs.Lent.{Lent}
use Rattle.rules.specs.Walk.{behind, starts, stop}
use Rattle.laws.specs.Headers.{Header, header_says, header_full}
use Rattle.laws.specs.Walk.{size, Steps, stops, step, steps_walk, steps_behind, page_steps, steps_stop}

-- ---- in another heap

-- with the same headers, and none at the stop, a walk goes as before
pub steps_cong : {h : List ℕ} (h' : List ℕ) {a room z : ℕ} {l : List ℕ} → Steps h a room l z → ((b : ℕ) → Memᴰ b l → at h' b ≡ at h b)
    → is_header (at h' z) (a + room - z) ≡ false → Steps h' a room l z
steps_cong {h} h' (stops {a = a} {room = room} e) same q = stops {a = a} {room = room} (let w : a + room - a ≡ room = omega arith in rw w at q)
steps_cong {h} h' (step {a = a} {room = room} {z = z} {l = l} e r) same q =
    let hd : at h' a ≡ at h a = same a (Memᴰ.head refl) in
    let K : Header (at h a) room = header_says _ _ e in
    let w : a + size h a + (room - size h a) - z ≡ a + room - z = omega (arith, K.fits) in
    step {a = a} {room = room} (ap (λ (w : ℕ). is_header w room) hd ∙ e)
    (subst (λ (n : ℕ). Steps h' (a + n) (room - n) l z) (ap size_of (sym hd)) (steps_cong h' r (λ b m. same b (Memᴰ.tail m)) (rw w q)))

-- an object put where the walk stopped is met last, and the walk stops behind it
pub steps_snoc : {h : List ℕ} (h' : List ℕ) {a room z : ℕ} {l : List ℕ} → Steps h a room l z → ((b : ℕ) → Memᴰ b l → at h' b ≡ at h b)
    → is_header (at h' z) (a + room - z) ≡ true → is_header (at h' (z + size h' z)) (a + room - z - size h' z) ≡ false
    → Steps h' a room (l ++ (z ∷ [])) (z + size h' z)
steps_snoc {h} h' (stops {a = a} {room = room} e) same hd nx =
    let q : a + room - a ≡ room = omega arith in
    step {a = a} {room = room} (rw q at hd) (stops {a = a + size h' a} {room = room - size h' a} (rw q at nx))
steps_snoc {h} h' (step {a = a} {room = room} {z = z} {l = l} e r) same hd nx =
    let q : at h' a ≡ at h a = same a (Memᴰ.head refl) in
    let K : Header (at h a) room = header_says _ _ e in
    let w : a + size h a + (room - size h a) - z ≡ a + room - z = omega (arith, K.fits) in
    step {a = a} {room = room} (ap (λ (x : ℕ). is_header x room) q ∙ e)
    (subst (λ (n : ℕ). Steps h' (a + n) (room - n) (l ++ (z ∷ [])) (z + size h' z)) (ap size_of (sym q))
    (steps_snoc h' r (λ b m. same b (Memᴰ.tail m)) (rw w hd) (rw w nx)))

-- ---- of a page

-- the steps of a page's walk determine its starts and its stop
pub steps_page : (m : Lent) (g : ℕ) {z : ℕ} {l : List ℕ} → Steps m.heap (g * m.rec.page) m.rec.page l z → (starts m g ≡ l) × (stop m g ≡ z)
unfolding starts stop
steps_page m g {z} {l} st =
    let e : starts m g ≡ l = steps_walk st m.rec.page (le_refl _) in
    (e, ap (behind m.heap (g * m.rec.page)) e ∙ steps_behind st)

-- page g is walked as before in a heap where its headers stay, and the word at its stop, where that is still on the page
pub page_kept : (m : Lent) (h' : List ℕ) (g : ℕ) → ((b : ℕ) → Memᴰ b (starts m g) → at h' b ≡ at m.heap b)
    → (stop m g < g * m.rec.page + m.rec.page → at h' (stop m g) ≡ at m.heap (stop m g))
    → Steps h' (g * m.rec.page) m.rec.page (starts m g) (stop m g)
page_kept m h' g same at_stop = steps_cong h' (page_steps m g) same (go (dec_lt (stop m g) (g * m.rec.page + m.rec.page)))
  where
    go : Dec (stop m g < g * m.rec.page + m.rec.page) → is_header (at h' (stop m g)) (g * m.rec.page + m.rec.page - stop m g) ≡ false
    go (no n) = let e : g * m.rec.page + m.rec.page - stop m g ≡ 0 = omega arith in rw e (header_full _)
    go (yes l) = rw (at_stop l) (steps_stop (page_steps m g))
