-- Look-up and load change nothing, and store keeps a sound heap sound: what it writes is a payload word, so every walk goes as before.
use Rattle.std.specs.Prelude.{◌≡◌, ◌≢◌, ◌⊎◌, ℕ, ◌+◌, ◌*◌, ◌/◌, ◌≤◌, ◌<◌}
use Rattle.std.proofs.Common.{sym, ap, ◌∙◌, subst, inl, inr, arith, length-set, get_or-set_same, get_or-set_other}
use mathlib.Core.List.{Memᴰ}
use Rattle.std.proofs.Math.Decide.{ℕ_discrete, dec_lt}
use Rattle.rules.specs.Ranges.{at}
use Rattle.rules.specs.Lent.{Lent}
use Rattle.rules.specs.Walk.{starts, stop}
use Rattle.rules.specs.Sound.{InUse, IsObject, refs, payload, Opened, Sound}
use Rattle.rules.specs.Calls.{Outcome, accepted, look_up, load, stored, store}
use Rattle.laws.specs.Pages.{on_page}
use Rattle.laws.specs.Valid.{valid_layout}
use Rattle.laws.specs.LookUp.{placed}
use Rattle.laws.specs.Walk.{size, page_steps, met_below, steps_upto}
use Rattle.laws.specs.Walks.{steps_page, page_kept}
use Rattle.laws.specs.Objects.{label_used, met_object, object_page, objects_apart, page_pos}
use Rattle.kept.specs.Refusals.{by_refusal, look_up_refused, load_refused, store_refused}
use Rattle.kept.specs.Accepted.{look_up_says, load_says, StoreOk, store_says}

pub look_up_same : (m : Lent) (a : ℕ) → (look_up m a).lent ≡ m
unfolding accepted
look_up_same m a =
    by_refusal (look_up m a) (λ z. ap (λ (o : Outcome). o.lent) (look_up_says m a z).is) (λ n. (look_up_refused m a n).lent)

pub load_same : (m : Lent) (a i : ℕ) → (load m a i).lent ≡ m
unfolding accepted
load_same m a i =
    by_refusal (load m a i) (λ z. ap (λ (o : Outcome). o.lent) (load_says m a i z).is) (λ n. (load_refused m a i n).lent)

-- ---- a payload word was written

module _ (m : Lent) (S : Sound m) (a i v : ℕ) (o : Outcome) (ok : StoreOk m a i v o) where
  abbrev after : Lent
  after = stored m a i v

  pos : 0 < m.rec.page
  pos = page_pos m S.valid

  ob : IsObject m a
  ob = ok.word.object

  other : (w : ℕ) → w ≢ a + 1 + i → at after.heap w ≡ at m.heap w
  other w n = get_or-set_other m.heap (a + 1 + i) w v 0 n

  here : at after.heap (a + 1 + i) ≡ v
  here = get_or-set_same m.heap (a + 1 + i) v 0 (omega (arith, (placed m a (valid_layout m S.valid) ob).inside, ok.word.index))

  -- no object starts there
  no_start : (b : ℕ) → IsObject m b → b ≢ a + 1 + i
  no_start b o = go (dec_lt a b)
    where
      go : Dec (a < b) → b ≢ a + 1 + i
      go (yes l) = omega (arith, objects_apart m pos a b ob o l, ok.word.index)
      go (no n) = omega arith

  same_page : (a + 1 + i) / m.rec.page ≡ a / m.rec.page
  same_page = let e : a + 1 + i ≡ a + (i + 1) = omega arith in rw e (object_page m pos a (i + 1) ob ok.word.index)

  -- it lies below the stop of its page
  below : (g : ℕ) → (a + 1 + i) / m.rec.page ≡ g → a + 1 + i < stop m g
  below g e =
      let k : Memᴰ a (starts m g) = subst (λ (j : ℕ). Memᴰ a (starts m j)) (sym same_page ∙ e) ob.met in
      omega (arith, met_below (page_steps m g) a k, ok.word.index)

  same_walk : (g : ℕ) → InUse m g → (starts after g ≡ starts m g) × (stop after g ≡ stop m g)
  same_walk g u =
      steps_page after g (page_kept m after.heap g (λ b k. other b (no_start b (met_object m pos g b u k))) (λ l. other (stop m g) (λ q.
      let p : stop m g / m.rec.page ≡ g = on_page pos (stop m g) g (steps_upto (page_steps m g)).0 l in
      omega (arith, below g (ap (λ (k : ℕ). k / m.rec.page) (sym q) ∙ p)))))

  used_after : (g : ℕ) → InUse m g → InUse after g
  used_after g u = record { low = u.low; high = u.high; label = u.label }

  used_before : (g : ℕ) → InUse after g → InUse m g
  used_before g u = record { low = u.low; high = u.high; label = u.label }

  object_after : (b : ℕ) → IsObject m b → IsObject after b
  object_after b o = record { in_use = used_after _ o.in_use; met = subst (Memᴰ b) (sym (same_walk _ o.in_use).0) o.met }

  object_before : (b : ℕ) → IsObject after b → IsObject m b
  object_before b o =
      let u = used_before _ o.in_use in
      record { in_use = u; met = subst (Memᴰ b) (same_walk _ u).0 o.met }

  reference : (x j : ℕ) → IsObject m x → j < refs m x → (payload after x j ≡ 0) ⊎ IsObject after (payload after x j)
  reference x j o h = go (ℕ_discrete (x + 1 + j) (a + 1 + i))
    where
      up : (u : ℕ) → (u ≡ 0) ⊎ IsObject m u → (u ≡ 0) ⊎ IsObject after u
      up u (inl e) = inl e
      up u (inr o) = inr (object_after u o)

      inside : j + 1 < size m.heap x
      inside = omega (arith, (placed m x (valid_layout m S.valid) o).shape)

      -- the word written is a reference of its own object only
      own : x + 1 + j ≡ a + 1 + i → Dec (x < a) → Dec (a < x) → i < refs m a
      own q (yes l) d = absurd (omega (arith, objects_apart m pos x a o ob l, inside))
      own q (no n) (yes l) = absurd (omega (arith, objects_apart m pos a x ob o l, ok.word.index))
      own q (no n) (no k) = let e : x ≡ a = omega arith in let r : j < refs m a = rw e at h in omega arith

      go : Dec (x + 1 + j ≡ a + 1 + i) → (payload after x j ≡ 0) ⊎ IsObject after (payload after x j)
      go (yes q) = rw (q, here) (up v (ok.value (own q (dec_lt x a) (dec_lt a x))))
      go (no n) = rw (other (x + 1 + j) n) (up _ (S.references x j o h))

  stored_sound : Sound after
  stored_sound = record {
    valid = record {
      page = S.valid.page;
      pages = S.valid.pages;
      heap = length-set m.heap (a + 1 + i) v ∙ S.valid.heap;
      labels = S.valid.labels;
      links = S.valid.links;
      label = S.valid.label;
      opened = opened S.valid.opened;
    };
    zero = S.zero;
    blank = λ w e. other w (λ q. label_used m S.valid _ ob.in_use (ap (at m.labels) (sym same_page ∙ ap (λ (k : ℕ). k / m.rec.page) (sym q)) ∙ e)) ∙ S.blank w e;
    labels = S.labels;
    some = λ g u. let (b, k) = S.some g (used_before g u) in (b, subst (Memᴰ b) (sym (same_walk g (used_before g u)).0) k);
    tail = λ g w u q l.
        let l' : stop m g ≤ w = rw (same_walk g (used_before g u)).1 at l in
        other w (λ z. let lt : a + 1 + i < stop m g = below g (ap (λ (k : ℕ). k / m.rec.page) (sym z) ∙ q) in omega arith) ∙ S.tail g w (used_before g u) q l';
    fill = λ n. fill n S.valid.opened;
    references = λ x j o h. reference x j (object_before x o) (rw (other x (no_start x (object_before x o))) at h);
  }
    where
      opened : ((m.rec.opened ≡ 0) × (m.rec.fill ≡ m.rec.page)) ⊎ Opened m → ((m.rec.opened ≡ 0) × (m.rec.fill ≡ m.rec.page)) ⊎ Opened after
      opened (inl z) = inl z
      opened (inr q) = inr (record { page = used_after _ q.page; low = q.low; high = q.high })

      fill : m.rec.opened ≢ 0 → ((m.rec.opened ≡ 0) × (m.rec.fill ≡ m.rec.page)) ⊎ Opened m → stop after m.rec.opened ≡ m.rec.opened * m.rec.page + m.rec.fill
      fill n (inl z) = absurd (n z.0)
      fill n (inr q) = (same_walk m.rec.opened q.page).1 ∙ S.fill n

pub store_sound : (m : Lent) (a i v : ℕ) → Sound m → Sound (store m a i v).lent
unfolding accepted
store_sound m a i v S =
    by_refusal (store m a i v)
    (λ z. let ok = store_says m a i v z in subst (λ (o : Outcome). Sound o.lent) (sym ok.is) (stored_sound m S a i v _ ok))
    (λ n. subst Sound (sym (store_refused m a i v n).lent) S)

-- an accepted store leaves every object that was there
pub store_keeps : (m : Lent) (a i v : ℕ) → Sound m → (store m a i v).refusal ≡ 0 → (b : ℕ) → IsObject m b → IsObject (store m a i v).lent b
unfolding accepted
store_keeps m a i v S z b o =
    let ok = store_says m a i v z in
    subst (λ (o : Outcome). IsObject o.lent b) (sym ok.is) (object_after m S a i v _ ok b o)
