-- An object written where the walk of a page stopped keeps a sound heap sound: the walk meets it last, and every other walk
-- goes as before. `Place` says what is asked of the page; Allocate.antt finds it of the open page and of a free one.
use Rattle.std.specs.Prelude.{◌≡◌, refl, ◌≢◌, ◌⊎◌, true, false, length, replicate}
use Rattle.std.proofs.Math.Path.{sym, ap, subst}
use Rattle.std.proofs.Common.{◌∙◌, le_refl}
use Rattle.std.proofs.Math.Logic.{inl, inr}
use mathlib.Core.List.Memᴰ
use mathlib.Core.List.{List, [], ◌∷◌, ◌++◌, Memᴰ}
use Prim.Native.Nat.{ℕ, suc, ◌+◌, ◌*◌, ◌-◌, ◌/◌, ◌≤◌, ◌<◌}
use Rattle.std.proofs.Math.Nat.{add-zero}
use Rattle.std.proofs.Math.Decide.{ℕ_discrete, dec_lt}
use native.Mathlib.Omega.{arith}
use Rattle.std.proofs.lemmas.List.{length-replicate}
use Rattle.std.proofs.Math.Seq.{length-sets}
use Rattle.rules.specs.Ranges.{at}
use Rattle.rules.specs.Header.{header_of, size_of, refs_of, is_header}
use Rattle.rules.specs.Lent.{Lent}
use Rattle.rules.specs.Walk.{starts, stop}
use Rattle.rules.specs.Sound.{InUse, IsObject, refs, payload, Valid, Sound}
use Rattle.rules.specs.Calls.{with_object}
use Rattle.laws.specs.Headers.{size_made, refs_made, header_made, header_is, header_full, header_zero}
use Rattle.laws.specs.Pages.{on_page}
use Rattle.laws.specs.Valid.{Layout, valid_layout, page_within}
use Rattle.laws.specs.LookUp.{placed}
use Rattle.laws.specs.Walk.{size, Steps, page_steps, met_below, steps_upto}
use Rattle.laws.specs.Words.{zeros_at, sets_other, sets_in}
use Rattle.laws.specs.Walks.{steps_snoc, steps_page, page_kept}
use Rattle.laws.specs.Objects.{page_pos, label_used, met_page, met_object, object_page}

-- Room for an object of d payload words, p of them references, at offset f of page g: the walk of the page meets `met` and
-- stops at f, and only zeros follow. `labels` are the labels after the call: they differ at most in that g is in use.
pub record Place (m : Lent) (g f d p : ℕ) (labels met : List ℕ) : Type 0 where
  pub low : 1 ≤ g
  pub high : g < m.rec.pages
  pub many : length labels ≡ length m.labels
  pub label : at labels g ≡ m.rec.label
  pub others : (k : ℕ) → k ≢ g → at labels k ≡ at m.labels k
  pub fits : f + (d + 1) ≤ m.rec.page
  pub refs : p ≤ d
  pub walked : Steps m.heap (g * m.rec.page) m.rec.page met (g * m.rec.page + f)
  pub blank : (w : ℕ) → w / m.rec.page ≡ g → g * m.rec.page + f ≤ w → at m.heap w ≡ 0
  pub objects : (b : ℕ) → Memᴰ b met → IsObject m b
  pub back : (b : ℕ) → IsObject m b → b / m.rec.page ≡ g → Memᴰ b met

module _ (m : Lent) (S : Sound m) (g f d p : ℕ) (labels met : List ℕ) (A : Place m g f d p labels met) where
  abbrev after : Lent
  after = with_object m g f d p labels

  -- the object's address
  abbrev z : ℕ
  z = g * m.rec.page + f

  abbrev words : List ℕ
  words = header_of d p ∷ replicate d 0

  pos : 0 < m.rec.page
  pos = page_pos m S.valid

  y : Layout m m.rec.page m.rec.pages
  y = valid_layout m S.valid

  many : length words ≡ d + 1
  many = simp length-replicate (omega arith)

  few : p ≤ 32767
  few = omega (arith, A.refs, A.fits, y.page_high)

  inside : z + (d + 1) ≤ length m.heap
  inside = omega (arith, A.fits, (page_within y g A.high).0)

  -- ---- words

  other : (w : ℕ) → (w < z) ⊎ (z + (d + 1) ≤ w) → at after.heap w ≡ at m.heap w
  unfolding with_object
  other w (inl h) = sets_other m.heap z words w (inl h)
  other w (inr h) = sets_other m.heap z words w (inr (omega (arith, many)))

  header : at after.heap z ≡ header_of d p
  unfolding with_object
  header = simp add-zero at (sets_in m.heap z words 0 (omega (arith, many)) (omega (arith, many, inside)))

  zeros : (i : ℕ) → i < d → at after.heap (z + 1 + i) ≡ 0
  unfolding with_object
  zeros i h =
      let e : z + 1 + i ≡ z + suc i = omega arith in
      rw e (sets_in m.heap z words (suc i) (omega (arith, many)) (omega (arith, many, inside)) ∙ zeros_at d i)

  other_page : (w : ℕ) → w / m.rec.page ≢ g → at after.heap w ≡ at m.heap w
  other_page w n = other w (go (dec_lt w z) (dec_lt w (z + (d + 1))))
    where
      go : Dec (w < z) → Dec (w < z + (d + 1)) → (w < z) ⊎ (z + (d + 1) ≤ w)
      go (yes a) q = inl a
      go (no a) (no b) = inr (omega arith)
      go (no a) (yes b) = absurd (n (on_page pos w g (omega arith) (omega (arith, A.fits))))

  size_here : size after.heap z ≡ d + 1
  size_here = ap size_of header ∙ size_made d p few A.refs

  -- ---- walks

  -- of the object's page: the object comes last
  walk_here : (starts after g ≡ met ++ (z ∷ [])) × (stop after g ≡ z + (d + 1))
  unfolding with_object
  walk_here =
      let q : (starts after g ≡ met ++ (z ∷ [])) × (stop after g ≡ z + size after.heap z) = steps_page after g walked in
      (q.0, q.1 ∙ ap (λ (k : ℕ). z + k) size_here)
    where
      P : ℕ
      P = m.rec.page

      before : (b : ℕ) → Memᴰ b met → b < z
      before b k = omega (arith, met_below A.walked b k, (placed m b y (A.objects b k)).shape)

      is_header_lem : is_header (at after.heap z) (g * P + P - z) ≡ true
      is_header_lem = rw header (header_is _ _ (header_made d p few A.refs _ (omega (arith, A.fits))))

      stopped : Dec (z + (d + 1) < g * P + P) → is_header (at after.heap (z + (d + 1))) (g * P + P - z - (d + 1)) ≡ false
      stopped (no q) = let e : g * P + P - z - (d + 1) ≡ 0 = omega arith in rw e (header_full _)
      stopped (yes q) =
          rw (other (z + (d + 1)) (inr (le_refl _)) ∙ A.blank (z + (d + 1)) (on_page pos _ g (omega arith) q) (omega arith)) (header_zero _)

      walked : Steps after.heap (g * P) P (met ++ (z ∷ [])) (z + size after.heap z)
      walked = steps_snoc after.heap A.walked (λ b k. other b (inl (before b k))) is_header_lem (rw size_here (stopped (dec_lt (z + (d + 1)) (g * P + P))))

  -- of another page: as before
  walk_other : (k : ℕ) → k ≢ g → (starts after k ≡ starts m k) × (stop after k ≡ stop m k)
  unfolding with_object
  walk_other k n =
      steps_page after k (page_kept m after.heap k (λ b q. other_page b (λ e. n (sym (met_page m pos k b q) ∙ e)))
      (λ l. other_page (stop m k) (λ e. n (sym (on_page pos (stop m k) k (steps_upto (page_steps m k)).0 l) ∙ e))))

  -- ---- pages in use and objects

  used_after : (k : ℕ) → k ≢ g → InUse m k → InUse after k
  unfolding with_object
  used_after k n u = record { low = u.low; high = u.high; label = A.others k n ∙ u.label }

  used_before : (k : ℕ) → k ≢ g → InUse after k → InUse m k
  unfolding with_object
  used_before k n u = record { low = u.low; high = u.high; label = sym (A.others k n) ∙ u.label }

  used_here : InUse after g
  unfolding with_object
  used_here = record { low = A.low; high = A.high; label = A.label }

  met_here : Memᴰ z (starts after g)
  met_here = subst (Memᴰ z) (sym walk_here.0) (Memᴰ.append_right met (Memᴰ.head refl))

  pub object_new : IsObject after z
  unfolding with_object
  object_new = met_object after pos g z used_here met_here

  pub object_after : (b : ℕ) → IsObject m b → IsObject after b
  unfolding with_object
  object_after b o = go (ℕ_discrete (b / m.rec.page) g)
    where
      go : Dec (b / m.rec.page ≡ g) → IsObject after b
      go (yes e) = met_object after pos g b used_here (subst (Memᴰ b) (sym walk_here.0) (Memᴰ.append_left (z ∷ []) (A.back b o e)))
      go (no n) = record { in_use = used_after _ n o.in_use; met = subst (Memᴰ b) (sym (walk_other _ n).0) o.met }

  object_before : (b : ℕ) → IsObject after b → IsObject m b ⊎ (b ≡ z)
  unfolding with_object
  object_before b o = go (ℕ_discrete (b / m.rec.page) g)
    where
      there : Memᴰ b met ⊎ Memᴰ b (z ∷ []) → IsObject m b ⊎ (b ≡ z)
      there (inl k) = inl (A.objects b k)
      there (inr k) = inr (Memᴰ.eq_of_singleton k)

      go : Dec (b / m.rec.page ≡ g) → IsObject m b ⊎ (b ≡ z)
      go (yes e) = there (Memᴰ.append_cases met (subst (Memᴰ b) walk_here.0 (subst (λ (k : ℕ). Memᴰ b (starts after k)) e o.met)))
      go (no n) = inl (record { in_use = used_before _ n o.in_use; met = subst (Memᴰ b) (walk_other _ n).0 o.met })

  -- an object that was there keeps its words
  object_kept : (x j : ℕ) → IsObject m x → j < size m.heap x → at after.heap (x + j) ≡ at m.heap (x + j)
  object_kept x j o h = go (ℕ_discrete (x / m.rec.page) g)
    where
      go : Dec (x / m.rec.page ≡ g) → at after.heap (x + j) ≡ at m.heap (x + j)
      go (yes e) = other (x + j) (inl (omega (arith, met_below A.walked x (A.back x o e))))
      go (no n) = other_page (x + j) (λ q. n (sym (object_page m pos x j o h) ∙ q))

  reference : (x j : ℕ) → IsObject m x ⊎ (x ≡ z) → j < refs after x → (payload after x j ≡ 0) ⊎ IsObject after (payload after x j)
  reference x j (inr e) h =
      let h' : j < refs after z = rw e at h in
      let q : refs after z ≡ p = ap refs_of header ∙ refs_made d p few A.refs in
      inl (rw e (zeros j (omega (arith, A.refs))))
  reference x j (inl o) h =
      let shape = (placed m x y o).shape in
      let hd : at after.heap x ≡ at m.heap x = simp add-zero at (object_kept x 0 o (omega arith)) in
      let h' : j < refs m x = rw hd at h in
      let e : x + 1 + j ≡ x + (1 + j) = omega arith in
      go (rw e (object_kept x (1 + j) o (omega arith))) (S.references x j o h')
    where
      go : payload after x j ≡ payload m x j → (payload m x j ≡ 0) ⊎ IsObject m (payload m x j) → (payload after x j ≡ 0) ⊎ IsObject after (payload after x j)
      go e (inl q) = inl (e ∙ q)
      go e (inr o) = inr (rw e (object_after _ o))

  valid_after : Valid after
  unfolding with_object
  valid_after = record {
    page = S.valid.page;
    pages = S.valid.pages;
    heap = length-sets m.heap z words ∙ S.valid.heap;
    labels = A.many ∙ S.valid.labels;
    links = S.valid.links;
    label = S.valid.label;
    opened = inr (record { page = used_here; low = omega arith; high = A.fits });
  }

  pub placed_sound : Sound after
  unfolding with_object
  placed_sound = record {
    valid = valid_after;
    zero = A.others 0 (omega (arith, A.low)) ∙ S.zero;
    blank = λ w e.
        let n : w / m.rec.page ≢ g = λ q. label_used after valid_after g used_here (ap (at labels) (sym q) ∙ e) in
        other_page w n ∙ S.blank w (sym (A.others _ n) ∙ e);
    labels = λ k. label k (ℕ_discrete k g);
    some = λ k u. some k u (ℕ_discrete k g);
    tail = λ k w u q h. tail k w u q h (ℕ_discrete k g);
    fill = λ n. walk_here.1 ∙ omega arith;
    references = λ x j o h. reference x j (object_before x o) h;
  }
    where
      label : (k : ℕ) → Dec (k ≡ g) → (at labels k ≡ 0) ⊎ (at labels k ≡ m.rec.label)
      label k (yes e) = inr (ap (at labels) e ∙ A.label)
      label k (no n) = subst (λ (v : ℕ). (v ≡ 0) ⊎ (v ≡ m.rec.label)) (sym (A.others k n)) (S.labels k)

      some : (k : ℕ) → InUse after k → Dec (k ≡ g) → (a : ℕ) × Memᴰ a (starts after k)
      some k u (yes q) = (z, subst (λ (j : ℕ). Memᴰ z (starts after j)) (sym q) met_here)
      some k u (no n) = let (a, mem) = S.some k (used_before k n u) in (a, subst (Memᴰ a) (sym (walk_other k n).0) mem)

      tail : (k w : ℕ) → InUse after k → w / m.rec.page ≡ k → stop after k ≤ w → Dec (k ≡ g) → at after.heap w ≡ 0
      tail k w u q h (yes e) =
          let h1 : stop after g ≤ w = subst (λ (j : ℕ). stop after j ≤ w) e h in
          let h2 : z + (d + 1) ≤ w = subst (λ (j : ℕ). j ≤ w) walk_here.1 h1 in
          other w (inr h2) ∙ A.blank w (q ∙ e) (omega arith)
      tail k w u q h (no n) =
          other_page w (λ e. n (sym q ∙ e)) ∙ S.tail k w (used_before k n u) q (subst (λ (j : ℕ). j ≤ w) (walk_other k n).1 h)
