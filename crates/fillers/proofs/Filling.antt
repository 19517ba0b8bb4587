-- Laws of the filling: the places of a page, the pages that were kept. Each loop carries what is left to do, which gives what there
-- was to do at first, and that it is safe. The code counts the places that the definition lists.
use mathlib.Core.Path.{◌≡◌, refl, sym, ◌∙◌}
use mathlib.Core.Bool.{true, false}
use mathlib.Core.List.{List, [], ◌∷◌, ◌++◌, append-nil}
use Prim.Native.Nat.{ℕ, zero, suc, ◌+◌, ◌-◌, ◌*◌, ◌≤◌, ◌<◌}
use native.Mathlib.Omega.{arith}
use native.Mathlib.Numerals.{add-one}
use lib.ListN.{length, drop, replicate, length-append, drop_of_length-le}
use lib.Seq.{sets, drop-cons}
use Rattle.rules.specs.Ranges.{at}
use Rattle.rules.specs.Header.{header_of, size_of, is_header}
use Rattle.rules.specs.Collection.{Filled, is_left, filler, fill_place, fill_page, fill_pages}
use Rattle.laws.specs.Headers.{Header, header_says, header_full, left_full}
use Rattle.laws.specs.Fills.{filled_of, page_after}
use Rattle.laws.specs.Safe.{SafeStep, SafeFill, SafeFills}
use Rattle.fillers.specs.Places.{LeftBy, Turns, turns_first, turns_none, turns_on}
use Rattle.fillers.specs.Code.{FilledAs}

-- ---- the places of a page, from address x to the page's end e, after n fillers

pub record Filling (base e : ℕ) (goal : Filled) (h : List ℕ) (n x : ℕ) : Type 0 where
  pub f : ℕ
  pub room : ℕ
  pub turns : Turns e x f room
  pub places : List ℕ
  pub many : length places ≡ n
  pub same : fill_page f x room (filled_of h places) ≡ goal
  pub safe : SafeFill f x room h
  pub within : x ≤ e
  pub few : base + n ≤ x

pub filling_begin : (base P : ℕ) (h : List ℕ) → SafeFill P base P h → Filling base (base + P) (fill_page P base P (filled_of h [])) h 0 base
filling_begin base P h safe = record { f = P; room = P; turns = turns_first base P; places = []; many = refl; same = refl; safe = safe; within = omega arith; few = omega arith }

module _ {base e : ℕ} {goal : Filled} {h : List ℕ} {n x : ℕ} (F : Filling base e goal h n x) where
  stop_go : (f r : ℕ) (s : Filled) → is_header (at s.heap x) r ≡ false → is_left (at s.heap x) r ≡ false → fill_page f x r s ≡ s
  unfolding fill_page
  stop_go zero r s a b = refl
  stop_go (suc f) r s a b = rw (a, b)

  pub filling_stop : is_header (at h x) (e - x) ≡ false → is_left (at h x) (e - x) ≡ false → FilledAs goal h n
  filling_stop a b =
      let q : goal ≡ filled_of h F.places = sym F.same ∙ stop_go F.f F.room (filled_of h F.places) (rw F.turns.place a) (rw F.turns.place b) in
      record { heap = rw q; places = rw q (sym F.many) }

  pub filling_past : e ≤ x → FilledAs goal h n
  filling_past p = let z : e - x ≡ 0 = omega arith in filling_stop (rw z (header_full (at h x))) (rw z (left_full (at h x)))

  module _ (p : x < e) where
    left_go : (f r : ℕ) → Turns e x f r → SafeFill f x r h → is_left (at h x) (e - x) ≡ true → SafeStep h (at h x) (e - x)
    unfolding SafeFill
    left_go zero r T S y = absurd (turns_none T p)
    left_go (suc f) r T S y = rw T.place at (S.1 (rw T.place y)).0

    pub filling_safe : is_left (at h x) (e - x) ≡ true → SafeStep h (at h x) (e - x)
    filling_safe = left_go F.f F.room F.turns F.safe

    -- a turn over an object
    object_go : (f r : ℕ) → Turns e x f r → fill_page f x r (filled_of h F.places) ≡ goal → SafeFill f x r h → is_header (at h x) (e - x) ≡ true
        → Filling base e goal h n (x + size_of (at h x)) × (1 ≤ size_of (at h x))
    unfolding fill_page SafeFill
    object_go zero r T q S y = absurd (turns_none T p)
    object_go (suc f) r T q S y =
        let y' : is_header (at h x) r ≡ true = rw T.place y in
        let H : Header (at h x) r = header_says _ _ y' in
        let some : 1 ≤ size_of (at h x) = omega (arith, H.shape) in (
          record {
            f = f;
            room = r - size_of (at h x);
            turns = turns_on T (size_of (at h x)) some;
            places = F.places;
            many = F.many;
            same = rw y' at q;
            safe = S.0 y';
            within = omega (arith, H.fits, T.place);
            few = omega (arith, F.few);
          },
          some,
        )

    pub filling_object : (m : ℕ) → is_header (at h x) (e - x) ≡ true → m ≡ size_of (at h x) → Filling base e goal h n (x + m) × (1 ≤ m)
    filling_object m y q = rw q (object_go F.f F.room F.turns F.same F.safe y)

    -- a turn over a place that an object of m words left
    place_go : (f r m : ℕ) → Turns e x f r → fill_page f x r (filled_of h F.places) ≡ goal → SafeFill f x r h → is_header (at h x) (e - x) ≡ false → LeftBy h (at h x) (e - x) m
        → Filling base e goal (sets h x (filler m)) (n + 1) (x + m)
    unfolding fill_page fill_place SafeFill
    place_go zero r m T q S y L = absurd (turns_none T p)
    place_go (suc f) r m T q S y L =
        let y' : is_header (at h x) r ≡ false = rw T.place y in
        let l : is_left (at h x) r ≡ true = rw T.place L.left in
        record {
          f = f;
          room = r - m;
          turns = turns_on T m L.some;
          places = F.places ++ (x ∷ []);
          many = simp length-append (omega (arith, F.many));
          same = rw L.size (rw (y', l) at q);
          safe = rw L.size (S.1 l).1;
          within = omega (arith, L.fits);
          few = omega (arith, F.few, L.some);
        }

    pub filling_place : (m : ℕ) → is_header (at h x) (e - x) ≡ false → LeftBy h (at h x) (e - x) m → (t : List ℕ) → t ≡ sets h x (header_of (m - 1) 0 ∷ replicate (m - 1) 0) → Filling base e goal t (n + 1) (x + m)
    unfolding filler
    filling_place m y L t q = rw q (place_go F.f F.room m F.turns F.same F.safe y L)

-- ---- the pages kept, from the i-th on, after n fillers

pub record Fillings (P : ℕ) (kept : List ℕ) (goal : Filled) (h : List ℕ) (n i : ℕ) : Type 0 where
  pub places : List ℕ
  pub many : length places ≡ n
  pub same : fill_pages P (drop i kept) (filled_of h places) ≡ goal
  pub safe : SafeFills P (drop i kept) h

module _ {P : ℕ} {kept : List ℕ} {goal : Filled} {h : List ℕ} {n i : ℕ} (F : Fillings P kept goal h n i) where
  pub fillings_end : length kept ≤ i → FilledAs goal h n
  unfolding fill_pages
  fillings_end p =
      let q : goal ≡ filled_of h F.places = sym F.same ∙ rw (drop_of_length-le kept {i = i} p) in
      record { heap = rw q; places = rw q (sym F.many) }

  module _ (p : i < length kept) where
    rest : drop i kept ≡ at kept i ∷ drop (i + 1) kept
    rest = drop-cons kept i 0 p ∙ rw (add-one i)

    pub fillings_safe : (at kept i * P + P ≤ length h) × SafeFill P (at kept i * P) P h
    unfolding SafeFills
    fillings_safe = let q = rw rest at F.safe in (q.0, q.1.0)

    pub fillings_turn : (h' : List ℕ) (r : ℕ) → FilledAs (fill_page P (at kept i * P) P (filled_of h [])) h' r → Fillings P kept goal h' (n + r) (i + 1)
    unfolding fill_pages SafeFills
    fillings_turn h' r A = record {
      places = F.places ++ (fill_page P (at kept i * P) P (filled_of h [])).places;
      many = simp length-append (omega (arith, F.many, A.places));
      same = rw (A.heap, ← (page_after P (at kept i * P) P h F.places []), append-nil) (rw rest at F.same);
      safe = rw A.heap (rw rest at F.safe).1.1;
    }
