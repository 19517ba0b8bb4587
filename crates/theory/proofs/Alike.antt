-- Two worlds whose objects are paired, headers and references agreeing; and two runs over them in step: each retained object has its
-- partner retained by the other run, at the same place of a page that joined its queue at the same turn. Nothing is said of heaps: what
-- they hold follows from each run's own invariant.
use Rattle.std.specs.Prelude.{◌≡◌, refl, ◌⊎◌, Bool, true, false, cond, ℕ, ◌+◌, ◌%◌, ◌≤◌, ◌<◌, leb, length}
use Rattle.std.proofs.Common.{sym, ap, ◌∙◌, subst, inl, inr, le_trans, arith, length-append}
use Rattle.std.proofs.Math.Nat.{mul-add-mod_self_right}
use Rattle.rules.specs.Ranges.{at}
use Rattle.rules.specs.Header.{size_of, refs_of}
use Rattle.rules.specs.Collection.{Pages, State, take_page, with_room, top, put, keep_page}
use Rattle.rules.specs.Demands.{Becomes}
use Rattle.theory.specs.World.{page_of, size_at, refs_at, World, Kept, Inv}
use Rattle.theory.specs.Forward.{Due, due_not_kept, Avail, room_for, copied, keeping, How, idle, copies, keeps}
use Rattle.theory.proofs.Good.{Good, Grow, copy_last, copy_kept, copy_split, how_grow}

-- `Pair x y` says that x of the one world is y of the other
pub record Alike (W Z : World) (Pair : ℕ → ℕ → Type 0) : Type 0 where
  pub page : Z.plan.page ≡ W.plan.page
  pub first : (x y : ℕ) → Pair x y → W.Obj x
  pub second : (x y : ℕ) → Pair x y → Z.Obj y
  pub once : (x y z : ℕ) → Pair x y → Pair x z → y ≡ z
  pub back : (x y z : ℕ) → Pair x z → Pair y z → x ≡ y
  pub headers : (x y : ℕ) → Pair x y → at Z.heap y ≡ at W.heap x
  pub references : (x y i : ℕ) → Pair x y → 0 < i → i ≤ refs_at W x → Becomes Pair (at W.heap (x + i)) (at Z.heap (y + i))

-- so sizes and numbers of references agree
module _ (W Z : World) (Pair : ℕ → ℕ → Type 0) (A : Alike W Z Pair) (x y : ℕ) (p : Pair x y) where
  pub size_same : size_at Z y ≡ size_at W x
  size_same = ap size_of (A.headers x y p)

  pub refs_same : refs_at Z y ≡ refs_at W x
  refs_same = ap refs_of (A.headers x y p)

-- places a and b of the two runs: the same place, on pages that joined at the same turn
pub record Twin (W Z : World) (s u : State) (a b : ℕ) : Type 0 where
  pub turn : ℕ
  pub within : turn < length s.pages.queue
  pub here : at s.pages.queue turn ≡ page_of W a
  pub there : at u.pages.queue turn ≡ page_of Z b
  pub place : b % Z.plan.page ≡ a % W.plan.page

-- the partner of x, which is retained at a: y, which the other run has retained at b
pub record Partner (W Z : World) (Pair : ℕ → ℕ → Type 0) (s u : State) (x a : ℕ) : Type 0 where
  pub y : ℕ
  pub b : ℕ
  pub pair : Pair x y
  pub kept : Kept Z u y b
  pub twin : Twin W Z s u a b

-- the pairing the other way round
abbrev pub Turned : (ℕ → ℕ → Type 0) → ℕ → ℕ → Type 0
Turned Pair y x = Pair x y

pub record InStep (W Z : World) (Pair : ℕ → ℕ → Type 0) (s u : State) : Type 0 where
  pub fill : u.pages.fill ≡ s.pages.fill
  pub turns : length u.pages.queue ≡ length s.pages.queue
  pub objects : u.objects ≡ s.objects
  pub words : u.words ≡ s.words
  pub first : (x a : ℕ) → Kept W s x a → Partner W Z Pair s u x a
  pub second : (y b : ℕ) → Kept Z u y b → Partner Z W (Turned Pair) u s y b

-- ---- all of it turns round

becomes_turned : (Pair : ℕ → ℕ → Type 0) (v f : ℕ) → Becomes Pair v f → Becomes (Turned Pair) f v
becomes_turned Pair v f (inl (a, b)) = inl (b, a)
becomes_turned Pair v f (inr p) = inr p

pub turned : (W Z : World) (Pair : ℕ → ℕ → Type 0) → Alike W Z Pair → Alike Z W (Turned Pair)
turned W Z Pair A = record {
  page = sym A.page;
  first = λ y x p. A.second x y p;
  second = λ y x p. A.first x y p;
  once = λ y x z p q. A.back x z y p q;
  back = λ y z x p q. A.once x y z p q;
  headers = λ y x p. sym (A.headers x y p);
  references = λ y x i p low high. becomes_turned Pair _ _ (A.references x y i p low (rw (refs_same W Z Pair A x y p) at high));
}

pub step_turned : (W Z : World) (Pair : ℕ → ℕ → Type 0) (s u : State) → InStep W Z Pair s u → InStep Z W (Turned Pair) u s
step_turned W Z Pair s u S = record {
  fill = sym S.fill;
  turns = sym S.turns;
  objects = sym S.objects;
  words = sym S.words;
  first = S.second;
  second = S.first;
}

-- ---- a partner stays one

module _ (W Z : World) (Pair : ℕ → ℕ → Type 0) (s u t v : State) (A : Grow W s t) (B : Grow Z u v) (turns : length u.pages.queue ≡ length s.pages.queue) where
  pub partner_stays : (x a : ℕ) → Partner W Z Pair s u x a → Partner W Z Pair t v x a
  partner_stays x a P = record {
    y = P.y;
    b = P.b;
    pair = P.pair;
    kept = B.kept P.y P.b P.kept;
    twin = record {
      turn = T.turn;
      within = le_trans T.within A.longer;
      here = A.prefix T.turn T.within ∙ T.here;
      there = B.prefix T.turn (omega (arith, T.within)) ∙ T.there;
      place = T.place;
    };
  }
    where
      T : Twin W Z s u a P.b
      T = P.twin

-- ---- an object that both copy

-- room for it is made alike
record Rooms (p q : Pages) : Type 0 where
  fill : q.fill ≡ p.fill
  turns : length q.queue ≡ length p.queue

rooms : (W Z : World) → Z.plan.page ≡ W.plan.page → (p q : Pages) → Rooms p q → (n : ℕ) → Rooms (with_room W.plan n p) (with_room Z.plan n q)
unfolding with_room take_page
rooms W Z page p q R n = subst (λ (b : Bool). Rooms (with_room W.plan n p) (cond b q (take_page Z.plan q))) same (go (leb (p.fill + n) W.plan.page))
  where
    same : leb (p.fill + n) W.plan.page ≡ leb (q.fill + n) Z.plan.page
    same = ap (λ (f : ℕ). leb (f + n) W.plan.page) (sym R.fill) ∙ ap (leb (q.fill + n)) (sym page)

    go : (b : Bool) → Rooms (cond b p (take_page W.plan p)) (cond b q (take_page Z.plan q))
    go true = R
    go false = record { fill = refl; turns = length-append q.queue _ ∙ ap (λ (n : ℕ). n + 1) R.turns ∙ sym (length-append p.queue _) }

-- x and y, a pair, copied
module _ (W Z : World) (Pair : ℕ → ℕ → Type 0) (A : Alike W Z Pair) (s u : State) (G : Good W s) (H : Good Z u) (S : InStep W Z Pair s u)
    (x y : ℕ) (p : Pair x y) (D : Due W s x) (a : Avail W s (size_at W x)) (E : Due Z u y) (e : Avail Z u (size_at Z y)) where
  R : Rooms (room_for W s x).pages (room_for Z u y).pages
  R = rw (size_same W Z Pair A x y p) (rooms W Z A.page s.pages u.pages (record { fill = S.fill; turns = S.turns }) (size_at W x))

  abbrev s' : State
  s' = copied W s x

  abbrev u' : State
  u' = copied Z u y

  -- where the two copies are
  abbrev to : ℕ
  to = top W.plan (room_for W s x).pages

  abbrev to' : ℕ
  to' = top Z.plan (room_for Z u y).pages

  turns_same : length u'.pages.queue ≡ length s'.pages.queue
  unfolding put
  turns_same = R.turns

  place_same : to' % Z.plan.page ≡ to % W.plan.page
  unfolding top
  place_same =
      mul-add-mod_self_right (room_for Z u y).pages.copy Z.plan.page (room_for Z u y).pages.fill
      ∙ rw (R.fill, A.page) (sym (mul-add-mod_self_right (room_for W s x).pages.copy W.plan.page (room_for W s x).pages.fill))

  -- twins, on the last pages of the queues
  twins : Twin W Z s' u' to to'
  twins =
      let (l, len, here) = copy_last W s G x D a in
      let (k, len', there) = copy_last Z u H y E e in
      let same : l ≡ k = omega (arith, turns_same) in
      record { turn = l; within = omega arith; here = here; there = ap (at u'.pages.queue) same ∙ there; place = place_same }

  copy_partner : (z b : ℕ) → Kept W s' z b → Partner W Z Pair s' u' z b
  copy_partner z b k = go (copy_split W s G x D a z b k)
    where
      here : Partner W Z Pair s' u' x to
      here = record { y = y; b = to'; pair = p; kept = copy_kept Z u H y E e; twin = twins }

      go : Kept W s z b ⊎ ((z ≡ x) × (b ≡ to)) → Partner W Z Pair s' u' z b
      go (inl k) =
          partner_stays W Z Pair s u s' u' (how_grow W s x s' G (copies D a refl)) (how_grow Z u y u' H (copies E e refl)) S.turns z b (S.first z b k)
      go (inr (ez, eb)) = rw (ez, eb) here

copy_step : (W Z : World) (Pair : ℕ → ℕ → Type 0) (A : Alike W Z Pair) (s u : State) (G : Good W s) (H : Good Z u) (S : InStep W Z Pair s u)
    (x y : ℕ) (p : Pair x y) (D : Due W s x) (a : Avail W s (size_at W x)) (E : Due Z u y) (e : Avail Z u (size_at Z y)) → InStep W Z Pair (copied W s x) (copied Z u y)
unfolding put
copy_step W Z Pair A s u G H S x y p D a E e = record {
  fill = omega (arith, (R W Z Pair A s u G H S x y p D a E e).fill, size_same W Z Pair A x y p);
  turns = turns_same W Z Pair A s u G H S x y p D a E e;
  objects = ap (λ (n : ℕ). n + 1) S.objects;
  words = omega (arith, S.words, size_same W Z Pair A x y p);
  first = copy_partner W Z Pair A s u G H S x y p D a E e;
  second = copy_partner Z W (Turned Pair) (turned W Z Pair A) u s H G (step_turned W Z Pair s u S) y x p E e D a;
}

-- ---- forwarding

-- what the one run has retained, or is 0, is not due to be copied by the other
not_due : (W Z : World) (Pair : ℕ → ℕ → Type 0) (A : Alike W Z Pair) (s u : State) → Inv Z u → InStep W Z Pair s u
    → (v f w : ℕ) → Becomes Pair v f → Becomes (Kept W s) v w → Due Z u f → ⊥
not_due W Z Pair A s u J S v f w (inl (a, b)) k D = Z.nonzero f D.object b
not_due W Z Pair A s u J S v f w (inr p) (inl (a, b)) D = W.nonzero v (A.first v f p) a
not_due W Z Pair A s u J S v f w (inr p) (inr k) D =
    let P = S.first v w k in
    due_not_kept Z u J f P.b D (subst (λ (y : ℕ). Kept Z u y P.b) (A.once v P.y f P.pair p) P.kept)

keeping_some : (W : World) (s : State) (v : ℕ) (t : State) → t ≡ keeping W s v → t.pages.kept ≡ 0 → ⊥
unfolding keep_page
keeping_some W s v t e z = let k : t.pages.kept ≡ s.pages.kept + 1 = ap (λ (r : State). r.pages.kept) e in omega arith

-- v forwarded by the one run, its partner f by the other
module _ (W Z : World) (Pair : ℕ → ℕ → Type 0) (A : Alike W Z Pair) (s u : State) (G : Good W s) (H : Good Z u) (S : InStep W Z Pair s u)
    (v f : ℕ) (P : Becomes Pair v f) (t r : State) (none : t.pages.kept ≡ 0) (none' : r.pages.kept ≡ 0) where
  pub how_step : How W s v t → How Z u f r → InStep W Z Pair t r
  how_step (keeps D cant e) j = absurd (keeping_some W s v t e none)
  how_step (idle a k e) (idle b l e') = rw (e, e') S
  how_step (idle a k e) (copies D av e') = absurd (not_due W Z Pair A s u H.inv S v f a P k D)
  how_step (idle a k e) (keeps D cant e') = absurd (keeping_some Z u f r e' none')
  how_step (copies D av e) (keeps D' cant e') = absurd (keeping_some Z u f r e' none')
  how_step (copies D av e) (idle b l e') = absurd (not_due Z W (Turned Pair) (turned W Z Pair A) u s G.inv (step_turned W Z Pair s u S) f v b (becomes_turned Pair v f P) l D)
  how_step (copies D av e) (copies D' av' e') = rw (e, e') (both P)
    where
      both : Becomes Pair v f → InStep W Z Pair (copied W s v) (copied Z u f)
      both (inl (z, w)) = absurd (W.nonzero v D.object z)
      both (inr p) = copy_step W Z Pair A s u G H S v f p D av D' av'
