-- Refusals: the number that each call gives, as the chain of its tests; and demand 1, that a refused call changes nothing and
-- answers zeros, but for 10. All of it holds of every memory, sound or not.
use Rattle.std.specs.Prelude.{◌≡◌, refl, ◌≢◌, Bool, true, false, cond, List, ℕ, ◌-◌, ltb}
use Rattle.std.proofs.Common.{ap, ◌∙◌, arith, ne_eqb}
use Rattle.std.proofs.Math.Decide.{ℕ_discrete}
use Rattle.rules.specs.declared.Found.{Found}
use Rattle.rules.specs.declared.Found.TheVariants.{Start, Inside, Nothing}
use Rattle.rules.specs.Ranges.{at}
use Rattle.rules.specs.Header.{size_of}
use Rattle.rules.specs.Pages.{page_at_start}
use Rattle.rules.specs.Lent.{Lent, is_laid, is_valid}
use Rattle.rules.specs.Walk.{found}
use Rattle.rules.specs.Calls.{Outcome, refused, inside, accepted, start, good_shape, fits_open, may_take, allocate, told, look_up, on_start, load, may_store, store}
use Rattle.rules.specs.Collect.{refusal_of_collect, refused_collect, collect}
use Rattle.rules.specs.Demands.{Same, SameAt, SameCollected}
use Rattle.laws.specs.LookUp.{found_object}
use Rattle.laws.specs.Landed.{found_inside}
use Rattle.laws.specs.Collect.{collect_refusal}

-- what holds where a test passes, and where it does not, holds
pub by_test : {A : Type 0} (Q : A → Type 0) (b : Bool) (x y : A) → (b ≡ true → Q x) → (b ≡ false → Q y) → Q (cond b x y)
by_test Q true x y f g = f refl
by_test Q false x y f g = g refl

-- what an accepted call gives and a refused one too, every call gives
pub by_refusal : {Q : Type 0} (o : Outcome) → (o.refusal ≡ 0 → Q) → (o.refusal ≢ 0 → Q) → Q
by_refusal {Q} o f g = go (ℕ_discrete o.refusal 0)
  where
    go : Dec (o.refusal ≡ 0) → Q
    go (yes e) = f e
    go (no n) = g n

-- what holds of each case of what is found at an address, an object start, the inside of an object or nothing, holds
pub by_found : (Q : Outcome → Type 0) (m : Lent) (a : ℕ) (f : Found) (go : ℕ → Outcome)
    → ((w : ℕ) → f ≡ Start w → Q (go w)) → ((s : ℕ) → f ≡ Inside s → Q (inside s m)) → Q (refused 4 m) → Q (on_start f a m go)
by_found Q m a (Start w) go start within none = start w refl
by_found Q m a (Inside s) go start within none = within s refl
by_found Q m a Nothing go start within none = none

-- look-up, as a call that goes on from an object start and answers it
pub look_up_on : (m : Lent) (a : ℕ) (f : Found) → told f a m ≡ on_start f a m (λ w. accepted a m)
look_up_on m a (Start w) = refl
look_up_on m a (Inside s) = refl
look_up_on m a Nothing = refl

-- ---- the numbers

-- where the test b passes the refusal is i, and where it does not, j
cond_refusal : (b : Bool) (x y : Outcome) {i j : ℕ} → x.refusal ≡ i → y.refusal ≡ j → (cond b x y).refusal ≡ cond b i j
cond_refusal true x y p q = p
cond_refusal false x y p q = q

pub start_refusal : (m : Lent) (P T : ℕ) → (start m P T).refusal ≡ cond (is_laid m (page_at_start P) T) 0 1
unfolding start accepted refused
start_refusal m P T = cond_refusal (is_laid m (page_at_start P) T) _ _ refl refl

pub allocate_refusal : (m : Lent) (d p : ℕ) → (allocate m d p).refusal
    ≡ cond (is_valid m) (cond (good_shape m d p) (cond (fits_open m d) 0 (cond (may_take m) 0 3)) 2) 1
unfolding allocate accepted refused
allocate_refusal m d p =
    cond_refusal (is_valid m) _ _ (cond_refusal (good_shape m d p) _ _ (cond_refusal (fits_open m d) _ _ refl (cond_refusal (may_take m) _ _ refl refl)) refl) refl

-- the number where this is found at an address; n where it is an object start
abbrev pub number_at : Found → ℕ → ℕ
number_at (Start w) n = n
number_at (Inside s) n = 10
number_at Nothing n = 4

on_start_refusal : (m : Lent) (a : ℕ) (go : ℕ → Outcome) {n : ℕ} → (go (at m.heap a)).refusal ≡ n → (on_start (found m a) a m go).refusal ≡ number_at (found m a) n
unfolding refused inside
on_start_refusal m a go {n} q = by (found m a) refl
  where
    by : (f : Found) → found m a ≡ f → (on_start f a m go).refusal ≡ number_at f n
    by (Start w) e = ap (λ (w : ℕ). (go w).refusal) (found_object m a w e).1 ∙ q
    by (Inside s) e = refl
    by Nothing e = refl

pub look_up_refusal : (m : Lent) (a : ℕ) → (look_up m a).refusal ≡ cond (is_valid m) (number_at (found m a) 0) 1
unfolding look_up accepted refused
look_up_refusal m a = rw (look_up_on m a (found m a)) (cond_refusal (is_valid m) _ _ (on_start_refusal m a _ refl) refl)

pub load_refusal : (m : Lent) (a i : ℕ) → (load m a i).refusal
    ≡ cond (is_valid m) (number_at (found m a) (cond (ltb i (size_of (at m.heap a) - 1)) 0 5)) 1
unfolding load accepted refused
load_refusal m a i =
    cond_refusal (is_valid m) _ _ (on_start_refusal m a _ (cond_refusal (ltb i (size_of (at m.heap a) - 1)) _ _ refl refl)) refl

pub store_refusal : (m : Lent) (a i v : ℕ) → (store m a i v).refusal
    ≡ cond (is_valid m) (number_at (found m a) (cond (ltb i (size_of (at m.heap a) - 1)) (cond (may_store m (at m.heap a) i v) 0 6) 5)) 1
unfolding store accepted refused
store_refusal m a i v =
    cond_refusal (is_valid m) _ _
    (on_start_refusal m a _ (cond_refusal (ltb i (size_of (at m.heap a) - 1)) _ _ (cond_refusal (may_store m (at m.heap a) i v) _ _ refl refl) refl)) refl

-- ---- a refused call changes nothing

abbrev pub RefusedSame : Lent → Outcome → Type 0
RefusedSame m o = o.refusal ≢ 0 → Same m o

refused_so : (e : ℕ) (m : Lent) → RefusedSame m (refused e m)
unfolding refused
refused_so e m n = record { lent = refl; value = refl }

accepted_so : (m : Lent) (v : ℕ) (m' : Lent) → RefusedSame m (accepted v m')
unfolding accepted
accepted_so m v m' n = absurd (n refl)

pub start_refused : (m : Lent) (P T : ℕ) → RefusedSame m (start m P T)
unfolding start
start_refused m P T = by_test (RefusedSame m) (is_laid m (page_at_start P) T) _ _ (λ e. accepted_so m _ _) (λ e. refused_so 1 m)

pub allocate_refused : (m : Lent) (d p : ℕ) → RefusedSame m (allocate m d p)
unfolding allocate
allocate_refused m d p =
    by_test (RefusedSame m) (is_valid m) _ _ (λ valid.
    by_test (RefusedSame m) (good_shape m d p) _ _ (λ shape.
    by_test (RefusedSame m) (fits_open m d) _ _ (λ fits. accepted_so m _ _) (λ full.
    by_test (RefusedSame m) (may_take m) _ _ (λ room. accepted_so m _ _)
    (λ e. refused_so 3 m))) (λ e. refused_so 2 m)) (λ e. refused_so 1 m)

-- a call with address a
abbrev pub RefusedAt : Lent → ℕ → Outcome → Type 0
RefusedAt m a o = o.refusal ≢ 0 → SameAt m a o

module _ (m : Lent) (a : ℕ) where
  refused_at : (e : ℕ) → e ≢ 10 → RefusedAt m a (refused e m)
  unfolding refused
  refused_at e k n = record { lent = refl; value = λ _. refl; inside = λ z. absurd (k z) }

  inside_at : (s : ℕ) → found m a ≡ Inside s → RefusedAt m a (inside s m)
  unfolding inside
  inside_at s f n = record { lent = refl; value = λ k. absurd (k refl); inside = λ _. found_inside m a s f }

  accepted_at : (v : ℕ) (m' : Lent) → RefusedAt m a (accepted v m')
  unfolding accepted
  accepted_at v m' n = absurd (n refl)

  -- look-up, load and store: what follows from an object start is all that differs
  on_start_refused : (go : ℕ → Outcome) → ((w : ℕ) → RefusedAt m a (go w)) → RefusedAt m a (cond (is_valid m) (on_start (found m a) a m go) (refused 1 m))
  on_start_refused go so =
      by_test (RefusedAt m a) (is_valid m) _ _
      (λ valid. by_found (RefusedAt m a) m a (found m a) go (λ w f. so w) inside_at (refused_at 4 (omega arith)))
      (λ e. refused_at 1 (omega arith))

  pub look_up_refused : RefusedAt m a (look_up m a)
  unfolding look_up
  look_up_refused = rw (look_up_on m a (found m a)) (on_start_refused _ (λ w. accepted_at a m))

  pub load_refused : (i : ℕ) → RefusedAt m a (load m a i)
  unfolding load
  load_refused i =
      on_start_refused _ (λ w. by_test (RefusedAt m a) (ltb i (size_of w - 1)) _ _ (λ index. accepted_at _ _) (λ e. refused_at 5 (omega arith)))

  pub store_refused : (i v : ℕ) → RefusedAt m a (store m a i v)
  unfolding store
  store_refused i v =
      on_start_refused _ (λ w.
      by_test (RefusedAt m a) (ltb i (size_of w - 1)) _ _ (λ index.
      by_test (RefusedAt m a) (may_store m w i v) _ _ (λ value. accepted_at _ _) (λ e. refused_at 6 (omega arith))) (λ e. refused_at 5 (omega arith)))

-- collect's six counts are zeros, and the root cells stay
pub collect_refused : (m : Lent) (roots hints : List ℕ) → (collect m roots hints).refusal ≢ 0 → SameCollected m roots (collect m roots hints)
unfolding collect refused_collect
collect_refused m roots hints n =
    rw (ne_eqb (refusal_of_collect m roots) 0 (λ e. n (collect_refusal m roots hints ∙ e)))
    (record { lent = refl; roots = refl; hinted = refl; taken = refl; objects = refl; words = refl; kept = refl; fillers = refl })
