-- Laws of one step: what a call's outcome makes of the session, and a start. Assumes nothing.
use Rattle.std.proofs.Common.{◌≡◌, Bool, cond, ℕ, ◌*◌, ◌<◌, ◌≤◌, true, false, eqb, ◌≢◌, List, length, set, sym, refl, ap, ◌∙◌, mul-le-mul_left, arith, eq-eqb, ne_eqb, le-leb}
use lib.ListN.{length-replicate}
use borrow.Author.Tests.{eqb-false, lt-leb}
use Rattle.entries.specs.declared.Step.{Step}
use Rattle.entries.specs.Entries.{is_allowed}
use Rattle.rules.specs.declared.Record.{Record}
use Rattle.rules.specs.Tests.{and_is}
use Rattle.rules.specs.Pages.{is_shape, page_at_start}
use Rattle.rules.specs.Lent.{Lent, is_laid_out, is_laid, is_valid}
use Rattle.rules.specs.Calls as calls
use Rattle.rules.specs.Calls.{Outcome, start, started, allocate, look_up, load, store}
use Rattle.rules.specs.Collect.{CollectOutcome, refusal_of_collect, collect}
use Rattle.rules.specs.Ranges.{each}
use Rattle.rules.specs.Walk.{is_reference}
use Rattle.rules.specs.Sound.{is_sound}
use Rattle.answers.specs.declared.Refusal.{Refusal}
use Rattle.answers.specs.declared.Refusal.TheVariants.{Layout, Shape, CollectFirst, NothingThere, Index, BadReference, Unsound, BadEntry, Inside}
use Rattle.answers.specs.Answers.{number, value}
use Rattle.laws.specs.Pages.{shape_says}
use Rattle.kept.specs.Refusals.{by_test, allocate_refused, store_refused, collect_refused}
use Rattle.laws.specs.Collect.{collect_refusal}
use Rattle.kept.specs.Store.{look_up_same, load_same}
use Rattle.rules.specs.Ranges.{at}
use Rattle.entries.specs.declared.Operand.{Operand}
use Rattle.entries.specs.declared.Step.TheVariants.{Start, Allocate, Store, Load, Collect, LookUp}
use Rattle.steps.specs.Session.{Session, Stepped, cells, holding, accepted, refused, passed, called, blank, placed, operand_of, root_plus, perform, step}

-- ---- a call

abbrev replying : ℕ → ℕ → Session → Stepped
replying e v t = record { refusal = e; value = v; session = t }

abbrev answered : Session → Outcome → List ℕ → Stepped
answered s o roots = replying o.refusal o.value (holding s o.lent roots)

-- what a call leaves is passed on: always if it was accepted, and else where it left the session as it was
passed_is : (s : Session) (e v : ℕ) (t : Session) → (e ≢ 0 → s ≡ t) → passed s e v t ≡ replying e v t
unfolding passed
passed_is s e v t same = by_test (λ (u : Session). replying e v u ≡ replying e v t) (eqb e 0) t s (λ z. refl) (λ n. ap (replying e v) (same (eqb-false e 0 n)))

-- a refused call left the memory as it was, and the root cells stay too
called_kept : (s : Session) (o : Outcome) → (o.refusal ≢ 0 → o.lent ≡ s.lent) → answered s o s.roots ≡ called s o s.roots
called_kept s o same = sym (passed_is s o.refusal o.value (holding s o.lent s.roots) (λ n. ap (λ (m : Lent). holding s m s.roots) (sym (same n))))

-- ---- calls that change no memory

-- an outcome with the memory that it leaves, where that is m
leaves : (m : Lent) (o : Outcome) → o.lent ≡ m → record { refusal = o.refusal; value = o.value; lent = m } ≡ o
leaves m o e = rw (sym e)

pub loaded_by : (m : Lent) (a i : ℕ) (o : Outcome) → o ≡ load m a i → record { refusal = o.refusal; value = o.value; lent = m } ≡ load m a i
loaded_by m a i o e = rw e (leaves m (load m a i) (load_same m a i))

pub looked_up_by : (m : Lent) (a : ℕ) (o : Outcome) → o ≡ look_up m a → record { refusal = o.refusal; value = o.value; lent = m } ≡ look_up m a
looked_up_by m a o e = rw e (leaves m (look_up m a) (look_up_same m a))

-- ---- each operation that calls, from the outcome of its call

pub allocated : (s : Session) (x d p : ℕ) (o : Outcome) → o ≡ allocate s.lent d p → o.refusal ≡ 0
    → answered s o (set s.roots x o.value) ≡ perform s (Allocate x d p)
unfolding perform
allocated s x d p o e z = sym (passed_is s o.refusal _ _ (λ n. absurd (n z))) ∙ ap (λ (w : Outcome). placed s x w) e

pub not_allocated : (s : Session) (x d p : ℕ) (o : Outcome) → o ≡ allocate s.lent d p → o.refusal ≢ 0
    → answered s o s.roots ≡ perform s (Allocate x d p)
unfolding perform passed
not_allocated s x d p o e n = rw (sym e, ne_eqb o.refusal 0 n, ((rw (sym e) at (allocate_refused s.lent d p)) n).lent)

pub stored : (s : Session) (x i : ℕ) (operand : Operand) (o : Outcome)
    → o ≡ store s.lent (at s.roots x) i (operand_of s.roots operand) → answered s o s.roots ≡ perform s (Store x i operand)
unfolding perform
stored s x i operand o e = rw e (called_kept s _ (λ n. (store_refused s.lent (at s.roots x) i (operand_of s.roots operand) n).lent))

pub loaded : (s : Session) (x i : ℕ) (o : Outcome) → o ≡ load s.lent (at s.roots x) i → answered s o s.roots ≡ perform s (Load x i)
unfolding perform
loaded s x i o e = rw e (called_kept s _ (λ n. load_same s.lent (at s.roots x) i))

pub looked_up : (s : Session) (x v : ℕ) (o : Outcome) → o ≡ look_up s.lent (root_plus s.roots x v) → answered s o s.roots ≡ perform s (LookUp x v)
unfolding perform
looked_up s x v o e = rw e (called_kept s _ (λ n. look_up_same s.lent (root_plus s.roots x v)))

pub gathers : (s : Session) (o : CollectOutcome) → o ≡ collect s.lent s.roots s.hints
    → replying o.refusal o.words (holding s o.lent o.roots) ≡ perform s Collect
unfolding perform
gathers s o e = rw e (sym (passed_is s _ _ _ (λ n. let k = collect_refused s.lent s.roots s.hints n in rw (k.lent, k.roots) refl)))

-- ---- refusals of the code

valueless : (e : Refusal) → number e ≢ 10 → value e ≡ 0
valueless Layout h = refl
valueless Shape h = refl
valueless CollectFirst h = refl
valueless NothingThere h = refl
valueless Index h = refl
valueless BadReference h = refl
valueless Unsound h = refl
valueless BadEntry h = refl
valueless (Inside a) h = absurd (h refl)

-- no collection is refused 10
not_10 : (m : Lent) (roots : List ℕ) → refusal_of_collect m roots ≢ 10
unfolding refusal_of_collect
not_10 m roots = by (is_valid m) (is_sound m) (each (is_reference m) roots)
  where
    by : (a b c : Bool) → let e : ℕ = cond a (cond b (cond c 0 6) 7) 1 in e ≢ 10
    by false b c h = omega arith
    by true false c h = omega arith
    by true true false h = omega arith
    by true true true h = omega arith

-- what a refused collection gives, and the session that it leaves
pub gathers_not : (s : Session) (o : CollectOutcome) (e : Refusal) → o ≡ collect s.lent s.roots s.hints → o.refusal ≡ number e → o.words ≡ 0
    → replying (number e) (value e) (holding s o.lent o.roots) ≡ perform s Collect
gathers_not s o e is number_is words =
    let n : number e ≢ 10 = λ h. not_10 s.lent s.roots (sym (collect_refusal s.lent s.roots s.hints) ∙ ap (λ (w : CollectOutcome). w.refusal) (sym is) ∙ number_is ∙ h) in
    rw (valueless e n, ← words, ← number_is) (gathers s o is)

-- ---- a start

-- memory of the size that P and T ask for
laid : (m : Lent) (P T : ℕ) → is_shape P T ≡ true → length m.heap ≡ T * P → length m.labels ≡ T → length m.links ≡ T
    → is_laid m P T ≡ true
unfolding is_laid_out
laid m P T h a b c = and_is h (and_is (eq-eqb _ _ a) (and_is (eq-eqb _ _ b) (eq-eqb _ _ c)))

blank_laid : (P T : ℕ) (r : Record) → is_shape P T ≡ true → is_laid (blank P T r) P T ≡ true
unfolding blank
blank_laid P T r h = laid (blank P T r) P T h (length-replicate (T * P) 0) (length-replicate T 0) (length-replicate T 0)

-- an accepted start leaves the same, whatever the memory held
fresh : (m : Lent) (P T : ℕ) → is_laid m (page_at_start P) T ≡ true → start m P T ≡ calls.accepted 0 (started m (page_at_start P) T)
unfolding start
fresh m P T h = rw h

shapeless : (m : Lent) (P T : ℕ) → is_shape (page_at_start P) T ≡ false → start m P T ≡ calls.refused 1 m
unfolding start is_laid_out
shapeless m P T h = rw h

-- `Q` is P as the code has it
module _ (s : Session) (P T Q : ℕ) (size : Q ≡ page_at_start P) where
  pub start_refused_1 : is_shape Q T ≡ false → refused 1 s ≡ perform s (Start P T)
  unfolding perform calls.refused
  start_refused_1 h = rw (shapeless (blank (page_at_start P) T s.lent.rec) P T (rw size at h))

  pub start_refused_9 : is_shape Q T ≡ true → 8192 < T * Q → refused 9 s ≡ perform s (Start P T)
  unfolding perform calls.accepted
  start_refused_9 h l =
      rw (fresh (blank (page_at_start P) T s.lent.rec) P T (blank_laid (page_at_start P) T s.lent.rec (rw size at h)), lt-leb (T * page_at_start P) 8192 (rw size at l))

  -- and of memory that has the lengths no start is refused; `o` is what the call said of memory m
  pub start_goes : (m : Lent) (o : Outcome) → o ≡ start m P T → is_shape Q T ≡ true → length m.heap ≡ T * Q → length m.labels ≡ T → length m.links ≡ T → o.refusal ≡ 0
  unfolding calls.accepted
  start_goes m o e h a b c =
      ap (λ (x : Outcome). x.refusal) (e ∙ fresh m P T (laid m (page_at_start P) T (rw size at h) (a ∙ ap (λ (q : ℕ). T * q) size) b c))

  pub start_accepted : (m : Lent) (o : Outcome) → o ≡ start m P T → is_shape Q T ≡ true → T * Q ≤ 8192
      → length m.heap ≡ T * Q → length m.labels ≡ T → length m.links ≡ T
      → accepted 0 (record { begun = true; lent = o.lent; roots = cells; hints = cells }) ≡ perform s (Start P T)
  unfolding perform calls.accepted blank
  start_accepted m o e h l a b c =
      let R = page_at_start P in
      let n = blank R T s.lent.rec in
      let a' : length m.heap ≡ T * R = a ∙ ap (λ (q : ℕ). T * q) size in
      rw (e, fresh m P T (laid m R T (rw size at h) a' b c), fresh n P T (blank_laid R T s.lent.rec (rw size at h)), le-leb (T * R) 8192 (rw size at l), a', b, c) (simp length-replicate)

-- pages of 8 words or more that 8,192 words hold
pub few_pages : (P T : ℕ) → is_shape P T ≡ true → T * P ≤ 8192 → T ≤ 1024
few_pages P T h l = omega (arith, mul-le-mul_left T (shape_says P T h).page_low)

-- ---- refusal 9, at once or not

-- `allowed` is what the code found out of session s
module _ (s : Session) (t : Step) {allowed : Bool} (found : allowed ≡ is_allowed s.begun t) where
  pub stops : allowed ≡ false → refused 9 s ≡ step s t
  unfolding step
  stops h = rw (← found, h)

  pub goes : allowed ≡ true → perform s t ≡ step s t
  unfolding step
  goes h = rw (← found, h)
