-- The heap of a session is sound after every record, accepted or refused. So no record is refused 7; and by Q-6 none is refused 8.
use Rattle.std.specs.Prelude.{◌≡◌, ℕ, ◌-◌, ◌*◌, Bool, true, false, cond, ◌≢◌, List, ◌==◌, nat_le, nat_lt, refl}
use Rattle.std.proofs.lemmas.Bool.{eqb-false}
use Rattle.rules.specs.Ranges.{at}
use Rattle.rules.specs.Tests.{and_left}
use Rattle.rules.specs.Pages.{page_at_start}
use Rattle.rules.specs.Header.{size_of}
use Rattle.rules.specs.Lent.{Lent, is_laid, is_valid}
use Rattle.rules.specs.declared.Found.{Found}
use Rattle.rules.specs.declared.Found.TheVariants as there
use Rattle.rules.specs.Walk.{found}
use Rattle.rules.specs.Sound.{Sound}
use Rattle.rules.specs.Calls.{Outcome, start, good_shape, fits_open, may_take, allocate, look_up, load, may_store, store}
use Rattle.kept.specs.Refusals.{by_test, number_at, start_refusal, allocate_refusal, look_up_refusal, load_refusal, store_refusal}
use Rattle.entries.specs.declared.Step.{Step}
use Rattle.entries.specs.declared.Step.TheVariants.{Start, Allocate, Store, Load, Hint, Clear, Collect, LookUp, Bad}
use Rattle.entries.specs.Entries.{is_allowed}
use Rattle.steps.specs.Session.{Session, Stepped, before, refused, accepted, passed, blank, begin, operand_of, root_plus, perform, step}
use Rattle.steps.proofs.Ready.{IsReady, played, session_ready}
use Rattle.steps.proofs.Collects.{perform_collects}

pub session_sound : (ts : List Step) → (played before ts).begun ≡ true → Sound (played before ts).lent
session_sound ts b = (session_ready ts b).sound

-- ---- no record is refused 7 or 8

abbrev pub Neither : ℕ → Type 0
Neither e = (e ≢ 7) × (e ≢ 8)

other : (n : ℕ) → (n == 7) ≡ false → (n == 8) ≡ false → Neither n
other n h k = (eqb-false n 7 h, eqb-false n 8 k)

either : (b : Bool) {x y : ℕ} → Neither x → Neither y → Neither (cond b x y)
either true p q = p
either false p q = q

start_neither : (m : Lent) (P T : ℕ) → Neither (start m P T).refusal
start_neither m P T = rw (start_refusal m P T) (either (is_laid m (page_at_start P) T) (other 0 refl refl) (other 1 refl refl))

allocate_neither : (m : Lent) (d p : ℕ) → Neither (allocate m d p).refusal
allocate_neither m d p =
    rw (allocate_refusal m d p) (either (is_valid m) (either (good_shape m d p) (either (fits_open m d) (other 0 refl refl) (either (may_take m) (other 0 refl refl) (other 3 refl refl))) (other 2 refl refl)) (other 1 refl refl))

-- what is found at an address gives 4 or 10, or what follows from an object start
at_neither : (f : Found) {n : ℕ} → Neither n → Neither (number_at f n)
at_neither (there.Start w) k = k
at_neither (there.Inside s) k = other 10 refl refl
at_neither there.Nothing k = other 4 refl refl

look_up_neither : (m : Lent) (a : ℕ) → Neither (look_up m a).refusal
look_up_neither m a = rw (look_up_refusal m a) (either (is_valid m) (at_neither (found m a) (other 0 refl refl)) (other 1 refl refl))

load_neither : (m : Lent) (a i : ℕ) → Neither (load m a i).refusal
load_neither m a i = rw (load_refusal m a i) (either (is_valid m) (at_neither (found m a) (either (nat_lt i (size_of (at m.heap a) - 1)) (other 0 refl refl) (other 5 refl refl))) (other 1 refl refl))

store_neither : (m : Lent) (a i v : ℕ) → Neither (store m a i v).refusal
store_neither m a i v =
    rw (store_refusal m a i v) (either (is_valid m) (at_neither (found m a) (either (nat_lt i (size_of (at m.heap a) - 1)) (either (may_store m (at m.heap a) i v) (other 0 refl refl) (other 6 refl refl)) (other 5 refl refl))) (other 1 refl refl))

abbrev Answers : Stepped → Type 0
Answers o = Neither o.refusal

begin_neither : (s : Session) (o : Outcome) (words : ℕ) → Neither o.refusal → Neither (begin s o words).refusal
unfolding accepted refused
begin_neither s o words n =
    by_test Answers (o.refusal == 0) _ _ (λ e.
    by_test Answers (nat_le words 8192) _ _ (λ l. other 0 refl refl) (λ l. other 9 refl refl)) (λ e. n)

perform_neither : (s : Session) (t : Step) → is_allowed s.begun t ≡ true → IsReady s → Neither (perform s t).refusal
unfolding perform passed accepted refused
perform_neither s (Start P T) ok h = let m = blank (page_at_start P) T s.lent.rec in begin_neither s (start m P T) (T * page_at_start P) (start_neither m P T)
perform_neither s (Allocate x d p) ok h = allocate_neither s.lent d p
perform_neither s (Store x i operand) ok h = store_neither s.lent (at s.roots x) i (operand_of s.roots operand)
perform_neither s (Load x i) ok h = load_neither s.lent (at s.roots x) i
perform_neither s (Hint x y v) ok h = other 0 refl refl
perform_neither s (Clear x) ok h = other 0 refl refl
perform_neither s Collect ok h = rw (perform_collects s h (and_left s.begun _ ok)) (other 0 refl refl)
perform_neither s (LookUp x v) ok h = look_up_neither s.lent (root_plus s.roots x v)
perform_neither s Bad ok h = other 9 refl refl

step_neither : (s : Session) (t : Step) → IsReady s → Neither (step s t).refusal
unfolding step refused
step_neither s t h = by_test Answers (is_allowed s.begun t) _ _ (λ ok. perform_neither s t ok h) (λ e. other 9 refl refl)

pub never_7_or_8 : (ts : List Step) (t : Step) → Neither (step (played before ts) t).refusal
never_7_or_8 ts t = step_neither (played before ts) t (session_ready ts)
