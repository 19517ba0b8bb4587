-- "A refused record changes nothing", and its value is 0, but for refusal 10 (Q-2): of every session and every step.
use Rattle.std.specs.Prelude.{◌≡◌, ℕ, ◌*◌, ◌≢◌, ◌==◌, nat_le, refl}
use Rattle.std.proofs.Common.{ne_eqb}
use Rattle.rules.specs.Ranges.{at}
use Rattle.rules.specs.Pages.{page_at_start}
use Rattle.rules.specs.Calls.{Outcome, start}
use Rattle.kept.specs.Refusals.{by_test, allocate_refused, look_up_refused, load_refused, store_refused, collect_refused}
use Rattle.entries.specs.declared.Step.{Step}
use Rattle.entries.specs.declared.Step.TheVariants.{Start, Allocate, Store, Load, Hint, Clear, Collect, LookUp, Bad}
use Rattle.entries.specs.Entries.{is_allowed}
use Rattle.steps.specs.Session.{Session, Stepped, refused, accepted, passed, blank, begin, operand_of, root_plus, perform, step}

pub record Unchanged (s : Session) (o : Stepped) : Type 0 where
  pub session : o.session ≡ s
  pub value : o.refusal ≢ 10 → o.value ≡ 0

abbrev pub IfRefused : Session → Stepped → Type 0
IfRefused s o = o.refusal ≢ 0 → Unchanged s o

refused_so : (e : ℕ) (s : Session) → IfRefused s (refused e s)
unfolding refused
refused_so e s n = record { session = refl; value = λ _. refl }

accepted_so : (s : Session) (v : ℕ) (s' : Session) → IfRefused s (accepted v s')
unfolding accepted
accepted_so s v s' n = absurd (n refl)

passed_so : (s : Session) (e v : ℕ) (t : Session) → (e ≢ 0 → e ≢ 10 → v ≡ 0) → IfRefused s (passed s e v t)
unfolding passed
passed_so s e v t zero n = record { session = rw (ne_eqb e 0 n) refl; value = zero n }

begin_so : (s : Session) (o : Outcome) (words : ℕ) → IfRefused s (begin s o words)
begin_so s o words =
    by_test (IfRefused s) (o.refusal == 0) _ _ (λ e.
    by_test (IfRefused s) (nat_le words 8192) _ _ (λ l. accepted_so s _ _) (λ l. refused_so 9 s)) (λ e. refused_so _ s)

perform_so : (s : Session) (t : Step) → IfRefused s (perform s t)
unfolding perform
perform_so s (Start P T) = begin_so s (start (blank (page_at_start P) T s.lent.rec) P T) (T * page_at_start P)
perform_so s (Allocate x d p) = passed_so s _ _ _ (λ n k. (allocate_refused s.lent d p n).value)
perform_so s (Store x i operand) = passed_so s _ _ _ (λ n. (store_refused s.lent (at s.roots x) i (operand_of s.roots operand) n).value)
perform_so s (Load x i) = passed_so s _ _ _ (λ n. (load_refused s.lent (at s.roots x) i n).value)
perform_so s (Hint x y v) = accepted_so s _ _
perform_so s (Clear x) = accepted_so s _ _
perform_so s Collect = passed_so s _ _ _ (λ n k. (collect_refused s.lent s.roots s.hints n).words)
perform_so s (LookUp x v) = passed_so s _ _ _ (λ n. (look_up_refused s.lent (root_plus s.roots x v) n).value)
perform_so s Bad = refused_so 9 s

pub refused_unchanged : (s : Session) (t : Step) → IfRefused s (step s t)
unfolding step
refused_unchanged s t = by_test (IfRefused s) (is_allowed s.begun t) _ _ (λ e. perform_so s t) (λ e. refused_so 9 s)
