-- A call's answer, as C gets it, tells what the call gave: two results with one answer are equal. Assumes nothing.
use Rattle.std.specs.Prelude.{◌≡◌, ◌≢◌, ℕ, cond, eqb, Result, Ok, Err}
use Rattle.std.proofs.Common.{refl, sym, ap, ◌∙◌, ne_eqb}
use Rattle.rules.specs.declared.Record.{Record}
use Rattle.rules.specs.declared.Answer.{Answer}
use Rattle.rules.specs.declared.Collected.{Collected}
use Rattle.answers.specs.declared.Refusal.{Refusal}
use Rattle.answers.specs.declared.Refusal.TheVariants.{Layout, Shape, CollectFirst, NothingThere, Index, BadReference, Unsound, BadEntry, Inside}
use Rattle.answers.specs.declared.Accepted.{Accepted}
use Rattle.answers.specs.declared.Counts.{Counts}
use Rattle.answers.specs.Answers.{number, value, answer, collected}
use Rattle.answers.proofs.Laws.{refused_some}

-- ---- a refusal, by its number and its value

refusal_of : ℕ → ℕ → Refusal
refusal_of n v =
    cond (eqb n 1) Layout
    (cond (eqb n 2) Shape
    (cond (eqb n 3) CollectFirst
    (cond (eqb n 4) NothingThere
    (cond (eqb n 5) Index
    (cond (eqb n 6) BadReference
    (cond (eqb n 7) Unsound
    (cond (eqb n 9) BadEntry (Inside v))))))))

refusal_read : (e : Refusal) → refusal_of (number e) (value e) ≡ e
unfolding refusal_of
refusal_read Layout = refl
refusal_read Shape = refl
refusal_read CollectFirst = refl
refusal_read NothingThere = refl
refusal_read Index = refl
refusal_read BadReference = refl
refusal_read Unsound = refl
refusal_read BadEntry = refl
refusal_read (Inside s) = refl

-- the value is needed for 10 alone
refusal_by_number : (e : Refusal) → number e ≢ 10 → refusal_of (number e) 0 ≡ e
unfolding refusal_of
refusal_by_number Layout n = refl
refusal_by_number Shape n = refl
refusal_by_number CollectFirst n = refl
refusal_by_number NothingThere n = refl
refusal_by_number Index n = refl
refusal_by_number BadReference n = refl
refusal_by_number Unsound n = refl
refusal_by_number BadEntry n = refl
refusal_by_number (Inside s) n = absurd (n refl)

-- ---- a result, by the answer

result_of : Answer → Result Accepted Refusal
result_of x = cond (eqb x.refusal 0) (Ok (record { value = x.value; rec = x.rec })) (Err (refusal_of x.refusal x.value))

answer_read : (r : Record) (x : Result Accepted Refusal) → result_of (answer r x) ≡ x
unfolding result_of
answer_read r (Ok a) = refl
answer_read r (Err e) = rw (ne_eqb (number e) 0 (refused_some e), refusal_read e)

pub answer_once : (r : Record) (x y : Result Accepted Refusal) → answer r x ≡ answer r y → x ≡ y
answer_once r x y e = sym (answer_read r x) ∙ ap result_of e ∙ answer_read r y

counts_of : Collected → Result Counts Refusal
counts_of x =
    cond (eqb x.refusal 0)
    (Ok (record { hinted = x.hinted; taken = x.taken; objects = x.objects; words = x.words; kept = x.kept; fillers = x.fillers; rec = x.rec }))
    (Err (refusal_of x.refusal 0))

collected_read : (r : Record) (x : Result Counts Refusal) → (collected r x).refusal ≢ 10 → counts_of (collected r x) ≡ x
unfolding counts_of
collected_read r (Ok c) n = refl
collected_read r (Err e) n = rw (ne_eqb (number e) 0 (refused_some e), refusal_by_number e n)

-- a collection is never refused 10, whose value its answer would not have: `never_10` (collector/proofs/Determined.antt)
pub collected_once : (r : Record) (x y : Result Counts Refusal) → (collected r x).refusal ≢ 10 → collected r x ≡ collected r y → x ≡ y
collected_once r x y n e = sym (collected_read r x n) ∙ ap counts_of e ∙ collected_read r y (λ z. n (ap {B = ℕ} (λ a. a.refusal) e ∙ z))
