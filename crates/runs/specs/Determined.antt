-- The contract of the run determines what it answers and every byte that it leaves: two outcomes that both satisfy it are
-- equal. Assumes nothing.
use Rattle.std.specs.Prelude.{◌≡◌, List, [], ◌++◌, ℕ, zero, suc, length, drop}
use Rattle.std.proofs.Common.{sym, ap, ◌∙◌, append-nil}
use Rattle.runs.specs.Run.{transcript}

-- n bytes were answered, and `after` stands where `before` stood
pub record Runs (input before : List ℕ) (n : ℕ) (after : List ℕ) : Type 0 where
  pub answer : n ≡ length (transcript input)
  pub bytes : after ≡ transcript input ++ drop n before

pub runs_once : {input before : List ℕ} {m n : ℕ} {x y : List ℕ} → Runs input before m x → Runs input before n y → (m ≡ n) × (x ≡ y)
runs_once {input} {before} p q =
    let e = p.answer ∙ sym q.answer in
    (e, p.bytes ∙ ap (λ (k : ℕ). transcript input ++ drop k before) e ∙ sym q.bytes)

-- what the run's contract says of a text, whose length is a part of it: it is such a buffer, with nothing behind the answer
pub text_runs : {input after : List ℕ} → after ≡ transcript input → Runs input [] (length after) after
text_runs {input} {after} p = record { answer = ap length p; bytes = p ∙ sym (nothing (length after)) }
  where
    nothing : (n : ℕ) → transcript input ++ drop n [] ≡ transcript input
    nothing zero = append-nil (transcript input)
    nothing (suc n) = append-nil (transcript input)
