-- Texts put one behind another into an array. Assumes nothing.
use Rattle.std.proofs.Common.{◌≡◌, List, ◌++◌, ℕ, ◌+◌, ◌≤◌, length, take, drop, sym, ap, ◌∙◌, arith, length-append, length-take-le, drop-drop, drop_at, take_at}

-- as far as `place` something is put, and behind it stands what stood there before
pub record Written (before out : List ℕ) (place : ℕ) : Type 0 where
  pub inside : place ≤ length out
  pub behind : drop place out ≡ drop place before

module _ {before out out' : List ℕ} {place place' : ℕ} (text : List ℕ) (now : Written before out place) (e : place' ≡ place + length text)
    (put : out' ≡ take place out ++ text ++ drop place' out) where
  so_far : length (take place out ++ text) ≡ place'
  so_far = omega (arith, length-append (take place out) text, length-take-le place out now.inside, e)

  rest : drop place' out ≡ drop place' before
  rest =
      ap (λ (k : ℕ). drop k out) e ∙ sym (drop-drop (length text) place out) ∙ ap (λ (l : List ℕ). drop (length text) l) now.behind
      ∙ drop-drop (length text) place before ∙ ap (λ (k : ℕ). drop k before) (sym e)

  -- the text stands behind what was put
  pub put_behind : take place' out' ≡ take place out ++ text
  put_behind = ap (λ (l : List ℕ). take place' l) put ∙ take_at (take place out ++ text) (drop place' out) place' so_far

  pub written_on : Written before out' place'
  written_on = record {
    inside = omega (arith, ap length put, length-append (take place out ++ text) (drop place' out), so_far);
    behind = ap (λ (l : List ℕ). drop place' l) put ∙ drop_at (take place out ++ text) (drop place' out) place' so_far ∙ rest;
  }

  -- the whole array
  pub array_is : out' ≡ (take place out ++ text) ++ drop place' before
  array_is = put ∙ ap (λ (l : List ℕ). (take place out ++ text) ++ l) rest

  pub place_is : place' ≡ length (take place out ++ text)
  place_is = sym so_far
