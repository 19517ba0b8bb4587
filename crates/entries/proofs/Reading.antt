-- What stands at the start of a buffer, and what is left behind it. Assumes nothing.
use Rattle.std.proofs.Common.{◌≡◌, ℕ, ◌<◌, ◌≤◌, ◌==◌, true, false, List, [], ◌∷◌, length, take, drop, Some, None, Ok, Err, arith, le-leb, eqb-true, sym, refl}
use Rattle.std.proofs.lemmas.List.{get_or-take, drop_all}
use borrow.Author.Tests.{lt-leb, lt-ltb}
use Rattle.entries.specs.declared.Entry.{Entry}
use Rattle.entries.specs.Entries.{entry_at, next_at}

-- an entry is in the eight bytes at its place
first_eight : (l : List ℕ) → entry_at (take 8 l) 0 ≡ entry_at l 0
first_eight l =
    rw (
      get_or-take 8 l 0 0 (omega arith),
      get_or-take 8 l 1 0 (omega arith),
      get_or-take 8 l 2 0 (omega arith),
      get_or-take 8 l 3 0 (omega arith),
      get_or-take 8 l 4 0 (omega arith),
      get_or-take 8 l 5 0 (omega arith),
      get_or-take 8 l 6 0 (omega arith),
      get_or-take 8 l 7 0 (omega arith),
    )

pub whole : (l : List ℕ) (e : Entry) → 8 ≤ length l → e ≡ entry_at (take 8 l) 0 → Some (Ok e) ≡ next_at l 0
unfolding next_at
whole l e h is = rw (is, first_eight l, le-leb 8 (length l) h)

pub partial : (l : List ℕ) → length l < 8 → (length l == 0) ≡ false → (Some (Err (record {})) ≡ next_at l 0) × ([] ≡ drop 8 l)
unfolding next_at
partial [] h n = cc
partial (x ∷ xs) h n = (rw (lt-leb 8 (length (x ∷ xs)) h, lt-ltb 0 (length (x ∷ xs)) (omega arith)), sym (drop_all 8 (x ∷ xs) (omega arith)))

pub nothing : (l : List ℕ) → (length l == 0) ≡ true → (None ≡ next_at l 0) × (l ≡ drop 8 l)
unfolding next_at
nothing [] n = (refl, refl)
nothing (x ∷ xs) n = absurd (omega (arith, eqb-true (length (x ∷ xs)) 0 n))
