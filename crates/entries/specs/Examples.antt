-- The definitions are tried: antt computes bytes into entries, entries into steps, and which steps are allowed. Everything here
-- is closed, and every proof is refl.
use Rattle.std.specs.Prelude.{◌≡◌, refl, true, false, List, [], ◌∷◌, map, ℕ, Some, None, Ok, Err}
use Rattle.rules.specs.Ranges.{each}
use Rattle.entries.specs.declared.Entry.{Entry}
use Rattle.entries.specs.declared.Operand.TheVariants.{Root, Number}
use Rattle.entries.specs.declared.Step.{Step}
use Rattle.entries.specs.declared.Step.TheVariants.{Start, Allocate, Store, Load, Hint, Clear, Collect, LookUp, Bad}
use Rattle.entries.specs.Entries.{word_at, entry_at, next_at, decode, is_slot, is_allowed}

-- ten bytes: a whole record begins at 0, 1 and 2
abbrev bytes : List ℕ
bytes = 10 ∷ 11 ∷ 1 ∷ 2 ∷ 3 ∷ 4 ∷ 5 ∷ 6 ∷ 7 ∷ 8 ∷ []

abbrev entry : ℕ → ℕ → ℕ → ℕ → ℕ → Entry
entry op x y i v = record { op = op; x = x; y = y; i = i; v = v }

-- a step of each operation, with slot x, slot y, and n for what is no slot
abbrev steps : ℕ → ℕ → ℕ → List Step
steps x y n =
    Start n n ∷ Allocate x n n ∷ Store x n (Root y) ∷ Store x n (Number n) ∷ Load x n ∷ Hint x y n ∷ Clear x ∷ Collect ∷ LookUp x n
    ∷ Bad ∷ []

record Examples : Type 0 where
  -- "low first": 1 + 2·256 + 3·65,536 + 4·16,777,216
  word : word_at bytes 2 ≡ 67305985
  -- "operation, x, y, i (a byte each), v": v is 5 + 6·256 + 7·65,536 + 8·16,777,216
  bytes_in_order : entry_at bytes 2 ≡ entry 1 2 3 4 134678021
  -- a whole record, with bytes behind it and with none; "one to seven bytes"; nothing, at the end and past it
  whole : map (next_at bytes) (0 ∷ 2 ∷ []) ≡ Some (Ok (entry 10 11 1 2 100992003)) ∷ Some (Ok (entry 1 2 3 4 134678021)) ∷ []
  partial : map (next_at bytes) (3 ∷ 9 ∷ []) ≡ Some (Err (record {})) ∷ Some (Err (record {})) ∷ []
  done : map (next_at bytes) (10 ∷ 11 ∷ []) ≡ None ∷ None ∷ []
  -- the table of operations: x is 21, y 22, i 23 and v 24. Above 8 there is none
  table : map (λ op. decode (entry op 21 22 23 24)) (0 ∷ 1 ∷ 2 ∷ 3 ∷ 4 ∷ 5 ∷ 6 ∷ 7 ∷ 8 ∷ 9 ∷ 255 ∷ [])
      ≡ Start 24 23 ∷ Allocate 21 23 22 ∷ Store 21 23 (Root 22) ∷ Store 21 23 (Number 24) ∷ Load 21 23 ∷ Hint 21 22 24 ∷ Clear 21
      ∷ Collect ∷ LookUp 21 24 ∷ Bad ∷ Bad ∷ []
  -- "a used slot above 15"
  slots : map is_slot (0 ∷ 15 ∷ 16 ∷ []) ≡ true ∷ true ∷ false ∷ []
  -- all slots are good: all but the last are allowed, whatever the other numbers are; "before any accepted start" only a start
  allowed : map (is_allowed true) (steps 15 15 16) ≡ true ∷ true ∷ true ∷ true ∷ true ∷ true ∷ true ∷ true ∷ true ∷ false ∷ []
  begins : map (is_allowed false) (steps 15 15 16)
      ≡ true ∷ false ∷ false ∷ false ∷ false ∷ false ∷ false ∷ false ∷ false ∷ false ∷ []
  -- slot x is bad, slot y is: each operation that uses it is refused, and no other
  uses_x : map (is_allowed true) (steps 16 15 15)
      ≡ true ∷ false ∷ false ∷ false ∷ false ∷ false ∷ false ∷ true ∷ false ∷ false ∷ []
  uses_y : map (is_allowed true) (steps 15 16 15) ≡ true ∷ true ∷ false ∷ true ∷ true ∷ false ∷ true ∷ true ∷ true ∷ false ∷ []

examples : Examples
unfolding each next_at decode
examples = record {
  word = refl;
  bytes_in_order = refl;
  whole = refl;
  partial = refl;
  done = refl;
  table = refl;
  slots = refl;
  allowed = refl;
  begins = refl;
  uses_x = refl;
  uses_y = refl;
}
