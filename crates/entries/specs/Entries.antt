-- Records of 8 bytes, and the step that each asks for. They are called entries here: `Record` is the control record.
use Rattle.std.specs.Prelude.{Bool, true, false, cond, ◌&&◌, List, [], ◌∷◌, ℕ, ◌+◌, ◌*◌, length, eqb, leb, ltb, Option, Some, None, Result, Ok, Err}
use Rattle.rules.specs.Ranges.{at, each}
use Rattle.entries.specs.declared.Entry.{Entry}
use Rattle.entries.specs.declared.Partial.{Partial}
use Rattle.entries.specs.declared.Operand.{Operand}
use Rattle.entries.specs.declared.Operand.TheVariants.{Root, Number}
use Rattle.entries.specs.declared.Step.{Step}
use Rattle.entries.specs.declared.Step.TheVariants.{Start, Allocate, Store, Load, Hint, Clear, Collect, LookUp, Bad}

-- "v (four bytes, low first)"
abbrev pub word_at : List ℕ → ℕ → ℕ
word_at bytes a = at bytes a + at bytes (a + 1) * 256 + at bytes (a + 2) * 65536 + at bytes (a + 3) * 16777216

-- "records of 8 bytes, one fixed size, no header: operation, x, y, i (a byte each), v": the one whose first byte is at a
abbrev pub entry_at : List ℕ → ℕ → Entry
entry_at bytes a = record { op = at bytes a; x = at bytes (a + 1); y = at bytes (a + 2); i = at bytes (a + 3); v = word_at bytes (a + 4) }

-- what stands at a: a whole record, "one to seven bytes", or nothing
unfoldable pub next_at : List ℕ → ℕ → Option (Result Entry Partial)
next_at bytes a = cond (leb (a + 8) (length bytes)) (Some (Ok (entry_at bytes a))) (cond (ltb a (length bytes)) (Some (Err (record {}))) None)

-- The table of operations, by number. "A store's operand is thus either a root or a number."
unfoldable pub decode : Entry → Step
decode e =
    -- 0 start: P = v, T = i
    cond (eqb e.op 0) (Start e.v e.i)
    -- 1 allocate d = i, p = y; address into root x
    (cond (eqb e.op 1) (Allocate e.x e.i e.y)
    -- 2 store in object at root x, index i, root y
    (cond (eqb e.op 2) (Store e.x e.i (Root e.y))
    -- 3 the same, number v
    (cond (eqb e.op 3) (Store e.x e.i (Number e.v))
    -- 4 load from object at root x, index i
    (cond (eqb e.op 4) (Load e.x e.i)
    -- 5 hint x becomes root y plus v, modulo 2^32
    (cond (eqb e.op 5) (Hint e.x e.y e.v)
    -- 6 root x becomes 0
    (cond (eqb e.op 6) (Clear e.x)
    -- 7 collect
    (cond (eqb e.op 7) Collect
    -- Q-2: 8 "looks up root x plus v, modulo 2^32"
    (cond (eqb e.op 8) (LookUp e.x e.v)
    -- "9 begins above operation 8"
    Bad))))))))

-- "There are 16 root cells and 16 hint words": refused 9 are "a used slot above 15; before any accepted start, any operation
-- but 0"
abbrev pub is_slot : ℕ → Bool
is_slot x = ltb x 16

abbrev pub may_use : Bool → List ℕ → Bool
may_use begun slots = begun && each is_slot slots

abbrev pub operand_slots : Operand → List ℕ
operand_slots (Root y) = y ∷ []
operand_slots (Number v) = []

-- Not refused 9 at once, by the slots that each operation uses. For a start 9 comes after 1 (Session.antt); an operation above 8
-- is never allowed.
abbrev pub is_allowed : Bool → Step → Bool
is_allowed begun (Start P T) = true
is_allowed begun (Allocate x d p) = may_use begun (x ∷ [])
is_allowed begun (Store x i operand) = may_use begun (x ∷ operand_slots operand)
is_allowed begun (Load x i) = may_use begun (x ∷ [])
is_allowed begun (Hint x y v) = may_use begun (x ∷ y ∷ [])
is_allowed begun (Clear x) = may_use begun (x ∷ [])
is_allowed begun Collect = may_use begun []
is_allowed begun (LookUp x v) = may_use begun (x ∷ [])
is_allowed begun Bad = false
