-- What a session prints: numbers in decimal, lines, and the tally.
use Rattle.std.specs.Prelude.{cond, List, [], ◌∷◌, ◌++◌, ℕ, zero, suc, ◌+◌, ◌/◌, ◌%◌, eqb, ltb}
use Rattle.lines.specs.declared.tally.Tally.{Tally}

-- a number in decimal, where f digits or fewer follow the first: 48 is the byte of the digit 0
unfoldable pub digits : ℕ → ℕ → List ℕ
digits zero n = (48 + n) ∷ []
digits (suc f) n = cond (ltb n 10) ((48 + n) ∷ []) (digits f (n / 10) ++ ((48 + n % 10) ∷ []))

-- a number of 32 bits, which has ten digits or fewer, and what stands behind it
unfoldable pub number : ℕ → List ℕ → List ℕ
number n end = digits 9 n ++ end

-- the bytes of a space, of a line's end, and of the word `end` with a space
abbrev pub space : List ℕ
space = 32 ∷ []

abbrev pub newline : List ℕ
newline = 10 ∷ []

abbrev pub the_end : List ℕ
the_end = 101 ∷ 110 ∷ 100 ∷ 32 ∷ []

-- three numbers, "in decimal, single spaces between"
unfoldable pub line : ℕ → ℕ → ℕ → List ℕ
line a b c = number a space ++ number b space ++ number c newline

-- "A running tally of records, accepted and refused"
abbrev pub none : Tally
none = record { records = 0; accepted = 0; refused = 0 }

unfoldable pub noted : Tally → ℕ → Tally
noted t refusal =
    cond (eqb refusal 0)
    (record { records = t.records + 1; accepted = t.accepted + 1; refused = t.refused })
    (record { records = t.records + 1; accepted = t.accepted; refused = t.refused + 1 })

-- "printed last, after the word `end`"
unfoldable pub ending : Tally → List ℕ
ending t = the_end ++ line t.records t.accepted t.refused
