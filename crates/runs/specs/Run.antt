-- The whole session: the output's bytes as a function of the input's.
use Rattle.std.specs.Prelude.{List, ◌++◌, ℕ, zero, suc, ◌+◌, ◌-◌, ◌/◌, length, take}
use Rattle.entries.specs.Entries.{entry_at, decode}
use Rattle.lines.specs.declared.tally.Tally.{Tally}
use Rattle.lines.specs.Lines.{line, none, noted, ending}
use Rattle.steps.specs.Session.{Session, Stepped, before, step}

-- "One to seven bytes at the end of the input make one more line with refusal 9, counted as a refused record."
unfoldable pub rest : ℕ → Tally → List ℕ
rest zero t = ending t
rest (suc n) t = line t.records 9 0 ++ ending (noted t 9)

-- "Each line is record number from 0, refusal (0 if accepted), value (0 if refused)", but for 10 (Q-2); `go` tells what follows
abbrev pub answered : (Session → Tally → List ℕ) → Tally → Stepped → List ℕ
answered go t o = line t.records o.refusal o.value ++ go o.session (noted t o.refusal)

-- n whole records from byte a on, one at a time, and then what is left
unfoldable pub run : ℕ → List ℕ → ℕ → Session → Tally → List ℕ
run zero bytes a s t = rest (length bytes - a) t
run (suc n) bytes a s t = answered (run n bytes (a + 8)) t (step s (decode (entry_at bytes a)))

-- "a lent buffer of at most 8,000 records; later bytes are not read"
abbrev pub bytes_read : List ℕ → List ℕ
bytes_read input = take 64000 input

unfoldable pub transcript : List ℕ → List ℕ
transcript input = run (length (bytes_read input) / 8) (bytes_read input) 0 before none
