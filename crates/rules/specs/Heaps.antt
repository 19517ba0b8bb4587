-- Memory that the examples begin with: started, or written out page by page.
use Rattle.std.specs.Prelude.{List, ◌++◌, ℕ, ◌*◌, length, take, replicate}
use Rattle.rules.specs.declared.Record.{Record}
use Rattle.rules.specs.Lent.{Lent, lent}
use Rattle.rules.specs.Calls.{start}

-- P, T, label, open page and fill
abbrev pub control : ℕ → ℕ → ℕ → ℕ → ℕ → Record
control P T l g f = record { page = P; pages = T; label = l; opened = g; fill = f }

-- memory of T pages of P words that held something else
abbrev pub held : ℕ → ℕ → Lent
held P T = lent (replicate (T * P) 7) (replicate T 7) (replicate T 7) (control 7 7 7 7 7)

-- P 8, T 6
abbrev pub fresh : Lent
fresh = (start (held 8 6) 8 6).lent

-- a page of 8 words that begins with these, and zeros behind them
abbrev pub page : List ℕ → List ℕ
page words = take 8 (words ++ replicate 8 0)

-- a page for each label, with these words; label 1 is current, and there is no open page
abbrev pub memory : List ℕ → List ℕ → Lent
memory labels heap = lent heap labels (replicate (length labels) 0) (control 8 (length labels) 1 0 8)

-- the same memory with another record
abbrev pub under : Lent → Record → Lent
under m r = lent m.heap m.labels m.links r

-- Q-5: what a start with P 0 and T 3 left before, "older records" among it
abbrev pub older : Lent
older = lent (replicate 384 0) (replicate 3 0) (replicate 3 0) (control 128 3 1 0 128)
