-- The session, and one step of it, over the calls of `rules`.
use Rattle.std.specs.Prelude.{ℕ, ◌+◌, ◌*◌, ◌%◌, ◌^◌, Bool, true, false, cond, List, [], replicate, ◌==◌, nat_le, slice_set}
use Rattle.rules.specs.declared.Record.{Record}
use Rattle.rules.specs.Ranges.{at}
use Rattle.rules.specs.Pages.{page_at_start}
use Rattle.rules.specs.Lent.{Lent, lent}
use Rattle.rules.specs.Calls.{Outcome, start, allocate, look_up, load, store}
use Rattle.rules.specs.Collect.{CollectOutcome, collect}
use Rattle.entries.specs.declared.Operand.{Operand}
use Rattle.entries.specs.declared.Operand.TheVariants.{Root, Number}
use Rattle.entries.specs.declared.Step.{Step}
use Rattle.entries.specs.declared.Step.TheVariants.{Start, Allocate, Store, Load, Hint, Clear, Collect, LookUp, Bad}
use Rattle.entries.specs.Entries.{is_allowed}

-- Whether a start was accepted; what is lent, a heap of exactly P-as-T words and as many labels and links as pages, with the
-- record; the root cells; the hint words.
pub record Session : Type 0 where
  pub begun : Bool
  pub lent : Lent
  pub roots : List ℕ
  pub hints : List ℕ

-- "16 root cells and 16 hint words, all 0 after a start"
abbrev pub cells : List ℕ
cells = replicate 16 0

-- before any start: nothing is lent
unfoldable pub before : Session
before = record {
  begun = false;
  lent = lent [] [] [] (record { page = 0; pages = 0; label = 0; opened = 0; fill = 0 });
  roots = cells;
  hints = cells;
}

-- a record's answer, "refusal (0 if accepted), value (0 if refused)" but for 10 (Q-2), and the session after it
pub record Stepped : Type 0 where
  pub refusal : ℕ
  pub value : ℕ
  pub session : Session

-- "A refused record changes nothing."
unfoldable pub refused : ℕ → Session → Stepped
refused e s = record { refusal = e; value = 0; session = s }

unfoldable pub accepted : ℕ → Session → Stepped
accepted v s = record { refusal = 0; value = v; session = s }

-- the session with other memory and root cells, and with other hint words
abbrev pub holding : Session → Lent → List ℕ → Session
holding s m roots = record { begun = s.begun; lent = m; roots = roots; hints = s.hints }

abbrev pub hinting : Session → List ℕ → Session
hinting s hints = record { begun = s.begun; lent = s.lent; roots = s.roots; hints = hints }

-- A call's refusal and value, and the session t if it was accepted. The value of a refusal is 0, but for 10.
unfoldable pub passed : Session → ℕ → ℕ → Session → Stepped
passed s e v t = record { refusal = e; value = v; session = cond (e == 0) t s }

-- the call's memory, and these root cells; of collect's counts "words copied" is printed
abbrev pub called : Session → Outcome → List ℕ → Stepped
called s o roots = passed s o.refusal o.value (holding s o.lent roots)

abbrev pub collected : Session → CollectOutcome → Stepped
collected s o = passed s o.refusal o.words (holding s o.lent o.roots)

-- The memory that a start lends: of the size that P and T ask for. What it held before does not matter, since an accepted
-- start zeroes it.
unfoldable pub blank : ℕ → ℕ → Record → Lent
blank P T r = lent (replicate (T * P) 0) (replicate T 0) (replicate T 0) r

-- "a start with good P and T whose P·T exceeds 8,192" is refused 9, "but after 1"; only an accepted start clears root cells
-- and hint words
abbrev pub begin : Session → Outcome → ℕ → Stepped
begin s o words =
    cond (o.refusal == 0)
    (cond (nat_le words 8192) (accepted 0 (record { begun = true; lent = o.lent; roots = cells; hints = cells })) (refused 9 s))
    (refused o.refusal s)

-- an address goes into root x
abbrev pub placed : Session → ℕ → Outcome → Stepped
placed s x o = called s o (slice_set s.roots x o.value)

-- "either a root or a number"
abbrev pub operand_of : List ℕ → Operand → ℕ
operand_of roots (Root y) = at roots y
operand_of roots (Number v) = v

-- "root y plus v, modulo 2^32"
abbrev pub root_plus : List ℕ → ℕ → ℕ → ℕ
root_plus roots y v = (at roots y + v) % 2 ^ 32

-- the table of operations: what each means, and the value printed
unfoldable pub perform : Session → Step → Stepped
perform s (Start P T) = begin s (start (blank (page_at_start P) T s.lent.rec) P T) (T * page_at_start P)
perform s (Allocate x d p) = placed s x (allocate s.lent d p)
perform s (Store x i operand) = called s (store s.lent (at s.roots x) i (operand_of s.roots operand)) s.roots
perform s (Load x i) = called s (load s.lent (at s.roots x) i) s.roots
perform s (Hint x y v) = accepted (root_plus s.roots y v) (hinting s (slice_set s.hints x (root_plus s.roots y v)))
perform s (Clear x) = accepted 0 (holding s s.lent (slice_set s.roots x 0))
perform s Collect = collected s (collect s.lent s.roots s.hints)
perform s (LookUp x v) = called s (look_up s.lent (root_plus s.roots x v)) s.roots
perform s Bad = refused 9 s

-- "Refusal 9 comes first, but after 1 for a start."
unfoldable pub step : Session → Step → Stepped
step s t = cond (is_allowed s.begun t) (perform s t) (refused 9 s)
