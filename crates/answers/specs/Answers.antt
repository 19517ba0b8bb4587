-- What the code's results say in the numbers of the definitions: of a call that was refused, and of one that was accepted.
use Rattle.std.specs.Prelude.{ℕ, Result, Ok, Err}
use Rattle.rules.specs.declared.Record.{Record}
use Rattle.rules.specs.declared.Answer.{Answer}
use Rattle.rules.specs.declared.Collected.{Collected}
use Rattle.answers.specs.declared.Refusal.{Refusal}
use Rattle.answers.specs.declared.Refusal.TheVariants.{Layout, Shape, CollectFirst, NothingThere, Index, BadReference, Unsound, BadEntry, Inside}
use Rattle.answers.specs.declared.Accepted.{Accepted}
use Rattle.answers.specs.declared.Counts.{Counts}

-- the refusal's number in the table of refusals; 8 is no number of the table
abbrev pub number : Refusal → ℕ
number Layout = 1
number Shape = 2
number CollectFirst = 3
number NothingThere = 4
number Index = 5
number BadReference = 6
number Unsound = 7
number BadEntry = 9
number (Inside s) = 10

-- the value that goes with it: 0, but for 10 the start of the object that the address is inside
abbrev pub value : Refusal → ℕ
value Layout = 0
value Shape = 0
value CollectFirst = 0
value NothingThere = 0
value Index = 0
value BadReference = 0
value Unsound = 0
value BadEntry = 0
value (Inside s) = s

-- what start, allocate, look-up, load and store answer, where they were given the record r
abbrev pub answer : Record → Result Accepted Refusal → Answer
answer r (Ok a) = record { refusal = 0; value = a.value; rec = a.rec }
answer r (Err e) = record { refusal = number e; value = value e; rec = r }

-- what collect answers, where it was given the record r
abbrev pub collected : Record → Result Counts Refusal → Collected
collected r (Ok c) = record {
  refusal = 0;
  hinted = c.hinted;
  taken = c.taken;
  objects = c.objects;
  words = c.words;
  kept = c.kept;
  fillers = c.fillers;
  rec = c.rec;
}
collected r (Err e) = record { refusal = number e; hinted = 0; taken = 0; objects = 0; words = 0; kept = 0; fillers = 0; rec = r }
