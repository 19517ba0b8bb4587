-- A refusal in words, for people: what `{}` prints of it.
use Rattle.std.specs.Prelude.{ℕ, List, ◌++◌, codes}
use Rattle.std.specs.Fmt.{decimal}
use Rattle.answers.specs.declared.Refusal.{Refusal}
use Rattle.answers.specs.declared.Refusal.TheVariants.{Layout, Shape, CollectFirst, NothingThere, Index, BadReference, Unsound, BadEntry, Inside}

abbrev pub words : Refusal → List ℕ
words Layout = codes "a wrong length, page size, number of pages or record"
words Shape = codes "too many words or references for an object"
words CollectFirst = codes "no room before a collection"
words NothingThere = codes "no object at the address"
words Index = codes "no such word in the object"
words BadReference = codes "a reference to no object"
words Unsound = codes "the heap is not sound"
words BadEntry = codes "a bad record of the session"
words (Inside s) = codes "inside the object at " ++ decimal s
