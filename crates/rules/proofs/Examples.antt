-- Document 01's session, record by record, and from record 9 on as Q-6 has it. Everything in this file and in those named
-- ..Examples is closed, and every proof is refl: antt computes both sides to one thing. The other files try the definitions
-- clause by clause, each those of one file or a few.
use Rattle.std.specs.Prelude.{◌≡◌, refl, true, List, [], ◌∷◌, ℕ, take, replicate}
use Rattle.rules.specs.Ranges.{at}
use Rattle.rules.specs.Lent.{Lent}
use Rattle.rules.specs.Sound.{is_sound}
use Rattle.rules.specs.Calls.{allocate, load, store}
use Rattle.rules.specs.Collect.{CollectOutcome, collect}
use Rattle.rules.specs.Unfolded.{the_rules}
use Rattle.rules.specs.Heaps.{fresh}

-- what is lent after records 4, 6, 8, 9, 12 and 14
abbrev after4 : Lent
after4 = (allocate (allocate (allocate (allocate fresh 3 1).lent 3 0).lent 4 0).lent 2 0).lent

abbrev pub after6 : Lent
after6 = (store (store after4 12 2 77).lent 8 0 12).lent

abbrev pub record8 : CollectOutcome
record8 = collect after6 (8 ∷ 16 ∷ 12 ∷ 21 ∷ []) []

abbrev pub roots8 : List ℕ
roots8 = 24 ∷ 32 ∷ 40 ∷ 44 ∷ []

abbrev record9 : CollectOutcome
record9 = collect record8.lent roots8 []

abbrev record12 : CollectOutcome
record12 = collect record9.lent (8 ∷ 16 ∷ 40 ∷ 44 ∷ []) (18 ∷ 7 ∷ [])

abbrev record14 : CollectOutcome
record14 = collect record12.lent (24 ∷ 16 ∷ 28 ∷ 32 ∷ []) (18 ∷ 24 ∷ [])

record Examples : Type 0 where
  -- records 1 to 4, 7: the addresses, and the refusal
  r1 : (allocate fresh 3 1).value ≡ 8
  r4 : (allocate (allocate (allocate (allocate fresh 3 1).lent 3 0).lent 4 0).lent 2 0).value ≡ 21
  r7 : (allocate after6 0 0).refusal ≡ 3
  -- record 8: 16 words are copied, and every root follows
  r8 : record8.words ≡ 16
  r8_counts : (record8.hinted ≡ 0) × (record8.taken ≡ 3) × (record8.objects ≡ 4)
  r8_roots : record8.roots ≡ roots8
  r8_labels : record8.lent.labels ≡ 0 ∷ 0 ∷ 0 ∷ 2 ∷ 2 ∷ 2 ∷ []
  r8_reference : at record8.lent.heap 25 ≡ 40
  r8_freed : take 24 record8.lent.heap ≡ replicate 24 0
  r8_sound : is_sound record8.lent ≡ true
  -- record 9: 4 and 5 words fill two pages; the next 4 fit neither the copy page nor a free one, so page 5 is kept, with
  -- both its objects
  r9 : (record9.refusal ≡ 0) × (record9.words ≡ 9)
  r9_roots : record9.roots ≡ 8 ∷ 16 ∷ 40 ∷ 44 ∷ []
  r9_counts : (record9.hinted ≡ 0) × (record9.taken ≡ 2) × (record9.objects ≡ 2)
  r9_kept : (record9.kept ≡ 1) × (record9.fillers ≡ 0)
  r9_labels : record9.lent.labels ≡ 0 ∷ 1 ∷ 1 ∷ 0 ∷ 0 ∷ 1 ∷ []
  -- record 12: page 2 is hinted, and what else is there fits two pages
  r12 : record12.words ≡ 11
  r12_roots : record12.roots ≡ 24 ∷ 16 ∷ 28 ∷ 32 ∷ []
  r12_counts : (record12.hinted ≡ 1) × (record12.taken ≡ 2) × (record12.kept ≡ 0)
  -- record 14: two pages are hinted, 3 words are copied; records 15 and 16 load from what is left
  r14 : record14.words ≡ 3
  r14_roots : record14.roots ≡ 24 ∷ 16 ∷ 28 ∷ 8 ∷ []
  r14_counts : (record14.hinted ≡ 2) × (record14.taken ≡ 1)
  r14_open : (record14.lent.rec.opened ≡ 1) × (record14.lent.rec.fill ≡ 3)
  r15 : (load record14.lent 28 2).value ≡ 77
  r16 : (load record14.lent 24 0).value ≡ 28

examples : Examples
unfolding the_rules
examples = record {
  r1 = refl;
  r4 = refl;
  r7 = refl;
  r8 = refl;
  r8_counts = (refl, refl, refl);
  r8_roots = refl;
  r8_labels = refl;
  r8_reference = refl;
  r8_freed = refl;
  r8_sound = refl;
  r9 = (refl, refl);
  r9_roots = refl;
  r9_counts = (refl, refl, refl);
  r9_kept = (refl, refl);
  r9_labels = refl;
  r12 = refl;
  r12_roots = refl;
  r12_counts = (refl, refl, refl);
  r14 = refl;
  r14_roots = refl;
  r14_counts = (refl, refl);
  r14_open = (refl, refl);
  r15 = refl;
  r16 = refl;
}
