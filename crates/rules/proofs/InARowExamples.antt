-- Q-7 is tried: on one small heap its hypotheses are met; on each of three others one of them fails and no other, and the numbers differ, so
-- that each is needed. antt computes all of it. The page size is 8 everywhere.
use Rattle.std.specs.Prelude.{◌≡◌, refl, ◌⊎◌, ℕ}
use Rattle.std.proofs.Common.{sym, ap, ◌∙◌, inl, inr, arith}
use mathlib.Core.List.Memᴰ
use mathlib.Core.List.{List, [], ◌∷◌, ◌++◌, Memᴰ}
use Rattle.rules.specs.Ranges.{at}
use Rattle.rules.specs.Header.{header_of}
use Rattle.rules.specs.Pages.{page_named, page_named_before, pages_of_hint, pages_named}
use Rattle.rules.specs.Lent.{Lent}
use Rattle.rules.specs.Collect.{CollectOutcome, collect}
use Rattle.rules.specs.Unfolded.{the_rules}
use Rattle.rules.specs.Heaps.{page, memory}
use Rattle.rules.specs.Demands.{Took}
use Rattle.rules.specs.InARow.{NamesNoneTaken, InARow, SameNumbers}

-- the collection after a, "at once with the resulting roots and the same hints"
abbrev next : CollectOutcome → List ℕ → CollectOutcome
next a hints = collect a.lent a.roots hints

-- All hold. On page 1 an object of 3 words refers to one of 4 on page 3; the hint names page 2, with one of 5. The first two go to page 4, and
-- then to page 1
unfoldable leg : Lent
leg = memory (0 ∷ 1 ∷ 1 ∷ 1 ∷ 0 ∷ 0 ∷ [])
    (page [] ++ page (header_of 2 1 ∷ 24 ∷ 5 ∷ []) ++ page (header_of 4 0 ∷ 6 ∷ 7 ∷ 8 ∷ 9 ∷ []) ++ page (header_of 3 0 ∷ 1 ∷ 2 ∷ 3 ∷ []) ++ page [] ++ page [])

unfoldable leg1 : CollectOutcome
leg1 = collect leg (8 ∷ []) (17 ∷ [])

unfoldable leg2 : CollectOutcome
leg2 = next leg1 (17 ∷ [])

-- The first keeps pages. Objects of 4 and 3 words on page 1, one of 5 on page 2; page 4 is free; what is on pages 3 and 5 is not reached.
-- The first is copied to page 4, the one of 5 words keeps page 2, and so the one of 3 keeps page 1, where the first leaves a filler.
-- Then pages 3 and 5 are free, and all three are copied there; the filler is not
unfoldable crowd : Lent
crowd = memory (0 ∷ 1 ∷ 1 ∷ 1 ∷ 0 ∷ 1 ∷ [])
    (page [] ++ page (header_of 3 0 ∷ 1 ∷ 2 ∷ 3 ∷ header_of 2 0 ∷ 4 ∷ 5 ∷ []) ++ page (header_of 4 0 ∷ 6 ∷ 7 ∷ 8 ∷ 9 ∷ []) ++ page (header_of 4 0 ∷ []) ++ page [] ++ page (header_of 7 0 ∷ []))

unfoldable crowd1 : CollectOutcome
crowd1 = collect crowd (8 ∷ 16 ∷ 12 ∷ []) []

unfoldable crowd2 : CollectOutcome
crowd2 = next crowd1 []

-- A hint names a page that the first takes: 24 is on page 3, and the word before it on page 2. The object goes there, and then stays
unfoldable past : Lent
past = memory (0 ∷ 1 ∷ 0 ∷ 0 ∷ []) (page [] ++ page (header_of 4 0 ∷ 1 ∷ 2 ∷ 3 ∷ 4 ∷ []) ++ page [] ++ page [])

unfoldable past1 : CollectOutcome
past1 = collect past (8 ∷ []) (24 ∷ [])

unfoldable past2 : CollectOutcome
past2 = next past1 (24 ∷ [])

-- The second keeps a page. Objects of 5, 3, 5 and 3 words fill pages 1 and 2. As 5, 5, 3, 3 they take three pages, and leave two
unfoldable full : Lent
full = memory (0 ∷ 1 ∷ 1 ∷ 0 ∷ 0 ∷ 0 ∷ [])
    (page [] ++ page (header_of 4 0 ∷ 1 ∷ 1 ∷ 1 ∷ 1 ∷ header_of 2 0 ∷ 2 ∷ 2 ∷ []) ++ page (header_of 4 0 ∷ 3 ∷ 3 ∷ 3 ∷ 3 ∷ header_of 2 0 ∷ 4 ∷ 4 ∷ []) ++ page [] ++ page [] ++ page [])

unfoldable full1 : CollectOutcome
full1 = collect full (8 ∷ 16 ∷ 13 ∷ 21 ∷ []) []

unfoldable full2 : CollectOutcome
full2 = next full1 []

-- pages hinted and taken, objects and words copied, pages kept and fillers
abbrev Counts : CollectOutcome → ℕ → ℕ → ℕ → ℕ → ℕ → ℕ → Type 0
Counts a h t o w k f = (a.hinted ≡ h) × (a.taken ≡ t) × (a.objects ≡ o) × (a.words ≡ w) × (a.kept ≡ k) × (a.fillers ≡ f)

record Tried : Type 0 where
  -- on the first heap all hypotheses are met, and the numbers are the same
  met : InARow leg (8 ∷ []) (17 ∷ []) leg1 leg2
  same : SameNumbers leg1 leg2
  -- the numbers on each
  accepted : (leg1.refusal ≡ 0) × (leg2.refusal ≡ 0) × (crowd1.refusal ≡ 0) × (crowd2.refusal ≡ 0) × (past1.refusal ≡ 0) × (past2.refusal ≡ 0) × (full1.refusal ≡ 0) × (full2.refusal ≡ 0)
  leg_first : Counts leg1 1 1 2 7 0 0
  leg_second : Counts leg2 1 1 2 7 0 0
  crowd_first : Counts crowd1 0 1 1 4 2 1
  crowd_second : Counts crowd2 0 2 3 12 0 0
  past_first : Counts past1 0 1 1 5 0 0
  past_second : Counts past2 1 0 0 0 0 0
  full_first : Counts full1 0 3 4 16 0 0
  full_second : Counts full2 0 2 3 13 1 0
  past_record : (at past1.lent.labels 2 ≡ past1.lent.rec.label) × (past1.lent.rec.pages ≡ 4)

tried : Tried
unfolding the_rules leg leg1 leg2 crowd crowd1 crowd2 past past1 past2 full full1 full2
tried = record {
  met = record { first = refl; accepted = refl; kept = refl; second = refl; names = λ g k t. absurd (unnamed g k t); kept_again = refl };
  same = record { hinted = refl; taken = refl; objects = refl; words = refl };
  accepted = (refl, refl, refl, refl, refl, refl, refl, refl);
  leg_first = (refl, refl, refl, refl, refl, refl);
  leg_second = (refl, refl, refl, refl, refl, refl);
  crowd_first = (refl, refl, refl, refl, refl, refl);
  crowd_second = (refl, refl, refl, refl, refl, refl);
  past_first = (refl, refl, refl, refl, refl, refl);
  past_second = (refl, refl, refl, refl, refl, refl);
  full_first = (refl, refl, refl, refl, refl, refl);
  full_second = (refl, refl, refl, refl, refl, refl);
  past_record = (refl, refl);
}
  where
    -- the hint names page 2, twice, and that was in use
    used : (g : ℕ) → g ≡ 2 → at leg.labels g ≡ 0 → ⊥
    used g e z = let q : at leg.labels 2 ≡ 0 = ap (at leg.labels) (sym e) ∙ z in omega arith

    unnamed : (g : ℕ) → Memᴰ g (2 ∷ 2 ∷ []) → Took leg leg1 g → ⊥
    unnamed g k t = go (Memᴰ.cases_cons k)
      where
        go : (g ≡ 2) ⊎ Memᴰ g (2 ∷ []) → ⊥
        go (inl e) = used g e t.free
        go (inr k) = used g (Memᴰ.eq_of_singleton k) t.free

-- ---- each is needed: it alone fails, and the numbers differ

no_hint : (m : Lent) (a : CollectOutcome) → NamesNoneTaken m [] a
unfolding pages_named
no_hint m a g k t = absurd (Memᴰ.not-nil k)

-- the others hold
crowd_else : (crowd1.refusal ≡ 0) × NamesNoneTaken crowd [] crowd1 × (crowd2.kept ≡ 0)
crowd_else = (tried.accepted.2, no_hint crowd crowd1, tried.crowd_second.4)

past_else : (past1.refusal ≡ 0) × (past1.kept ≡ 0) × (past2.kept ≡ 0)
past_else = (tried.accepted.4, tried.past_first.4, tried.past_second.4)

full_else : (full1.refusal ≡ 0) × (full1.kept ≡ 0) × NamesNoneTaken full [] full1
full_else = (tried.accepted.6, tried.full_first.4, no_hint full full1)

crowd_fails : InARow crowd (8 ∷ 16 ∷ 12 ∷ []) [] crowd1 crowd2 → ⊥
crowd_fails R = omega (arith, tried.crowd_first.4, R.kept)

past_fails : InARow past (8 ∷ []) (24 ∷ []) past1 past2 → ⊥
unfolding pages_named pages_of_hint page_named page_named_before past
past_fails R = R.names 2 (Memᴰ.tail (Memᴰ.head refl)) (record {
  free = refl;
  in_use = record { low = omega arith; high = omega (arith, tried.past_record.1); label = tried.past_record.0 };
})

full_fails : InARow full (8 ∷ 16 ∷ 13 ∷ 21 ∷ []) [] full1 full2 → ⊥
full_fails R = omega (arith, tried.full_second.4, R.kept_again)

crowd_differs : SameNumbers crowd1 crowd2 → ⊥
crowd_differs S = omega (arith, S.taken, tried.crowd_first.1, tried.crowd_second.1)

past_differs : SameNumbers past1 past2 → ⊥
past_differs S = omega (arith, S.taken, tried.past_first.1, tried.past_second.1)

full_differs : SameNumbers full1 full2 → ⊥
full_differs S = omega (arith, S.taken, tried.full_first.1, tried.full_second.1)
