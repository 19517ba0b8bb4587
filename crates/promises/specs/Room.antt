-- What Q-3 asks, in a user's words, and Q-6 lets stand: an accepted collection takes no more pages than the figure by words; and that
-- figure never exceeds the one by pages that document 01 had. Where it does not exceed the free pages, which is where a collection was
-- accepted before Q-6, no page is kept.
use Rattle.std.specs.Prelude.{◌≡◌, ℕ, ◌*◌, ◌-◌, ◌≤◌}
use Rattle.std.proofs.Math.Path.{sym}
use Rattle.std.proofs.Common.{ap, ◌∙◌, arith}
use mathlib.Core.List.{List}
use Rattle.std.proofs.Math.ListN.{length}
use Rattle.rules.specs.Pages.{pages_used}
use Rattle.rules.specs.Lent.{Lent}
use Rattle.rules.specs.Collect.{pages_unhinted, needed_for, refusal_of_collect, accepted_collect, collect}
use Rattle.laws.specs.FreePages.{free_pages, used_and_free}
use Rattle.laws.specs.Room.{needed_never_more}
use Rattle.laws.specs.Collect.{collect_refusal, collect_accepts}
use Rattle.theory.proofs.Collections.{collect_finds, collect_unkept}

-- "the old figure": 2k' - 1, and 0 where k' is
abbrev pub old_figure : Lent → List ℕ → ℕ
old_figure m hints = 2 * pages_unhinted m hints - 1

module _ (m : Lent) (roots hints : List ℕ) where
  -- "a collection takes at most 2·floor(W / (P + 1)) + 1 pages if W is at least 1, else none": an accepted one, on any memory
  pub takes_at_most : (collect m roots hints).refusal ≡ 0 → (collect m roots hints).taken ≤ needed_for m hints
  unfolding accepted_collect
  takes_at_most z =
      let e : refusal_of_collect m roots ≡ 0 = sym (collect_refusal m roots hints) ∙ z in
      rw (collect_accepts m roots hints e) (collect_finds m roots hints e).few

  -- "this never exceeds the old figure": of any memory and hints
  pub never_more : needed_for m hints ≤ old_figure m hints
  never_more = needed_never_more m hints

  -- N - k
  abbrev pages_free : ℕ
  pages_free = m.rec.pages - 1 - pages_used m.labels 1 m.rec.pages

  -- 8 was "given exactly when the new figure exceeds N - k"; where it was not, no page is kept
  pub none_kept : (collect m roots hints).refusal ≡ 0 → needed_for m hints ≤ pages_free → (collect m roots hints).kept ≡ 0
  unfolding accepted_collect
  none_kept z h =
      let e : refusal_of_collect m roots ≡ 0 = sym (collect_refusal m roots hints) ∙ z in
      let free : needed_for m hints ≤ free_pages m.labels 1 m.rec.pages = omega (arith, used_and_free m.labels 1 m.rec.pages) in
      rw (collect_accepts m roots hints e) (ap (λ (l : List ℕ). length l) (collect_unkept m roots hints e free))
