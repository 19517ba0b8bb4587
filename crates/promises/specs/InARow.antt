-- Q-7, proved: `two_in_a_row : TwoInARow`, as `rules/specs/InARow.antt` states it, of any outcomes that equal the definition, which the
-- contract says of the code's. Over the definition itself it is the theory's (`collection_again`).
use Rattle.std.specs.Prelude.{◌≡◌, refl, ℕ}
use Rattle.std.proofs.Common.{sym, ap, ◌∙◌}
use Rattle.std.proofs.Math.Path.{subst}
use mathlib.Core.List.{List, Memᴰ}
use Rattle.rules.specs.Lent.{Lent}
use Rattle.rules.specs.Collection.{plainly, Collection, collection}
use Rattle.rules.specs.Collect.{CollectOutcome, accepted_collect, collect}
use Rattle.rules.specs.Demands.{Faithful, Took}
use Rattle.rules.specs.InARow.{InARow, Repeats, TwoInARow}
use Rattle.laws.specs.Collect.{Ready, ready_says, ready_is, collect_refusal, collect_accepts}
use Rattle.theory.specs.Collections.{Again}
use Rattle.theory.proofs.Collections.{collect_faithful, collect_ready, collect_finds, collection_again}
use Rattle.promises.specs.Unkept.{as_before, unfilled}

module _ (m : Lent) (roots hints : List ℕ) (A : Ready m roots) where
  -- the first, and the second "at once with the resulting roots and the same hints"
  abbrev c : Collection
  c = collection plainly m roots hints

  abbrev d : Collection
  d = collection plainly c.lent c.roots hints

  first_is : collect m roots hints ≡ accepted_collect c
  first_is = collect_accepts m roots hints (ready_is m roots A)

  -- "accepted" is a conclusion: what the first leaves is ready
  again_ready : Ready c.lent c.roots
  unfolding accepted_collect
  again_ready = subst (λ (o : CollectOutcome). Ready o.lent o.roots) first_is (collect_ready m roots hints (ready_is m roots A))

  second_is : collect c.lent c.roots hints ≡ accepted_collect d
  second_is = collect_accepts c.lent c.roots hints (ready_is c.lent c.roots again_ready)

  repeats : (b : CollectOutcome) → InARow m roots hints (accepted_collect c) b → b ≡ accepted_collect d → Repeats (accepted_collect c) hints b
  unfolding accepted_collect
  repeats b R is = subst (Repeats (accepted_collect c) hints) (sym is) (record {
    accepted = refl;
    objects = (
      G.Pairs,
      record {
        faithful = as_before c.lent c.roots hints (accepted_collect d) d G.Pairs none G.faithful;
        every = G.every;
        fillers = (fillers (collect_faithful m roots hints (ready_is m roots A)), unfilled c.lent c.roots hints (accepted_collect d) d G.Pairs none G.faithful);
      },
    );
    numbers = G.numbers;
  })
    where
      took : (g : ℕ) → Memᴰ g c.taken → Took m (accepted_collect c) g
      took g t = subst (λ (o : CollectOutcome). Took m o g) first_is ((collect_finds m roots hints (ready_is m roots A)).took g t)

      none : (accepted_collect d).kept ≡ 0
      none = sym (ap (λ (o : CollectOutcome). o.kept) is) ∙ R.kept_again

      G : Again c hints d
      G = collection_again m roots hints A R.kept (λ g k t. R.names g k (took g t)) none

      fillers : (Pairs : ℕ → ℕ → Type 0) × Faithful m roots hints (collect m roots hints) c Pairs → (accepted_collect c).fillers ≡ 0
      fillers (Pairs, F) = unfilled m roots hints (accepted_collect c) c Pairs R.kept (subst (λ (o : CollectOutcome). Faithful m roots hints o c Pairs) first_is F)

pub two_in_a_row : TwoInARow
unfolding accepted_collect
two_in_a_row m roots hints a b R = subst (λ (o : CollectOutcome). InARow m roots hints o b → Repeats o hints b) (sym is) (λ R. repeats m roots hints A b R (R.second ∙ second_is m roots hints A)) R
  where
    A : Ready m roots
    A = ready_says m roots (sym (collect_refusal m roots hints) ∙ sym (ap (λ (o : CollectOutcome). o.refusal) R.first) ∙ R.accepted)

    is : a ≡ accepted_collect (collection plainly m roots hints)
    is = R.first ∙ first_is m roots hints A
