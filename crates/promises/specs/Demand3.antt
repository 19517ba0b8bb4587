-- The third demand, proved: `demand3 : Demand3`, as `rules/specs/Demands.antt` states it. Soundness goes by induction over the
-- calls; what holds of one collection is the theory's.
use Rattle.std.specs.Prelude.{◌≡◌, List, [], ◌∷◌, ℕ}
use Rattle.std.proofs.Common.{sym, ◌∙◌, subst}
use Rattle.rules.specs.Lent.{Lent}
use Rattle.rules.specs.Sound.{Sound}
use Rattle.rules.specs.Calls.{start}
use Rattle.rules.specs.Collect.{refusal_of_collect, collect}
use Rattle.rules.specs.Demands.{Call, to_start, to_allocate, to_look_up, to_load, to_store, to_collect, after, after_all, FromStart, Demand3}
use Rattle.kept.specs.Refusals.{by_refusal, start_refused}
use Rattle.laws.specs.Collect.{collect_refusal}
use Rattle.kept.specs.Start.{start_sound}
use Rattle.kept.specs.Allocate.{allocate_sound}
use Rattle.kept.specs.Store.{look_up_same, load_same, store_sound}
use Rattle.theory.proofs.Collections.{collect_keeps_sound, collect_finds, collect_faithful}
use Rattle.promises.specs.Completes.{completes}

-- an accepted collection passed its tests
tested : (m : Lent) (roots hints : List ℕ) → (collect m roots hints).refusal ≡ 0 → refusal_of_collect m roots ≡ 0
tested m roots hints e = sym (collect_refusal m roots hints) ∙ e

-- every call keeps a sound heap sound, accepted or refused
pub call_sound : (m : Lent) → Sound m → (c : Call) → Sound (after m c)
unfolding after
call_sound m S (to_start P T) = by_refusal (start m P T) (start_sound m P T) (λ n. subst Sound (sym (start_refused m P T n).lent) S)
call_sound m S (to_allocate d p) = allocate_sound m d p S
call_sound m S (to_look_up a) = subst Sound (sym (look_up_same m a)) S
call_sound m S (to_load a i) = subst Sound (sym (load_same m a i)) S
call_sound m S (to_store a i v) = store_sound m a i v S
call_sound m S (to_collect roots hints) = collect_keeps_sound m roots hints S

pub calls_sound : (m : Lent) → Sound m → (cs : List Call) → Sound (after_all m cs)
unfolding after_all
calls_sound m S [] = S
calls_sound m S (c ∷ cs) = calls_sound (after m c) (call_sound m S c) cs

from_start_sound : (m : Lent) → FromStart m → Sound m
from_start_sound m f = subst Sound (sym f.here) (calls_sound (start f.lent f.P f.T).lent (start_sound f.lent f.P f.T f.fresh) f.calls)

pub demand3 : Demand3
demand3 = record {
  sound = from_start_sound;
  completes = λ m roots hints f good. completes m roots hints (from_start_sound m f) good;
  finds = λ m roots hints f e. collect_finds m roots hints (tested m roots hints e);
  faithful = λ m roots hints f e. collect_faithful m roots hints (tested m roots hints e);
}
