-- "A full heap that can't collect stops a night's run" (Q-6): in a session there is none. Once a start was accepted no record that
-- collects is refused, whatever came before.
use Rattle.std.specs.Prelude.{◌≡◌, Bool, true, cond, List, refl}
use Rattle.std.proofs.Common.{ap, ◌∙◌}
use Rattle.rules.specs.Tests.{and_is}
use Rattle.rules.specs.Ranges.{each}
use Rattle.promises.specs.Completes.{completes}
use Rattle.entries.specs.declared.Step.{Step}
use Rattle.entries.specs.declared.Step.TheVariants.{Collect}
use Rattle.steps.specs.Session.{Session, before, refused, passed, perform, step}
use Rattle.steps.proofs.Ready.{IsReady, played, session_ready}

pub perform_collects : (s : Session) → IsReady s → s.begun ≡ true → (perform s Collect).refusal ≡ 0
unfolding perform passed
perform_collects s h b = let k = h b in completes s.lent s.roots s.hints k.sound k.roots

pub always_collects : (ts : List Step) → (played before ts).begun ≡ true → (step (played before ts) Collect).refusal ≡ 0
unfolding step each
always_collects ts b =
    let s = played before ts in
    ap (λ (ok : Bool). (cond ok (perform s Collect) (refused 9 s)).refusal) (and_is b refl) ∙ perform_collects s (session_ready ts) b
