-- Start leaves a sound heap, whatever it was lent: every page is free and every word 0.
use Rattle.std.specs.Prelude.{◌≡◌, refl, true, ℕ, length}
use Rattle.std.proofs.Common.{sym, ◌∙◌, subst, inl, arith}
use Rattle.std.proofs.lemmas.List.{length-replicate}
use Rattle.rules.specs.Tests.{and_left}
use Rattle.rules.specs.Pages.{page_at_start, is_shape}
use Rattle.rules.specs.Lent.{Lent, is_laid_out, is_laid}
use Rattle.rules.specs.Sound.{InUse, Sound}
use Rattle.rules.specs.Calls.{Outcome, accepted, started, start}
use Rattle.laws.specs.Pages.{size_power}
use Rattle.laws.specs.Valid.{Layout, layout_says}
use Rattle.laws.specs.Words.{zeros_at}
use Rattle.kept.specs.Accepted.{start_says}

-- of P and T that are good
started_sound : (m : Lent) (P T : ℕ) → is_laid m P T ≡ true → Sound (started m P T)
unfolding is_laid_out is_shape
started_sound m P T e = record {
  valid = record {
    page = size_power P (and_left _ _ (and_left _ _ e));
    pages = (y.pages_low, y.pages_high);
    heap = length-replicate (length m.heap) 0 ∙ y.heap;
    labels = length-replicate (length m.labels) 0 ∙ y.labels;
    links = length-replicate (length m.links) 0 ∙ y.links;
    label = inl refl;
    opened = inl (refl, refl);
  };
  zero = zeros_at (length m.labels) 0;
  blank = λ w q. zeros_at (length m.heap) w;
  labels = λ g. inl (zeros_at (length m.labels) g);
  some = λ g u. absurd (none g u);
  tail = λ g w u q l. zeros_at (length m.heap) w;
  fill = λ n. absurd (n refl);
  references = λ x i o h. absurd (none _ o.in_use);
}
  where
    y : Layout m P T
    y = layout_says m P T e

    none : (g : ℕ) → InUse (started m P T) g → ⊥
    none g u = omega (arith, u.label, zeros_at (length m.labels) g)

pub start_sound : (m : Lent) (P T : ℕ) → (start m P T).refusal ≡ 0 → Sound (start m P T).lent
unfolding accepted
start_sound m P T z =
    let ok = start_says m P T z in
    subst (λ (o : Outcome). Sound o.lent) (sym ok.is) (started_sound m (page_at_start P) T ok.laid)
