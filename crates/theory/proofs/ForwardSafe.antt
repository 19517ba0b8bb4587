-- Forwarding is safe: every access of it is inside, the queue has a place for a page that joins, and counts fit.
use Rattle.std.specs.Prelude.{◌≡◌, ◌≢◌, ◌⊎◌, ℕ, ◌+◌, ◌*◌, ◌%◌, ◌≤◌, ◌<◌}
use Rattle.std.proofs.Common.{sym, ap, ◌∙◌, inl, inr, add-zero, arith}
use Rattle.rules.specs.Ranges.{at}
use Rattle.rules.specs.Header.{size_of}
use Rattle.rules.specs.Collection.{State, top}
use Rattle.laws.specs.Safe.{SafeTake, SafeCopy, SafeKeep, SafeForward}
use Rattle.laws.specs.Words.{in_range}
use Rattle.laws.specs.Pages.{pages_apart}
use Rattle.laws.specs.FreePages.{Lowest}
use Rattle.theory.specs.Queue.{Queued, queue_room}
use Rattle.theory.specs.World.{page_of, label_of, size_at, World, Gone, AsBefore, Reach, Inv}
use Rattle.theory.specs.Places.{some_words, word_inside, obj_label, obj_label_used, old_before}
use Rattle.theory.specs.Put.{Ready, top_page, to_fits, to_inside}
use Rattle.theory.specs.Take.{page_inside}
use Rattle.theory.specs.Keep.{page_inside as kept-inside}
use Rattle.theory.specs.Forward.{Due, Avail, can_says, room_for, open_room}
use Rattle.theory.proofs.Packs.{Packs, packs_within, words_left}

module _ (W : World) (s : State) (I : Inv W s) (K : Packs W s) (Q : Queued W.plan.new s.pages.labels s.pages.queue) where
  module _ (x : ℕ) (D : Due W s x) (av : Avail W s (size_at W x)) where
    take_safe : W.plan.page < s.pages.fill + size_at W x → SafeTake W.plan s.pages
    take_safe lt =
        let L : Lowest s.pages.labels W.plan.lo W.plan.hi = av.page lt in
        record {
          new = W.new≢0;
          hi = omega (arith, W.high, I.labels_length);
          found = L.high;
          few = omega (arith, I.labels_length, W.few);
          queue = queue_room W.plan.new s.pages.labels s.pages.queue _ W.new≢0 (page_inside W s I av.unkept L) (λ q. W.new≢0 (sym q ∙ L.free)) Q;
        }

    -- there is room for the copy, and then it is apart from the object
    abbrev t : State
    t = room_for W s x

    ready : Ready W t x
    ready = (open_room W s I x D av).ready

    apart : (x + size_at W x ≤ top W.plan t.pages) ⊎ (top W.plan t.pages + size_at W x ≤ x)
    apart = pages_apart W.plan.page x (size_at W x) (top W.plan t.pages) (size_at W x) (W.fits x D.object) (to_fits W t x ready)
        (λ q. W.old≢0 (sym (old_before W s I x D.object D.old) ∙ ap (at W.labels) (q ∙ top_page W t x ready) ∙ ready.inv.copy_fresh))

    copy_safe : SafeCopy W.plan (size_at W x) x s
    copy_safe = record {
      fill = I.fill_within;
      take = take_safe;
      from = omega (arith, W.inside x D.object, I.heap_length);
      into = to_inside W t x ready;
      apart = apart;
      small = omega (arith, I.heap_length, W.small);
      objects = omega (arith, words, K.objects);
      words = words;
    }
      where
        words : s.words ≤ 4194304
        words = omega (arith, K.words, words_left W s I K x D, W.most, W.small)

  keep_safe : (x : ℕ) → Due W s x → SafeKeep W.plan (page_of W x) s.pages
  keep_safe x D = record {
    new = W.new≢0;
    used = λ q. W.old≢0 (sym D.old ∙ q);
    few = omega (arith, I.labels_length, W.few);
    queue = queue_room W.plan.new s.pages.labels s.pages.queue _ W.new≢0 (kept-inside W s I x D.object D.old (packs_within W s K)) (λ q. W.new≢old (sym q ∙ D.old)) Q;
    kept = packs_within W s K;
  }

  -- v is nil, or an object of the heap before that is reached, or on a page with the new label
  abbrev Forwardable : ℕ → Type 0
  Forwardable v = (v ≡ 0) ⊎ ((W.Obj v × Reach W s v) ⊎ (label_of W s v ≡ W.plan.new))

  pub forward_safe : (v : ℕ) → Forwardable v → SafeForward W.plan v s
  forward_safe v d = record {
    page = W.pos;
    small = omega (arith, I.heap_length, W.small);
    fill = I.fill_within;
    within = λ n. word_inside W s I v (label n d);
    label = λ n. in_range s.pages.labels (page_of W v) (label n d);
    copy = λ n e l q. let D = due n e l d in rw (size D) (copy_safe v D (can_says W s (size_at W v) (rw (size D) at q)));
    keep = λ n e l q. keep_safe v (due n e l d);
  }
    where
      label : v ≢ 0 → Forwardable v → label_of W s v ≢ 0
      label n (inl z) = absurd (n z)
      label n (inr (inr c)) = λ q. W.new≢0 (sym c ∙ q)
      label n (inr (inl (ob, rc))) = obj_label_used W s I v ob

      due : v ≢ 0 → at s.heap v % 2 ≢ 0 → label_of W s v ≢ W.plan.new → Forwardable v → Due W s v
      due n e l (inl z) = absurd (n z)
      due n e l (inr (inr c)) = absurd (l c)
      due n e l (inr (inl (ob, rc))) = kind (obj_label W s I v ob)
        where
          unmoved : label_of W s v ≡ W.plan.old → Gone s v ⊎ AsBefore W s v → Due W s v
          unmoved o (inr same) = record { object = ob; old = o; reached = rc; same = same }
          unmoved o (inl (m, mem, q)) =
              let a : at s.heap v ≡ 2 * m.to = ap (at s.heap) q ∙ (I.moved m mem).planted in
              absurd (e (omega arith))

          kind : (label_of W s v ≡ W.plan.old) ⊎ (label_of W s v ≡ W.plan.new) → Due W s v
          kind (inl o) = unmoved o (I.unmoved v ob o)
          kind (inr c) = absurd (l c)

      size : Due W s v → size_of (at s.heap v) ≡ size_at W v
      size D = ap size_of (simp add-zero at (D.same 0 (some_words W v D.object)))
