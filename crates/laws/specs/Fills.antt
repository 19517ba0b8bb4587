-- Filling a page does not hang on the places filled before it: they stay in front of its own, and the heap is the same.
use Rattle.std.specs.Prelude.{◌≡◌, refl, Bool, true, false, cond, List, [], ◌∷◌, ◌++◌, ℕ, zero, suc, ◌+◌, ◌-◌}
use Rattle.std.proofs.Common.{sym, ap, ◌∙◌, append-nil, append_assoc}
use Rattle.std.proofs.lemmas.List.Edits.{sets}
use Rattle.rules.specs.Ranges.{at}
use Rattle.rules.specs.Header.{size_of, is_header}
use Rattle.rules.specs.Collection.{Filled, is_left, size_at_copy, filler, fill_place, fill_page}

abbrev pub filled_of : List ℕ → List ℕ → Filled
filled_of h places = record { heap = h; places = places }

-- with the places l in front
abbrev pub after : List ℕ → Filled → Filled
after l s = filled_of s.heap (l ++ s.places)

after_cond : (l : List ℕ) (b : Bool) (s t s' t' : Filled) → s ≡ after l s' → t ≡ after l t' → cond b s t ≡ after l (cond b s' t')
after_cond l true s t s' t' p q = p
after_cond l false s t s' t' p q = q

pub page_after : (f a room : ℕ) (h l p : List ℕ) → fill_page f a room (filled_of h (l ++ p)) ≡ after l (fill_page f a room (filled_of h p))
unfolding fill_page fill_place
page_after zero a room h l p = refl
page_after (suc f) a room h l p =
    let w = at h a in
    let c = size_at_copy h w in
    after_cond l (is_header w room) _ _ _ _ (page_after f (a + size_of w) (room - size_of w) h l p)
    (after_cond l (is_left w room) _ _ _ _ (rw (append_assoc l p (a ∷ [])) (page_after f (a + c) (room - c) (sets h a (filler c)) l (p ++ (a ∷ [])))) refl)

pub page_heap : (f a room : ℕ) (h l : List ℕ) → (fill_page f a room (filled_of h l)).heap ≡ (fill_page f a room (filled_of h [])).heap
page_heap f a room h l =
    ap (λ (k : List ℕ). (fill_page f a room (filled_of h k)).heap) (sym (append-nil l))
    ∙ ap (λ (s : Filled). s.heap) (page_after f a room h l [])
