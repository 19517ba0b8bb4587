-- The pages kept for want of room, which stand last in the queue.
use Rattle.std.specs.Prelude.{◌≡◌, ℕ, ◌+◌, ◌-◌, ◌≤◌, length, drop}
use Rattle.std.proofs.Common.{sym, ap, ◌∙◌, subst, arith, length-drop, length-append, drop_of_length-le, get_or-drop}
use mathlib.Core.List.Memᴰ
use mathlib.Core.List.{[], ◌∷◌, ◌++◌, Memᴰ}
use Rattle.std.proofs.lemmas.List.{drop-append-le}
use Rattle.rules.specs.Ranges.{at}
use Rattle.rules.specs.Collection.{Plan, Pages, keep_page, kept_pages}
use Rattle.rules.specs.Demands.{Once}

pub kept_none : (p : Pages) → p.kept ≡ 0 → kept_pages p ≡ []
unfolding kept_pages
kept_none p e = drop_of_length-le p.queue {i = length p.queue - p.kept} (omega arith)

pub not_kept : (p : Pages) → p.kept ≡ 0 → (g : ℕ) → Memᴰ g (kept_pages p) → ⊥
not_kept p e g k = Memᴰ.not-nil (subst (Memᴰ g) (kept_none p e) k)

pub kept_length : (p : Pages) → p.kept ≤ length p.queue → length (kept_pages p) ≡ p.kept
unfolding kept_pages
kept_length p h = length-drop (length p.queue - p.kept) p.queue ∙ omega arith

pub kept_at : (p : Pages) (i : ℕ) → at (kept_pages p) i ≡ at p.queue (length p.queue - p.kept + i)
unfolding kept_pages
kept_at p i = get_or-drop (length p.queue - p.kept) p.queue i 0

-- no page is kept twice
pub kept_once : (p : Pages) → p.kept ≤ length p.queue → Once p.queue → Once (kept_pages p)
kept_once p h once i j hi hj e =
    let q : length p.queue - p.kept + i ≡ length p.queue - p.kept + j =
    once _ _ (omega (arith, kept_length p h)) (omega (arith, kept_length p h)) (sym (kept_at p i) ∙ e ∙ kept_at p j) in
    omega arith

-- one page more
pub kept_more : (k : Plan) (g : ℕ) (p : Pages) → p.kept ≤ length p.queue → kept_pages (keep_page k g p) ≡ kept_pages p ++ (g ∷ [])
unfolding kept_pages keep_page
kept_more k g p h =
    let e : length (p.queue ++ (g ∷ [])) - (p.kept + 1) ≡ length p.queue - p.kept = ap (λ (n : ℕ). n - (p.kept + 1)) (length-append p.queue (g ∷ [])) ∙ omega arith in
    ap (λ (n : ℕ). drop n (p.queue ++ (g ∷ []))) e ∙ drop-append-le (length p.queue - p.kept) p.queue (g ∷ []) (omega arith)
