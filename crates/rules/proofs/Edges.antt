-- The starred edges of document 01, those of Q-1 to Q-3 and of Q-5: one table, and one theorem that antt computes. The program `edges`
-- runs the same on the code.
use Rattle.std.specs.Prelude.{◌≡◌, refl, ◌⊎◌, Bool, true, ◌&&◌, ℕ, eqb}
use Rattle.std.proofs.Common.{ap, ◌∙◌, sym, inl, inr, eqb-true}
use mathlib.Core.List.Memᴰ
use mathlib.Core.List.{List, [], ◌∷◌, Memᴰ}
use Rattle.rules.specs.Tests.{and_left, and_right}
use Rattle.rules.specs.Ranges.{at}
use Rattle.rules.specs.Header.{header_of}
use Rattle.rules.specs.Pages.{pages_of_hint, page_named_to_c, page_named_before_to_c, pages_needed_to_c}
use Rattle.rules.specs.Lent.{Lent}
use Rattle.rules.specs.Calls.{start, allocate, look_up, load, store}
use Rattle.rules.specs.Unfolded.{the_rules}
use Rattle.rules.specs.Heaps.{held, fresh, older}

-- P 8, T 6, so that N is 5, with k pages in use, each full
abbrev pub used1 : Lent
used1 = (allocate fresh 7 0).lent

abbrev pub used2 : Lent
used2 = (allocate used1 7 0).lent

-- Q-5: T 3 under the default
abbrev pub default : Lent
default = (start (held 64 3) 0 3).lent

-- a row: what is asked, and the answer
pub record Edge : Type 0 where
  pub asked : ℕ
  pub answer : ℕ

abbrev pub edge : ℕ → ℕ → Edge
edge a b = record { asked = a; answer = b }

unfoldable pub edges : List Edge
edges =
    -- "Header for d 3, p 1: 262,147. For d 0, p 0: 65,537. For d 7, p 7: 524,303."
    edge (header_of 3 1) 262147 ∷ edge (header_of 0 0) 65537 ∷ edge (header_of 7 7) 524303
    -- "P 8: d 7 accepted, d 8 refused 2. d 3, p 4 refused 2, also when 3 applies."
    ∷ edge (allocate fresh 7 0).refusal 0 ∷ edge (allocate fresh 8 0).refusal 2
    ∷ edge (allocate fresh 3 4).refusal 2 ∷ edge (allocate used2 3 4).refusal 2
    -- "P 8, T 6: word 7 names none, 8 names page 1, 47 page 5, 48 none."
    ∷ edge (page_named_to_c 7 8 6) 0 ∷ edge (page_named_to_c 8 8 6) 1 ∷ edge (page_named_to_c 47 8 6) 5 ∷ edge (page_named_to_c 48 8 6) 0
    -- Q-1: "With P 8 and T 6, word 48 now names page 5." Word 0 names none, word 8 page 1 only, and a word at a boundary both
    -- pages, its own first.
    ∷ edge (at (pages_of_hint 8 1 6 48) 0) 0 ∷ edge (at (pages_of_hint 8 1 6 48) 1) 5 ∷ edge (page_named_before_to_c 48 8 6) 5
    ∷ edge (at (pages_of_hint 8 1 6 0) 0) 0 ∷ edge (at (pages_of_hint 8 1 6 0) 1) 0 ∷ edge (page_named_before_to_c 0 8 6) 0
    ∷ edge (at (pages_of_hint 8 1 6 8) 0) 1 ∷ edge (at (pages_of_hint 8 1 6 8) 1) 0 ∷ edge (page_named_before_to_c 8 8 6) 0
    ∷ edge (at (pages_of_hint 8 1 6 16) 0) 2 ∷ edge (at (pages_of_hint 8 1 6 16) 1) 1 ∷ edge (page_named_before_to_c 16 8 6) 1
    -- Pages needed. Q-3: "With P 8, W 0, 8 and 9 give 0, 1 and 3"; "a bad P gives 4,294,967,295"
    ∷ edge (pages_needed_to_c 0 8) 0 ∷ edge (pages_needed_to_c 8 8) 1 ∷ edge (pages_needed_to_c 9 8) 3
    ∷ edge (pages_needed_to_c 0 0) 4294967295 ∷ edge (pages_needed_to_c 9 12) 4294967295
    -- "N 5, k 1: a new page is given. N 5, k 2: refused 3."
    ∷ edge (allocate used1 7 0).refusal 0 ∷ edge (allocate used1 7 0).value 16 ∷ edge (allocate used2 7 0).refusal 3
    -- Q-2: "0 and the start, 10 and s, or 4 and 0". Of the object at 8, which ends its page: its start, its first and last words
    -- inside, and just past it; page 0's last word; and that load and store pass it on
    ∷ edge (look_up used1 8).refusal 0 ∷ edge (look_up used1 8).value 8
    ∷ edge (look_up used1 9).refusal 10 ∷ edge (look_up used1 9).value 8
    ∷ edge (look_up used1 15).refusal 10 ∷ edge (look_up used1 15).value 8
    ∷ edge (look_up used1 16).refusal 4 ∷ edge (look_up used1 16).value 0
    ∷ edge (look_up used1 7).refusal 4 ∷ edge (look_up used1 7).value 0
    ∷ edge (load used1 15 0).refusal 10 ∷ edge (load used1 15 0).value 8
    ∷ edge (store used1 15 0 0).refusal 10 ∷ edge (store used1 15 0 0).value 8
    -- Q-5: "P = 0 at start means 64 .. Named sizes and older records are as before. Refusals: under the default, the lengths of 1,
    -- the size of 2 .. are read with 64."
    ∷ edge (start (held 64 3) 0 3).refusal 0 ∷ edge default.rec.page 64 ∷ edge (start (held 128 3) 0 3).refusal 1
    ∷ edge (allocate default 63 0).refusal 0 ∷ edge (allocate default 64 0).refusal 2
    ∷ edge (start (held 128 3) 128 3).refusal 0 ∷ edge (allocate older 127 0).refusal 0 ∷ edge (allocate older 128 0).refusal 2
    ∷ []

unfoldable hold : List Edge → Bool
hold [] = true
hold (e ∷ es) = eqb e.asked e.answer && hold es

computed : hold edges ≡ true
unfolding the_rules hold edges
computed = refl

row : (es : List Edge) → hold es ≡ true → (e : Edge) → Memᴰ e es → e.asked ≡ e.answer
unfolding hold
row [] h e k = absurd (Memᴰ.not-nil k)
row (d ∷ es) h e k = go (row es (and_right (eqb d.asked d.answer) (hold es) h) e) (Memᴰ.cases_cons k)
  where
    go : (Memᴰ e es → e.asked ≡ e.answer) → (e ≡ d) ⊎ Memᴰ e es → e.asked ≡ e.answer
    go ih (inl z) =
        ap (λ (x : Edge). x.asked) z ∙ eqb-true _ _ (and_left _ (hold es) h) ∙ ap (λ (x : Edge). x.answer) (sym z)
    go ih (inr z) = ih z

-- each row of the table holds
pub edges_hold : (e : Edge) → Memᴰ e edges → e.asked ≡ e.answer
edges_hold = row edges computed
