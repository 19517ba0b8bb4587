-- Laws of the run: what is left of the input tells how the definition goes on from there. Assumes nothing.
use Rattle.std.proofs.Common.{◌≡◌, refl, ap, ◌∙◌, sym, Bool, true, false, cond, Option, Some, None, Result, Ok, Err, List, [], ◌++◌, ℕ, suc, ◌+◌, ◌-◌, ◌*◌, ◌/◌, ◌<◌, ◌≤◌, min, arith, length, take, drop, length-drop, eqb, leb, ltb, append_assoc, length-append}
use native.Mathlib.Nat.{sub-zero}
use lib.Seq.{take_all, drop-drop}
use borrow.Author.Tests.{leb-true, leb-false, ltb-true, ltb-false}
use Rattle.entries.specs.declared.Entry.{Entry}
use Rattle.entries.specs.declared.Partial.{Partial}
use Rattle.entries.specs.Entries.{entry_at, next_at}
use Rattle.entries.specs.Places.{entry_on}
use Rattle.lines.specs.declared.tally.Tally.{Tally}
use Rattle.lines.specs.Lines.{line, none, noted, ending}
use Rattle.steps.specs.Session.{Session, Stepped, refused}
use Rattle.runs.specs.Run.{rest, answered, run}
use Rattle.runs.specs.Answer.{answer}
use Rattle.runs.specs.Turn.{Turned}

-- ---- what stands at the start of what is left

Left : List ℕ → Option (Result Entry Partial) → Type 0
Left l None = length l ≡ 0
Left l (Some (Ok e)) = (8 ≤ length l) × (e ≡ entry_at l 0)
Left l (Some (Err p)) = (0 < length l) × (length l < 8)

stands : (l : List ℕ) → Left l (next_at l 0)
unfolding next_at Left
stands l = by (leb 8 (length l)) (ltb 0 (length l)) refl refl
  where
    by : (b d : Bool) → leb 8 (length l) ≡ b → ltb 0 (length l) ≡ d
        → Left l (cond b (Some (Ok (entry_at l 0))) (cond d (Some (Err (record {}))) None))
    by true d h k = (leb-true 8 (length l) h, refl)
    by false true h k = (ltb-true 0 (length l) k, leb-false 8 (length l) h)
    by false false h k = omega (arith, ltb-false 0 (length l) k)

-- ---- the run from a place on

abbrev pub onward : List ℕ → ℕ → Session → Tally → List ℕ
onward bytes a s t = run ((length bytes - a) / 8) bytes a s t

-- a record's answer, and the run from the next place on
turn : (bytes : List ℕ) (a : ℕ) (s : Session) (t : Tally) (found : Result Entry Partial) → Left (drop a bytes) (Some found)
    → onward bytes a s t ≡ answered (onward bytes (a + 8)) t (answer s found)
unfolding Left run rest refused
turn bytes a s t (Ok e) h =
    let n : (length bytes - a) / 8 ≡ suc ((length bytes - (a + 8)) / 8) = omega (arith, h.0, length-drop a bytes) in
    rw (n, h.1, entry_on bytes a)
turn bytes a s t (Err p) h =
    let n : (length bytes - a) / 8 ≡ 0 = omega (arith, h.0, h.1, length-drop a bytes) in
    let m : length bytes - a ≡ suc (length bytes - a - 1) = omega (arith, h.0, length-drop a bytes) in
    let n' : (length bytes - (a + 8)) / 8 ≡ 0 = omega (arith, h.1, length-drop a bytes) in
    let m' : length bytes - (a + 8) ≡ 0 = omega (arith, h.1, length-drop a bytes) in
    rw (n', m', n, m)

done : (bytes : List ℕ) (a : ℕ) (s : Session) (t : Tally) → Left (drop a bytes) None → onward bytes a s t ≡ ending t
unfolding Left run rest
done bytes a s t h =
    let n : (length bytes - a) / 8 ≡ 0 = omega (arith, h, length-drop a bytes) in
    let m : length bytes - a ≡ 0 = omega (arith, h, length-drop a bytes) in
    rw (n, m)

-- ---- the tally

noted_by : (b : Bool) (t : Tally) → t.accepted + t.refused ≡ t.records
    → let n : Tally = cond b (record { records = t.records + 1; accepted = t.accepted + 1; refused = t.refused }) (record { records = t.records + 1; accepted = t.accepted; refused = t.refused + 1 }) in
    (n.accepted + n.refused ≡ n.records) × (n.records ≡ t.records + 1)
noted_by true t h = (omega arith, refl)
noted_by false t h = (omega arith, refl)

-- one record more, and the numbers still add up
noted_adds : (t : Tally) (k : ℕ) → t.accepted + t.refused ≡ t.records
    → ((noted t k).accepted + (noted t k).refused ≡ (noted t k).records) × ((noted t k).records ≡ t.records + 1)
unfolding noted
noted_adds t k h = noted_by (eqb k 0) t h

-- ---- the loop

-- Between two records: what is left of the bytes, and what is put so far, of which the definition gives the rest. A record has put
-- 33 bytes or fewer.
pub record Running (bytes left : List ℕ) (s : Session) (t : Tally) (out whole : List ℕ) : Type 0 where
  pub place : left ≡ drop (t.records * 8) bytes
  pub adds : t.accepted + t.refused ≡ t.records
  pub inside : t.records * 8 < length bytes + 8
  pub near : length out ≤ 33 * t.records
  pub text : out ++ onward bytes (t.records * 8) s t ≡ whole

nothing : (t : Tally) → (t.records ≡ 0) × ((t.accepted ≡ 0) × (t.refused ≡ 0)) → t ≡ none
nothing t e =
    ap (λ (n : ℕ). record { records = n; accepted = t.accepted; refused = t.refused }) e.0
    ∙ ap (λ (n : ℕ). record { records = 0; accepted = n; refused = t.refused }) e.1.0
    ∙ ap (λ (n : ℕ). record { records = 0; accepted = 0; refused = n }) e.1.1

pub begins : (bytes left : List ℕ) (s : Session) (t : Tally) (out : List ℕ) → left ≡ bytes → (t.records ≡ 0) × ((t.accepted ≡ 0) × (t.refused ≡ 0)) → out ≡ []
    → Running bytes left s t out (run (length bytes / 8) bytes 0 s none)
begins bytes left s t out l e o = rw (l, nothing t e, o) (record {
  place = refl;
  adds = refl;
  inside = omega arith;
  near = omega arith;
  text = ap (λ (k : ℕ). run (k / 8) bytes 0 s none) (sub-zero (length bytes));
})

module _ {bytes left : List ℕ} {s : Session} {t : Tally} {out whole : List ℕ} (now : Running bytes left s t out whole) where
  here : (o : Option (Result Entry Partial)) → o ≡ next_at left 0 → Left (drop (t.records * 8) bytes) o
  here o e = rw (e, ← now.place) (stands left)

  -- one more record comes
  pub more : (found : Result Entry Partial) → Some found ≡ next_at left 0 → t.records * 8 < length bytes
  unfolding Left
  more found e = by found (here (Some found) e)
    where
      by : (r : Result Entry Partial) → Left (drop (t.records * 8) bytes) (Some r) → t.records * 8 < length bytes
      by (Ok e) h = omega (arith, h.0, length-drop (t.records * 8) bytes)
      by (Err p) h = omega (arith, h.0, length-drop (t.records * 8) bytes)

  -- a record, its line, and the tally
  pub turns : (found : Result Entry Partial) → Some found ≡ next_at left 0 → {o : Stepped} → o ≡ answer s found → {out' : List ℕ}
      → out' ≡ out ++ line t.records o.refusal o.value → length out' ≤ length out + 33 → {t' : Tally} → t' ≡ noted t o.refusal
      → Running bytes (drop 8 left) o.session t' out' whole
  turns found e {o} is {out'} put near {t'} counted =
      let k = noted_adds t o.refusal now.adds in
      let records : t'.records ≡ t.records + 1 = ap (λ (x : Tally). x.records) counted ∙ k.1 in
      let on : t'.records * 8 ≡ t.records * 8 + 8 = omega (arith, records) in
      let go : onward bytes (t.records * 8) s t ≡ answered (onward bytes (t.records * 8 + 8)) t o =
      turn bytes (t.records * 8) s t found (here (Some found) e) ∙ ap (answered (onward bytes (t.records * 8 + 8)) t) (sym is) in
      record {
        place = rw now.place (drop-drop 8 (t.records * 8) bytes ∙ ap (λ (k : ℕ). drop k bytes) (sym on));
        adds = rw counted k.0;
        inside = omega (arith, more found e);
        near = omega (arith, records, near, now.near);
        text = rw (on, counted, put, append_assoc) (rw go at now.text);
      }

  -- the same, of a record's line
  pub turned : (found : Result Entry Partial) → Some found ≡ next_at left 0 → {text : List ℕ} {s' : Session} {t' : Tally}
      → Turned t (answer s found) text s' t' → {out' : List ℕ} → out' ≡ out ++ text → Running bytes (drop 8 left) s' t' out' whole
  turned found e {text} k put =
      rw k.session (turns found e refl (put ∙ ap (λ (x : List ℕ). out ++ x) k.text) (omega (arith, ap length put, length-append out text, k.near)) k.tally)

  -- the last text
  pub ends : None ≡ next_at left 0 → {out' : List ℕ} → out' ≡ out ++ ending t → out' ≡ whole
  ends e put = put ∙ ap (λ (x : List ℕ). out ++ x) (sym (done bytes (t.records * 8) s t (here None e))) ∙ now.text

-- ---- the whole buffers

-- "at most 8,000 records"
pub first_part : (l : List ℕ) (n : ℕ) → n ≡ min (length l) 64000 → take n l ≡ take 64000 l
first_part l n e = by (leb (length l) 64000) refl
  where
    by : (b : Bool) → leb (length l) 64000 ≡ b → take n l ≡ take 64000 l
    by true h = let k = leb-true (length l) 64000 h in take_all n l (omega arith) ∙ sym (take_all 64000 l k)
    by false h = let k = leb-false (length l) 64000 h in let m : n ≡ 64000 = omega arith in ap (λ (j : ℕ). take j l) m
