-- What stands at a place of the bytes stands at the start of what is left from there.
use Rattle.std.specs.Prelude.{◌≡◌, List, ℕ, ◌+◌, ◌-◌, ◌<◌, Bool, true, false, length, drop, min, leb, ltb}
use Rattle.std.proofs.Common.{arith, length-drop, refl, le-leb}
use Rattle.std.proofs.lemmas.Bool.{le-ltb}
use Rattle.std.proofs.lemmas.List.{get_or-drop, drop_all}
use borrow.Author.Tests.{leb-true, leb-false, ltb-true, ltb-false, lt-leb, lt-ltb}
use Rattle.entries.specs.Entries.{entry_at, next_at}

pub entry_on : (bytes : List ℕ) (a : ℕ) → entry_at (drop a bytes) 0 ≡ entry_at bytes a
entry_on bytes a =
    let b1 : a + 4 + 1 ≡ a + 5 = omega arith in
    let b2 : a + 4 + 2 ≡ a + 6 = omega arith in
    let b3 : a + 4 + 3 ≡ a + 7 = omega arith in
    let b0 : a + 0 ≡ a = omega arith in
    rw (
      get_or-drop a bytes 0 0,
      get_or-drop a bytes 1 0,
      get_or-drop a bytes 2 0,
      get_or-drop a bytes 3 0,
      get_or-drop a bytes 4 0,
      get_or-drop a bytes 5 0,
      get_or-drop a bytes 6 0,
      get_or-drop a bytes 7 0,
      b0,
      b1,
      b2,
      b3,
    )

-- the two tests of next_at
room_on : (l a k : ℕ) → 0 < k → leb (0 + k) (l - a) ≡ leb (a + k) l
room_on l a k p = by (leb (a + k) l) refl
  where
    by : (b : Bool) → leb (a + k) l ≡ b → leb (0 + k) (l - a) ≡ b
    by true h = le-leb (0 + k) (l - a) (omega (arith, leb-true (a + k) l h))
    by false h = lt-leb (0 + k) (l - a) (omega (arith, leb-false (a + k) l h, p))

left_on : (l a : ℕ) → ltb 0 (l - a) ≡ ltb a l
left_on l a = by (ltb a l) refl
  where
    by : (b : Bool) → ltb a l ≡ b → ltb 0 (l - a) ≡ b
    by true h = lt-ltb 0 (l - a) (omega (arith, ltb-true a l h))
    by false h = le-ltb 0 (l - a) (omega (arith, ltb-false a l h))

pub next_on : (bytes : List ℕ) (a : ℕ) → next_at (drop a bytes) 0 ≡ next_at bytes a
unfolding next_at
next_on bytes a =
    let few : 0 < 8 = omega arith in
    rw (length-drop a bytes, entry_on bytes a, room_on (length bytes) a 8 few, left_on (length bytes) a)

-- nothing is left past the end, wherever that is
pub left_past : (bytes : List ℕ) (a k : ℕ) → k ≡ min a (length bytes) → drop k bytes ≡ drop a bytes
left_past bytes a k e = by (leb a (length bytes)) refl
  where
    by : (b : Bool) → leb a (length bytes) ≡ b → drop k bytes ≡ drop a bytes
    by true h = let k_is : k ≡ a = omega (arith, leb-true a (length bytes) h, e) in rw k_is
    by false h = rw (drop_all k bytes (omega (arith, leb-false a (length bytes) h, e)), drop_all a bytes (omega (arith, leb-false a (length bytes) h)))
