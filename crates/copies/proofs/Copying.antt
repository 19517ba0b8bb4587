-- The words of a copy, as `copy_within` puts them.
use Rattle.std.proofs.Common.{◌≡◌, List, ℕ, ◌+◌, ◌-◌, ◌≤◌, length, take, drop, sym, arith}
use lib.ListN.{length-take, length-drop}
use lib.Seq.{paste, sets, sets-eq}

pub copied_is : (h : List ℕ) (x n y : ℕ) → x + n ≤ length h → y + n ≤ length h → paste h y (drop x h) (x + n - x) ≡ sets h y (take n (drop x h))
copied_is h x n y from into =
    let d : x + n - x ≡ n = omega arith in
    let l : length (take n (drop x h)) ≡ n = simp (length-take, length-drop) (omega arith) in
    rw d (sym (rw l at (sets-eq (take n (drop x h)) h y (rw l into))))
