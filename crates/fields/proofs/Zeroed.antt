-- The end of a loop that zeroes lent memory, for any width.
-- Assumes nothing.
use mathlib.Core.Path.{◌≡◌, ap, ◌∙◌}
use mathlib.Core.List.{List, ◌++◌, append-nil}
use Prim.Native.Nat.{ℕ, ◌≤◌}
use native.Mathlib.Omega.{arith}
use lib.ListN.{length, replicate, drop}
use lib.Seq.{drop-length}

-- zeros up to i, and i is the length
pub all_zero : (d x : List ℕ) (i : ℕ) → length d ≤ i → i ≤ length d → x ≡ replicate i 0 ++ drop i d → x ≡ replicate (length d) 0
all_zero d x i h g e =
    let z : i ≡ length d = omega arith in
    e
    ∙ ap (λ (k : ℕ). replicate k 0 ++ drop k d) z
    ∙ ap (λ (l : List ℕ). replicate (length d) 0 ++ l) (drop-length d)
    ∙ append-nil (replicate (length d) 0)
