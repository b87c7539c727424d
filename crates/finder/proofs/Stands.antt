-- A list in which another stands from a place on.
-- Assumes nothing.
use mathlib.Core.Path.{◌≡◌, sym, ap, subst, ◌∙◌}
use mathlib.Core.List.{List, [], ◌∷◌, ◌++◌}
use Prim.Native.Nat.{ℕ, ◌+◌, ◌<◌}
use native.Mathlib.Omega.{arith}
use lib.ListN.{length, get_or, drop, length-drop, length-append, get_or-append}
use lib.Seq.{get_or-drop, drop-append_seam, drop-drop}

-- from a place on, l has xs, and more
pub record Stands (l : List ℕ) (place : ℕ) (xs : List ℕ) : Type 0 where
  pub more : List ℕ
  pub there : drop place l ≡ xs ++ more

-- more stands behind it
pub behind : (l : List ℕ) (place : ℕ) (xs more : List ℕ) → drop place l ≡ xs ++ more → drop (place + length xs) l ≡ more
behind l place xs more e = sym (drop-drop (length xs) place l) ∙ ap (drop (length xs)) e ∙ drop-append_seam xs more

module _ (l : List ℕ) (place : ℕ) where
  module _ (xs : List ℕ) (h : Stands l place xs) (i : ℕ) (below : i < length xs) where
    pub stands_within : place + i < length l
    stands_within = omega (arith, length-drop place l, ap length h.there, length-append xs h.more)

    pub stands_nth : get_or l (place + i) 0 ≡ get_or xs i 0
    stands_nth = sym (get_or-drop place l i 0) ∙ ap (λ (m : List ℕ). get_or m i 0) h.there ∙ get_or-append xs h.more 0 i below

  module _ (x : ℕ) (xs : List ℕ) (h : Stands l place (x ∷ xs)) where
    pub stands_first : (place < length l) × (get_or l place 0 ≡ x)
    stands_first =
        let q : place + 0 ≡ place = omega arith in
        subst (λ (i : ℕ). (i < length l) × (get_or l i 0 ≡ x)) q (stands_within (x ∷ xs) h 0 (omega arith), stands_nth (x ∷ xs) h 0 (omega arith))

    pub stands_next : Stands l (place + 1) xs
    stands_next = record { more = h.more; there = behind l place (x ∷ []) (xs ++ h.more) h.there }
