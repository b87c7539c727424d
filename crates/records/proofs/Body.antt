-- A number in a record's bytes is the number in the sheet at the record's offset; zeros after the bytes change none.
-- Assumes nothing.
use mathlib.Core.Path.{◌≡◌, refl, ap, ◌∙◌}
use Prim.Native.Nat.{ℕ, zero, suc, ◌+◌}
use mathlib.Core.List.{List, [], ◌∷◌, ◌++◌}
use lib.ListN.{length, get_or, take, drop, replicate}
use lib.Seq.{take-length, get_or-drop}
use Rattle.fields.specs.Field.{uint_at}
use Rattle.fields.proofs.Reading.{uint_at_same, uint_at-drop}

-- the body is the bytes of the sheet from an offset on
pub uint_in : (body s : List ℕ) (at : ℕ) → body ≡ drop at s → (j k : ℕ) → uint_at k body j ≡ uint_at k s (at + j)
uint_in body s at from j k = ap (λ (l : List ℕ). uint_at k l j) from ∙ uint_at-drop k at s j

-- ---- zeros after it

zeros : (n i : ℕ) → ◌≡◌ {A = ℕ} (get_or (replicate n 0) i 0) 0
zeros zero i = refl
zeros (suc n) zero = refl
zeros (suc n) (suc i) = zeros n i

zeros_after : (l : List ℕ) (m n i : ℕ) → get_or (l ++ drop m (replicate n 0)) i 0 ≡ get_or l i 0
zeros_after [] m n i = get_or-drop m (replicate n 0) i 0 ∙ zeros n (m + i)
zeros_after (x ∷ l) m n zero = refl
zeros_after (x ∷ l) m n (suc i) = zeros_after l m n i

pub uint_padded : (t body : List ℕ) (n : ℕ) → t ≡ take (length body) body ++ drop (length body) (replicate n 0) → (j k : ℕ) → uint_at k t j ≡ uint_at k body j
uint_padded t body n copied j k =
    let all : t ≡ body ++ drop (length body) (replicate n 0) = copied ∙ ap (λ (l : List ℕ). l ++ drop (length body) (replicate n 0)) (take-length body) in
    uint_at_same k t body j j (λ i _. ap (λ (l : List ℕ). get_or l (j + i) 0) all ∙ zeros_after body (length body) n (j + i))
