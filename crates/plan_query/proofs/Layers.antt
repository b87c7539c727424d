-- Hidden layers that are copied one after the other.
-- Assumes nothing.
use mathlib.Core.Path.{◌≡◌, refl, sym, ap, ap₂, ◌∙◌}
use mathlib.Core.List.{List, [], ◌∷◌, ◌++◌}
use Prim.Native.Nat.{ℕ, zero, suc, ◌+◌, ◌*◌}
use native.Mathlib.Numerals.{add-one}
use native.Mathlib.Omega.{arith}
use lib.ListN.{length, set}
use lib.Seq.{sets}
use Rattle.fields.specs.Field.{uint_at}
use Rattle.fields.proofs.Writing.{sets-append}
use Rattle.plan_query.specs.Query.{layers_from}

length_layers : (n : ℕ) (s : List ℕ) (at : ℕ) → length (layers_from n s at) ≡ n
unfolding layers_from
length_layers zero s at = refl
length_layers (suc n) s at = ap suc (length_layers n s (at + 4))

one_more : (i : ℕ) (s : List ℕ) (at : ℕ) → layers_from (suc i) s at ≡ layers_from i s at ++ (uint_at 4 s (at + 4 * i) ∷ [])
unfolding layers_from
one_more zero s at = let e : at + 4 * 0 ≡ at = omega arith in rw e
one_more (suc i) s at =
    let e : at + 4 + 4 * i ≡ at + 4 * suc i = omega arith in
    ap (λ (l : List ℕ). uint_at 4 s at ∷ l) (one_more i s (at + 4))
    ∙ ap (λ (k : ℕ). uint_at 4 s at ∷ layers_from i s (at + 4) ++ (uint_at 4 s k ∷ [])) e

-- a loop's turn
pub layer_copied : (d s : List ℕ) (i at : ℕ) {e : List ℕ} {v : ℕ} → e ≡ sets d 0 (layers_from i s at) → v ≡ uint_at 4 s (at + 4 * i) → set e i v ≡ sets d 0 (layers_from (i + 1) s at)
layer_copied d s i at {e} {v} p q =
    let l : i ≡ 0 + length (layers_from i s at) = omega (arith, length_layers i s at) in
    ap₂ (λ (l : List ℕ) (k : ℕ). set l k v) p l
    ∙ sym (sets-append d (layers_from i s at) (v ∷ []) 0)
    ∙ rw (q, add-one) (ap (sets d 0) (sym (one_more i s at)))
