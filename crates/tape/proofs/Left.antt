-- A record whose first fields were written, and then the others; and numbers of 8 bytes, of which some are left to write.
-- Assumes nothing.
use mathlib.Core.Path.{◌≡◌, refl, sym, ap, ap₂, ◌∙◌}
use mathlib.Core.List.{List, [], ◌∷◌, ◌++◌, map, append_assoc}
use Prim.Native.Nat.{ℕ, zero, suc, ◌+◌, ◌≤◌, ◌<◌}
use Rattle.std.proofs.Common.{add-one}
use lib.ListN.{length, take, drop, get_or, drop_of_length-le}
use lib.Seq.{sets, drop-cons}
use Rattle.fields.specs.Field.{Field, width, widths, field_bytes, record_bytes}
use Rattle.fields.proofs.Writing.{sets-append, length-field_bytes, length-record_bytes}

record_bytes_split : (n : ℕ) (fs : List Field) → record_bytes (take n fs) ++ record_bytes (drop n fs) ≡ record_bytes fs
unfolding record_bytes
record_bytes_split zero fs = refl
record_bytes_split (suc n) [] = refl
record_bytes_split (suc n) (f ∷ fs) = append_assoc (field_bytes f) (record_bytes (take n fs)) (record_bytes (drop n fs)) ∙ ap (λ (l : List ℕ). field_bytes f ++ l) (record_bytes_split n fs)

-- the first n fields, and then the others
pub continued : (n : ℕ) (fs : List Field) (at : ℕ) (d : List ℕ) {e r : List ℕ}
    → e ≡ sets d at (record_bytes (take n fs)) → r ≡ sets e (at + widths (take n fs)) (record_bytes (drop n fs)) → r ≡ sets d at (record_bytes fs)
continued n fs at d first rest =
    rest
    ∙ ap₂ (λ (l : List ℕ) (m : ℕ). sets l (at + m) (record_bytes (drop n fs))) first (sym (length-record_bytes (take n fs)))
    ∙ sym (sets-append d (record_bytes (take n fs)) (record_bytes (drop n fs)) at)
    ∙ ap (sets d at) (record_bytes_split n fs)

-- the numbers xs, written into d from `at` on
abbrev pub left : {T : Type 0} → (T → Field) → List ℕ → ℕ → List T → List ℕ
left field d at xs = sets d at (record_bytes (map field xs))

module _ {T : Type 0} (field : T → Field) where
  -- the i-th of them written, which is x
  pub left_more : ((x : T) → width (field x) ≡ 8) → (d e : List ℕ) (at : ℕ) (xs : List T) (i : ℕ) (x : T)
      → i < length xs → x ≡ get_or xs i x → e ≡ sets d at (field_bytes (field x)) → left field e (at + 8) (drop (i + 1) xs) ≡ left field d at (drop i xs)
  unfolding record_bytes
  left_more wide d e at xs i x h is w =
      let rest = record_bytes (map field (drop (i + 1) xs)) in
      ap₂ (λ (l : List ℕ) (n : ℕ). sets l (at + n) rest) w (sym (length-field_bytes (field x) ∙ wide x))
      ∙ sym (sets-append d (field_bytes (field x)) rest at)
      ∙ ap (λ (l : List T). sets d at (record_bytes (map field l))) (ap₂ (λ (y : T) (k : ℕ). y ∷ drop k xs) is (add-one i) ∙ sym (drop-cons xs i x h))

  -- none is left
  pub left_none : (d : List ℕ) (at : ℕ) (xs : List T) (i : ℕ) → length xs ≤ i → d ≡ left field d at (drop i xs)
  unfolding record_bytes
  left_none d at xs i h = ap (λ (l : List T). left field d at l) (sym (drop_of_length-le xs h))
