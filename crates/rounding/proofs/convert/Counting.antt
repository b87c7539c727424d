-- A count as the nearest f32, from what `leading_zeros` and `pack` ensure.
-- Assumes nothing.
use Rattle.std.proofs.Common.{◌≡◌, ℕ, ◌+◌, ◌*◌, ◌%◌, ◌^◌, false, pos, sym, refl, ap, ◌∙◌, subst, inl, mod-eq_of_lt, zero-lt-suc, mul_assoc, mul_comm, one-mul, zero-add}
use lib.Ieee.{Float, binary32, round, of_int}
use Rattle.rounding.specs.RoundToOdd.{RoundsToOdd}
use Rattle.rounding.specs.Packed.{packed, Encodes}
use Rattle.rounding.proofs.nearest.Normalising.{IsLeadingZeros}
use Rattle.rounding.proofs.nearest.Theorem.{encodes_rounded}

pub count_to_odd : (a s l : ℕ) → RoundsToOdd (a * 2 ^ s) (a * 2 ^ l * 2 ^ s) (1 * 2 ^ l)
count_to_odd a s l = inl (ap (λ (y : ℕ). a * 2 ^ s * y) (one-mul (2 ^ l)) ∙ simp (mul_assoc, mul_comm))

pub of_int_is : (n : ℕ) → of_int binary32 (pos n) ≡ round binary32 false n 1
unfolding of_int
of_int_is n = refl

pub count_encodes : (n s r : ℕ) → IsLeadingZeros n s → r ≡ packed 24 255 (n * 2 ^ s % 2 ^ 64) 149 s → Encodes binary32 r (of_int binary32 (pos n))
count_encodes n s r t e =
    let y = packed 24 255 (n * 2 ^ s) 149 s in
    let q : 0 + y ≡ r = zero-add y ∙ ap (λ (m : ℕ). packed 24 255 m 149 s) (sym (mod-eq_of_lt t.2)) ∙ sym e in
    subst (λ (x : ℕ). Encodes binary32 x (of_int binary32 (pos n))) q
    (subst (λ (v : Float). Encodes binary32 (0 + y) v) (sym (of_int_is n)) (encodes_rounded binary32 false n 1 (n * 2 ^ s) 149 s (zero-lt-suc 0) t.1 t.2 (count_to_odd n s 149)))
