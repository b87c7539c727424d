-- FRACTIONS THAT ARE WHOLE NUMBERS in value: sum, product and opposite are those of the integers, and so is a float that is an integer. Assumes nothing.
use mathlib.Core.Path.{refl, subst}
use Prim.Native.Nat.{ℕ, ◌*◌, ◌^◌}
use native.Mathlib.Omega.{arith}
use lib.Pow.{pow-add}
use lib.Ieee.{Float, nan, inf, fin, up}
use Rattle.exact.specs.Integer.{Integer, integer, ◌⊕◌, ◌⊗◌, negate, ◌≐◌}
use Rattle.exact.specs.IsInteger.{IsQuotient, IsInteger}
use Rattle.exact.proofs.Integers.Products.{product_same}
use Rattle.exact.proofs.Floats.Sum.{quotient_value}
use Rattle.fractions.specs.Fraction.{Fraction, fraction, ◌⊙◌, ◌⊞◌, opposite, ◌⊠◌, places_of, value_of}
use Rattle.fractions.specs.Whole.{IsWhole}
use Rattle.fractions.proofs.Rounding.{down_is}
use Rattle.fractions.proofs.Operations.{same_times}

-- of the same integer, written otherwise
pub whole_same : (i j : Integer) (a : Fraction) → i ≐ j → IsWhole j a → IsWhole i a
whole_same i j a e h = let s = same_times (i ⊙ 2 ^ a.places) i j (2 ^ a.places) refl e in omega arith

module _ (i j : Integer) (a b : Fraction) (h : IsWhole i a) (k : IsWhole j b) where
  pub sum_whole : IsWhole (i ⊕ j) (a ⊞ b)
  sum_whole =
      let P = 2 ^ a.places in
      let Q = 2 ^ b.places in
      let s = same_times (i ⊙ P ⊙ Q) (i ⊙ P) a.num Q refl h in
      let t = same_times (j ⊙ Q ⊙ P) (j ⊙ Q) b.num P refl k in
      rw (pow-add 2 a.places b.places) (omega arith)

  pub product_whole : IsWhole (i ⊗ j) (a ⊠ b)
  product_whole =
      let s = product_same (i ⊙ 2 ^ a.places) (j ⊙ 2 ^ b.places) a.num b.num h k in
      rw (pow-add 2 a.places b.places) (omega arith)

pub opposite_whole : (i : Integer) (a : Fraction) → IsWhole i a → IsWhole (negate i) (opposite a)
opposite_whole i a h = omega arith

pub natural_whole : (n : ℕ) → IsWhole (integer n) (fraction n)
natural_whole n = omega arith

pub number_whole : (x : Float) (i : Integer) → IsInteger x i → IsWhole i (value_of x)
number_whole nan i h = absurd h
number_whole (inf s) i h = absurd h
number_whole (fin s m e) i h = let q = quotient_value s (m * up e) (2 ^ places_of e) i (subst (λ (d : ℕ). IsQuotient s (m * up e) d i) (down_is e) h) in omega arith
