-- A number shifted up until its top bit stands at bit 127: its upper word, rounded to odd.
-- Assumes nothing.
use mathlib.Core.Path.{◌≡◌, sym, ap, ◌∙◌, subst}
use Prim.Native.Nat.{ℕ, ◌-◌, ◌*◌, ◌/◌, ◌%◌, ◌^◌, ◌≤◌, ◌<◌}
use native.Mathlib.Nat.{le_trans, mod-lt, mod-eq_of_lt}
use lib.Pow.{pow_pos, shr_lt, shr_mono, split}
use lib.Bits.{bit_and, and_mask}
use Rattle.rounding.specs.RoundToOdd.{RoundsToOdd}
use Rattle.fused.specs.RoundToOdd.{with_sticky}
use Rattle.fused.specs.Wide.{LeadingWord}
use Rattle.fused.proofs.RoundToOdd.{sticky_ge, sticky_lt, to_odd_sticky}

module _ (n s : ℕ) (S : s < 128) (a : 2 ^ 127 ≤ n * 2 ^ s) (b : n * 2 ^ s < 2 ^ 128) (m : ℕ)
    (e : m ≡ with_sticky (n * 2 ^ s % 2 ^ 128 / 2 ^ 64) (bit_and (n * 2 ^ s % 2 ^ 128) (2 ^ 64 - 1))) where
  abbrev top : ℕ
  top = n * 2 ^ s

  is : m ≡ with_sticky (top / 2 ^ 64) (top % 2 ^ 64)
  is = e ∙ (λ i. with_sticky (mod-eq_of_lt b i / 2 ^ 64) ((and_mask (top % 2 ^ 128) 64 ∙ ap (λ (x : ℕ). x % 2 ^ 64) (mod-eq_of_lt b)) i))

  pub word_fits : m < 2 ^ 64
  word_fits = subst (λ (x : ℕ). x < 2 ^ 64) (sym is) (sticky_lt (top / 2 ^ 64) (top % 2 ^ 64) (shr_lt 64 64 b))

  pub leading : LeadingWord n m s
  leading = record {
    least = subst (λ (x : ℕ). 2 ^ 63 ≤ x) (sym is) (le_trans (shr_mono 64 a) (sticky_ge (top / 2 ^ 64) (top % 2 ^ 64)));
    under = word_fits;
    short = S;
    room = b;
    rounds = subst (λ (x : ℕ). RoundsToOdd x top (2 ^ 64)) (sym is) (to_odd_sticky (top / 2 ^ 64) (top % 2 ^ 64) (top % 2 ^ 64) top (2 ^ 64) (split top 64) (mod-lt top (pow_pos 64)) (λ z. z) (λ z. z));
  }
