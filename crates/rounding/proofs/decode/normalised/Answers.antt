-- `rounding::decode::normalised` meets its contract. Assumes nothing.
use Rattle.std.proofs.Common.{ℕ, ◌+◌, ◌^◌, ◌<◌, ◌≤◌, sym, ◌∙◌, subst, arith}
use Rattle.rounding.proofs.decode.Reading.{significand_lt, exponent_lt}
use Rattle.rounding.proofs.decode.Scaling.{normalised_zero, normalised_some, eleven_leading_zeros}
use Rattle.rounding.proofs.decode.normalised.Goals as goal

one : (s : ℕ) → 11 ≤ s → 1 ≤ s
one s h = omega arith

room : (e : ℕ) → e < 2 ^ 11 → e + 64 < 2 ^ 64
room e h = omega arith

pub returns-then-digits-eq0 : goal.returns-then-digits-eq0
returns-then-digits-eq0 c =
    normalised_zero c.args.n (sym c.significand_of-digits.ensures ∙ c.if-digits-eq0.true)

pub overflow_sub-result : goal.overflow_sub-result
overflow_sub-result c =
    one c.leading_zeros-zeros.result (eleven_leading_zeros c.significand_of-digits.result c.leading_zeros-zeros.result (subst (λ (x : ℕ). x < 2 ^ 53) (sym c.significand_of-digits.ensures) (significand_lt c.args.n)) c.leading_zeros-zeros.ensures.1)

pub overflow_add-result : goal.overflow_add-result
overflow_add-result c =
    record { fits = room c.exponent_of-exponent.result (subst (λ (x : ℕ). x < 2 ^ 11) (sym c.exponent_of-exponent.ensures) (exponent_lt c.args.n)) }

pub returns : goal.returns
returns c =
    normalised_some c.args.n c.significand_of-digits.result c.leading_zeros-zeros.result c.exponent_of-exponent.result c.significand_of-digits.ensures c.exponent_of-exponent.ensures c.leading_zeros-zeros.ensures
