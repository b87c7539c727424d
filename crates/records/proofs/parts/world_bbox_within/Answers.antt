-- `records::parts::world_bbox_within` meets its contract: where all four patterns are finite, none is a NaN's. Assumes nothing.
use mathlib.Core.Path.{◌≡◌, sym, ap, ◌∙◌}
use Prim.Native.Nat.{ℕ}
use mathlib.Core.List.{List}
use mathlib.Core.Bool.{Bool, true, not, ◌&&◌, and-eq-true_iff}
use lib.Dec.{T}
use lib.Ieee.{binary64, nan_bits, of_bits}
use Rattle.floats.specs.Order.{is_finite}
use Rattle.floats.proofs.Nans.{finite_pattern}
use Rattle.fields.specs.Field.{uint_at, f64_at}
use Rattle.records.specs.Records.{world_bbox_at}
use Rattle.records.proofs.parts.world_bbox_within.Goals as goal

abbrev Number : ℕ → Type 0
Number n = T (not (nan_bits binary64 n))

-- the test of four patterns p, q, r, s, by the answers a, b, c, d for each
numbers : (p q r s : ℕ) (a b c d : Bool)
    → a ≡ is_finite (of_bits binary64 p) → b ≡ is_finite (of_bits binary64 q) → c ≡ is_finite (of_bits binary64 r) → d ≡ is_finite (of_bits binary64 s)
    → a && b && c && d ≡ true → Number p × Number q × Number r × Number s
numbers p q r s a b c d ep eq er es h =
    let abc = (and-eq-true_iff (a && b && c) d).0 h in
    let ab = (and-eq-true_iff (a && b) c).0 abc.0 in
    let each = (and-eq-true_iff a b).0 ab.0 in
    (finite_pattern binary64 p (sym ep ∙ each.0), finite_pattern binary64 q (sym eq ∙ each.1), finite_pattern binary64 r (sym er ∙ ab.1), finite_pattern binary64 s (sym es ∙ abc.1))

float : (s : List ℕ) (at n : ℕ) → n ≡ uint_at 8 s at → of_bits binary64 n ≡ f64_at s at
unfolding f64_at
float s at n e = ap (of_bits binary64) e

pub float_from_bits-result : goal.float_from_bits-result
float_from_bits-result c =
    (numbers _ _ _ _ _ _ _ _ c.is_finite_pattern.ensures c.is_finite_pattern-2.ensures c.is_finite_pattern-3.ensures c.is_finite_pattern-4.ensures c.if-is_finite_pattern.true
    ).0

pub float_from_bits-result-then-is_finite_pattern : goal.float_from_bits-result-then-is_finite_pattern
float_from_bits-result-then-is_finite_pattern c =
    (numbers _ _ _ _ _ _ _ _ c.is_finite_pattern.ensures c.is_finite_pattern-2.ensures c.is_finite_pattern-3.ensures c.is_finite_pattern-4.ensures c.if-is_finite_pattern.true
    ).1

pub float_from_bits-result-then-is_finite_pattern-2 : goal.float_from_bits-result-then-is_finite_pattern-2
float_from_bits-result-then-is_finite_pattern-2 c =
    (numbers _ _ _ _ _ _ _ _ c.is_finite_pattern.ensures c.is_finite_pattern-2.ensures c.is_finite_pattern-3.ensures c.is_finite_pattern-4.ensures c.if-is_finite_pattern.true
    ).2

pub float_from_bits-result-then-is_finite_pattern-3 : goal.float_from_bits-result-then-is_finite_pattern-3
float_from_bits-result-then-is_finite_pattern-3 c =
    (numbers _ _ _ _ _ _ _ _ c.is_finite_pattern.ensures c.is_finite_pattern-2.ensures c.is_finite_pattern-3.ensures c.is_finite_pattern-4.ensures c.if-is_finite_pattern.true
    ).3

pub returns-then-is_finite_pattern : goal.returns-then-is_finite_pattern
unfolding world_bbox_at
returns-then-is_finite_pattern c =
    λ i. record {
      min_x = float _ _ _ c.u64_within-min_x.ensures i;
      min_y = float _ _ _ c.u64_within-min_y.ensures i;
      max_x = float _ _ _ c.u64_within-max_x.ensures i;
      max_y = float _ _ _ c.u64_within-max_y.ensures i;
    }

pub returns : goal.returns
unfolding world_bbox_at
returns c =
    λ i. record {
      min_x = (c.f64_from_bits.ensures ∙ float _ _ _ c.u64_within-min_x.ensures) i;
      min_y = (c.f64_from_bits-2.ensures ∙ float _ _ _ c.u64_within-min_y.ensures) i;
      max_x = (c.f64_from_bits-3.ensures ∙ float _ _ _ c.u64_within-max_x.ensures) i;
      max_y = (c.f64_from_bits-4.ensures ∙ float _ _ _ c.u64_within-max_y.ensures) i;
    }
