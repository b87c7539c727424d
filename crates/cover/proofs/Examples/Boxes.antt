-- Whole numbers and boxes of the small sheets, and the events of a plan without its totals.
-- Assumes nothing.
use mathlib.Core.Bool.{false}
use mathlib.Core.List.{[], ◌∷◌}
use Prim.Native.Nat.{ℕ, ◌^◌, ◌≤◌}
use native.Mathlib.Omega.{arith}
use lib.Ieee.{binary64}
use Rattle.geometry.specs.declared.bbox.WorldBBox.{WorldBBox}
use Rattle.geometry.specs.Bbox.{bbox}
use Rattle.exact.specs.Integer.{integer, ◌≐◌, ◌≼◌}
use Rattle.exact.specs.IsInteger.{IsInteger, integer_of}
use Rattle.exact.specs.Placement.{vector_of}
use Rattle.exact.specs.Box.{Holds, box_of}
use Rattle.exact.proofs.Integers.Bounds.{within_natural}
use Rattle.exact.proofs.Floats.Rounding.{round_integer}
use Rattle.exact.proofs.Floats.Reading.{integer_of_same}
use Rattle.plan_rules.specs.Samples.{whole, spot}
use Rattle.cover.specs.Trace.{Trace}

-- ---- whole numbers

whole_is : (n : ℕ) → n ≤ 2 ^ 31 → IsInteger (whole n) (integer n)
whole_is n h = round_integer binary64 false n 1 (integer n) (omega arith) (omega arith) (within_natural (2 ^ 53) n (omega arith))

pub whole_same : (n : ℕ) → n ≤ 2 ^ 31 → integer_of (whole n) ≐ integer n
whole_same n h = integer_of_same (whole n) (integer n) (whole_is n h)

-- the order of whole numbers is that of their floats
whole_order : (a b : ℕ) → a ≤ b → b ≤ 2 ^ 31 → integer_of (whole a) ≼ integer_of (whole b)
whole_order a b h k = let p = whole_same a (omega arith) in let q = whole_same b k in omega arith

-- ---- boxes, by their four numbers

abbrev pub box : ℕ → ℕ → ℕ → ℕ → WorldBBox
box a b c d = bbox (whole a) (whole b) (whole c) (whole d)

-- in order, and within the range
pub record Ordered (a b c d : ℕ) : Type 0 where
  pub x : a ≤ c
  pub y : b ≤ d
  pub right : c ≤ 2 ^ 31
  pub top : d ≤ 2 ^ 31

pub box_holds : (a b c d x y : ℕ) → Ordered a b c d → a ≤ x → b ≤ y → x ≤ c → y ≤ d → Holds (box_of (box a b c d)) (vector_of (spot x y))
box_holds a b c d x y k l o r t = record {
  left = whole_order a x l (omega (arith, k.right));
  right = whole_order x c r k.right;
  bottom = whole_order b y o (omega (arith, k.top));
  top = whole_order y d t k.top;
}

-- ---- traces

-- the totals are the newest event
abbrev pub without_totals : Trace → Trace
without_totals [] = []
without_totals (x ∷ l) = l
