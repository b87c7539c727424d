-- `floats::pattern::is_finite_pattern` meets its contract: a float is finite just where its pattern's exponent field is not all ones.
-- Assumes nothing.
use mathlib.Core.Path.{◌≡◌, refl, sym}
use Prim.Native.Nat.{ℕ, zero, suc, ◌+◌, ◌/◌, ◌%◌}
use mathlib.Core.Bool.{Bool, true, false, not, cond}
use lib.Dec.{eqb, leb}
use lib.Ieee.{Float, nan, inf, binary64, of_bits, of_fields, odd, prec, low, hid, ones, top}
use Rattle.floats.specs.Order.{is_finite}
use Rattle.floats.proofs.pattern.is_finite_pattern.Goals as goal

odd_finite : (d : ℕ) (s : Bool) (q k l : ℕ) → is_finite (odd d s q k l) ≡ true
unfolding odd is_finite
odd_finite d s zero k l = refl
odd_finite d s (suc q) k l = refl

by_field : (b c : Bool) (s : Bool) (x : Float) → is_finite x ≡ true → is_finite (cond b (cond c (inf s) nan) x) ≡ not b
unfolding is_finite
by_field true true s x e = refl
by_field true false s x e = refl
by_field false c s x e = e

fields_finite : (s : Bool) (x t : ℕ) → is_finite (of_fields binary64 s x t) ≡ not (eqb x (ones binary64))
unfolding of_fields
fields_finite s zero t = odd_finite (prec binary64) s t 0 (low binary64)
fields_finite s (suc x) t =
    by_field (eqb (suc x) (ones binary64)) (eqb t 0) s (odd (prec binary64) s (hid binary64 + t) x (low binary64)) (odd_finite (prec binary64) s (hid binary64 + t) x (low binary64))

pattern_finite : (n : ℕ) → is_finite (of_bits binary64 n) ≡ not (eqb (n % top binary64 / hid binary64) (ones binary64))
unfolding of_bits
pattern_finite n = fields_finite (leb (top binary64) n) (n % top binary64 / hid binary64) (n % hid binary64)

pub returns : goal.returns
returns c = sym (pattern_finite c.args.n)
