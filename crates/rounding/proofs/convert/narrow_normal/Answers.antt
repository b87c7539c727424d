-- `rounding::convert::narrow_normal` meets its contract. Assumes nothing.
use Rattle.std.proofs.Common.{◌/◌, ◌^◌, ◌<◌, T, sym, ap, ◌∙◌, subst, arith}
use lib.Bits.{and_le_r}
use lib.Ieee.{binary64, fits, to_bits}
use lib.Ieee.Bits.{of_bits-to_bits}
use Rattle.rounding.specs.Narrow.{narrow}
use Rattle.rounding.proofs.convert.Range.{normal_number, pattern_lt, field_ge, field_le}
use Rattle.rounding.proofs.convert.Normals.{NarrowsTo, pattern_ge, narrow_normal_encodes}
use Rattle.rounding.proofs.convert.narrow_normal.Goals as goal

-- what owning an `f64` tells: the format holds it
held : (c : goal.Start) → T (fits binary64 c.args.x)
held c = subst T (sym c.well_formed.0.1) tt

under : (c : goal.Start) → to_bits binary64 c.args.x < 2 ^ 63
under c = pattern_lt c.args.x (held c) c.requires

written : (c : goal.Start) → NarrowsTo (to_bits binary64 c.args.x)
written c =
    let x = c.args.x in
    narrow_normal_encodes (to_bits binary64 x) (under c) (field_ge x (held c) c.requires) (field_le x (held c) c.requires)

pub float_to_bits-n : goal.float_to_bits-n
float_to_bits-n c = normal_number c.args.x (held c) c.requires

pub overflow_sub-result : goal.overflow_sub-result
overflow_sub-result c =
    let x = c.args.x in
    pattern_ge (to_bits binary64 x) (under c) (field_ge x (held c) c.requires) (field_le x (held c) c.requires)

pub overflow_add-result : goal.overflow_add-result
overflow_add-result c = omega (arith, under c)

pub overflow_add-result-2 : goal.overflow_add-result-2
overflow_add-result-2 c = omega (arith, under c, and_le_r (to_bits binary64 c.args.x / 2 ^ 29) 1)

pub overflow_cast-result : goal.overflow_cast-result
overflow_cast-result c = record { fits = (written c).width }

pub float_from_bits-result : goal.float_from_bits-result
float_from_bits-result c = (written c).number

pub returns : goal.returns
returns c = (written c).reads ∙ ap narrow (of_bits-to_bits binary64 c.args.x (held c))
