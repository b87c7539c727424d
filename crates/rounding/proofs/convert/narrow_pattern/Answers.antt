-- `rounding::convert::narrow_pattern` meets its contract. Assumes nothing.
use Rattle.std.proofs.Common.{◌≡◌, sym, ◌∙◌, arith}
use Rattle.rounding.specs.Fields.{exponent_field_of}
use Rattle.rounding.proofs.decode.Reading.{exponent_lt}
use Rattle.rounding.proofs.convert.Narrowing.{narrow_infinite, narrow_zero, narrow_encodes}
use Rattle.rounding.proofs.convert.narrow_pattern.Goals as goal
use Rattle.rounding.proofs.convert.narrow_pattern.Lts as lts
use Rattle.rounding.proofs.convert.narrow_pattern.Reads as reads
use Rattle.rounding.proofs.convert.narrow_pattern.Tie as tie

-- past the first test the field is no infinity's
finite : (c : lts.Else1 tie.the-claims reads.Pre reads.Post) → exponent_field_of c.args.n ≡ 2047 → ⊥
finite c e = c.if-field-eq2047.false (c.exponent_field_of-field.ensures ∙ e)

pub returns-then-field-eq2047 : goal.returns-then-field-eq2047
returns-then-field-eq2047 c =
    narrow_infinite c.args.n c.ranges.n.fits (sym c.exponent_field_of-field.ensures ∙ c.if-field-eq2047.true) c.requires

pub returns-then-digits-eq0 : goal.returns-then-digits-eq0
returns-then-digits-eq0 c =
    narrow_zero c.args.n c.ranges.n.fits (finite c.before.before) (sym c.significand_of-digits.ensures ∙ c.if-digits-eq0.true)

pub pack_as-requires : goal.pack_as-requires
pack_as-requires c = omega (arith, exponent_lt c.args.n)

pub returns : goal.returns
returns c =
    narrow_encodes c.args.n c.ranges.n.fits (finite c.before.before.before.before.before) c.significand_of-digits.result c.exponent_of.result c.leading_zeros-s.result c.pack_as.result
    c.significand_of-digits.ensures c.exponent_of.ensures c.leading_zeros-s.ensures c.pack_as.ensures
