-- `fused::multiply_add::aligned_sum` meets its contract. Assumes nothing.
use mathlib.Core.Path.{refl}
use Rattle.fused.proofs.multiply_add.Terms.{some}
use Rattle.fused.proofs.multiply_add.Rounding.{sum_of_alike, difference_reversed, difference_cancels, difference_leads}
use Rattle.fused.proofs.multiply_add.aligned_sum.Goals as goal

pub returns-then-x-y : goal.returns-then-x-y
returns-then-x-y c =
    let x = c.args.x in
    let y = c.args.y in
    let z = c.shift_to_odd-shifted in
    sum_of_alike x.negative y.negative z.result x.is_operand y.is_operand c.requires z.ensures c.if-x-y.true _ c.round_wide.result refl c.round_wide.ensures

pub returns-then-x-shifted : goal.returns-then-x-shifted
returns-then-x-shifted c =
    let x = c.args.x in
    let y = c.args.y in
    let z = c.shift_to_odd-shifted in
    let r = c.round_wide-then-x-shifted in
    difference_reversed x.negative y.negative z.result x.is_operand y.is_operand c.requires z.ensures c.if-x-y.false c.if-x-shifted.true _ r.result refl r.ensures

pub returns-then-rest-eq0 : goal.returns-then-rest-eq0
returns-then-rest-eq0 c =
    let x = c.args.x in
    let y = c.args.y in
    let z = c.shift_to_odd-shifted in
    difference_cancels x.negative y.negative z.result x.is_operand y.is_operand c.requires z.ensures c.if-x-y.false c.if-x-shifted.false _ refl c.if-rest-eq0.true

pub returns : goal.returns
returns c =
    let x = c.args.x in
    let y = c.args.y in
    let z = c.shift_to_odd-shifted in
    let r = c.round_wide-2 in
    difference_leads x.negative y.negative z.result x.is_operand y.is_operand c.requires z.ensures c.if-x-y.false c.if-x-shifted.false _ refl (some _ c.if-rest-eq0.false) r.result r.ensures
