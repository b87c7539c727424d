-- `floats::order::min` meets its contract. Assumes nothing.
use mathlib.Core.Path.{refl, sym, ◌∙◌}
use lib.Ieee.{lt}
use Rattle.floats.specs.Order.{min_num}
use Rattle.floats.proofs.order.Choice.{chooses}
use Rattle.floats.proofs.order.min.Goals as goal

pub returns-then-is_not_number : goal.returns-then-is_not_number
unfolding min_num
returns-then-is_not_number g c =
    let x = g.F.IeeeFloat.value in
    let a = c.args.a in
    let b = c.args.b in
    chooses (lt (x b) (x a)) (x a) (x b) _ _ _ (sym c.is_not_number.ensures ∙ c.if-is_not_number.true) refl refl

pub returns-then-is_not_number-2 : goal.returns-then-is_not_number-2
unfolding min_num
returns-then-is_not_number-2 g c =
    let x = g.F.IeeeFloat.value in
    let a = c.args.a in
    let b = c.args.b in
    chooses (lt (x b) (x a)) (x a) (x b) _ _ _ (sym c.is_not_number.ensures ∙ c.if-is_not_number.false) (sym c.is_not_number-2.ensures ∙ c.if-is_not_number-2.true) refl

pub returns-then-is_below : goal.returns-then-is_below
unfolding min_num
returns-then-is_below g c =
    let x = g.F.IeeeFloat.value in
    let a = c.args.a in
    let b = c.args.b in
    chooses (lt (x b) (x a)) (x a) (x b) _ _ _ (sym c.is_not_number.ensures ∙ c.if-is_not_number.false) (sym c.is_not_number-2.ensures ∙ c.if-is_not_number-2.false) (sym c.is_below.ensures ∙ c.if-is_below.true)

pub returns-else-is_below : goal.returns-else-is_below
unfolding min_num
returns-else-is_below g c =
    let x = g.F.IeeeFloat.value in
    let a = c.args.a in
    let b = c.args.b in
    chooses (lt (x b) (x a)) (x a) (x b) _ _ _ (sym c.is_not_number.ensures ∙ c.if-is_not_number.false) (sym c.is_not_number-2.ensures ∙ c.if-is_not_number-2.false) (sym c.is_below.ensures ∙ c.if-is_below.false)
