-- `rounding::nearest::pack` meets its contract. Assumes nothing.
use mathlib.Core.Path.{sym, ◌∙◌}
use Rattle.rounding.proofs.nearest.Packing.{low_is, past_infinity, magnitude_fits, normal_is}
use Rattle.rounding.proofs.nearest.pack.Goals as goal

pub returns-then-up-down : goal.returns-then-up-down
returns-then-up-down c =
    let a = c.args in
    c.min.ensures
    ∙ sym (low_is a.m a.up a.down a.precision a.ones c.requires c.if-up-down.true c.shift_to_nearest.result c.shift_to_nearest.ensures)

pub returns-then-field-ones : goal.returns-then-field-ones
returns-then-field-ones c =
    let a = c.args in
    past_infinity a.m a.up a.down a.precision a.ones c.requires c.if-up-down.false c.if-field-ones.true

pub overflow_add-magnitude : goal.overflow_add-magnitude
overflow_add-magnitude c =
    let a = c.args in
    record { fits = magnitude_fits a.m a.up a.down a.precision a.ones c.requires c.if-up-down.false c.if-field-ones.false c.shift_to_nearest-2.result c.shift_to_nearest-2.ensures c.ranges.m.fits }

pub returns : goal.returns
returns c =
    let a = c.args in
    c.min-2.ensures
    ∙ sym (normal_is a.m a.up a.down a.precision a.ones c.requires c.if-up-down.false c.if-field-ones.false c.shift_to_nearest-2.result c.shift_to_nearest-2.ensures c.ranges.m.fits)
