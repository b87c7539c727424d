-- `screen::average_area_within` meets its contract. Assumes nothing.
use mathlib.Core.Path.{sym, ap, ◌∙◌}
use lib.Ieee.{Float, binary32, mul, div, le}
use Rattle.screen.specs.Screen.{average_area_within}
use Rattle.geometry.proofs.Flags.{and_asked, and_decided}
use Rattle.screen.proofs.average_area_within.Goals as goal

pub returns-then-is_finite : goal.returns-then-is_finite
unfolding average_area_within
returns-then-is_finite c =
    let a = c.args in
    let area = mul binary32 a.size.width a.size.height in
    and_asked (sym c.is_finite.ensures.value ∙ c.if-is_finite.true)
    (ap (λ (n : Float). le (div binary32 area n) a.limit) c.u64_to_f32.ensures)

pub returns-else-is_finite : goal.returns-else-is_finite
unfolding average_area_within
returns-else-is_finite c =
    let e = c.is_finite.ensures.value in
    and_decided _ (sym e ∙ c.if-is_finite.false) e
