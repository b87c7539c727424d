-- `geometry::<Placement as Mul>::mul` meets its contract. Assumes nothing.
use mathlib.Core.Path.{ap, ◌∙◌}
use Rattle.geometry.specs.Placement.{from_cols, transform_vector2, transform_point2, ◌·◌}
use Rattle.geometry.proofs.placement.PlacementMul.mul.Goals as goal

pub returns : goal.returns
unfolding ◌·◌
returns c =
    let p = c.args.self in
    λ i. from_cols
    ((c.transform_vector2-x_axis.ensures ∙ ap (transform_vector2 p) c.new.ensures) i)
    ((c.transform_vector2-y_axis.ensures ∙ ap (transform_vector2 p) c.new-2.ensures) i)
    ((c.transform_point2-translation.ensures ∙ ap (transform_point2 p) c.new-3.ensures) i)
