-- `geometry::bbox::WorldBBox::merge` meets its contract. Assumes nothing.
use Rattle.geometry.specs.Bbox.{bbox, merge}
use Rattle.geometry.proofs.bbox.WorldBBox.merge.Goals as goal

pub returns : goal.returns
unfolding merge
returns c =
    λ i. bbox (c.min.ensures i) (c.min-2.ensures i) (c.max.ensures i) (c.max-2.ensures i)
