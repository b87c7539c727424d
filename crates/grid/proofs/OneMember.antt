-- The corners of a grid of one member: all four are that member, and so is their merge.
-- Assumes nothing.
use mathlib.Core.Path.{◌≡◌, ap, ◌∙◌}
use Rattle.geometry.specs.declared.bbox.WorldBBox.{WorldBBox}
use Rattle.geometry.specs.Bbox.{merge}
use Rattle.geometry.proofs.Merging.{merge_itself}
use Rattle.grid.specs.declared.Grid.{Grid}
use Rattle.grid.specs.Grid.{member_bbox, corners_to}

pub one_member : (g : Grid) (b : WorldBBox) → corners_to g 0 0 b ≡ member_bbox g 0 0 b
one_member g b =
    let m = member_bbox g 0 0 b in
    ap (λ (x : WorldBBox). merge (merge x m) m) (merge_itself m) ∙ ap (λ (x : WorldBBox). merge x m) (merge_itself m) ∙ merge_itself m
