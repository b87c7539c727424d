-- `grid::corners_bbox` meets its contract: by the corner members one after the other, or by the one that there is.
-- Assumes nothing.
use mathlib.Core.Path.{sym, ap₂, ◌∙◌}
use Rattle.geometry.specs.Bbox.{merge}
use Rattle.grid.specs.Grid.{corners_to}
use Rattle.grid.proofs.OneMember.{one_member}
use Rattle.grid.proofs.corners_bbox.Goals as goal

pub returns-then-row-eq0 : goal.returns-then-row-eq0
returns-then-row-eq0 c =
    let a = c.args in
    c.member_bbox-first.ensures ∙ sym (one_member a.grid a.source_bbox)
    ∙ (λ i. corners_to a.grid (sym c.if-column-eq0.true i) (sym c.if-row-eq0.true i) a.source_bbox)

pub returns : goal.returns
returns c =
    c.merge-3.ensures
    ∙ ap₂ merge
    (c.merge-2.ensures ∙ ap₂ merge (c.merge.ensures ∙ ap₂ merge c.member_bbox-first.ensures c.member_bbox.ensures) c.member_bbox-2.ensures)
    c.member_bbox-3.ensures
