-- Whole plans on small sheets, computed: which events the rules say, in which order, with which labels and boxes. Each shows one turn that the P cases do not reach:
-- limits met in each loop, members at the view's edge, circles, hidden layers.
-- Assumes nothing.
use mathlib.Core.Path.{◌≡◌, refl}
use mathlib.Core.List.{List, [], ◌∷◌}
use Prim.Native.Nat.{ℕ, ◌+◌}
use lib.ListN.{replicate}
use Rattle.geometry.specs.declared.bbox.WorldBBox.{WorldBBox}
use Rattle.geometry.specs.Placement.{IDENTITY}
use Rattle.geometry.specs.Bbox.{bbox}
use Rattle.records.specs.declared.PreparedSource.TheVariants.{Text, Node, Reference, Cell}
use Rattle.records.specs.Sources.{no_label}
use Rattle.abstract_sheet.specs.Sheet.{Sheet}
use Rattle.plan_rules.specs.declared.Reason.TheVariants as reason
use Rattle.plan_rules.specs.Event.{Event, batch, text, point, proxy, dropped_proxy, culled_reference, detail_cell, scene_plan}
use Rattle.plan_rules.specs.World.{Query, world}
use Rattle.plan_rules.specs.DrawUnits.{Units, numbered_draw_units}
use Rattle.plan_rules.specs.Visit.{visit_reference}
use Rattle.plan_rules.specs.Tape.{no_tag, note}
use Rattle.plan_rules.specs.Outcome.{fresh_plan}
use Rattle.plan_rules.proofs.Cases.Opened.{opened}
use Rattle.plan_rules.specs.Samples.{whole, spot, page, sheet_of_lists, batch_of, text_at_spot, node_of, refer, cell_of, circle, viewing}

-- ---- the events of a plan without its totals, the first one first

abbrev behind : List Event → List (Unit {0} × Event) → List Event
behind later [] = later
behind later (x ∷ l) = behind (x.1 ∷ later) l

abbrev before : List (Unit {0} × Event) → List (Unit {0} × Event)
before [] = []
before (x ∷ l) = l

abbrev events : Sheet → ℕ → Query → List Event
events S cells q = behind [] (before (fresh_plan no_tag note S cells q tt []).out)

-- a view of 100 by 100 at one pixel a unit
abbrev plain : ℕ → ℕ → Query
plain depth limit = viewing (page 100 100) (whole 1) depth limit

-- a square of 10 with its lower left corner at (x, y)
abbrev tile : ℕ → ℕ → WorldBBox
tile x y = bbox (whole x) (whole y) (whole (x + 10)) (whole (y + 10))

-- ---- a limit in each loop of `visit_cell`: the cell's box is added, labelled by the cell, and nothing follows

abbrev full : Sheet
full =
    sheet_of_lists (batch_of 1 (tile 0 0) ∷ batch_of 1 (tile 20 0) ∷ []) (text_at_spot 1 1 ∷ text_at_spot 2 2 ∷ []) (node_of (spot 3 3 ∷ spot 200 0 ∷ spot 4 4 ∷ []) ∷ [])
    (refer 1 1 0 0 (Text 0) (page 1 1) ∷ []) (cell_of 5 (page 50 50) (0 ∷ 1 ∷ []) (0 ∷ 1 ∷ []) (0 ∷ []) (0 ∷ []) ∷ [])

pub limit_in_batches : events full 1 (plain 1 1) ≡ detail_cell ∷ batch 0 IDENTITY ∷ proxy reason.OtherLimit 0 (page 50 50) ∷ []
unfolding opened
limit_in_batches = refl

pub limit_in_texts : events full 1 (plain 1 3) ≡ detail_cell ∷ batch 0 IDENTITY ∷ batch 1 IDENTITY ∷ text 0 (spot 1 1) ∷ proxy reason.OtherLimit 0 (page 50 50) ∷ []
unfolding opened
limit_in_texts = refl

-- in the midst of a node: the point outside the view is passed over without a look at the budget
pub limit_in_nodes : events full 1 (plain 1 5) ≡ detail_cell ∷ batch 0 IDENTITY ∷ batch 1 IDENTITY ∷ text 0 (spot 1 1) ∷ text 1 (spot 2 2) ∷ point 1 2 (spot 3 3) ∷ proxy reason.OtherLimit 0 (page 50 50) ∷ []
unfolding opened
limit_in_nodes = refl

pub limit_in_references : events full 1 (plain 1 6)
    ≡ detail_cell ∷ batch 0 IDENTITY ∷ batch 1 IDENTITY ∷ text 0 (spot 1 1) ∷ text 1 (spot 2 2) ∷ point 1 2 (spot 3 3) ∷ point 1 2 (spot 4 4) ∷ proxy reason.OtherLimit 0 (page 50 50) ∷ []
unfolding opened
limit_in_references = refl

-- with room for all, the reference at depth 1 is a box without a label: its source is a text
pub no_limit : events full 1 (plain 1 7)
    ≡ detail_cell ∷ batch 0 IDENTITY ∷ batch 1 IDENTITY ∷ text 0 (spot 1 1) ∷ text 1 (spot 2 2) ∷ point 1 2 (spot 3 3) ∷ point 1 2 (spot 4 4) ∷ proxy reason.DepthAtMostOne no_label (page 1 1) ∷ []
unfolding opened
no_limit = refl

-- hidden layers are passed over, a batch, a text and a node each by its own key: layer 1 with data type 0, and layer 1 with node type 2
pub hidden_layer : events full 1 (record { root = 0; depth = 1; view = page 100 100; zoom = whole 1; hidden = 7 ∷ 65536 ∷ []; object_limit = 20000 })
    ≡ detail_cell ∷ point 1 2 (spot 3 3) ∷ point 1 2 (spot 4 4) ∷ proxy reason.DepthAtMostOne no_label (page 1 1) ∷ []
unfolding opened
hidden_layer = refl

pub hidden_nodes : events full 1 (record { root = 0; depth = 1; view = page 100 100; zoom = whole 1; hidden = 65538 ∷ []; object_limit = 20000 })
    ≡ detail_cell ∷ batch 0 IDENTITY ∷ batch 1 IDENTITY ∷ text 0 (spot 1 1) ∷ text 1 (spot 2 2) ∷ proxy reason.DepthAtMostOne no_label (page 1 1) ∷ []
unfolding opened
hidden_nodes = refl

-- ---- members of a grid: columns 60 apart, rows 70 apart, boxes of 50 by 50, in a view of 100 by 100

abbrev gridded : Sheet
gridded =
    sheet_of_lists [] (text_at_spot 45 45 ∷ []) [] (refer 3 2 60 70 (Cell 1) (page 50 50) ∷ [])
    (cell_of 0 (page 180 130) [] [] [] (0 ∷ []) ∷ cell_of 1 (page 50 50) [] (0 ∷ []) [] [] ∷ [])

-- column by column: members that cross the view's right or upper edge are visited, and the two of column 2 are culled
pub edges : events gridded 2 (plain 2 20000) ≡ detail_cell ∷ detail_cell ∷ text 0 (spot 45 45) ∷ detail_cell ∷ detail_cell ∷ detail_cell ∷ culled_reference ∷ culled_reference ∷ []
unfolding opened
edges = refl

-- a limit between members: the box of the whole reference, labelled by its cell, and the visit of the reference is over
pub limit_in_members : events gridded 2 (plain 2 1) ≡ detail_cell ∷ detail_cell ∷ text 0 (spot 45 45) ∷ proxy reason.OtherLimit 1 (page 170 120) ∷ []
unfolding opened
limit_in_members = refl

-- members below 24 pixels, in a reference that is above: a box each, labelled by the cell
abbrev small : Sheet
small =
    sheet_of_lists [] [] [] (refer 1 2 0 40 (Cell 1) (page 30 20) ∷ []) (cell_of 0 (page 30 60) [] [] [] (0 ∷ []) ∷ cell_of 1 (page 30 20) [] [] [] [] ∷ [])

pub member_boxes : events small 2 (plain 2 20000) ≡ detail_cell ∷ proxy reason.SmallSide 1 (page 30 20) ∷ proxy reason.SmallSide 1 (bbox (whole 0) (whole 40) (whole 30) (whole 60)) ∷ []
unfolding opened
member_boxes = refl

-- ---- a grid of bare node points: the member at which the limit is met is boxed, then the whole reference without a label, and later members are not visited

abbrev node_grid : Sheet
node_grid =
    sheet_of_lists [] [] (node_of (spot 0 0 ∷ spot 30 30 ∷ []) ∷ []) (refer 1 3 0 30 (Node 0) (page 30 30) ∷ []) (cell_of 0 (page 30 90) [] [] [] (0 ∷ []) ∷ [])

abbrev whole_grid : Event
whole_grid = proxy reason.OtherLimit no_label (page 30 90)

pub limit_in_first_member : events node_grid 1 (plain 2 1) ≡ detail_cell ∷ point 1 2 (spot 0 0) ∷ proxy reason.OtherLimit no_label (page 30 30) ∷ whole_grid ∷ []
unfolding opened
limit_in_first_member = refl

pub limit_in_middle_member : events node_grid 1 (plain 2 3)
    ≡ detail_cell ∷ point 1 2 (spot 0 0) ∷ point 1 2 (spot 30 30) ∷ point 1 2 (spot 0 30) ∷ proxy reason.OtherLimit no_label (bbox (whole 0) (whole 30) (whole 30) (whole 60)) ∷ whole_grid ∷ []
unfolding opened
limit_in_middle_member = refl

pub limit_in_last_member : events node_grid 1 (plain 2 5)
    ≡ detail_cell ∷ point 1 2 (spot 0 0) ∷ point 1 2 (spot 30 30) ∷ point 1 2 (spot 0 30) ∷ point 1 2 (spot 30 60) ∷ point 1 2 (spot 0 60) ∷ proxy reason.OtherLimit no_label (bbox (whole 0) (whole 60) (whole 30) (whole 90)) ∷ whole_grid ∷ []
unfolding opened
limit_in_last_member = refl

-- the limit met at a member's end: the next member finds it, and the whole reference is boxed alone
pub limit_before_a_member : events node_grid 1 (plain 2 2) ≡ detail_cell ∷ point 1 2 (spot 0 0) ∷ point 1 2 (spot 30 30) ∷ whole_grid ∷ []
unfolding opened
limit_before_a_member = refl

-- the only member: the same box twice
abbrev one_node : Sheet
one_node = sheet_of_lists [] [] (node_of (spot 0 0 ∷ spot 30 30 ∷ []) ∷ []) (refer 1 1 0 0 (Node 0) (page 30 30) ∷ []) (cell_of 0 (page 30 30) [] [] [] (0 ∷ []) ∷ [])

pub limit_in_only_member : events one_node 1 (plain 2 1) ≡ detail_cell ∷ point 1 2 (spot 0 0) ∷ proxy reason.OtherLimit no_label (page 30 30) ∷ proxy reason.OtherLimit no_label (page 30 30) ∷ []
unfolding opened
limit_in_only_member = refl

-- with 99,999 proxies listed before, the member's box is the last that is listed, and the whole reference's is dropped
pub reference_box_dropped : (visit_reference no_tag note node_grid 1 (plain 2 1) 2 tt 0 IDENTITY (world (scene_plan 0 0 99999 0 0 0 0 0 0 0) [] (replicate 2 0) (replicate 4 0))).out
    ≡ (tt, dropped_proxy reason.OtherLimit no_label (page 30 90)) ∷ (tt, proxy reason.OtherLimit no_label (page 30 30)) ∷ (tt, point 1 2 (spot 0 0)) ∷ []
unfolding opened
reference_box_dropped = refl

-- ---- "A circle of cells ends in a proxy if the cell met again has a box": the two cells of the P case at each depth

pub circle_depth_0 : events circle 2 (plain 0 20000) ≡ proxy reason.DepthZero 0 (page 100 100) ∷ []
unfolding opened
circle_depth_0 = refl

pub circle_depth_1 : events circle 2 (plain 1 20000) ≡ detail_cell ∷ proxy reason.DepthAtMostOne 1 (page 100 100) ∷ []
unfolding opened
circle_depth_1 = refl

pub circle_depth_2 : events circle 2 (plain 2 20000) ≡ detail_cell ∷ detail_cell ∷ proxy reason.DepthAtMostOne 0 (page 100 100) ∷ []
unfolding opened
circle_depth_2 = refl

pub circle_depth_5 : events circle 2 (plain 5 20000) ≡ detail_cell ∷ detail_cell ∷ proxy reason.Circle 0 (page 100 100) ∷ []
unfolding opened
circle_depth_5 = refl

-- ---- counts remembered from one reference to the next. Cell 0 refers to cell 1, and then to cell 2 through an inner reference; cells 1 (120 units) and 2 (7 units) refer to each other once.
-- The first reference counts cell 1 at depth 3, and so remembers 8 for cell 2 at depth 2, where cell 1 is open; fresh, that is 128. At 64 × 32 px 128 units are dense and 8 are not.

abbrev two_references : Sheet
two_references =
    sheet_of_lists [] (text_at_spot 10 20 ∷ []) []
    (refer 1 1 0 0 (Cell 1) (page 64 32) ∷ refer 1 1 0 0 (Reference 2) (page 64 32) ∷ refer 1 1 0 0 (Cell 2) (page 64 32) ∷ refer 1 1 0 0 (Cell 1) (page 64 32) ∷ [])
    (cell_of 0 (page 64 32) [] [] [] (0 ∷ 1 ∷ []) ∷ cell_of 120 (page 64 32) [] [] [] (2 ∷ []) ∷ cell_of 7 (page 64 32) [] (0 ∷ []) [] (3 ∷ []) ∷ [])

-- what the second reference counts at depth 4, the scratch being this
abbrev second_units : List ℕ → List ℕ → ℕ
second_units k m = (numbered_draw_units two_references 3 4 1 k m).units

abbrev first_units : Units
first_units = numbered_draw_units two_references 3 4 0 (replicate 12 0) (replicate 18 0)

pub counts_of_two_references : (first_units.units ≡ 128) × (second_units first_units.counts first_units.marks ≡ 8) × (second_units (replicate 12 0) (replicate 18 0) ≡ 128)
unfolding opened
counts_of_two_references = (refl, refl, refl)

-- The first reference is boxed. The second is not: cell 2 is visited in detail and its text listed. (With its count forgotten in between it would be boxed too, and no text listed.)
pub counts_kept_between_references : (fresh_plan no_tag note two_references 3 (plain 4 20000) tt []).state ≡ scene_plan 172 1 2 3 1 0 0 0 0 0
unfolding opened
counts_kept_between_references = refl

-- ---- a root that the sheet lacks, and one that lies outside the view

pub missing_root : events circle 2 (record { root = 2; depth = 3; view = page 100 100; zoom = whole 1; hidden = []; object_limit = 20000 }) ≡ []
unfolding opened
missing_root = refl

pub outside_root : events circle 2 (record { root = 0; depth = 3; view = tile 101 0; zoom = whole 1; hidden = []; object_limit = 20000 }) ≡ []
unfolding opened
outside_root = refl
