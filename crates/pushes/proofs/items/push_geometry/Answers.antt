-- `pushes::push_geometry` meets its contract: one law of the rules for each way out.
-- Assumes nothing.
use mathlib.Core.Path.{◌≡◌, sym}
use mathlib.Core.Option.{some}
use Rattle.abstract_sheet.specs.Sheet.{geometries}
use Rattle.look_up.proofs.Looking.{item_looked}
use Rattle.plan_rules.specs.World.{world}
use Rattle.plan_rules.specs.OnTape.{given_of}
use Rattle.plan_rules.proofs.Paths.Pushes.{geometry_missing, geometry_hidden, geometry_culled, geometry_skipped, geometry_dense, geometry_exhausted, geometry_listed}
use Rattle.pushes.proofs.items.push_geometry.Goals.{After-geometry_at-geometry}
use Rattle.pushes.proofs.items.push_geometry.Goals as goal

found : (c : After-geometry_at-geometry) → (given_of c.args.given.now).sheet.geometry c.args.number ≡ some c.geometry_at-geometry.result
found c = cc (item_looked geometries _ _ _ _ c.look_up.ensures c.in-Some.is)

pub returns-in_default : goal.returns-in_default
returns-in_default c k m = sym (geometry_missing (given_of c.args.given.now) _ _ _ (item_looked geometries _ _ _ _ c.look_up.ensures c.in_default.is))

pub returns-then-is_hidden : goal.returns-then-is_hidden
returns-then-is_hidden c k m =
    let a = c.args in
    sym (geometry_hidden (given_of a.given.now) a.number a.transform (world a.plan a.out.now k m) (found (goal.at.returns-then-is_hidden c).After-geometry_at-geometry)
    (cc (c.is_hidden.ensures a.given.now.fixed)))

pub returns-then-not-overlaps : goal.returns-then-not-overlaps
returns-then-not-overlaps c k m =
    let a = c.args in
    let culled = geometry_culled (given_of a.given.now) a.number a.transform (world a.plan a.out.now k m) (found (goal.at.returns-then-not-overlaps c).After-geometry_at-geometry)
    (cc (c.is_hidden.ensures a.given.now.fixed)) (cc) in
    cc (c.count_culled_batch.ensures (world a.plan a.out.now k m).out k m, culled)

pub returns-then-is_subpixel : goal.returns-then-is_subpixel
returns-then-is_subpixel c k m =
    let a = c.args in
    let skipped = geometry_skipped (given_of a.given.now) a.number a.transform (world a.plan a.out.now k m) (found (goal.at.returns-then-is_subpixel c).After-geometry_at-geometry)
    (cc (c.is_hidden.ensures a.given.now.fixed)) (cc) (cc) in
    cc (c.count_skipped_batch.ensures _ _ k m, skipped)

pub returns-then-is_dense_batch : goal.returns-then-is_dense_batch
returns-then-is_dense_batch c k m =
    let a = c.args in
    let dense = geometry_dense (given_of a.given.now) a.number a.transform (world a.plan a.out.now k m) (found (goal.at.returns-then-is_dense_batch c).After-geometry_at-geometry)
    (cc (c.is_hidden.ensures a.given.now.fixed)) (cc) (cc) (cc) in
    cc (c.add_load.ensures k m, dense)

pub returns-then-detail_budget_exhausted : goal.returns-then-detail_budget_exhausted
returns-then-detail_budget_exhausted c k m =
    let a = c.args in
    let exhausted = geometry_exhausted (given_of a.given.now) a.number a.transform (world a.plan a.out.now k m) (found (goal.at.returns-then-detail_budget_exhausted c).After-geometry_at-geometry)
    (cc (c.is_hidden.ensures a.given.now.fixed)) (cc) (cc) (cc) (cc (c.detail_budget_exhausted.ensures a.given.now.hidden.now)) in
    cc (c.add_load-then-detail_budget_exhausted.ensures k m, exhausted)

pub returns : goal.returns
returns c k m =
    let a = c.args in
    let listed = geometry_listed (given_of a.given.now) a.number a.transform (world a.plan a.out.now k m) (found (goal.at.returns c).After-geometry_at-geometry)
    (cc (c.is_hidden.ensures a.given.now.fixed)) (cc) (cc) (cc) (cc (c.detail_budget_exhausted.ensures a.given.now.hidden.now)) in
    cc (c.list_batch.ensures k m, listed)
