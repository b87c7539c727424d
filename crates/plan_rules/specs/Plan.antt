-- A plan: `PreparedLibrary::plan` of bevy_scene.rs, and the totals behind it.
-- Definitions only; rests on `Visit`.
use Rattle.std.specs.Prelude.{cond, ℕ, zero, suc}
use Rattle.std.proofs.Math.Option.{Option, none, some}
use Rattle.geometry.specs.declared.bbox.Bounds.{Bounds}
use Rattle.geometry.specs.declared.bbox.Bounds.TheVariants.{Absent, Box}
use Rattle.geometry.specs.Placement.{IDENTITY}
use Rattle.geometry.specs.Bbox.{overlaps, bbox}
use Rattle.abstract_sheet.specs.Sheet.{CellRecord, Sheet}
use Rattle.plan_rules.specs.declared.Reason.TheVariants as reason
use Rattle.plan_rules.specs.Event.{Event, totals, Step}
use Rattle.plan_rules.specs.World.{Query, World}
use Rattle.plan_rules.specs.Push.{say, add_load}
use Rattle.plan_rules.specs.Visit.{visit_cell}

module _ {P A : Type 0} (enter : Step → P → P) (emit : P → Event → ℕ → A → A) (S : Sheet) (cells : ℕ) (q : Query) where
  -- "Depth 0 gives just one proxy if the root has a box that overlaps the view", labelled by the root.
  unfoldable pub load_root_box : P → Bounds → World A → World A
  load_root_box t Absent w = w
  load_root_box t (Box a b c d) w = cond (overlaps (bbox a b c d) q.view) (add_load enter emit t reason.DepthZero q.root (bbox a b c d) w) w

  unfoldable pub load_root : P → Option CellRecord → World A → World A
  load_root t none w = w
  load_root t (some c) w = load_root_box t c.bbox w

  unfoldable pub visit_root : ℕ → P → World A → World A
  visit_root zero t w = load_root t (S.cell q.root) w
  visit_root (suc depth) t w = visit_cell enter emit S cells q (suc depth) t q.root IDENTITY w

  -- "15 totals, last"
  unfoldable pub plan : P → World A → World A
  plan t w = let v = visit_root q.depth t w in say enter emit t (totals v.state) v
