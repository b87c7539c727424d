-- The rules at the code's end: no tag, bytes on the lent tape, and what a plan is given, by one name.
-- The planner's contracts cite these names: what a call leaves equals the definition of the same name. No crate above applies the rules to `no_tag` and `on_tape`.
-- Definitions only; rests on the rules and on what a reference denotes.
use Rattle.std.specs.Prelude.{◌≡◌, List, ℕ, zero, suc, Result, Ok, Err}
use Rattle.std.proofs.Math.Option.{Option}
use Rattle.std.specs.Borrow.{Bor, MutBor}
use Rattle.geometry.specs.declared.bbox.WorldBBox.{WorldBBox}
use Rattle.geometry.specs.declared.bbox.Bounds.{Bounds}
use Rattle.geometry.specs.declared.placement.Placement.{Placement}
use Rattle.records.specs.declared.PreparedSource.{PreparedSource}
use Rattle.records.specs.declared.PreparedReference.{PreparedReference}
use Rattle.abstract_sheet.specs.Sheet.{NodeRecord, CellRecord, Sheet}
use Rattle.look_up.specs.Look.{sheet_with}
use Rattle.plan_rules.specs.declared.ScenePlan.{ScenePlan}
use Rattle.plan_rules.specs.declared.SceneOptions.{SceneOptions}
use Rattle.plan_rules.specs.Outcome.{Answer}
use Rattle.plan_rules.specs.declared.Fixed.{Fixed}
use Rattle.plan_rules.specs.declared.Halted.{Halted}
use Rattle.plan_rules.specs.declared.Given as lends
use Rattle.plan_rules.specs.declared.Reason.{Reason}
use Rattle.plan_rules.specs.Limits.{max_scene_objects}
use Rattle.plan_rules.specs.Event.{Event}
use Rattle.plan_rules.specs.World.{Query, query_of, World, world, Flow, go, halt, each}
use Rattle.plan_rules.specs.DrawUnits.{Units}
use Rattle.plan_rules.specs.Push as push
use Rattle.plan_rules.specs.Visit as visit
use Rattle.plan_rules.specs.Plan as plan
use Rattle.plan_rules.specs.Tape.{no_tag, on_tape}
use Rattle.plan_rules.specs.Outcome as outcome

-- ---- what a plan is given and does not change

-- the query of a plan, with the hidden layers that are lent beside it
abbrev pub fixed_query : Fixed → List ℕ → Query
fixed_query f hidden = query_of f.options hidden f.object_limit

-- What a plan is given besides what goes by value (f): the sheet, as it is looked up, and the hidden layers.
pub record Given (f : Fixed) : Type 0 where
  pub sheet : Sheet
  pub hidden : List ℕ

-- the same of a sheet's bytes, and of the finder beside them: an empty one is none
abbrev pub given_bytes : (f : Fixed) → List ℕ → List ℕ → List ℕ → Given f
given_bytes f s finder hidden = record { sheet = sheet_with s finder f.counts; hidden = hidden }

-- the same of what is lent
abbrev pub given : (f : Fixed) → Bor (List ℕ) → Bor (List ℕ) → Bor (List ℕ) → Given f
given f sheet finder hidden = given_bytes f sheet.now finder.now hidden.now

-- the same of what the code passes on by one name
abbrev pub given_of : (g : lends.Given) → Given g.fixed
given_of g = given g.fixed g.sheet g.finder g.hidden

-- ---- what a call is handed, and what it leaves

abbrev pub Output : Type 0
Output = World (List ℕ)

-- the plan, and what stands in the lent output, counts and marks
abbrev pub lent : ScenePlan → MutBor (List ℕ) → MutBor (List ℕ) → MutBor (List ℕ) → Output
lent s out counts marks = world s out.now counts.now marks.now

-- a call that is not lent the scratch: whatever stands there, it leaves what the definition does
abbrev pub Leaves : ScenePlan → MutBor (List ℕ) → (Output → Output) → ScenePlan → MutBor (List ℕ) → Type 0
Leaves r out definition s before = (k m : List ℕ) → world r out.now k m ≡ definition (world s before.now k m)

-- a flow by the code's answer: whether the visit goes on, and from which plan
abbrev pub flow_of : {A : Type 0} → Result ScenePlan Halted → (ScenePlan → World A) → Flow A
flow_of (Ok s) w = go (w s)
flow_of (Err h) w = halt (w h.plan)

-- the same of a call that also answers whether the visit goes on
abbrev pub LeavesFlow : Result ScenePlan Halted → MutBor (List ℕ) → (Output → Flow (List ℕ)) → ScenePlan → MutBor (List ℕ) → Type 0
LeavesFlow r out definition s before = (k m : List ℕ) → flow_of r (λ p. world p out.now k m) ≡ definition (world s before.now k m)

-- ---- a whole call

-- what it answered, and what stands in the lent output, counts and marks after it
abbrev pub answers : Answer → MutBor (List ℕ) → MutBor (List ℕ) → MutBor (List ℕ) → outcome.Outcome
answers a out counts marks = outcome.outcome a out.now counts.now marks.now

-- its query: the options, the hidden layers, and document 01's object limit
abbrev pub asked : SceneOptions → List ℕ → Query
asked options hidden = query_of options hidden max_scene_objects

-- what the rules have it answer and leave, of a sheet, the options and the hidden layers
abbrev pub plan_outcome : Bor (List ℕ) → SceneOptions → Bor (List ℕ) → MutBor (List ℕ) → MutBor (List ℕ) → MutBor (List ℕ) → outcome.Outcome
plan_outcome sheet options hidden out counts marks = outcome.outcome_of sheet.now (asked options hidden.now) out.now counts.now marks.now

-- ---- events and proxies

abbrev pub say : Event → Output → Output
say e w = push.say no_tag on_tape tt e w

abbrev pub add_load : Reason → ℕ → WorldBBox → Output → Output
add_load why label box w = push.add_load no_tag on_tape tt why label box w

abbrev pub add_load_if_boxed : Reason → ℕ → Bounds → Output → Output
add_load_if_boxed why label box w = push.add_load_if_boxed no_tag on_tape tt why label box w

abbrev pub halt_with_cell : ℕ → Bounds → Flow (List ℕ) → Flow (List ℕ)
halt_with_cell n box x = visit.halt_with_cell no_tag on_tape tt n box x

abbrev pub load_member : ℕ → WorldBBox → WorldBBox → Output → Output
load_member l box world_box w = visit.load_member no_tag on_tape tt tt l box world_box w

abbrev pub halt_with_member : ℕ → WorldBBox → WorldBBox → Flow (List ℕ) → Flow (List ℕ)
halt_with_member l box world_box x = visit.halt_with_member no_tag on_tape tt tt l box world_box x

module _ {f : Fixed} (g : Given f) where
  abbrev pub query : Query
  query = fixed_query f g.hidden

  -- ---- pushes

  abbrev pub push_geometry : ℕ → Placement → Output → Output
  push_geometry = push.push_geometry no_tag on_tape g.sheet query tt

  abbrev pub push_text : ℕ → Placement → Output → Output
  push_text = push.push_text no_tag on_tape g.sheet query tt

  abbrev pub push_point : Placement → NodeRecord → ℕ → Output → Flow (List ℕ)
  push_point = push.push_point no_tag on_tape g.sheet query tt

  abbrev pub push_points : Placement → NodeRecord → Output → Flow (List ℕ)
  push_points p x w = each (push_point p x) x.count 0 w

  abbrev pub push_node : ℕ → Placement → Output → Flow (List ℕ)
  push_node = push.push_node no_tag on_tape g.sheet query tt

  -- ---- the steps of the visits, given how a reference or a source is visited

  abbrev pub VisitReference : Type 0
  VisitReference = visit.VisitReference no_tag on_tape g.sheet f.counts.cells query

  abbrev pub VisitSource : Type 0
  VisitSource = visit.VisitSource no_tag on_tape g.sheet f.counts.cells query

  module _ (n : ℕ) (c : CellRecord) (p : Placement) (box : Bounds) where
    abbrev pub geometry_step : ℕ → Output → Flow (List ℕ)
    geometry_step = visit.geometry_step no_tag on_tape g.sheet f.counts.cells query tt n c p box

    abbrev pub text_step : ℕ → Output → Flow (List ℕ)
    text_step = visit.text_step no_tag on_tape g.sheet f.counts.cells query tt n c p box

    abbrev pub node_step : ℕ → Output → Flow (List ℕ)
    node_step = visit.node_step no_tag on_tape g.sheet f.counts.cells query tt n c p box

    abbrev pub reference_step : VisitReference → ℕ → Output → Flow (List ℕ)
    reference_step = visit.reference_step no_tag on_tape g.sheet f.counts.cells query tt n c p box

    abbrev pub cell_body : VisitReference → Output → Flow (List ℕ)
    cell_body = visit.cell_body no_tag on_tape g.sheet f.counts.cells query tt n c p box

  abbrev pub visit_found_cell : VisitReference → ℕ → Placement → Option CellRecord → Output → Output
  visit_found_cell on n p c w = visit.visit_found_cell no_tag on_tape g.sheet f.counts.cells query on tt n p c w

  module _ (on : VisitSource) (depth : ℕ) (r : PreparedReference) (p : Placement) where
    module _ (sourceBox world_box : WorldBBox) where
      abbrev pub member_step : ℕ → ℕ → ℕ → Output → Flow (List ℕ)
      member_step = visit.member_step no_tag on_tape g.sheet f.counts.cells query on depth tt r p sourceBox world_box

      abbrev pub column_step : ℕ → ℕ → Output → Flow (List ℕ)
      column_step = visit.column_step no_tag on_tape g.sheet f.counts.cells query on depth tt r p sourceBox world_box

      abbrev pub visit_counted_reference : Units → Output → Output
      visit_counted_reference = visit.visit_counted_reference no_tag on_tape g.sheet f.counts.cells query on depth tt r p sourceBox world_box

    abbrev pub visit_boxed_reference : WorldBBox → Bounds → Output → Output
    visit_boxed_reference = visit.visit_boxed_reference no_tag on_tape g.sheet f.counts.cells query on depth tt r p

    abbrev pub visit_sourced_reference : Bounds → Output → Output
    visit_sourced_reference = visit.visit_sourced_reference no_tag on_tape g.sheet f.counts.cells query on depth tt r p

  abbrev pub visit_found_reference : VisitSource → ℕ → Placement → Option PreparedReference → Output → Output
  visit_found_reference on depth p r w = visit.visit_found_reference no_tag on_tape g.sheet f.counts.cells query on depth tt p r w

  -- ---- the visits at a depth, and a plan

  abbrev pub on_reference : ℕ → VisitReference
  on_reference depth = visit.visit_reference no_tag on_tape g.sheet f.counts.cells query depth

  abbrev pub on_source : ℕ → VisitSource
  on_source depth = visit.visit_source no_tag on_tape g.sheet f.counts.cells query depth

  -- how a reference at a depth visits its source: one below; at depth 0 not at all, since a reference collapses there
  abbrev pub on_source_below : ℕ → VisitSource
  on_source_below zero = λ t s p w. go w
  on_source_below (suc depth) = on_source depth

  abbrev pub visit_cell : ℕ → ℕ → Placement → Output → Output
  visit_cell depth = visit.visit_cell no_tag on_tape g.sheet f.counts.cells query depth tt

  abbrev pub visit_reference : ℕ → ℕ → Placement → Output → Output
  visit_reference depth = on_reference depth tt

  abbrev pub visit_source : ℕ → PreparedSource → Placement → Output → Flow (List ℕ)
  visit_source depth = on_source depth tt

  abbrev pub load_root_box : Bounds → Output → Output
  load_root_box = plan.load_root_box no_tag on_tape g.sheet f.counts.cells query tt

  abbrev pub load_root : Option CellRecord → Output → Output
  load_root = plan.load_root no_tag on_tape g.sheet f.counts.cells query tt

  abbrev pub visit_root : ℕ → Output → Output
  visit_root depth = plan.visit_root no_tag on_tape g.sheet f.counts.cells query depth tt

  -- what a call answers and leaves once the sheet is known to be sound
  abbrev pub sound_outcome : List ℕ → List ℕ → List ℕ → outcome.Outcome
  sound_outcome = outcome.sound_outcome g.sheet f.counts.cells query
