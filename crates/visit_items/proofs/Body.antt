-- The lists of an open cell one after the other: by what each of them does, until one halts.
-- Assumes nothing.
use mathlib.Core.Path.{◌≡◌, refl, ap, ◌∙◌}
use mathlib.Core.List.{List}
use Prim.Native.Nat.{ℕ}
use Rattle.std.specs.Prelude.{Result}
use Rattle.std.specs.Borrow.{MutBor}
use Rattle.records.specs.Records.{cell_geometry_at, cell_text_at, cell_node_at}
use Rattle.abstract_sheet.specs.Sheet.{CellRecord}
use Rattle.plan_rules.specs.declared.ScenePlan.{ScenePlan}
use Rattle.plan_rules.specs.declared.Halted.{Halted}
use Rattle.plan_rules.specs.declared.Fixed.{Fixed}
use Rattle.plan_rules.specs.World.{Flow, go, bind, each, ending}
use Rattle.plan_rules.specs.Visit as visit
use Rattle.plan_rules.specs.OnTape.{Given, Output, VisitReference, LeavesFlow, push_geometry, push_text, push_node, reference_step}
use Rattle.visit_items.specs.declared.OpenCell.{OpenCell}
use Rattle.visit_items.specs.Lists.{opened, cell_step, cell_list, cell_geometries, cell_texts, cell_nodes, cell_lists, visit_lists, LeavesReferences}

module _ {f : Fixed} (g : Given f) (c : OpenCell) (s : List ℕ) where
  abbrev list_geometries : Output → Flow (List ℕ)
  list_geometries = cell_list g (λ n w. go (push_geometry g n c.transform w)) (cell_geometry_at s c.at) c c.record.geometries

  abbrev list_texts : Output → Flow (List ℕ)
  list_texts = cell_list g (λ n w. go (push_text g n c.transform w)) (cell_text_at s c.at) c c.record.texts

  abbrev list_nodes : Output → Flow (List ℕ)
  list_nodes = cell_list g (λ n w. push_node g n c.transform w) (cell_node_at s c.at) c c.record.nodes

  by_geometries : (w : Output) → list_geometries w ≡ cell_geometries g c (opened s c) w
  unfolding cell_step visit.geometry_step
  by_geometries w = refl

  by_texts : (w : Output) → list_texts w ≡ cell_texts g c (opened s c) w
  unfolding cell_step visit.text_step
  by_texts w = refl

  by_nodes : (w : Output) → list_nodes w ≡ cell_nodes g c (opened s c) w
  unfolding cell_step visit.node_step
  by_nodes w = refl

  module _ (w : Output) where
    pub after_geometries : {x : Flow (List ℕ)} → x ≡ list_geometries w → bind (bind x (cell_texts g c (opened s c))) (cell_nodes g c (opened s c)) ≡ cell_lists g c (opened s c) w
    after_geometries e = ap (λ (y : Flow (List ℕ)). bind (bind y (cell_texts g c (opened s c))) (cell_nodes g c (opened s c))) (e ∙ by_geometries w)

    module _ {v : Output} (geometries : go v ≡ list_geometries w) where
      pub after_texts : {x : Flow (List ℕ)} → x ≡ list_texts v → bind x (cell_nodes g c (opened s c)) ≡ cell_lists g c (opened s c) w
      after_texts e = ap (λ (y : Flow (List ℕ)). bind y (cell_nodes g c (opened s c))) (e ∙ by_texts v) ∙ after_geometries geometries

      pub after_nodes : {v₁ : Output} → go v₁ ≡ list_texts v → {x : Flow (List ℕ)} → x ≡ list_nodes v₁ → x ≡ cell_lists g c (opened s c) w
      after_nodes {v₁ = v₁} texts e = e ∙ by_nodes v₁ ∙ after_texts texts

-- all the lists by these three: the references follow where none of them halts
module _ {f : Fixed} (g : Given f) (c : OpenCell) (r : CellRecord) where
  pub with_references : {x : Flow (List ℕ)} (w : Output) → x ≡ cell_lists g c r w → (on : VisitReference g) → ending (bind x (each (reference_step g c.number r c.transform c.bounds on) r.references.count 0)) ≡ visit_lists g c r on w
  unfolding visit.cell_body
  with_references w e on = ap (λ (y : Flow (List ℕ)). ending (bind y (each (reference_step g c.number r c.transform c.bounds on) r.references.count 0))) e

  pub leaves_references : (x : Result ScenePlan Halted) (out : MutBor (List ℕ)) (plan : ScenePlan) (before : MutBor (List ℕ)) → LeavesFlow x out (cell_lists g c r) plan before → LeavesReferences g c r x out plan before
  leaves_references x out plan before leaves on k m = with_references _ (leaves k m) on
