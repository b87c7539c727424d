-- To compute with the rules a proof names one definition: `unfolding opened` opens all of them, down to the floats.
-- Assumes nothing.
use Prim.Native.Nat.{ℕ}
use Rattle.grid.proofs.Opened as grid
use Rattle.screen.proofs.Opened as screen
use Rattle.abstract_sheet.proofs.Opened as abstract
use Rattle.records.specs.Sources.{label}
use Rattle.plan_rules.specs.Event.{encode, saturate, ◌⊞◌, empty_plan, after}
use Rattle.plan_rules.specs.World.{contains, hides, detail_cells_full, detail_budget_exhausted, each}
use Rattle.plan_rules.specs.Scratch.{place, counts_named, marks_named}
use Rattle.plan_rules.specs.DrawUnits.{fold, reference_draw_units_with, found_draw_units, add_reference_units, remember, cell_draw_units_with, source_draw_units_with, reference_draw_units, source_draw_units, cell_draw_units}
use Rattle.plan_rules.specs.Push.{say, add_load, push_found_geometry, push_geometry, push_found_text, push_text, push_point, push_found_node, push_node}
use Rattle.plan_rules.specs.Visit.{source_units, geometry_step, text_step, node_step, reference_step, cell_body, visit_found_cell, visit_source_with, member_step, column_step, visit_counted_reference, visit_boxed_reference, visit_sourced_reference, visit_found_reference, visit_reference, visit_source, visit_cell}
use Rattle.plan_rules.specs.Plan.{load_root_box, load_root, visit_root, plan}
use Rattle.plan_rules.specs.Tape.{put_record, on_tape}
use Rattle.plan_rules.specs.Questions.{view_ok, zoom_ok, depth_ok, has_scratch, query_refusal_up_to}
use Rattle.plan_rules.specs.Outcome.{fresh_plan, tape_of, zeroed, delivered, sound_outcome_up_to, outcome_up_to}

unfoldable pub opened : ℕ
unfolding grid.opened screen.opened abstract.opened saturate ◌⊞◌ empty_plan after contains hides detail_cells_full detail_budget_exhausted each place counts_named marks_named fold reference_draw_units_with found_draw_units add_reference_units remember cell_draw_units_with source_draw_units_with reference_draw_units source_draw_units cell_draw_units say add_load push_found_geometry push_geometry push_found_text push_text push_point push_found_node push_node label source_units geometry_step text_step node_step reference_step cell_body visit_found_cell visit_source_with member_step column_step visit_counted_reference visit_boxed_reference visit_sourced_reference visit_found_reference visit_reference visit_source visit_cell load_root_box load_root visit_root plan encode put_record on_tape view_ok zoom_ok depth_ok has_scratch query_refusal_up_to fresh_plan tape_of zeroed delivered sound_outcome_up_to outcome_up_to
opened = 0
