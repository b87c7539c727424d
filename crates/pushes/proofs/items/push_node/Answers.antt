-- `pushes::push_node` meets its contract: one law of the rules for each way out.
-- Assumes nothing.
use mathlib.Core.Path.{sym, ◌∙◌}
use Rattle.abstract_sheet.specs.Sheet.{node_record_at, nodes}
use Rattle.look_up.proofs.Looking.{item_looked}
use Rattle.plan_rules.specs.OnTape.{given_of}
use Rattle.plan_rules.proofs.Paths.Pushes.{node_missing, node_hidden, node_shown}
use Rattle.pushes.proofs.items.push_node.Goals as goal

pub returns-in_default : goal.returns-in_default
returns-in_default c k m = sym (node_missing (given_of c.args.given.now) _ _ _ (item_looked nodes _ _ _ _ c.look_up.ensures c.in_default.is))

pub returns-then-is_hidden : goal.returns-then-is_hidden
unfolding node_record_at
returns-then-is_hidden c k m = sym (node_hidden (given_of c.args.given.now) _ _ _ (item_looked nodes _ _ _ _ c.look_up.ensures c.in-Some.is) (cc (c.is_hidden.ensures c.args.given.now.fixed)))

pub returns : goal.returns
unfolding node_record_at
returns c k m = c.push_points.ensures k m ∙ sym (node_shown (given_of c.args.given.now) _ _ _ (item_looked nodes _ _ _ _ c.look_up.ensures c.in-Some.is) (cc (c.is_hidden.ensures c.args.given.now.fixed)))
