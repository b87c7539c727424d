-- `pushes::push_text` meets its contract: one law of the rules for each way out.
-- Assumes nothing.
use mathlib.Core.Path.{sym}
use Rattle.abstract_sheet.specs.Sheet.{texts}
use Rattle.look_up.proofs.Looking.{item_looked}
use Rattle.plan_rules.specs.World.{world}
use Rattle.plan_rules.specs.OnTape.{given_of}
use Rattle.plan_rules.proofs.Paths.Pushes.{text_missing, text_hidden, text_outside, text_listed}
use Rattle.pushes.proofs.items.push_text.Goals as goal

pub returns-in_default : goal.returns-in_default
returns-in_default c k m = sym (text_missing (given_of c.args.given.now) _ _ _ (item_looked texts _ _ _ _ c.look_up.ensures c.in_default.is))

pub returns-then-is_hidden : goal.returns-then-is_hidden
returns-then-is_hidden c k m =
    let a = c.args in
    let there = item_looked texts _ _ _ _ c.look_up.ensures c.in-Some.is in
    sym (text_hidden (given_of a.given.now) a.number a.transform (world a.plan a.out.now k m) {x = c.text_at-text.result} (cc (there)) (cc (c.is_hidden.ensures a.given.now.fixed)))

pub returns-then-not-point_in_bbox : goal.returns-then-not-point_in_bbox
returns-then-not-point_in_bbox c k m =
    let a = c.args in
    let there = item_looked texts _ _ _ _ c.look_up.ensures c.in-Some.is in
    sym (text_outside (given_of a.given.now) a.number a.transform (world a.plan a.out.now k m) {x = c.text_at-text.result} (cc (there)) (cc (c.is_hidden.ensures a.given.now.fixed)) (cc))

pub returns : goal.returns
returns c k m =
    let a = c.args in
    let there = item_looked texts _ _ _ _ c.look_up.ensures c.in-Some.is in
    let listed = text_listed (given_of a.given.now) a.number a.transform (world a.plan a.out.now k m) {x = c.text_at-text.result} (cc (there)) (cc (c.is_hidden.ensures a.given.now.fixed)) (cc) in
    cc (c.list_text.ensures k m, listed)
