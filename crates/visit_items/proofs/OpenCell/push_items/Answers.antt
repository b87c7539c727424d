-- `visit_items::OpenCell::push_items` meets its contract: the three lists one after the other, until a limit stops one.
-- Assumes nothing.
use Rattle.std.proofs.lemmas.Result.{err_from_is_err_and}
use Rattle.plan_rules.specs.OnTape.{given_of}
use Rattle.visit_items.proofs.Body
use Rattle.visit_items.proofs.OpenCell.push_items.Goals as goal

pub returns-in_err-after_geometries : goal.returns-in_err-after_geometries
returns-in_err-after_geometries c k m =
    let p = err_from_is_err_and c.from_residual.result c.from_residual.ensures.1 in
    rw (p.1, p.2) (Body.after_geometries (given_of c.args.given.now) c.args.self.now c.args.given.now.sheet.now _ (c.in_err-after_geometries.ensures k m))

pub returns-in_err-after_texts : goal.returns-in_err-after_texts
returns-in_err-after_texts c k m =
    let p = err_from_is_err_and c.from_residual-in_err-after_texts.result c.from_residual-in_err-after_texts.ensures.1 in
    rw (p.1, p.2) (Body.after_texts (given_of c.args.given.now) c.args.self.now c.args.given.now.sheet.now _ (c.in_ok-after_geometries.ensures k m) (c.in_err-after_texts.ensures k m))

pub returns : goal.returns
returns c k m =
    Body.after_nodes (given_of c.args.given.now) c.args.self.now c.args.given.now.sheet.now _ (c.in_ok-after_geometries.ensures k m) (c.in_ok-after_texts.ensures k m) (c.push_list-3.ensures k m)
