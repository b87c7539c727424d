-- `walk::find` meets its contract. The loop's invariant: what is left to find of the records ahead is the whole look-up. Assumes nothing.
use mathlib.Core.Path.{sym, ap, ◌∙◌}
use Rattle.walk.specs.Find.{find_in}
use Rattle.walk.proofs.Taking.{took, none_left}
use Rattle.walk.proofs.Finding.{find_nil, find_hit, find_next, find_other}
use Rattle.walk.proofs.find.Goals as goal

pub returns-then-left-eq0 : goal.returns-then-left-eq0
returns-then-left-eq0 c =
    let t = took _ _ _ _ (sym c.loop-head.invariant.2.1 ∙ c.in-Some.ensures.steps) in
    let found = find_hit c.args.s.now c.args.kind c.in-Some.head.at t.ahead (sym t.kind ∙ c.if-head-kind.true) in
    sym found ∙ (λ i. find_in c.args.s.now c.args.kind (sym c.if-left-eq0.true i) (sym t.first i)) ∙ c.loop-head.invariant.2.2

pub loop-head-preserved-then-head-kind : goal.loop-head-preserved-then-head-kind
loop-head-preserved-then-head-kind c =
    let t = took _ _ _ _ (sym c.loop-head.invariant.2.1 ∙ c.in-Some.ensures.steps) in
    let next = find_next c.args.s.now c.args.kind c.in-Some.head.at t.ahead c.loop-head.left (sym t.kind ∙ c.if-head-kind.true) c.if-left-eq0.false in
    (tt, tt, (t.ahead, t.rest, sym next ∙ ap (find_in c.args.s.now c.args.kind c.loop-head.left) (sym t.first) ∙ c.loop-head.invariant.2.2))

pub loop-head-preserved : goal.loop-head-preserved
loop-head-preserved c =
    let t = took _ _ _ _ (sym c.loop-head.invariant.2.1 ∙ c.in-Some.ensures.steps) in
    let other = find_other c.args.s.now c.args.kind c.in-Some.head.at t.ahead c.loop-head.left (λ e. c.if-head-kind.false (t.kind ∙ e)) in
    (tt, tt, (t.ahead, t.rest, sym other ∙ ap (find_in c.args.s.now c.args.kind c.loop-head.left) (sym t.first) ∙ c.loop-head.invariant.2.2))

pub returns : goal.returns
returns c =
    let none = none_left c.args.s.now c.loop-head.invariant.2.0 (sym c.loop-head.invariant.2.1 ∙ c.in-None.ensures.steps.0) in
    sym (find_nil c.args.s.now c.args.kind c.loop-head.left) ∙ ap (find_in c.args.s.now c.args.kind c.loop-head.left) (sym none) ∙ c.loop-head.invariant.2.2
