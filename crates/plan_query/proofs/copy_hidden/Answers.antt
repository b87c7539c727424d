-- `plan_query::copy_hidden` meets its contract. Assumes nothing.
use Rattle.std.proofs.Common.{refl}
use Rattle.plan_query.specs.Query.{query_length, layers_from}
use Rattle.plan_query.proofs.Layers.{layer_copied}
use Rattle.plan_query.proofs.copy_hidden.Goals as goal

pub loop-i-init : goal.loop-i-init
unfolding layers_from
loop-i-init c = refl

pub loop-i-preserved : goal.loop-i-preserved
loop-i-preserved c =
    let a = c.args in
    layer_copied a.hidden.now a.input.now c.loop-i.i query_length c.loop-i.invariant c.u32_at.ensures
