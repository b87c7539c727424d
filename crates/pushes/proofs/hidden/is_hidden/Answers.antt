-- `pushes::hidden::is_hidden` meets its contract: what `any` answers, it contains.
-- Assumes nothing.
use mathlib.Core.Path.{◌∙◌}
use Prim.Native.Nat.{◌+◌, ◌*◌}
use lib.Dec.{eqb}
use borrow.Author.Tests.{tests}
use Rattle.std.proofs.Common.{rules}
use Rattle.std.proofs.lemmas.Iterator.{YieldsList-from_slice}
use Rattle.std.proofs.lemmas.Iterator.Search.{any_from_yields_List}
use Rattle.plan_rules.specs.World.{hides}
use Rattle.pushes.proofs.HiddenLayers.{any_contains}
use Rattle.pushes.proofs.hidden.is_hidden.Goals as goal

pub returns : goal.returns
unfolding hides
returns c fixed =
    let key = c.args.layer * 65536 + c.args.data_type in
    any_from_yields_List (λ x. eqb x key) _ _ _ c.any.ensures.ran (YieldsList-from_slice c.args.hidden.now cc) (λ x b q k. search (rules, tests))
    ∙ any_contains c.args.hidden.now key
