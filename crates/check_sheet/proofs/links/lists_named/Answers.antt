-- `check_sheet::links::lists_named` meets its contract: the four lists lie within the cell.
-- Assumes nothing.
use mathlib.Core.Path.{◌≡◌, ap}
use mathlib.Core.List.{List}
use Prim.Native.Nat.{ℕ, ◌+◌}
use native.Mathlib.Omega.{arith}
use Rattle.records.specs.declared.ListCounts.{ListCounts}
use Rattle.records.specs.Records.{list_counts_at}
use Rattle.check_record.specs.Shape.{lists_at}
use Rattle.check_sheet.proofs.links.lists_named.Goals as goal

-- the lengths that were read are those of the definition
together : (s : List ℕ) (at : ℕ) {n : ListCounts} → n ≡ list_counts_at s at → n.geometries + n.texts + n.nodes + n.references ≡ lists_at s at
unfolding lists_at
together s at e = ap (λ (x : ListCounts). x.geometries + x.texts + x.nodes + x.references) e

pub all_below-requires : goal.all_below-requires
all_below-requires c = omega (arith, together _ _ c.list_counts_within-counts.ensures)

pub all_below-requires-then-all_below : goal.all_below-requires-then-all_below
all_below-requires-then-all_below c = omega (arith, together _ _ c.list_counts_within-counts.ensures)

pub all_below-requires-then-all_below-2 : goal.all_below-requires-then-all_below-2
all_below-requires-then-all_below-2 c = omega (arith, together _ _ c.list_counts_within-counts.ensures)

pub all_below-requires-then-all_below-3 : goal.all_below-requires-then-all_below-3
all_below-requires-then-all_below-3 c = omega (arith, together _ _ c.list_counts_within-counts.ensures)
