-- The places of a finder: document 02, paper 1, "the offset of every record, by kind and then by number".
-- Definitions only. Assumes nothing.
use Rattle.std.specs.Prelude.{ℕ, ◌+◌, cond, eqb}
use Rattle.check_sheet.specs.declared.Counts.{Counts}

-- how many records there are of a kind of 1 to 5
unfoldable pub count_for : Counts → ℕ → ℕ
count_for c kind =
    cond (eqb kind 1) c.geometries
    (cond (eqb kind 2) c.texts
    (cond (eqb kind 3) c.nodes
    (cond (eqb kind 4) c.references c.cells)))

-- "by kind": the place of a kind's first record is behind all of the kinds before it
unfoldable pub start_for : Counts → ℕ → ℕ
start_for c kind =
    cond (eqb kind 1) 0
    (cond (eqb kind 2) c.geometries
    (cond (eqb kind 3) (c.geometries + c.texts)
    (cond (eqb kind 4) (c.geometries + c.texts + c.nodes) (c.geometries + c.texts + c.nodes + c.references))))
