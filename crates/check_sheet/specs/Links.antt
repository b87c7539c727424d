-- Question 7 of document 01, of the record at an offset: "Does every number in a cell, and every source but a cell source,
-- name an existing record, and a reference source an earlier one?"
-- Definitions only. Assumes nothing.
use Rattle.std.specs.Prelude.{ℕ, ◌+◌, ◌*◌, List, Bool, true, cond, ltb, eqb}
use Rattle.fields.specs.Field.{uint_at}
use Rattle.walk.specs.Offsets.{kind_at}
use Rattle.records.specs.Format.{number_width, cell, end_of}
use Rattle.records.specs.declared.ListCounts.{ListCounts}
use Rattle.records.specs.Records.{source_field_at, list_counts_at}
use Rattle.check_record.specs.Tests.{both, every}
use Rattle.check_sheet.specs.declared.Counts.{Counts}

-- "every source but a cell source" names an existing record, "a reference source an earlier one": own is the reference's own number
unfoldable pub source_named : ℕ → ℕ → Counts → ℕ → Bool
source_named kind number c own =
    cond (eqb kind 1) (ltb number c.geometries)
    (cond (eqb kind 2) (ltb number c.texts)
    (cond (eqb kind 3) (ltb number c.nodes)
    (cond (eqb kind 4) (ltb number own) true)))

-- the number of a list at an offset is below a count
unfoldable pub below_at : List ℕ → ℕ → ℕ → Bool
below_at s count at = ltb (uint_at number_width s at) count

-- "every number in a cell", whose lists have so many: its four lists stand one after the other behind its fields
abbrev pub named_in : List ℕ → Counts → ℕ → ListCounts → Bool
named_in s c at n =
    both (every (below_at s c.geometries) number_width n.geometries (at + end_of cell))
    (both (every (below_at s c.texts) number_width n.texts (at + end_of cell + number_width * n.geometries))
    (both (every (below_at s c.nodes) number_width n.nodes (at + end_of cell + number_width * (n.geometries + n.texts)))
    (every (below_at s c.references) number_width n.references (at + end_of cell + number_width * (n.geometries + n.texts + n.nodes)))))

unfoldable pub lists_named : List ℕ → Counts → ℕ → Bool
lists_named s c at = named_in s c at (list_counts_at s at)

-- own is the number that a reference here has
unfoldable pub link_ok : List ℕ → Counts → ℕ → ℕ → Bool
link_ok s c own at =
    cond (eqb (kind_at s at) 4) (source_named (source_field_at s at).kind (source_field_at s at).number c own)
    (cond (eqb (kind_at s at) 5) (lists_named s c at) true)
