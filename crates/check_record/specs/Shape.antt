-- Question 3 of document 01, of the record at an offset: "Is the kind 1 to 5 and the length right for it, a cell's counts included?"
-- Definitions only. Assumes nothing.
use Rattle.std.specs.Prelude.{ℕ, ◌+◌, ◌-◌, ◌*◌, ◌%◌, List, Bool, false, cond, leb, eqb}
use Rattle.walk.specs.Offsets.{length_at, kind_at}
use Rattle.records.specs.Format.{f, number_width, geometry, text, node, reference, cell, end_of, max_value_bytes, max_points}
use Rattle.records.specs.Records.{list_counts_at}
use Rattle.check_record.specs.Tests.{both}

-- a cell's "counts of batches, texts, nodes, references 2 each", together
unfoldable pub lists_at : List ℕ → ℕ → ℕ
lists_at s at = let n = list_counts_at s at in n.geometries + n.texts + n.nodes + n.references

-- The column "length" of the table, for a record of a kind whose length its own body does not decide: a batch's 46,
-- a text's 26 + n with "0 to 512 value bytes", a node's 10 + 16n with "1 to 50 points", a reference's 122. No other kind is right.
unfoldable pub length_ok : ℕ → ℕ → Bool
length_ok kind n =
    cond (eqb kind 1) (eqb n (end_of geometry))
    (cond (eqb kind 2) (both (leb (end_of text) n) (leb n (end_of text + max_value_bytes)))
    (cond (eqb kind 3) (both (leb (end_of node + 2 * f * 1) n) (both (leb n (end_of node + 2 * f * max_points)) (eqb ((n - end_of node) % (2 * f)) 0)))
    (cond (eqb kind 4) (eqb n (end_of reference)) false)))

-- with a cell's 56 + 4n
unfoldable pub shape_ok : List ℕ → ℕ → Bool
shape_ok s at = cond (eqb (kind_at s at) 5) (eqb (length_at s at) (end_of cell + number_width * lists_at s at)) (length_ok (kind_at s at) (length_at s at))
