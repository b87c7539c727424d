-- How many records there are of each kind.
-- Definitions only. Assumes nothing.
use Rattle.std.specs.Prelude.{ℕ, ◌+◌, ◌≤◌, List, cond, eqb}
use Rattle.walk.specs.Find.{count_of}
use Rattle.check_sheet.specs.declared.Counts.{Counts}

-- the counts of a sheet
unfoldable pub counts_of : List ℕ → Counts
counts_of s =
    record {
      geometries = count_of s 1;
      texts = count_of s 2;
      nodes = count_of s 3;
      references = count_of s 4;
      cells = count_of s 5;
    }

-- n, and one more where a record is of the kind k
unfoldable pub tallied : ℕ → ℕ → ℕ → ℕ
tallied n kind k = n + cond (eqb kind k) 1 0

-- the counts, with a record of a kind
unfoldable pub counted : ℕ → Counts → Counts
counted kind c =
    record {
      geometries = tallied c.geometries kind 1;
      texts = tallied c.texts kind 2;
      nodes = tallied c.nodes kind 3;
      references = tallied c.references kind 4;
      cells = tallied c.cells kind 5;
    }

-- no count is above n
pub record AtMost (c : Counts) (n : ℕ) : Type 0 where
  pub geometries : c.geometries ≤ n
  pub texts : c.texts ≤ n
  pub nodes : c.nodes ≤ n
  pub references : c.references ≤ n
  pub cells : c.cells ≤ n
