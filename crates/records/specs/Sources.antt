-- A reference's source by document 01's numbers: the kind and the number that each case of `PreparedSource` stands for, and the label that it gives.
-- Definitions only. Assumes nothing.
use Rattle.std.specs.Prelude.{ℕ}
use Rattle.records.specs.declared.PreparedSource.{PreparedSource}
use Rattle.records.specs.declared.PreparedSource.TheVariants.{Geometry, Text, Node, Reference, Cell}

-- "Source kinds: 1 batch, 2 text, 3 node, 4 reference, 5 cell."
abbrev pub source_kind : PreparedSource → ℕ
source_kind (Geometry n) = 1
source_kind (Text n) = 2
source_kind (Node n) = 3
source_kind (Reference n) = 4
source_kind (Cell n) = 5

abbrev pub source_number : PreparedSource → ℕ
source_number (Geometry n) = n
source_number (Text n) = n
source_number (Node n) = n
source_number (Reference n) = n
source_number (Cell n) = n

-- "or FFFFFFFF (hexadecimal) for none"
abbrev pub no_label : ℕ
no_label = 0xffff_ffff

-- `reference.label`: "cell number as label, or FFFFFFFF (hexadecimal) for none"
unfoldable pub label : PreparedSource → ℕ
label (Geometry n) = no_label
label (Text n) = no_label
label (Node n) = no_label
label (Reference n) = no_label
label (Cell n) = n
