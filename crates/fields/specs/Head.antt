-- THE HEAD OF A RECORD, the same in a sheet, a query and a tape. Document 01: "whole length (4 bytes), kind (2), body".
-- Definitions only. Assumes nothing.
use Rattle.std.specs.Prelude.{ℕ, ◌+◌}

abbrev pub size_width : ℕ
size_width = 4

abbrev pub kind_width : ℕ
kind_width = 2

abbrev pub head_width : ℕ
head_width = size_width + kind_width
