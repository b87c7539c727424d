-- Which layer of the marks each set of cells has.
-- Definitions only. Assumes nothing.
use Rattle.std.specs.Prelude.{ℕ}
use Rattle.scratch.specs.declared.memory.Stack.{Stack}
use Rattle.scratch.specs.declared.memory.Stack.TheVariants.{Cell, Complexity}

abbrev pub layer : Stack → ℕ
layer Cell = 0
layer Complexity = 1
