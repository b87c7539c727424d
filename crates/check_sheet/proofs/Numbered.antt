-- A refusal has a number from 1 to 7, so that an answer with number 0 is sound, and later questions have numbers of their own.
-- Assumes nothing.
use Prim.Native.Nat.{◌≤◌, ◌<◌}
use native.Mathlib.Omega.{arith}
use Rattle.check_record.specs.declared.RecordError.TheVariants as no
use Rattle.check_sheet.specs.declared.SheetError.{SheetError}
use Rattle.check_sheet.specs.declared.SheetError.TheVariants.{TooLong, Record, NamesMissing, TooManyCells}
use Rattle.check_sheet.specs.Check.{error_number}

pub record Numbered (e : SheetError) : Type 0 where
  pub positive : 0 < error_number e
  pub most : error_number e ≤ 7

pub numbered : (e : SheetError) → Numbered e
numbered TooLong = record { positive = omega arith; most = omega arith }
numbered (Record no.Frame at) = record { positive = omega arith; most = omega arith }
numbered (Record no.Shape at) = record { positive = omega arith; most = omega arith }
numbered (Record no.Values at) = record { positive = omega arith; most = omega arith }
numbered (Record no.Floats at) = record { positive = omega arith; most = omega arith }
numbered (NamesMissing at) = record { positive = omega arith; most = omega arith }
numbered TooManyCells = record { positive = omega arith; most = omega arith }
