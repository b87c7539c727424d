-- Each answer of `check_sheet` by what leads to it, for sheets of any size. Numbers 1 and 7 are the two that only a large sheet gets.
-- Assumes nothing.
use mathlib.Core.Path.{◌≡◌}
use Prim.Native.Nat.{ℕ, ◌≤◌, ◌<◌}
use mathlib.Core.List.{List}
use lib.ListN.{length}
use borrow.Author.Tests.{le-leb, lt-leb}
use Rattle.walk.specs.Offsets.{max_sheet_bytes, offsets}
use Rattle.walk.specs.Find.{count_of}
use Rattle.walk.specs.Every.{All}
use Rattle.records.specs.Format.{max_cells}
use Rattle.check_record.specs.Record.{Right}
use Rattle.check_sheet.specs.declared.Counts.{Counts}
use Rattle.std.specs.Prelude.{Ok, Err}
use Rattle.check_sheet.specs.declared.SheetError.{SheetError}
use Rattle.check_sheet.specs.declared.SheetError.TheVariants.{TooLong, TooManyCells}
use Rattle.check_sheet.specs.Count.{counts_of}
use Rattle.check_sheet.specs.Check.{first_no, first_unnamed, check_sheet}
use Rattle.check_sheet.proofs.Passes.{all_right_later, refused_before_any}

module _ (s : List ℕ) where
  -- "Is the sheet at most 16,777,216 bytes? No: 1."
  pub too_long : max_sheet_bytes < length s → check_sheet s ≡ Err TooLong
  unfolding check_sheet
  too_long h = rw (lt-leb _ _ h)

  module _ (short : length s ≤ max_sheet_bytes) where
    -- numbers 2 to 5: the first record with a no
    pub record_refused : (c : Counts) (x : SheetError) → first_no s (offsets s) (Ok c) ≡ Err x → check_sheet s ≡ Err x
    unfolding check_sheet
    record_refused c x e = rw (le-leb _ _ short) (refused_before_any s (offsets s) c x e _)

    module _ (All-right : All (Right s) (offsets s)) where
      -- "Are there at most 4,096 cells? No: 7."
      pub too_many_cells : max_cells < count_of s 5 → check_sheet s ≡ Err TooManyCells
      unfolding check_sheet
      too_many_cells h = rw (le-leb _ _ short, all_right_later s (offsets s) _ All-right, lt-leb _ _ h)

      -- number 6, or a sound sheet
      pub then_links : count_of s 5 ≤ max_cells → check_sheet s ≡ first_unnamed s (counts_of s) 0 (offsets s) (Ok (counts_of s))
      unfolding check_sheet
      then_links h = rw (le-leb _ _ short, all_right_later s (offsets s) _ All-right, le-leb _ _ h)
