-- What a printer remembers, and does not write behind a part that is missing.
-- Definitions only. Assumes nothing.
use Rattle.std.specs.Prelude.{◌≡◌, Result, IsOk, IsErr}
use Rattle.streams.specs.declared.output.NotWhole.{NotWhole}
use Rattle.streams.specs.declared.output.Printer.{Printer}

-- How a print ended is remembered, it ended well only where all before it did, and where that is not so nothing is done.
pub record Remembers {W E : Type 0} (before after : Printer W E) (ended : Result (Unit {0}) NotWhole) : Type 0 where
  pub so_far : after.so_far ≡ ended
  pub going : IsOk ended → IsOk before.so_far
  pub stopped : IsErr before.so_far → after ≡ before
