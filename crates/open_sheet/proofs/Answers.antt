-- Each answer of opening a sheet, by what leads to it.
-- Assumes nothing.
use mathlib.Core.Path.{◌≡◌, sym, ap, ◌∙◌}
use mathlib.Core.List.{List}
use Prim.Native.Nat.{ℕ, ◌+◌, ◌≤◌, ◌<◌}
use native.Mathlib.Omega.{arith}
use lib.ListN.{length, replicate}
use borrow.Author.Tests.{le-leb, lt-leb}
use Rattle.check_sheet.specs.declared.Counts.{Counts}
use Rattle.std.specs.Prelude.{Ok, Err}
use Rattle.check_sheet.specs.Check.{Checked, check_sheet}
use Rattle.check_sheet.proofs.Valid.{sound_counts}
use Rattle.look_up.specs.Places.{count_for, start_for}
use Rattle.finder.specs.Finder.{finder_of}
use Rattle.finder.proofs.Sizes.{places_are_the_counts}
use Rattle.open_sheet.specs.declared.OpenError.TheVariants.{NoRoom}
use Rattle.open_sheet.specs.Opening.{opening, filled, checked_opening, opening_of}
use Rattle.open_sheet.proofs.Filling.{fronted}

-- ---- A sheet's finder and a list

module _ (l f : List ℕ) where
  pub short : length f < length l → filled l f ≡ opening (Err (NoRoom (length l))) (replicate (length f) 0)
  unfolding filled
  short h = rw (lt-leb _ _ h)

  pub long : length l ≤ length f → filled l f ≡ opening (Ok (length l)) (fronted l f)
  unfolding filled
  long h = rw (le-leb _ _ h)

-- ---- The call

pub opening_by : (s f : List ℕ) (r : Checked) → check_sheet s ≡ r → opening_of s f ≡ checked_opening r (finder_of s) f
unfolding opening_of
opening_by s f r e = ap (λ (x : Checked). checked_opening x (finder_of s) f) e

-- the places that the counts of a sound sheet say
module _ (s : List ℕ) (c : Counts) (sound : check_sheet s ≡ Ok c) (places : ℕ) (counted : places ≡ start_for c 5 + count_for c 5) where
  pub places_taken : length (finder_of s) ≡ places
  places_taken = places_are_the_counts s ∙ sym (counted ∙ ap (λ (x : Counts). start_for x 5 + count_for x 5) (sound_counts s c sound))

  module _ (f : List ℕ) where
    pub opened_short : length f < places → opening_of s f ≡ opening (Err (NoRoom places)) (replicate (length f) 0)
    opened_short h =
        opening_by s f (Ok c) sound
        ∙ short (finder_of s) f (omega (arith, places_taken))
        ∙ ap (λ (n : ℕ). opening (Err (NoRoom n)) (replicate (length f) 0)) places_taken

    pub opened_filled : places ≤ length f → opening_of s f ≡ opening (Ok places) (fronted (finder_of s) f)
    opened_filled h =
        opening_by s f (Ok c) sound
        ∙ long (finder_of s) f (omega (arith, places_taken))
        ∙ ap (λ (n : ℕ). opening (Ok n) (fronted (finder_of s) f)) places_taken
