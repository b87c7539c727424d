-- "A finder that doesn't belong to the sheet is turned away": which lists belong, and that a short or a different one does not.
-- Assumes nothing.
use mathlib.Core.Path.{◌≡◌, sym, subst}
use mathlib.Core.Bool.{true}
use mathlib.Core.List.{List}
use Prim.Native.Nat.{ℕ}
use native.Mathlib.Omega.{arith}
use lib.ListN.{length}
use Rattle.finder.specs.Finder.{finder_of, starts_with, belongs}
use Rattle.finder.specs.Statements.{BelongingStartsWithTheFinder, StartingWithTheFinderBelongs, ShortIsTurnedAway, DifferentIsTurnedAway}
use Rattle.finder.proofs.Prefix.{starts_with_lem, append_starts, place_refutes}

pub belonging_starts_with_the_finder : BelongingStartsWithTheFinder
unfolding belongs
belonging_starts_with_the_finder s f e = starts_with_lem f (finder_of s) e

pub starting_with_the_finder_belongs : StartingWithTheFinderBelongs
unfolding belongs
starting_with_the_finder_belongs s f e = subst (λ (l : List ℕ). starts_with l (finder_of s) ≡ true) (sym e) (append_starts (finder_of s) _)

pub short_is_turned_away : ShortIsTurnedAway
unfolding belongs
short_is_turned_away s f h = place_refutes f (finder_of s) (length f) h (λ same. absurd (omega (arith, same.within)))

pub different_is_turned_away : DifferentIsTurnedAway
unfolding belongs
different_is_turned_away s f i h differs = place_refutes f (finder_of s) i h (λ same. differs same.same)
