-- `open_sheet::place_records` meets its contract. The loop's invariant: the records from here on are right, and the list is filled so far.
-- Assumes nothing.
use Prim.Native.Nat.{ℕ, ◌+◌, ◌≤◌, ◌<◌}
use mathlib.Core.Path.{sym, ap, subst, ◌∙◌}
use mathlib.Core.List.{List, ◌∷◌}
use native.Mathlib.Omega.{arith}
use lib.ListN.{length, get_or}
use borrow.Author.Rules.{rules}
use Rattle.walk.specs.Offsets.{length_at, offsets_from, offsets}
use Rattle.walk.proofs.Offsets.{offsets_within, offsets_end}
use Rattle.check_sheet.proofs.Valid.{valid_from_start}
use Rattle.finder.specs.Finder.{finder_of, starts_of}
use Rattle.finder.proofs.Running.{AtHand, at_hand}
use Rattle.open_sheet.proofs.Filling.{Fills, fills_start, fills_within, fills_next, fills_end}
use Rattle.open_sheet.proofs.place_records.Goals as goal
use Rattle.open_sheet.proofs.place_records.Lts as lts
use Rattle.open_sheet.proofs.place_records.Reads as reads
use Rattle.open_sheet.proofs.place_records.Tie as tie

-- ---- The record at hand

module _ (c : (lts.In-loop tie.the-claims reads.Pre reads.Post goal.the-invariant-loop-at goal.the-decreases-loop-at tie.handed_clauses)) where
  abbrev sheet : List ℕ
  sheet = c.args.sheet.now

  abbrev lent : List ℕ
  lent = c.args.finder.now

  abbrev at : ℕ
  at = c.loop-at.at

  hand : AtHand sheet at
  hand = at_hand sheet at c.loop-at.invariant.0 c.loop-at-test.true

  room : length (finder_of sheet) ≤ length lent
  room = c.requires.sheet_in_bounds

  filled : Fills sheet lent c.loop-at.finder c.loop-at.places (at ∷ offsets_from sheet (at + length_at sheet at))
  filled = subst (Fills sheet lent c.loop-at.finder c.loop-at.places) hand.first c.loop-at.invariant.1

-- its place is within the list
within : (c : (lts.After-kind_within tie.the-claims reads.Pre reads.Post goal.the-invariant-loop-at goal.the-decreases-loop-at tie.handed_clauses)) → get_or c.loop-at.places c.kind_within-kind.result 0 < length c.loop-at.finder
within c = let i = c.before in rw c.kind_within-kind.ensures (fills_within (sheet i) (lent i) (room i) _ _ (at i) _ (hand i).known (filled i))

-- a sheet's size has 32 bits
pub overflow_cast-size : goal.overflow_cast-size
overflow_cast-size c = omega (arith, c.requires.valid.short)

pub loop-at-init : goal.loop-at-init
loop-at-init c =
    let s = c.args.sheet.now in
    let f = c.args.finder.now in
    let start = subst (λ (p : List ℕ). Fills s f f p (offsets s)) (sym (c.starts-places.ensures ∙ ap starts_of c.requires.c_value)) (fills_start s f) in
    (valid_from_start s c.requires.valid, subst (Fills s f f _) (offsets_within s c.requires.valid.short) start)

pub kind_within-kind-requires : goal.kind_within-kind-requires
kind_within-kind-requires c = (hand c.before).right.whole

pub bounds-places-kind : goal.bounds-places-kind
bounds-places-kind c = omega (arith, (hand c.before.before).known, c.kind_within-kind.ensures)

pub offset_bounds-finder-place : goal.offset_bounds-finder-place
offset_bounds-finder-place c = let w = within c.before in search rules

pub bounds-finder-place : goal.bounds-finder-place
bounds-finder-place c = within c.before

pub overflow_add-places : goal.overflow_add-places
overflow_add-places c = omega (arith, within c.before, c.loop-at.invariant.1.long)

pub bounds-places-kind-in-loop-at : goal.bounds-places-kind-in-loop-at
bounds-places-kind-in-loop-at c = omega (arith, (hand c.before.before).known, c.kind_within-kind.ensures)

pub next_within-at-requires : goal.next_within-at-requires
next_within-at-requires c = let i = c.before.before in record { s_len_bound = i.requires.valid.short; whole = (hand i).right.whole }

pub loop-at-smaller : goal.loop-at-smaller
loop-at-smaller c = omega (arith, (hand c.before.before.before).right.whole, c.next_within-at.ensures)

pub loop-at-preserved : goal.loop-at-preserved
loop-at-preserved c =
    let i = c.before.before.before in
    rw (c.next_within-at.ensures, c.kind_within-kind.ensures)
    ((hand i).later, fills_next (sheet i) (lent i) (room i) _ _ (at i) _ (hand i).known (filled i))

pub shape_of-finder : goal.shape_of-finder
shape_of-finder c = search rules

pub returns : goal.returns
returns c =
    let s = c.args.sheet.now in
    let l = c.loop-at in
    fills_end s c.args.finder.now c.requires.sheet_in_bounds _ l.places (subst (Fills s c.args.finder.now l.finder l.places) (offsets_end s _ c.loop-at-test.false) l.invariant.1)
