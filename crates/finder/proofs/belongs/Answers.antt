-- `finder::belongs` meets its contract. The loop's invariant: the records from here on are right, and the list agrees so far.
-- Assumes nothing.
use Prim.Native.Nat.{ℕ, ◌+◌}
use mathlib.Core.Path.{sym, ap, subst, ◌∙◌}
use mathlib.Core.List.{List, ◌∷◌}
use native.Mathlib.Omega.{arith}
use borrow.Author.Rules.{rules}
use Rattle.walk.specs.Offsets.{length_at, offsets_from, offsets}
use Rattle.walk.proofs.Offsets.{offsets_within, offsets_end}
use Rattle.check_sheet.proofs.Valid.{valid_from_start}
use Rattle.finder.specs.Finder.{starts_of}
use Rattle.finder.proofs.Running.{AtHand, at_hand}
use Rattle.finder.proofs.Agreeing.{Agrees, agrees_start, agrees_next, missing_place, other_offset, agrees_end}
use Rattle.finder.proofs.belongs.Goals as goal
use Rattle.finder.proofs.belongs.Lts as lts
use Rattle.finder.proofs.belongs.Reads as reads
use Rattle.finder.proofs.belongs.Tie as tie

-- ---- The record at hand

module _ (c : (lts.In-loop tie.the-claims reads.Pre reads.Post goal.the-invariant-loop-at goal.the-decreases-loop-at tie.handed_clauses)) where
  abbrev sheet : List ℕ
  sheet = c.args.sheet.now

  abbrev finder : List ℕ
  finder = c.args.finder.now

  abbrev at : ℕ
  at = c.loop-at.at

  hand : AtHand sheet at
  hand = at_hand sheet at c.loop-at.invariant.0 c.loop-at-test.true

  agreed : Agrees sheet finder c.loop-at.places (at ∷ offsets_from sheet (at + length_at sheet at))
  agreed = subst (Agrees sheet finder c.loop-at.places) hand.first c.loop-at.invariant.1

-- a sheet's size has 32 bits
pub overflow_cast-size : goal.overflow_cast-size
overflow_cast-size c = omega (arith, c.requires.valid.short)

pub loop-at-init : goal.loop-at-init
loop-at-init c =
    let s = c.args.sheet.now in
    let f = c.args.finder.now in
    let start = subst (λ (p : List ℕ). Agrees s f p (offsets s)) (sym (c.starts-places.ensures ∙ ap starts_of c.requires.c_value)) (agrees_start s f) in
    (valid_from_start s c.requires.valid, subst (Agrees s f _) (offsets_within s c.requires.valid.short) start)

pub kind_within-kind-requires : goal.kind_within-kind-requires
kind_within-kind-requires c = (hand c.before).right.whole

pub bounds-places-kind : goal.bounds-places-kind
bounds-places-kind c = omega (arith, (hand c.before.before).known, c.kind_within-kind.ensures)

pub returns-then-finder-place : goal.returns-then-finder-place
returns-then-finder-place c =
    let i = c.before.before.before in
    sym (missing_place (sheet i) (finder i) _ (at i) _ (hand i).known (agreed i) (rw c.kind_within-kind.ensures at c.if-finder-place.true))

pub offset_bounds-finder-place : goal.offset_bounds-finder-place
offset_bounds-finder-place c = search rules

pub bounds-finder-place : goal.bounds-finder-place
bounds-finder-place c = omega arith

pub returns-then-finder-place-2 : goal.returns-then-finder-place-2
returns-then-finder-place-2 c =
    let i = c.before.before.before.before.before in
    sym (other_offset (sheet i) (finder i) _ (at i) _ (hand i).known (agreed i) (rw c.kind_within-kind.ensures at c.if-finder-place-2.true))

pub overflow_add-places : goal.overflow_add-places
overflow_add-places c = omega arith

pub bounds-places-kind-in-loop-at : goal.bounds-places-kind-in-loop-at
bounds-places-kind-in-loop-at c = omega (arith, (hand c.before.before.before.before.before).known, c.kind_within-kind.ensures)

pub next_within-at-requires : goal.next_within-at-requires
next_within-at-requires c =
    let i = c.before.before.before.before.before in
    record { s_len_bound = i.requires.valid.short; whole = (hand i).right.whole }

pub loop-at-smaller : goal.loop-at-smaller
loop-at-smaller c = omega (arith, (hand c.before.before.before.before.before.before).right.whole, c.next_within-at.ensures)

pub loop-at-preserved : goal.loop-at-preserved
loop-at-preserved c =
    let kind = c.kind_within-kind.ensures in
    let i = c.before.before.before.before.before.before in
    rw (c.next_within-at.ensures, kind) (
      (hand i).later,
      agrees_next (sheet i) (finder i) _ (at i) _ (hand i).known (agreed i) (rw kind at c.if-finder-place.false) (rw kind at c.if-finder-place-2.false),
    )

pub returns : goal.returns
returns c =
    let a = c.args in
    let s = a.sheet.now in
    sym (agrees_end s a.finder.now _ (subst (Agrees s a.finder.now _) (offsets_end s _ c.loop-at-test.false) c.loop-at.invariant.1))
