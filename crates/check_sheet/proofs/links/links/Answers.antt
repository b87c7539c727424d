-- `check_sheet::links::links` meets its contract. The loop's invariant: what is left from here on (`Remaining`).
-- Assumes nothing.
use Prim.Native.Nat.{◌+◌}
use mathlib.Core.Path.{sym, ◌∙◌}
use native.Mathlib.Omega.{arith}
use Rattle.walk.specs.Offsets.{length_at}
use Rattle.check_record.specs.Record.{Right}
use Rattle.check_sheet.proofs.Remaining.{Remaining, all_remain, none_remain, remains_right, asked_passed, other_passed, asked_refused}
use Rattle.check_sheet.proofs.links.links.Goals as goal
use Rattle.check_sheet.proofs.links.links.Goals.{then-kind-gt3+else-not-link_ok, else-kind-gt3}
use Rattle.check_sheet.proofs.links.links.Lts as lts
use Rattle.check_sheet.proofs.links.links.Reads as reads
use Rattle.check_sheet.proofs.links.links.Tie as tie

-- the record at hand is right
right : (c : (lts.In-loop tie.the-claims reads.Pre reads.Post goal.the-invariant-loop-to_ask goal.the-decreases-loop-to_ask tie.handed_clauses)) → Right c.args.s.now c.loop-to_ask.at
right c = remains_right _ _ _ _ _ c.loop-to_ask.invariant (omega (arith, c.loop-to_ask-test.true))

pub loop-to_ask-init : goal.loop-to_ask-init
loop-to_ask-init c = all_remain _ _ c.requires.s_len_bound c.requires.all c.requires.c_value

pub overflow_cast-index : goal.overflow_cast-index
overflow_cast-index c = omega (arith, (right c.before).whole, c.requires.s_len_bound)

pub kind_within-kind-requires : goal.kind_within-kind-requires
kind_within-kind-requires c = (right c.before).whole

pub link_ok-requires : goal.link_ok-requires
link_ok-requires c = right c.before.before.before

pub tally-own-requires : goal.tally-own-requires
tally-own-requires c =
    let i = c.before.before.before.before.before in
    omega (arith, i.loop-to_ask.invariant.most, (right i).whole, i.requires.s_len_bound)

pub returns-then-not-link_ok : goal.returns-then-not-link_ok
returns-then-not-link_ok c =
    asked_refused _ _ _ _ _ c.loop-to_ask.invariant (omega (arith, c.loop-to_ask-test.true)) (sym c.link_ok.ensures ∙ c.if-not-link_ok.true)

pub next_within-at-requires : goal.next_within-at-requires
next_within-at-requires c = let i = c.before.before.before in record { s_len_bound = i.requires.s_len_bound; whole = (right i).whole }

pub loop-to_ask-smaller : goal.loop-to_ask-smaller
loop-to_ask-smaller c = omega (arith, (right c.before.before.before.before).whole)

-- where the arms meet, what is left after the record at hand
joined : (c : (lts.Joined1 tie.the-claims reads.Pre reads.Post goal.the-invariant-loop-to_ask goal.the-decreases-loop-to_ask tie.handed_clauses))
    → Remaining c.args.s.now c.args.c
    (c.loop-to_ask.at + length_at c.args.s.now c.loop-to_ask.at) c.if-kind-gt3.own c.if-kind-gt3.to_ask
joined c =
    let l = c.loop-to_ask in
    let kind = c.kind_within-kind.ensures in
    elim c.if-kind-gt3.branch [
      | then-kind-gt3+else-not-link_ok w ↦
          rw (w.own-is, w.to_ask-is, w.tally-own.ensures, kind)
          (asked_passed _ _ _ _ _ l.invariant (omega (arith, c.loop-to_ask-test.true)) (rw kind at w.if-kind-gt3.true) (sym w.link_ok.ensures ∙ w.if-not-link_ok.false))
      | else-kind-gt3 w ↦ rw (w.own-is, w.to_ask-is) (other_passed _ _ _ _ _ l.invariant (omega (arith, c.loop-to_ask-test.true)) (rw kind at w.if-kind-gt3.false))
    ]

pub loop-to_ask-preserved : goal.loop-to_ask-preserved
loop-to_ask-preserved c = rw c.next_within-at.ensures (joined c.before.before)

pub returns : goal.returns
returns c = none_remain _ _ _ _ _ c.loop-to_ask.invariant (omega (arith, c.loop-to_ask-test.false))
