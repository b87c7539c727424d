-- `check_sheet::scan::scan` meets its contract. The loop's invariant: the counts are those of the records passed,
-- and the first no from here on is the first no of all. Assumes nothing.
use Prim.Native.Nat.{ℕ}
use mathlib.Core.Path.{◌≡◌, sym, ap, subst, ◌∙◌}
use native.Mathlib.Omega.{arith}
use mathlib.Core.List.{List}
use Rattle.walk.proofs.Offsets.{offsets_within, offsets_some, offsets_more, offsets_end}
use Rattle.check_record.proofs.RightRecords.{no_zero_right, right_passes, checked_as}
use Rattle.std.specs.Prelude.{Ok, Err}
use Rattle.check_sheet.specs.declared.Counts.{Counts}
use Rattle.check_sheet.specs.Count.{counts_of}
use Rattle.check_sheet.specs.Check.{first_no}
use Rattle.check_sheet.proofs.Passes.{first_no_pass, first_no_stop}
use Rattle.check_sheet.proofs.Passed.{Passed, passed_start, passed_step, passed_end}
use Rattle.check_sheet.proofs.scan.scan.Goals as goal

no_counts : (c : Counts)
    → (c.geometries ≡ 0) × ((c.texts ≡ 0) × ((c.nodes ≡ 0) × ((c.references ≡ 0) × (c.cells ≡ 0))))
    → record { geometries = 0; texts = 0; nodes = 0; references = 0; cells = 0 } ≡ c
no_counts c e = λ i. record { geometries = sym e.0 i; texts = sym e.1.0 i; nodes = sym e.1.1.0 i; references = sym e.1.1.1.0 i; cells = sym e.1.1.1.1 i }

pub loop-at-init : goal.loop-at-init
loop-at-init c =
    let s = c.args.s.now in
    let short = c.requires in
    (subst (Passed s 0) (no_counts _ c.default-counts.ensures) (passed_start s short), ap (λ (xs : List ℕ). first_no s xs (Ok (counts_of s))) (sym (offsets_within s short)))

pub returns-in-Err : goal.returns-in-Err
returns-in-Err c =
    let l = c.loop-at in
    let s = c.args.s.now in
    let some_more = offsets_some s l.at c.loop-at-test.true in
    sym (first_no_stop s l.at some_more.0 (Ok (counts_of s)) (sym (checked_as s l.at (Err c.in-Err.error) c.in-Err.ensures)))
    ∙ sym (ap (λ (xs : List ℕ). first_no s xs (Ok (counts_of s))) some_more.1)
    ∙ l.invariant.1

pub kind_within-requires : goal.kind_within-requires
kind_within-requires c = (no_zero_right _ _ (sym c.in_default.ensures)).whole

pub next_within-at-requires : goal.next_within-at-requires
next_within-at-requires c = record { s_len_bound = c.requires; whole = (no_zero_right _ _ (sym c.in_default.ensures)).whole }

pub loop-at-smaller : goal.loop-at-smaller
loop-at-smaller c = omega (arith, (no_zero_right _ _ (sym c.in_default.ensures)).whole)

pub loop-at-preserved : goal.loop-at-preserved
loop-at-preserved c =
    let l = c.loop-at in
    let s = c.args.s.now in
    let right = no_zero_right s l.at (sym c.in_default.ensures) in
    rw (c.next_within-at.ensures, c.count-counts.ensures, c.kind_within.ensures) (
      passed_step s l.at l.counts c.loop-at-test.true right.whole.head l.invariant.0,
      sym (ap (λ (xs : List ℕ). first_no s xs (Ok (counts_of s))) (offsets_more s l.at c.loop-at-test.true right.whole.head)
          ∙ first_no_pass s l.at _ (Ok (counts_of s)) (right_passes s l.at right))
          ∙ l.invariant.1,
    )

pub returns : goal.returns
unfolding first_no
returns c =
    let l = c.loop-at in
    let s = c.args.s.now in
    ap Ok (passed_end s l.at l.counts c.loop-at-test.false l.invariant.0)
    ∙ sym (ap (λ (xs : List ℕ). first_no s xs (Ok (counts_of s))) (offsets_end s l.at c.loop-at-test.false))
    ∙ l.invariant.1
