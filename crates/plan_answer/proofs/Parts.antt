-- A part of a text: lines of a tape, or one line.
-- Assumes nothing.
use mathlib.Core.Path.{◌≡◌, refl, sym, ap, ap₂, ◌∙◌}
use mathlib.Core.List.{List, ◌++◌, append-nil}
use Prim.Native.Nat.{ℕ, ◌≤◌, ◌<◌}
use native.Mathlib.Nat.{zero-add}
use native.Mathlib.Omega.{arith}
use lib.ListN.{length, take, drop}
use lib.Seq.{sets-eq, take_at, drop_at, length-take-le, length-sets}
use Rattle.plan_text.specs.declared.lines.Lines.{Lines}
use Rattle.plan_text.specs.Written.{Written, PutLines, line_room}
use Rattle.std.specs.Prelude.{Ok, Err}
use Rattle.plan_answer.specs.declared.no_plan.NoPlan.{NoPlan}
use Rattle.plan_answer.specs.NoPlan.{line_instead}
use Rattle.plan_answer.specs.Text.{text_from, line_from}
use Rattle.plan_answer.specs.Part.{PutPart}

pub lines_part : {n from : ℕ} {tape d e : List ℕ} {r : Lines} → PutLines (take n tape) from d e r → length e ≡ length d → n ≤ length tape → from < n → line_room ≤ length d → PutPart (Ok n) tape from d e r
lines_part {n} {from} {tape} {d} {e} {r} put same inside before room =
    record {
      all = put.all;
      rest = put.rest;
      within = omega (arith, put.within);
      goes = put.goes (omega (arith, length-take-le n tape inside)) room;
    }

-- the one line in place of a plan
module _ (why : NoPlan) (tape : List ℕ) where
  abbrev line : List ℕ
  line = line_instead why

  pub line_part : {most end from : ℕ} {d e : List ℕ} → Written most d 0 line e end → most ≤ length d → from < 1 → PutPart (Err why) tape from d e (record { next = 1; end = end })
  unfolding line_from
  line_part {most} {end} {from} {d} {e} written room before =
      let start : from ≡ 0 = omega arith in
      let size : end ≡ length line = omega (arith, written.ends) in
      let split : e ≡ line ++ drop (length line) d = written.left ∙ sets-eq line d 0 (omega (arith, written.ends, written.within)) ∙ ap (λ (k : ℕ). line ++ drop k d) (zero-add (length line)) in
      let same : length e ≡ length d = ap length written.left ∙ length-sets d 0 line in
      let taken : take end e ≡ line = ap₂ take size split ∙ take_at line (drop (length line) d) (length line) refl in
      record {
        all = ap₂ (λ (l m : List ℕ). l ++ m) taken refl ∙ append-nil line ∙ sym (ap (text_from (Err why) tape) start);
        rest = ap₂ drop size split ∙ drop_at line (drop (length line) d) (length line) refl ∙ ap (λ (k : ℕ). drop k d) (sym size);
        within = omega (arith, same, size, written.ends, written.within);
        goes = omega arith;
      }
