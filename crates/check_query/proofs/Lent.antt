-- For callers of `check_query`: where no question has a no, the lent scratch has every place that a plan names.
-- Assumes nothing.
use mathlib.Core.Path.{◌≡◌, sym, ap, ◌∙◌}
use Prim.Native.Nat.{ℕ, ◌≤◌}
use native.Mathlib.Omega.{arith}
use lib.Ieee.{Float}
use Rattle.geometry.specs.declared.bbox.WorldBBox.{WorldBBox}
use Rattle.plan_rules.specs.Scratch.{counts_named, marks_named}
use Rattle.std.specs.Prelude.{Result, Ok}
use Rattle.plan_rules.specs.declared.refusal.QueryError.{QueryError}
use Rattle.plan_rules.specs.Questions.{refusal_of, query_refusal}
use Rattle.plan_rules.proofs.Questions.{Passed, passed}

-- `answered`: the contract of `check_query`. `used`: how many places the caller lends on.
module _ (view : WorldBBox) (zoom : Float) (depth cells counts marks : ℕ) {answer : Result Unit QueryError} (answered : refusal_of answer ≡ query_refusal view zoom depth cells counts marks) {done : Unit} (none : answer ≡ Ok done) where
  asked : Passed view zoom depth cells counts marks
  asked = passed view zoom depth cells counts marks (sym answered ∙ ap refusal_of none)

  pub counts_lent : {used : ℕ} → used ≡ counts_named cells depth → used ≤ counts
  counts_lent e = omega (arith, e, asked.counts_lent)

  pub marks_lent : {used : ℕ} → used ≡ marks_named cells depth → used ≤ marks
  marks_lent e = omega (arith, e, asked.marks_lent)
