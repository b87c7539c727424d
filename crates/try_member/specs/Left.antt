-- Member i of a reference, which stands in column i / rows and row i % rows: its turn, and what is left of it after `try_member`, for any way to visit on.
-- Definitions only; rests on the rules at the code's end.
use Rattle.std.specs.Prelude.{◌≡◌, List, ℕ, ◌/◌, ◌%◌}
use Rattle.std.specs.Borrow.{MutBor}
use Rattle.records.specs.Sources.{label}
use Rattle.plan_rules.specs.declared.ScenePlan.{ScenePlan}
use Rattle.plan_rules.specs.declared.Fixed.{Fixed}
use Rattle.plan_rules.specs.World.{world, Flow, go, halt}
use Rattle.plan_rules.specs.OnTape.{Given, Output, halt_with_member, VisitSource, member_step}
use Rattle.open_reference.specs.declared.OpenReference.{OpenReference}
use Rattle.try_member.specs.declared.Tried.{Tried}
use Rattle.try_member.specs.declared.Tried.TheVariants.{Opens, Passed, Halted}

module _ {f : Fixed} (g : Given f) where
  abbrev pub member : VisitSource g → ℕ → OpenReference → ℕ → ℕ → Output → Flow (List ℕ)
  member on depth x share i w =
      let rows = x.record.now.grid.rows in
      member_step g on depth x.record.now x.transform x.source_bbox x.world_bbox share (i / rows) (i % rows) w

  -- the visit of its source; or whether the visit of the reference goes on
  abbrev pub left_of_member : VisitSource g → OpenReference → ScenePlan → Tried → List ℕ → List ℕ → List ℕ → Flow (List ℕ)
  left_of_member on x plan (Opens placement box) o k m =
      halt_with_member (label x.record.now.source) box x.world_bbox (on tt x.record.now.source placement (world plan o k m))
  left_of_member on x plan (Passed s) o k m = go (world s o k m)
  left_of_member on x plan (Halted s) o k m = halt (world s o k m)

-- What the step promises, by a member's part of the draw units: whatever a plan is given and the way to visit on, what is left to do is the turn from the
-- step on.
abbrev pub TriesMember : Fixed → OpenReference → ℕ → ℕ → ℕ → Tried → MutBor (List ℕ) → ScenePlan → MutBor (List ℕ) → Type 0
TriesMember f x share i depth t out plan outBefore =
    (g : Given f) (on : VisitSource g) (k m : List ℕ)
    → left_of_member g on x plan t out.now k m ≡ member g on depth x share i (world plan outBefore.now k m)
