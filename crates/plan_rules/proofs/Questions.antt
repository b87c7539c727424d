-- WHAT PASSING GIVES: where questions 8 to 11 have no no, each of them is answered yes.
-- Assumes nothing.
use mathlib.Core.Path.{◌≡◌, refl}
use mathlib.Core.Bool.{Bool, true, false, cond, ◌&&◌, and-eq-true_iff}
use Prim.Native.Nat.{ℕ, suc, ◌≤◌}
use native.Mathlib.Omega.{arith}
use lib.Dec.{leb}
use lib.IntN.{pos}
use lib.Ieee.{Float, fin, lt}
use borrow.Author.Tests.{leb-true}
use Rattle.floats.specs.Order.{is_finite}
use Rattle.geometry.specs.declared.bbox.WorldBBox.{WorldBBox}
use Rattle.plan_rules.specs.Limits.{max_depth}
use Rattle.plan_rules.specs.Scratch.{counts_named, marks_named}
use Rattle.plan_rules.specs.Questions.{view_ok, zoom_ok, depth_ok, has_scratch, query_refusal_up_to, query_refusal}

-- a query that passes, with so many counts and marks lent
pub record Passed (view : WorldBBox) (zoom : Float) (depth cells counts marks : ℕ) : Type 0 where
  pub view_ok : view_ok view ≡ true
  pub zoom_ok : zoom_ok zoom ≡ true
  pub depth_within : depth ≤ max_depth
  pub counts_lent : counts_named cells depth ≤ counts
  pub marks_lent : marks_named cells depth ≤ marks

-- a test with another number than 0 for its no
yes : (b : Bool) (x n : ℕ) → cond b x (suc n) ≡ 0 → (b ≡ true) × (x ≡ 0)
yes true x n e = (refl, e)
yes false x n e = absurd (let z : ⊥ = omega arith in z)

pub passed : (view : WorldBBox) (zoom : Float) (depth cells counts marks : ℕ) → query_refusal view zoom depth cells counts marks ≡ 0 → Passed view zoom depth cells counts marks
unfolding query_refusal_up_to depth_ok has_scratch
passed view zoom depth cells counts marks e =
    let view-asked = yes (view_ok view) _ 7 e in
    let zoom-asked = yes (zoom_ok zoom) _ 8 view-asked.1 in
    let depth-asked = yes (leb depth max_depth) _ 9 zoom-asked.1 in
    let scratch-asked = yes (leb (counts_named cells depth) counts && leb (marks_named cells depth) marks) _ 10 depth-asked.1 in
    let enough = (and-eq-true_iff _ _).0 scratch-asked.0 in
    record {
      view_ok = view-asked.0;
      zoom_ok = zoom-asked.0;
      depth_within = leb-true _ _ depth-asked.0;
      counts_lent = leb-true _ _ enough.0;
      marks_lent = leb-true _ _ enough.1;
    }

pub zoom_positive : (zoom : Float) → zoom_ok zoom ≡ true → lt (fin false 0 (pos 0)) zoom ≡ true
unfolding zoom_ok
zoom_positive zoom e = ((and-eq-true_iff (is_finite zoom) _).0 e).1
