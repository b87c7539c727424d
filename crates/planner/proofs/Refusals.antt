-- Refusals: no number of one is 0, and what `?` hands on ends the call and leaves what is lent as it is.
-- Assumes nothing.
use mathlib.Core.Path.{◌≡◌, ap}
use mathlib.Core.List.{List}
use Prim.Native.Nat.{ℕ, ◌<◌}
use native.Mathlib.Omega.{arith}
use Rattle.std.specs.Prelude.{Ok, Err, IsErrAnd}
use Rattle.plan_rules.specs.declared.refusal.PlanError.{PlanError}
use Rattle.check_sheet.proofs.Numbered.{numbered}
use Rattle.plan_rules.specs.declared.refusal.PlanError.TheVariants as error
use Rattle.plan_rules.specs.declared.refusal.QueryError.{QueryError}
use Rattle.plan_rules.specs.declared.refusal.QueryError.TheVariants.{View, Zoom, Depth, Scratch}
use Rattle.plan_rules.specs.Questions.{query_number}
use Rattle.plan_rules.specs.Outcome.{Answer, error_number, outcome}

pub query_positive : (e : QueryError) → 0 < query_number e
query_positive View = omega arith
query_positive Zoom = omega arith
query_positive Depth = omega arith
query_positive Scratch = omega arith

pub refusal_positive : (e : PlanError) → 0 < error_number e
refusal_positive (error.Sheet x) = (numbered x).positive
refusal_positive (error.Query x) = query_positive x
refusal_positive (error.NoRoom n) = omega arith
refusal_positive error.WrongFinder = omega arith

pub handed : (a : Answer) (x : PlanError) (o k m : List ℕ) → IsErrAnd a (λ y. y ≡ x) → outcome a o k m ≡ outcome (Err x) o k m
handed (Err y) x o k m h = ap (λ (z : PlanError). outcome (Err z) o k m) h
handed (Ok n) x o k m h = absurd h
