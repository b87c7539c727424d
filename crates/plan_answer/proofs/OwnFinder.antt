-- A list in which a sheet was opened belongs to the sheet, so that a plan with it is one without.
-- Assumes nothing.
use mathlib.Core.Path.{◌≡◌, sym, ap, subst, ◌∙◌}
use mathlib.Core.Bool.{true}
use mathlib.Core.List.{List}
use Prim.Native.Nat.{ℕ}
use Rattle.finder.specs.Finder.{belongs}
use Rattle.std.specs.Prelude.{Ok}
use Rattle.open_sheet.specs.Opening.{Opened, number_of, Opening, opening, opening_of}
use Rattle.open_sheet.proofs.Outcomes.{opened_belongs}
use Rattle.plan_rules.specs.World.{Query}
use Rattle.plan_rules.specs.Outcome.{outcome_of}
use Rattle.planner.specs.WithFinder.{outcome_with}
use Rattle.planner.proofs.Finders.{own_agrees}

-- `call` is the contract of `open_sheet`, and `is` what the match found
module _ (s f f' : List ℕ) (r : Opened) (call : opening r f' ≡ opening_of s f) where
  pub left_finder : f' ≡ (opening_of s f).finder
  left_finder = ap (λ (x : Opening). x.finder) call

  pub opened_agrees : {places : ℕ} → r ≡ Ok places → (q : Query) (o k m : List ℕ) → outcome_with s f' q o k m ≡ outcome_of s q o k m
  opened_agrees is q o k m =
      let number = sym (ap (λ (x : Opening). x.number) call) ∙ ap number_of is in
      own_agrees s f' q o k m (subst (λ (l : List ℕ). belongs l s ≡ true) (sym left_finder) (opened_belongs s f number))
