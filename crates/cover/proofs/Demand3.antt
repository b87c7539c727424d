-- DEMAND 3 of the rules: the parts joined. `covered` is the cover's claims together with what each claiming event says.
-- Assumes nothing.
use mathlib.Core.Path.{refl, sym, ◌∙◌, subst}
use mathlib.Core.List.{List, []}
use Prim.Native.Nat.{◌≤◌}
use native.Mathlib.Omega.{arith}
use Rattle.abstract_sheet.specs.Sheet.{Sheet}
use Rattle.exact.specs.Screen.{ZoomWithin}
use Rattle.plan_rules.specs.Event.{Event, Step, empty_plan}
use Rattle.plan_rules.specs.World.{Query, World, world}
use Rattle.plan_rules.specs.Plan.{plan}
use Rattle.plan_rules.specs.Tape.{note}
use Rattle.cover.specs.Path.{Path, Item}
use Rattle.cover.specs.Trace.{enter, path_of}
use Rattle.cover.specs.Covered.{IsSkip, Skipped, Covers, listed, within_proxy, within_dropped_proxy, in_skipped}
use Rattle.cover.specs.Demand3.{Demand3OfRules}
use Rattle.cover.proofs.TagPaths.{Tagged, back_path, back_whole, paths_any, paths_all, any_all, any_map, all_map}
use Rattle.cover.proofs.Cover.Claims.{Claims, by_record, by_proxy, by_dropped, by_skip}
use Rattle.cover.proofs.Cover.Visits.{plan_claims}
use Rattle.cover.proofs.EventFacts.{EventFact, skipped_fact, plan_facts, plan_listed}
use Rattle.cover.proofs.Once.Visits.{plan_once, no_path_twice}
use Rattle.cover.proofs.Tally.{plan_drops_when_full, plan_counts_dropped}

-- a claim, with what the event says
covers : (S : Sheet) (q : Query) → ZoomWithin q.zoom → (p : Path) (h : Item) (t : List Step) (e : Event) → Claims p h t e → EventFact S q t e → Covers S q p h (path_of t) e
covers S q zoom p h t e (by_record z l) s = subst (λ (r : Path). Covers S q p h r e) (sym z ∙ back_whole t) (listed l)
covers S q zoom p h t e (by_proxy i w) s = within_proxy i w
covers S q zoom p h t e (by_dropped i w) s = within_dropped_proxy i w
covers S q zoom p h t e (by_skip r z k) s = in_skipped r (skipped_fact S q zoom t e s k) (sym z ∙ back_path t r)

pub demand_3_of_rules : Demand3OfRules
demand_3_of_rules S square true-boxes few q brought cells counts marks =
    let begin : World Tagged = world empty_plan [] counts marks in
    let tagged : Tagged = (plan enter note S cells q [] begin).out in
    -- the levels within which placements are exact
    let within : q.depth ≤ 48 = omega (arith, brought.depth) in
    let facts = plan_facts S q few square cells within begin refl in
    record {
      covered = λ p h leads v shown.
          paths_any (λ (x : Path × Event). Covers S q p h x.0 x.1) tagged
          (any_map _ (λ x k. covers S q brought.zoom p h x.0 x.1 k.0 k.1) (any_all (plan_claims S cells q brought.view few square true-boxes within p h leads v shown begin) facts));
      listed = plan_listed S q few square cells within counts marks;
      once = no_path_twice tagged (plan_once S cells q counts marks);
      dropped = plan_drops_when_full S cells q counts marks;
      counted = plan_counts_dropped S cells q counts marks;
      skipped = paths_all (λ (x : Path × Event). IsSkip x.1 → Skipped S q x.0 x.1) tagged (all_map _ (λ x s. skipped_fact S q brought.zoom x.0 x.1 s) facts);
    }
