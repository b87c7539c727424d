-- DROPPED PROXIES: one is dropped only where 100,000 are listed, and the totals count those dropped. Nothing is asked of the sheet.
-- Assumes nothing.
use mathlib.Core.Path.{◌≡◌, refl, sym, ap, ◌∙◌, subst}
use mathlib.Core.List.{List, [], ◌∷◌}
use Prim.Native.Nat.{ℕ}
use native.Mathlib.Omega.{arith}
use lib.Dec.{nltb→le}
use Rattle.geometry.specs.declared.bbox.WorldBBox.{WorldBBox}
use Rattle.abstract_sheet.specs.Sheet.{Sheet}
use Rattle.plan_rules.specs.declared.ScenePlan.{ScenePlan}
use Rattle.plan_rules.specs.declared.Reason.{Reason}
use Rattle.plan_rules.specs.Limits.{max_load_proxies}
use Rattle.plan_rules.specs.Event.{Event, dropped_proxy, Step, saturate, empty_plan, after}
use Rattle.plan_rules.specs.World.{Query, world}
use Rattle.plan_rules.specs.Plan.{plan}
use Rattle.plan_rules.specs.Tape.{note}
use Rattle.plan_rules.proofs.Simulation.Premises.{Room}
use Rattle.plan_rules.proofs.Invariant.{plan_kept}
use Rattle.totals.specs.Proxies.{listed_in, dropped_in, listed_proxies}
use Rattle.totals.proofs.Proxies as proxies
use Rattle.cover.specs.Trace.{with_paths, enter, events}
use Rattle.cover.specs.Covered.{DroppedWhenFull, DroppedAreCounted}
use Rattle.cover.proofs.TagPaths.{Tagged, paths_many}

-- ---- dropped when full

-- with tags in place of paths
abbrev TaggedDroppedWhenFull : Tagged → Type 0
TaggedDroppedWhenFull [] = Unit {0}
TaggedDroppedWhenFull (x ∷ l) = ((why : Reason) (label : ℕ) (box : WorldBBox) → x.1 ≡ dropped_proxy why label box → listed_proxies l ≡ max_load_proxies) × TaggedDroppedWhenFull l

record Drops (s : ScenePlan) (l : Tagged) : Type 0 where
  tally : proxies.Tally s l
  full : TaggedDroppedWhenFull l

-- a dropped proxy met a full list, which the state has counted
keeps : (q : Query) (t : List Step) (e : Event) (s : ScenePlan) → Room q s e → (l : Tagged) → Drops s l → Drops (after e s) (note t e s.tape_end l)
keeps q t e s room l h = record {
  tally = proxies.keeps q t e s room l h.tally;
  full = (
    λ why label box dropped.
        let met = nltb→le s.load_proxies max_load_proxies (subst (Room q s) dropped room) in
        let most = h.tally.most in
        omega (arith, h.tally.listed),
    h.full,
  );
}

with_paths_lem : (l : Tagged) → TaggedDroppedWhenFull l → DroppedWhenFull (with_paths l)
with_paths_lem [] h = tt
with_paths_lem (x ∷ l) h = (λ why label box e. paths_many listed_in l ∙ h.0 why label box e, with_paths_lem l h.1)

pub plan_drops_when_full : (S : Sheet) (cells : ℕ) (q : Query) (k m : List ℕ) → DroppedWhenFull (events S cells q k m)
plan_drops_when_full S cells q k m =
    let h : Drops _ _ = plan_kept enter note S cells q Drops (keeps q) [] (world empty_plan [] k m) (record { tally = proxies.empty; full = tt }) in
    with_paths_lem (plan enter note S cells q [] (world empty_plan [] k m)).out h.full

-- ---- counted

pub plan_counts_dropped : (S : Sheet) (cells : ℕ) (q : Query) (k m : List ℕ) → DroppedAreCounted (events S cells q k m)
plan_counts_dropped S cells q k m =
    let v = proxies.visited enter S cells q [] k m in
    subst (λ (l : Tagged). DroppedAreCounted (with_paths l)) (sym (proxies.totals_last enter S cells q [] k m))
    (v.state, refl, (proxies.visits_tally enter S cells q [] k m).dropped ∙ ap saturate (sym (paths_many dropped_in v.out)))
