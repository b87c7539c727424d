-- The steps of `visit_reference`, one law for each, over the bytes of a sheet: the premises are what the calls of that step ensure.
-- They join the look-up laws of the abstract sheet with the rules by code path. The code's loop goes member by member, where the rules go column by column.
-- Assumes nothing.
use mathlib.Core.Path.{◌≡◌, refl, sym, ap, ◌∙◌}
use mathlib.Core.Bool.{Bool, true, false}
use mathlib.Core.List.{List}
use mathlib.Core.Option.{Option, some}
use Prim.Native.Nat.{ℕ, ◌-◌, ◌<◌}
use native.Mathlib.Omega.{arith}
use lib.Dec.{leb}
use borrow.Author.Tests.{leb-false}
use Rattle.std.proofs.Common.{Some, None}
use Rattle.std.proofs.lemmas.Bool.{false≢true}
use Rattle.geometry.specs.declared.bbox.WorldBBox.{WorldBBox}
use Rattle.geometry.specs.declared.placement.Placement.{Placement}
use Rattle.screen.specs.declared.CollapseTest.{CollapseTest}
use Rattle.geometry.specs.Bbox.{source_is_degenerate}
use Rattle.grid.specs.Grid.{grid_count}
use Rattle.screen.specs.Screen.{FirstMet, reference_screen_size, collapses}
use Rattle.walk.specs.Find.{Found}
use Rattle.records.specs.declared.PreparedReference.{PreparedReference}
use Rattle.records.specs.Records.{reference_at}
use Rattle.records.specs.Sources.{label}
use Rattle.abstract_sheet.specs.Sheet.{references}
use Rattle.look_up.specs.Look.{look}
use Rattle.look_up.proofs.Looking.{item_looked}
use Rattle.plan_rules.specs.declared.Fixed.{Fixed}
use Rattle.plan_rules.specs.declared.Given as lends
use Rattle.plan_rules.specs.declared.Reason.{Reason}
use Rattle.plan_rules.specs.World.{world, Flow, go, halt, ending, each}
use Rattle.plan_rules.specs.DrawUnits.{Units, counted}
use Rattle.plan_rules.specs.Visit as rules
use Rattle.plan_rules.specs.Visit.{collapse_reason, source_units}
use Rattle.plan_rules.specs.OnTape.{Given, given_of, Output, add_load, load_member, halt_with_member, member_step, column_step, visit_counted_reference, visit_found_reference, on_source, on_source_below, visit_reference, visit_source}
use Rattle.plan_rules.proofs.Paths.References as Paths
use Rattle.plan_rules.proofs.Paths.Loops.{each_start}
use Rattle.open_reference.specs.declared.OpenReference.{OpenReference}
use Rattle.open_reference.specs.Left.{found_reference, reference_test}
use Rattle.try_member.specs.Left.{member}
use Rattle.visits.proofs.Members.{members_in_one_loop}

-- ---- member i; `share` is one member's part of the draw units

abbrev pub turn : {f : Fixed} (g : Given f) → ℕ → OpenReference → ℕ → ℕ → Output → Flow (List ℕ)
turn g depth x share = member g (on_source g (depth - 1)) depth x share

-- what the visit of a member's source leaves of its turn
module _ {f : Fixed} (g : Given f) (depth : ℕ) (x : OpenReference) (placement : Placement) (box : WorldBBox) (w u : Output) {turned : Flow (List ℕ)}
    (opens : halt_with_member (label x.record.now.source) box x.world_bbox (visit_source g depth x.record.now.source placement w) ≡ turned) where
  pub source_passed : go u ≡ visit_source g depth x.record.now.source placement w → turned ≡ go u
  source_passed visited = sym (ap (halt_with_member (label x.record.now.source) box x.world_bbox) visited ∙ opens)

  pub source_halted : halt u ≡ visit_source g depth x.record.now.source placement w → {l : ℕ} → l ≡ label x.record.now.source → {v : Output} → v ≡ load_member l box x.world_bbox u → turned ≡ halt v
  source_halted visited e boxed =
      sym (ap (halt_with_member (label x.record.now.source) box x.world_bbox) visited ∙ opens)
      ∙ ap halt (ap (λ (n : ℕ). load_member n box x.world_bbox u) (sym e) ∙ sym boxed)

-- ---- the look-up in a sheet's bytes

module _ (d : lends.Given) (depth number : ℕ) (transform : Placement) (w : Output) where
  abbrev g : Given d.fixed
  g = given_of d

  pub missing : {looked_up : Found} → looked_up ≡ look d.sheet.now d.finder.now d.fixed.counts 4 number → looked_up ≡ None → w ≡ visit_reference g depth number transform w
  missing looked told = sym (Paths.reference_missing g depth number transform w (item_looked references d.sheet.now d.finder.now d.fixed.counts number looked told))

  -- the reference is found at an offset, and its record is read
  pub found : {looked_up : Found} → looked_up ≡ look d.sheet.now d.finder.now d.fixed.counts 4 number → (at : ℕ) → looked_up ≡ Some at → (r : PreparedReference) → r ≡ reference_at d.sheet.now at
      → found_reference g (on_source_below g depth) depth r transform w ≡ visit_reference g depth number transform w
  unfolding rules.visit_found_reference
  found looked at told r read =
      sym (Paths.reference_is g depth number transform w ∙ ap (λ (o : Option PreparedReference). visit_found_reference g (on_source_below g depth) depth transform o w)
      (item_looked references d.sheet.now d.finder.now d.fixed.counts number looked told ∙ ap some (sym read)))

-- ---- the draw units counted

module _ {f : Fixed} (g : Given f) (depth : ℕ) (x : OpenReference) (w : Output) {u : Units} {units count : ℕ} {k m : List ℕ} {test : FirstMet} {visited : Output}
    (rest : visit_counted_reference g (on_source_below g depth) depth x.record.now x.transform x.source_bbox x.world_bbox u w ≡ visited)
    (units-are : counted units k m ≡ u) (grid : count ≡ grid_count x.record.now.grid) (tested : test ≡ reference_test f x count units depth) where
  abbrev here : Output
  here = world w.state w.out k m

  abbrev by_units : Units → Output
  by_units u = visit_counted_reference g (on_source_below g depth) depth x.record.now x.transform x.source_bbox x.world_bbox u w

  counted_is : by_units (counted units k m) ≡ visited
  counted_is = ap by_units units-are ∙ rest

  pub collapsed : {met : CollapseTest} → test ≡ Some met → {y : Reason} → y ≡ collapse_reason met → {l : ℕ} → l ≡ label x.record.now.source → {v : Output} → v ≡ add_load y l x.world_bbox here → v ≡ visited
  unfolding rules.visit_counted_reference
  collapsed {met = met} h {y = y} why {l = l} e boxed =
      let rules : by_units (counted units k m) ≡ add_load (collapse_reason met) (label x.record.now.source) x.world_bbox here = rw (← grid, ← tested, h) in
      boxed
      ∙ ap (λ (y : Reason). add_load y l x.world_bbox here) why
      ∙ ap (λ (l : ℕ). add_load (collapse_reason met) l x.world_bbox here) e
      ∙ sym rules ∙ counted_is

  -- a reference that does not collapse has depth for its source
  pub deep : test ≡ None → 1 < depth
  deep h = by (leb depth 1) refl
    where
      by : (b : Bool) → leb depth 1 ≡ b → 1 < depth
      by true shallow =
          let size = reference_screen_size x.world_bbox f.options.zoom (source_is_degenerate x.source_bbox) in
          let yes : collapses (reference_test f x count units depth) ≡ true = Paths.collapses_shallow depth shallow size.width size.height count units in
          let no : collapses (reference_test f x count units depth) ≡ false = ap collapses (sym tested ∙ h) in
          absurd (false≢true (sym no ∙ yes))
      by false deep = leb-false depth 1 deep

  -- the rules go column by column
  member_by_member : (share : ℕ)
      → each (column_step g (on_source g (depth - 1)) depth x.record.now x.transform x.source_bbox x.world_bbox share) x.record.now.grid.columns 0 here ≡ each (turn g depth x share) (grid_count x.record.now.grid) 0 here
  unfolding rules.column_step grid_count
  member_by_member share =
      members_in_one_loop (member_step g (on_source g (depth - 1)) depth x.record.now x.transform x.source_bbox x.world_bbox share) x.record.now.grid.rows x.record.now.grid.columns here

  pub expanded : test ≡ None → {share : ℕ} → share ≡ source_units units count → ending (each (turn g depth x share) (count - 0) 0 here) ≡ visited
  unfolding rules.visit_counted_reference
  expanded h {share = share} e =
      let rules : by_units (counted units k m) ≡ ending (each (turn g depth x share) count 0 here) =
      rw (← grid, ← tested, h, ← e, Paths.one_below g depth (omega (arith, deep h)), member_by_member share, ← grid) in
      ap ending (each_start (turn g depth x share) count here) ∙ sym rules ∙ counted_is
