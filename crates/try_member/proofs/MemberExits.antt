-- One member of a reference: its column and row lie within the grid, and the ways out of `try_member`, one law for each, by what its calls answer.
-- Assumes nothing.
use mathlib.Core.Path.{◌≡◌, ap, ◌∙◌}
use mathlib.Core.Bool.{Bool, true, false}
use mathlib.Core.List.{List}
use Prim.Native.Nat.{ℕ, zero, suc, ◌*◌, ◌/◌, ◌%◌, ◌<◌}
use native.Mathlib.Nat.{div-lt_iff_lt-mul, mod-lt}
use native.Mathlib.Omega.{arith}
use Rattle.geometry.specs.declared.bbox.WorldBBox.{WorldBBox}
use Rattle.geometry.specs.declared.placement.Placement.{Placement}
use Rattle.screen.specs.declared.ScreenSize.{ScreenSize}
use Rattle.std.specs.Prelude.{Some, None}
use Rattle.screen.specs.declared.CollapseTest.{CollapseTest}
use Rattle.geometry.specs.Placement.{◌·◌}
use Rattle.geometry.specs.Bbox.{transform_bbox, overlaps, source_is_degenerate}
use Rattle.grid.specs.Grid.{grid_member_transform}
use Rattle.screen.specs.Screen.{FirstMet, reference_screen_size, is_subpixel, collapse_test}
use Rattle.records.specs.Sources.{label}
use Rattle.open_reference.specs.declared.OpenReference.{OpenReference}
use Rattle.plan_rules.specs.declared.Fixed.{Fixed}
use Rattle.plan_rules.specs.declared.Reason.TheVariants as reason
use Rattle.plan_rules.specs.Event.{skipped_member, culled_reference}
use Rattle.plan_rules.specs.World.{detail_budget_exhausted, Flow, go, halt}
use Rattle.plan_rules.specs.Visit as visit
use Rattle.plan_rules.specs.Visit.{collapse_reason}
use Rattle.plan_rules.specs.OnTape.{Given, Output, query, say, add_load, halt_with_member, VisitSource, member_step}

-- ---- where member i stands

module _ (i columns : ℕ) where
  -- a grid that has a member has a row
  pub has_a_row : (rows : ℕ) → i < columns * rows → 0 < rows
  has_a_row zero h = absurd (let z : ⊥ = omega arith in z)
  has_a_row (suc rows) h = omega arith

  module _ (rows : ℕ) (h : i < columns * rows) where
    pub column_within : i / rows < columns
    column_within = (div-lt_iff_lt-mul (has_a_row rows h)).1 h

    pub row_within : i % rows < rows
    row_within = mod-lt i (has_a_row rows h)

-- ---- what the code knows of a member

module _ (x : OpenReference) (column row : ℕ) where
  abbrev member_transform : Placement
  member_transform = x.transform · grid_member_transform x.record.now.grid column row

  -- its label, its placement and its box
  pub record Placed (l : ℕ) (placement : Placement) (box : WorldBBox) : Type 0 where
    pub labelled : l ≡ label x.record.now.source
    pub at : placement ≡ member_transform
    pub boxed : box ≡ transform_bbox member_transform x.source_bbox

-- ---- the ways out

module _ {f : Fixed} (g : Given f) (on : VisitSource g) (d : ℕ) (x : OpenReference) (units column row : ℕ) (w : Output)
    {l : ℕ} {placement : Placement} {box : WorldBBox} (known : Placed x column row l placement box) where
  abbrev step : Flow (List ℕ)
  step = member_step g on d x.record.now x.transform x.source_bbox x.world_bbox units column row w

  abbrev size_of : WorldBBox → ScreenSize
  size_of b = reference_screen_size b f.options.zoom (source_is_degenerate x.source_bbox)

  abbrev test_of : WorldBBox → FirstMet
  test_of b = collapse_test (size_of b).width (size_of b).height 1 units d false

  pub try_exhausted : detail_budget_exhausted (query g) w.state ≡ true → (v : Output) → v ≡ add_load reason.OtherLimit l x.world_bbox w → halt v ≡ step
  unfolding visit.member_step
  try_exhausted e v loaded = ap halt (loaded ∙ ap (λ (n : ℕ). add_load reason.OtherLimit n x.world_bbox w) known.labelled) ∙ (rw e)

  module _ (room : detail_budget_exhausted (query g) w.state ≡ false) where
    pub try_culled : overlaps box f.options.view ≡ false → (v : Output) → v ≡ say culled_reference w → go v ≡ step
    unfolding visit.member_step
    try_culled e v said = ap go said ∙ (rw (room, ← known.boxed, e))

    module _ (seen : overlaps box f.options.view ≡ true) where
      -- the tape does not show which member was skipped
      pub try_skipped : is_subpixel (size_of box) ≡ true → (v : Output) → ((degenerate : Bool) (b : WorldBBox) → v ≡ say (skipped_member degenerate b) w) → go v ≡ step
      unfolding visit.member_step
      try_skipped e v said =
          ap go (said (source_is_degenerate x.source_bbox) box) ∙ (rw (room, ← known.boxed, seen, e))

      module _ (large : is_subpixel (size_of box) ≡ false) where
        pub try_collapsed : (why : CollapseTest) → test_of box ≡ Some why → (v : Output) → v ≡ add_load (collapse_reason why) l box w → go v ≡ step
        unfolding visit.member_step
        try_collapsed why e v loaded = ap go (loaded ∙ ap (λ (n : ℕ). add_load (collapse_reason why) n box w) known.labelled) ∙ (rw (room, ← known.boxed, seen, large, e))

        -- the source is left to be visited
        pub try_opens : test_of box ≡ None → halt_with_member (label x.record.now.source) box x.world_bbox (on tt x.record.now.source placement w) ≡ step
        unfolding visit.member_step
        try_opens e = rw (room, ← known.boxed, seen, large, e, known.at)
