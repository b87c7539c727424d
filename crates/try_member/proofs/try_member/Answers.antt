-- `try_member::try_member` meets its contract: each way out by its law in `MemberExits`.
-- Assumes nothing.
use Rattle.std.proofs.Common.{rules, ◌≡◌, sym, ap, ◌∙◌, Bool, false, ℕ}
use lib.Ieee.{Float}
use mir.Facts.{Fits-lt}
use Rattle.geometry.specs.declared.bbox.WorldBBox.{WorldBBox}
use Rattle.geometry.specs.declared.placement.Placement.{Placement}
use Rattle.screen.specs.declared.ScreenSize.{ScreenSize}
use Rattle.geometry.specs.Placement.{◌·◌}
use Rattle.geometry.specs.Bbox.{transform_bbox, source_is_degenerate}
use Rattle.grid.specs.Grid.{grid_count, grid_member_transform}
use Rattle.screen.specs.Screen.{FirstMet, reference_screen_size, is_subpixel, collapse_test}
use Rattle.open_reference.specs.declared.OpenReference.{OpenReference}
use Rattle.records.specs.Sources.{label}
use Rattle.plan_rules.specs.declared.Reason.{Reason}
use Rattle.plan_rules.specs.World.{world}
use Rattle.plan_rules.specs.OnTape.{add_load}
use Rattle.try_member.proofs.MemberExits.{Placed, has_a_row, column_within, row_within, try_exhausted, try_culled, try_skipped, try_collapsed, try_opens}
use Rattle.try_member.proofs.try_member.Goals as goal

-- ---- where member i stands

pub nonzero_div-column : goal.nonzero_div-column
unfolding grid_count
nonzero_div-column c = has_a_row c.args.i c.args.reference.now.«record».now.grid.columns _ c.requires

pub overflow_cast-column : goal.overflow_cast-column
unfolding grid_count
overflow_cast-column c = Fits-lt (column_within c.args.i c.args.reference.now.«record».now.grid.columns _ c.requires) (search rules)

pub nonzero_rem-row : goal.nonzero_rem-row
unfolding grid_count
nonzero_rem-row c = has_a_row c.args.i c.args.reference.now.«record».now.grid.columns _ c.requires

pub overflow_cast-row : goal.overflow_cast-row
unfolding grid_count
overflow_cast-row c = Fits-lt (row_within c.args.i c.args.reference.now.«record».now.grid.columns _ c.requires) (search rules)

-- ---- what is known, by what the calls answer

-- the member is placed
placed : (x : OpenReference) (column row : ℕ) {l : ℕ} {within placement : Placement} {box : WorldBBox}
    → within ≡ grid_member_transform x.record.now.grid column row → placement ≡ x.transform · within → box ≡ transform_bbox placement x.source_bbox → l ≡ label x.record.now.source
    → Placed x column row l placement box
placed x column row stands joined boxed labelled =
    let at = joined ∙ ap (λ (q : Placement). x.transform · q) stands in
    record { labelled = labelled; at = at; boxed = boxed ∙ ap (λ (q : Placement). transform_bbox q x.source_bbox) at }

module _ (box : WorldBBox) (zoom : Float) (sourceBox : WorldBBox) where
  abbrev size_of : ScreenSize
  size_of = reference_screen_size box zoom (source_is_degenerate sourceBox)

  abbrev test_of : ℕ → ℕ → FirstMet
  test_of units depth = collapse_test size_of.width size_of.height 1 units depth false

  module _ {degenerate : Bool} {size : ScreenSize} (asked : degenerate ≡ source_is_degenerate sourceBox) (is : size ≡ reference_screen_size box zoom degenerate) where
    -- its size on the screen
    sized : size ≡ size_of
    sized = is ∙ ap (reference_screen_size box zoom) asked

    -- whether it is too small to be seen
    small : {answer told : Bool} → answer ≡ is_subpixel size → answer ≡ told → is_subpixel size_of ≡ told
    small e t = sym (e ∙ ap is_subpixel sized) ∙ t

    module _ (units depth : ℕ) {test : FirstMet} (e : test ≡ collapse_test size.width size.height 1 units depth false) where
      -- the first test met
      tested : {told : FirstMet} → test ≡ told → test_of units depth ≡ told
      tested t = sym (e ∙ ap (λ (z : ScreenSize). collapse_test z.width z.height 1 units depth false) sized) ∙ t

-- ---- the ways out

pub returns-then-detail_budget_exhausted : goal.returns-then-detail_budget_exhausted
returns-then-detail_budget_exhausted c =
    let a = c.args in
    λ g on k m.
    try_exhausted g on _ _ _ _ _ _
    (placed a.reference.now _ _ c.grid_member_transform.ensures c.mul-placement.ensures c.transform_bbox-bbox.ensures c.label-label.ensures)
    (sym (c.detail_budget_exhausted.ensures g.hidden) ∙ c.if-detail_budget_exhausted.true) _ (c.add_load-boxed.ensures k m)

pub returns-then-not-overlaps : goal.returns-then-not-overlaps
returns-then-not-overlaps c =
    let a = c.args in
    λ g on k m.
    try_culled g on _ _ _ _ _ _
    (placed a.reference.now _ _ c.grid_member_transform.ensures c.mul-placement.ensures c.transform_bbox-bbox.ensures c.label-label.ensures)
    (sym (c.detail_budget_exhausted.ensures g.hidden) ∙ c.if-detail_budget_exhausted.false)
    (sym c.overlaps.ensures ∙ c.if-not-overlaps.true) _ (c.count_culled_reference.ensures _ k m)

pub returns-then-is_subpixel : goal.returns-then-is_subpixel
returns-then-is_subpixel c =
    let a = c.args in
    λ g on k m.
    try_skipped g on _ _ _ _ _ _
    (placed a.reference.now _ _ c.grid_member_transform.ensures c.mul-placement.ensures c.transform_bbox-bbox.ensures c.label-label.ensures)
    (sym (c.detail_budget_exhausted.ensures g.hidden) ∙ c.if-detail_budget_exhausted.false)
    (sym c.overlaps.ensures ∙ c.if-not-overlaps.false)
    (small _ _ a.reference.now.source_bbox c.source_is_degenerate-degenerate.ensures c.reference_screen_size-size.ensures c.is_subpixel.ensures c.if-is_subpixel.true) _
    (λ degenerate b. c.count_skipped_member.ensures degenerate b _ k m)

pub returns-in-Some : goal.returns-in-Some
returns-in-Some c =
    let a = c.args in
    let box = c.transform_bbox-bbox.result in
    let degenerate = c.source_is_degenerate-degenerate.ensures in
    let size = c.reference_screen_size-size.ensures in
    λ g on k m.
    try_collapsed g on _ _ _ _ _ _
    (placed a.reference.now _ _ c.grid_member_transform.ensures c.mul-placement.ensures c.transform_bbox-bbox.ensures c.label-label.ensures)
    (sym (c.detail_budget_exhausted.ensures g.hidden) ∙ c.if-detail_budget_exhausted.false)
    (sym c.overlaps.ensures ∙ c.if-not-overlaps.false)
    (small _ _ a.reference.now.source_bbox degenerate size c.is_subpixel.ensures c.if-is_subpixel.false)
    _ (tested _ _ a.reference.now.source_bbox degenerate size a.share a.depth c.collapse_test.ensures c.in-Some.is) _
    (c.add_load-boxed-in-Some.ensures k m ∙ ap (λ (y : Reason). add_load y c.label-label.result box (world a.plan a.out.now k m)) c.collapse_reason.ensures)

pub returns : goal.returns
returns c =
    let a = c.args in
    let degenerate = c.source_is_degenerate-degenerate.ensures in
    let size = c.reference_screen_size-size.ensures in
    λ g on k m.
    try_opens g on _ _ _ _ _ _
    (placed a.reference.now _ _ c.grid_member_transform.ensures c.mul-placement.ensures c.transform_bbox-bbox.ensures c.label-label.ensures)
    (sym (c.detail_budget_exhausted.ensures g.hidden) ∙ c.if-detail_budget_exhausted.false)
    (sym c.overlaps.ensures ∙ c.if-not-overlaps.false)
    (small _ _ a.reference.now.source_bbox degenerate size c.is_subpixel.ensures c.if-is_subpixel.false)
    (tested _ _ a.reference.now.source_bbox degenerate size a.share a.depth c.collapse_test.ensures c.in_default.is)
