-- `geometry::bbox::transform_bbox` meets its contract: the loop as a fold over the corners. Assumes nothing.
use mathlib.Core.Path.{◌≡◌, refl, subst, ◌∙◌}
use mathlib.Core.List.{List, [], ◌∷◌}
use lib.Ieee.{of_bits, div, neg}
use Rattle.std.proofs.Common.{rules, fold}
use Rattle.std.proofs.lemmas.List.Sums.{fold_push}
use Rattle.std.proofs.lemmas.Fn.{fold_over, slice_gives, fronts}
use Rattle.geometry.specs.declared.placement.DVec2.{DVec2}
use Rattle.geometry.specs.declared.bbox.WorldBBox.{WorldBBox}
use Rattle.geometry.specs.Placement.{transform_point2}
use Rattle.geometry.specs.Bbox.{include, transform_bbox}
use Rattle.geometry.proofs.bbox.transform_bbox.Goals as goal

pub returns : goal.returns
unfolding transform_bbox of_bits div neg
returns c =
    let turn : WorldBBox → DVec2 → WorldBBox = λ placed corner. include placed (transform_point2 c.args.transform corner) in
    let start = c.new-nothing.result in
    subst (λ (corners : List DVec2). c.fold.result ≡ fold turn start corners) c.iter.ensures.rest
    (fold_over fronts (λ y. y.now) _ (λ ys b. b ≡ fold turn start ys) _ (λ ys a x b f' j k. let more = fold_push turn start ys x.now in search rules)
    _ _ _ _ (slice_gives c.iter.result) refl c.fold.ensures.ran)
    ∙ (λ i. fold turn (c.new-nothing.ensures i) (c.new.ensures i ∷ c.new-2.ensures i ∷ c.new-3.ensures i ∷ c.new-4.ensures i ∷ []))
