-- The visits between two zeroings, as the code makes them step by step, are the sweep that `Swept` defines.
-- Assumes nothing.
use mathlib.Core.Path.{◌≡◌, ap, ◌∙◌}
use mathlib.Core.List.{List}
use Prim.Native.Nat.{ℕ}
use lib.ListN.{length, replicate}
use Rattle.plan_rules.specs.declared.Fixed.{Fixed}
use Rattle.plan_rules.specs.declared.ScenePlan.{ScenePlan}
use Rattle.plan_rules.specs.Event.{scene_plan, empty_plan}
use Rattle.plan_rules.specs.World.{world}
use Rattle.plan_rules.specs.OnTape.{Given, visit_root}
use Rattle.planner.specs.Swept.{visited, swept}

-- `ScenePlan::default()`, by what its derive promises of each total
abbrev IsDefault : ScenePlan → Type 0
IsDefault s = (s.tape_end ≡ 0) × ((s.texts ≡ 0) × ((s.load_proxies ≡ 0) × ((s.detail_cells ≡ 0) × ((s.detail_objects ≡ 0) × ((s.culled_references ≡ 0)
    × ((s.skipped_subpixel_references ≡ 0) × ((s.culled_geometry_batches ≡ 0) × ((s.skipped_subpixel_geometry_batches ≡ 0) × (s.dropped_load_proxies ≡ 0)))))))))

pub default_is_empty : (s : ScenePlan) → IsDefault s → s ≡ empty_plan
unfolding empty_plan
default_is_empty s (a, (b, (c, (d, (e, (f, (g, (h, (i, j))))))))) = λ k. scene_plan (a k) (b k) (c k) (d k) (e k) (f k) (g k) (h k) (i k) (j k)

-- Places as lent, zeroed (₁), as the visits leave them (₂), and zeroed again (₃).
module _ {f : Fixed} (g : Given f) (o k m : List ℕ) where
  zeroed_again : (l l₂ : List ℕ) {l₃ : List ℕ} → length l₂ ≡ length l → l₃ ≡ replicate (length l₂) 0 → l₃ ≡ replicate (length l) 0
  zeroed_again l l₂ kept zeroed = zeroed ∙ ap (λ (n : ℕ). replicate n 0) kept

  pub clean : (e s : ScenePlan) (b k₁ k₂ k₃ m₁ m₂ m₃ : List ℕ)
      → k₁ ≡ replicate (length k) 0 → m₁ ≡ replicate (length m) 0 → e ≡ empty_plan
      → (visits : world s b k₂ m₂ ≡ visit_root g f.options.depth (world e o k₁ m₁))
      → length k₂ ≡ length k → length m₂ ≡ length m → k₃ ≡ replicate (length k₂) 0 → m₃ ≡ replicate (length m₂) 0
      → world s b k₃ m₃ ≡ swept g o (length k) (length m)
  unfolding swept visited
  clean e s b k₁ k₂ k₃ m₁ m₂ m₃ zeroed-k zeroed-m empty visits kept-k kept-m again-k again-m =
      let end-m = zeroed_again m m₂ kept-m again-m in
      let end-k = zeroed_again k k₂ kept-k again-k in
      let run = visits ∙ (λ i. visit_root g f.options.depth (world (empty i) o (zeroed-k i) (zeroed-m i))) in
      λ i. world (run i).state (run i).out (end-k i) (end-m i)
