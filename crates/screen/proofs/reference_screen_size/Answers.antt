-- `screen::reference_screen_size` meets its contract. Assumes nothing.
use mathlib.Core.Path.{ap, ◌∙◌}
use lib.Ieee.{of_bits}
use Rattle.floats.specs.Order.{max_num}
use Rattle.screen.specs.declared.ScreenSize.{ScreenSize}
use Rattle.screen.specs.Screen.{size, min_fixed_content_px, reference_screen_size}
use Rattle.screen.proofs.reference_screen_size.Goals as goal

pub returns-then-source_is_degenerate : goal.returns-then-source_is_degenerate
unfolding reference_screen_size of_bits
returns-then-source_is_degenerate c =
    let s = c.screen_size-size.ensures in
    rw c.if-source_is_degenerate.true
    (λ i. size ((c.max.ensures ∙ ap (λ (z : ScreenSize). max_num z.width min_fixed_content_px) s) i)
    ((c.max-then-source_is_degenerate.ensures ∙ ap (λ (z : ScreenSize). max_num z.height min_fixed_content_px) s) i))

pub returns : goal.returns
unfolding reference_screen_size
returns c = rw c.if-source_is_degenerate.false c.screen_size-size.ensures
