-- `a && b` and `a || b` as code works them out: b is asked only where a leaves it open. r is the flag that the code holds then.
-- Assumes nothing.
use mathlib.Core.Path.{◌≡◌, sym, ap, ◌∙◌}
use mathlib.Core.Bool.{Bool, true, false, ◌&&◌, ◌||◌}

pub and_asked : {a b r : Bool} → a ≡ true → r ≡ b → r ≡ a && b
and_asked {a} {b} t e = e ∙ ap (λ (x : Bool). x && b) (sym t)

pub and_decided : {a r : Bool} (b : Bool) → a ≡ false → r ≡ a → r ≡ a && b
and_decided b f e = e ∙ f ∙ ap (λ (x : Bool). x && b) (sym f)

pub or_asked : {a b r : Bool} → a ≡ false → r ≡ b → r ≡ a || b
or_asked {a} {b} f e = e ∙ ap (λ (x : Bool). x || b) (sym f)

pub or_decided : {a r : Bool} (b : Bool) → a ≡ true → r ≡ a → r ≡ a || b
or_decided b t e = e ∙ t ∙ ap (λ (x : Bool). x || b) (sym t)
