-- `finder::starts` meets its contract.
-- Assumes nothing.
use mathlib.Core.List.{[], ◌∷◌}
use Rattle.finder.proofs.starts.Goals as goal

pub returns : goal.returns
returns c =
    λ i.
    0
    ∷ c.start_for.ensures.value i
    ∷ c.start_for-2.ensures.value i
    ∷ c.start_for-3.ensures.value i
    ∷ c.start_for-4.ensures.value i
    ∷ c.start_for-5.ensures.value i
    ∷ []
