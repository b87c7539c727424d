-- `planner::entry::turn_away` meets its contract: all that is lent is zeroed.
-- Assumes nothing.
use Rattle.plan_rules.specs.Outcome.{refused}
use Rattle.planner.specs.WithFinder.{turned_away}
use Rattle.planner.proofs.entry.turn_away.Goals as goal

pub returns : goal.returns
unfolding turned_away
returns c =
    λ i. refused 13 0 (c.fill.ensures.after (λ y e. e) i) (c.fill-2.ensures.after (λ y e. e) i) (c.fill-3.ensures.after (λ y e. e) i)
