-- Two tests in turn, and one test at each of several places.
-- Definitions only. Assumes nothing.
use Rattle.std.specs.Prelude.{ℕ, zero, suc, ◌+◌, Bool, true, false}

-- Two tests, the second asked where the first is passed. It is no `abbrev`, so that the two can be told from their whole.
unfoldable pub both : Bool → Bool → Bool
both true c = c
both false c = false

-- the test p at each of k places from `at` on, w apart
unfoldable pub every : (ℕ → Bool) → ℕ → ℕ → ℕ → Bool
every p w zero at = true
every p w (suc k) at = both (p at) (every p w k (at + w))
