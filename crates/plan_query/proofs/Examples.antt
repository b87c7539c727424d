-- Examples, computed: what is a whole query, and its hidden layers.
-- Assumes nothing.
use mathlib.Core.Path.{◌≡◌, refl}
use mathlib.Core.Bool.{true, false}
use mathlib.Core.List.{List, [], ◌∷◌, ◌++◌}
use Prim.Native.Nat.{ℕ}
use lib.ListN.{replicate}
use Rattle.fields.specs.Field.{uint_bytes}
use Rattle.plan_query.specs.Query.{whole_query, hidden_layers}
use Rattle.plan_query.proofs.Opened.{opened_query}

-- a record of a length and a kind with so many bytes behind its head
abbrev record_of : ℕ → ℕ → ℕ → List ℕ
record_of size kind more = uint_bytes 4 size ++ uint_bytes 2 kind ++ replicate more 0

pub whole_query_lem : (whole_query (record_of 54 20 48) ≡ true) × (whole_query (record_of 58 20 52) ≡ true) × (whole_query (record_of 54 20 100) ≡ true)
unfolding opened_query
whole_query_lem = (refl, refl, refl)

-- 53 bytes; a length below 54; one past the input; one that is not 54 + 4n; another kind
pub no_query : (whole_query (record_of 54 20 47) ≡ false) × (whole_query (record_of 50 20 48) ≡ false) × (whole_query (record_of 58 20 48) ≡ false)
    × (whole_query (record_of 56 20 52) ≡ false)
    × (whole_query (record_of 54 21 48) ≡ false)
unfolding opened_query
no_query = (refl, refl, refl, refl, refl)

pub two_hidden_layers : hidden_layers (record_of 62 20 48 ++ uint_bytes 4 65536 ++ uint_bytes 4 131075) ≡ 65536 ∷ 131075 ∷ []
unfolding opened_query
two_hidden_layers = refl
