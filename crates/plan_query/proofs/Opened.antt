-- To compute with the query a proof names one definition: `unfolding opened_query` opens it, down to the fields.
-- Assumes nothing.
use Prim.Native.Nat.{ℕ}
use Rattle.fields.specs.Field.{uint_at, uint_bytes, f64_at}
use Rattle.plan_query.specs.Query.{whole_query, options_at, layers_from, read_query}

unfoldable pub opened_query : ℕ
unfolding uint_at uint_bytes f64_at whole_query options_at layers_from read_query
opened_query = 0
