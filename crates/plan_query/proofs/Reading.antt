-- What those have who go on with the query: where the sheet begins, and the hidden layers.
-- Assumes nothing.
use Rattle.std.proofs.Common.{◌≡◌, ap, ℕ, ◌≤◌, List, length, cond, Bool, true, false, leb, refl, arith}
use Rattle.std.proofs.lemmas.Bool.Decides.{nat_tests}
use Rattle.std.proofs.lemmas.List.Edits.{sets}
use Rattle.std.specs.Prelude.{Result, Ok, Err}
use Rattle.walk.specs.Offsets.{length_at}
use Rattle.plan_query.specs.declared.QueryRecord.{QueryRecord}
use Rattle.plan_query.specs.declared.QueryError.{QueryError}
use Rattle.plan_query.specs.declared.QueryError.TheVariants.{NoQuery, TooLong}
use Rattle.plan_query.specs.Query.{whole_query, hidden_count, hidden_layers, query_record, read_query}
use lib.Seq.{length-sets}

-- what a reading answers, and what it leaves in the lent hidden layers
abbrev Reading : Type 0
Reading = Result QueryRecord QueryError × List ℕ

-- a whole query ends within the input
whole_past : (s : List ℕ) → whole_query s ≡ true → length_at s 0 ≤ length s
unfolding whole_query
whole_past s whole = grind (arith, nat_tests)

-- its hidden layers were counted, and there is room for them
enough_room : (m n : ℕ) → leb m n ≡ true → m ≤ n
enough_room m n few = grind (arith, nat_tests)

not_refused : {q : QueryRecord} {e : QueryError} → ◌≡◌ {A = Result QueryRecord QueryError} (Ok q) (Err e) → ⊥
not_refused e = cc

module _ (s h : List ℕ) {q : QueryRecord} {h' : List ℕ} where
  within_by : (b c : Bool) → whole_query s ≡ b → leb (hidden_count s) (length h) ≡ c
      → ◌≡◌ {A = Reading} (Ok q, h') (cond b (cond c (Ok (query_record s), sets h 0 (hidden_layers s)) (Err TooLong, h)) (Err NoQuery, h))
      → (q.sheet ≤ length s) × (q.hidden ≤ length h')
  within_by true true whole few e =
      let first : ◌≡◌ {A = Result QueryRecord QueryError} (Ok q) (Ok (query_record s)) = ap (λ (r : Reading). r.0) e in
      let same : q ≡ query_record s = cc in
      let left : h' ≡ sets h 0 (hidden_layers s) = ap (λ (r : Reading). r.1) e in (
        omega (arith, whole_past s whole, ap (λ (r : QueryRecord). r.sheet) same),
        omega (arith, enough_room _ _ few, ap (λ (r : QueryRecord). r.hidden) same, ap length left, length-sets h 0 (hidden_layers s)),
      )
  within_by true false whole few e = absurd (not_refused (ap (λ (r : Reading). r.0) e))
  within_by false c whole few e = absurd (not_refused (ap (λ (r : Reading). r.0) e))

  -- the sheet begins within the input, and the hidden layers that were read are there
  pub query_within : ◌≡◌ {A = Reading} (Ok q, h') (read_query s h) → (q.sheet ≤ length s) × (q.hidden ≤ length h')
  unfolding read_query
  query_within e = within_by (whole_query s) (leb (hidden_count s) (length h)) refl refl e
