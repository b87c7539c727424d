-- A reference's source: the reader gives the case of the kind and the number that it read.
-- Assumes nothing.
use mathlib.Core.Path.{◌≡◌, refl, sym}
use Prim.Native.Nat.{ℕ, ◌≤◌}
use native.Mathlib.Omega.{arith}
use mathlib.Core.Bool.{Bool, true, false, cond}
use lib.Dec.{eqb}
use borrow.Author.Tests.{eqb-true, eqb-false}
use Rattle.records.specs.declared.PreparedSource.TheVariants.{Geometry, Text, Node, Reference, Cell}
use Rattle.records.specs.Records.{source_of}
use Rattle.records.specs.Sources.{source_kind, source_number}

module _ (kind n : ℕ) where
  by_kind : (a b c d : Bool) → 1 ≤ kind → kind ≤ 5 → eqb kind 1 ≡ a → eqb kind 2 ≡ b → eqb kind 3 ≡ c → eqb kind 4 ≡ d
      → source_kind (cond a (Geometry n) (cond b (Text n) (cond c (Node n) (cond d (Reference n) (Cell n))))) ≡ kind
  by_kind true b c d low high ea eb ec ed = sym (eqb-true kind 1 ea)
  by_kind false true c d low high ea eb ec ed = sym (eqb-true kind 2 eb)
  by_kind false false true d low high ea eb ec ed = sym (eqb-true kind 3 ec)
  by_kind false false false true low high ea eb ec ed = sym (eqb-true kind 4 ed)
  by_kind false false false false low high ea eb ec ed =
      let not-1 : kind ≡ 1 → ⊥ = eqb-false kind 1 ea in
      let not-2 : kind ≡ 2 → ⊥ = eqb-false kind 2 eb in
      let not-3 : kind ≡ 3 → ⊥ = eqb-false kind 3 ec in
      let not-4 : kind ≡ 4 → ⊥ = eqb-false kind 4 ed in
      omega arith

  -- a source of a kind that document 01 names is of that kind
  pub source_kind_lem : 1 ≤ kind → kind ≤ 5 → source_kind (source_of kind n) ≡ kind
  unfolding source_of
  source_kind_lem low high = by_kind (eqb kind 1) (eqb kind 2) (eqb kind 3) (eqb kind 4) low high refl refl refl refl

  same_number : (a b c d : Bool) → source_number (cond a (Geometry n) (cond b (Text n) (cond c (Node n) (cond d (Reference n) (Cell n))))) ≡ n
  same_number true b c d = refl
  same_number false true c d = refl
  same_number false false true d = refl
  same_number false false false true = refl
  same_number false false false false = refl

  -- and has the number
  pub source_number_lem : source_number (source_of kind n) ≡ n
  unfolding source_of
  source_number_lem = same_number (eqb kind 1) (eqb kind 2) (eqb kind 3) (eqb kind 4)
