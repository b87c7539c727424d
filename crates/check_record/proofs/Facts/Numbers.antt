-- From question 4: what columns, rows, flags, sources and absent boxes are in a reference that passes it.
-- Assumes nothing.
use mathlib.Core.Path.{◌≡◌, sym, ap, ◌∙◌}
use Prim.Native.Nat.{ℕ, zero, suc, ◌+◌, ◌*◌, ◌^◌, ◌≤◌, ◌<◌}
use native.Mathlib.Nat.{mul-pos, zero-lt-suc}
use native.Mathlib.Omega.{arith}
use mathlib.Core.List.{List}
use mathlib.Core.Bool.{Bool, true}
use lib.Dec.{eqb, eqb-suc-zero}
use borrow.Author.Tests.{ltb-true, leb-true, eq-eqb, ne_eqb}
use Rattle.fields.specs.Field.{uint_at}
use Rattle.fields.proofs.Reading.{uint_at-add}
use Rattle.fields.proofs.Writing.{pow256_pos}
use Rattle.walk.specs.Offsets.{kind_at}
use Rattle.records.specs.Format as field
use Rattle.records.specs.Format.{reference, offset_in, field_at, max_grid_side}
use Rattle.check_record.specs.Tests.{both}
use Rattle.check_record.proofs.Tests.{both_first, both_second}
use Rattle.check_record.specs.Values.{zero_box, source_ok, grid_ok, reference_ok, values_ok}

-- ---- An absent box, in fields of eight bytes

sum_zero : (a p b : ℕ) → 0 < p → eqb (a + p * b) 0 ≡ both (eqb a 0) (eqb b 0)
unfolding both
sum_zero zero p zero h = eq-eqb (0 + p * 0) 0 (omega arith)
sum_zero zero p (suc b) h = ne_eqb (0 + p * suc b) 0 (omega (arith, mul-pos h (zero-lt-suc b))) ∙ sym (eqb-suc-zero b)
sum_zero (suc a) p b h = ne_eqb (suc a + p * b) 0 (omega arith) ∙ ap (λ (t : Bool). both t (eqb b 0)) (sym (eqb-suc-zero a))

-- two fields side by side are 0 where each is
fields_zero : (j k : ℕ) (s : List ℕ) (at : ℕ) → eqb (uint_at (j + k) s at) 0 ≡ both (eqb (uint_at j s at) 0) (eqb (uint_at k s (at + j)) 0)
fields_zero j k s at = ap (λ (m : ℕ). eqb m 0) (uint_at-add j k s at) ∙ sum_zero (uint_at j s at) (256 ^ j) (uint_at k s (at + j)) (pow256_pos j)

pub zero_box_fields : (s : List ℕ) (at : ℕ) → zero_box s at
    ≡ both (both (both (eqb (uint_at 8 s at) 0) (eqb (uint_at 8 s (at + 8)) 0)) (eqb (uint_at 8 s (at + 16)) 0)) (eqb (uint_at 8 s (at + 24)) 0)
unfolding zero_box
zero_box_fields s at =
    fields_zero 24 8 s at
    ∙ ap (λ (b : Bool). both b (eqb (uint_at 8 s (at + 24)) 0))
    (fields_zero 16 8 s at ∙ ap (λ (b : Bool). both b (eqb (uint_at 8 s (at + 16)) 0)) (fields_zero 8 8 s at))

-- ---- A reference's numbers

-- what question 4 says of a reference
pub record GridOk (columns rows flags kind number : ℕ) (zeros : Bool) : Type 0 where
  pub columns_most : columns ≤ max_grid_side
  pub rows_most : rows ≤ max_grid_side
  pub source_least : 1 ≤ kind
  pub source_most : kind ≤ 5
  pub cell_source : kind ≡ 5 → number < 0xffffffff

grid_ok_lem : (columns rows flags kind number : ℕ) (zeros : Bool) → grid_ok columns rows flags (source_ok kind number) zeros ≡ true → GridOk columns rows flags kind number zeros
unfolding grid_ok source_ok
grid_ok_lem columns rows flags kind number zeros e =
    let after-columns = both_second _ _ e in
    let after-rows = both_second _ _ after-columns in
    let after-flags = both_second _ _ after-rows in
    let source = both_first _ _ after-flags in
    let after-least = both_second _ _ source in
    record {
      columns_most = leb-true _ _ (both_first _ _ e);
      rows_most = leb-true _ _ (both_first _ _ after-columns);
      source_least = leb-true _ _ (both_first _ _ source);
      source_most = leb-true _ _ (both_first _ _ after-least);
      cell_source = λ k. ltb-true _ _ (rw k at (both_second _ _ after-least));
    }

pub reference_values : (s : List ℕ) (at : ℕ) → values_ok s at ≡ true → kind_at s at ≡ 4
    → GridOk (field_at reference field.columns s at) (field_at reference field.rows s at) (field_at reference field.flags s at)
    (field_at reference field.source_kind s at) (field_at reference field.source_number s at) (zero_box s (at + offset_in reference field.box))
unfolding values_ok reference_ok
reference_values s at e k = grid_ok_lem _ _ _ _ _ _ (rw k at e)
