-- From question 3: the length of a record by its kind, and that its floats lie within it.
-- Assumes nothing.
use mathlib.Core.Path.{◌≡◌, refl, sym, subst}
use Prim.Native.Nat.{ℕ, zero, suc, ◌+◌, ◌-◌, ◌*◌, ◌%◌, ◌≤◌}
use native.Mathlib.Omega.{arith}
use mathlib.Core.List.{List}
use mathlib.Core.Bool.{Bool, true, cond}
use lib.Dec.{T, eqb}
use borrow.Author.Tests.{leb-true, eqb-true, ne_eqb}
use Rattle.walk.specs.Offsets.{length_at, kind_at}
use Rattle.records.specs.Format as format
use Rattle.records.specs.Format.{f, end_of, max_value_bytes, max_points}
use Rattle.check_record.proofs.Tests.{both_first, both_second}
use Rattle.check_record.specs.Shape.{lists_at, length_ok, shape_ok}
use Rattle.check_record.specs.Floats.{floats_from, floats_count}

-- the length of a record of each kind, where a cell's lists have m numbers together
pub record Sized (kind n m : ℕ) : Type 0 where
  pub geometry : kind ≡ 1 → n ≡ end_of format.geometry
  pub text : kind ≡ 2 → (end_of format.text ≤ n) × (n ≤ end_of format.text + max_value_bytes)
  pub node : kind ≡ 3 → (end_of format.node + 2 * f * 1 ≤ n) × (n ≤ end_of format.node + 2 * f * max_points) × ((n - end_of format.node) % (2 * f) ≡ 0)
  pub reference : kind ≡ 4 → n ≡ end_of format.reference
  pub cell : kind ≡ 5 → n ≡ end_of format.cell + 4 * m

pub shape_sized : (s : List ℕ) (at : ℕ) → shape_ok s at ≡ true → Sized (kind_at s at) (length_at s at) (lists_at s at)
unfolding shape_ok length_ok
shape_sized s at e =
    record {
      geometry = λ k. eqb-true _ _ (rw k at e);
      text = λ k. let f = rw k at e in (leb-true _ _ (both_first _ _ f), leb-true _ _ (both_second _ _ f));
      node = λ k.
          let f = rw k at e in
          let g = both_second _ _ f in
          (leb-true _ _ (both_first _ _ f), leb-true _ _ (both_first _ _ g), eqb-true _ _ (both_second _ _ g));
      reference = λ k. eqb-true _ _ (rw k at e);
      cell = λ k. eqb-true _ _ (rw k at e);
    }

known : (kind n : ℕ) (b : Bool) → cond (eqb kind 5) b (length_ok kind n) ≡ true → (1 ≤ kind) × (kind ≤ 5)
unfolding length_ok
known zero n b e = absurd (subst T (sym e) tt)
known (suc zero) n b e = omega arith
known (suc (suc zero)) n b e = omega arith
known (suc (suc (suc zero))) n b e = omega arith
known (suc (suc (suc (suc zero)))) n b e = omega arith
known (suc (suc (suc (suc (suc zero))))) n b e = omega arith
known (suc (suc (suc (suc (suc (suc k)))))) n b e =
    let m : ℕ = suc (suc (suc (suc (suc (suc k))))) in
    absurd (subst T (sym (simp (ne_eqb m 1 (omega arith), ne_eqb m 2 (omega arith), ne_eqb m 3 (omega arith), ne_eqb m 4 (omega arith), ne_eqb m 5 (omega arith)) at e)) tt)

-- the kind is 1 to 5
pub shape_known : (s : List ℕ) (at : ℕ) → shape_ok s at ≡ true → (1 ≤ kind_at s at) × (kind_at s at ≤ 5)
unfolding shape_ok
shape_known s at e = known _ _ _ e

room : (kind n m : ℕ) → Sized kind n m → (1 ≤ kind) × (kind ≤ 5) → (end_of format.node ≤ n) × (floats_from kind + 8 * floats_count kind n ≤ n)
unfolding floats_from floats_count
room zero n m z h = absurd (omega arith)
room (suc zero) n m z h = omega (arith, z.geometry refl)
room (suc (suc zero)) n m z h = omega (arith, z.text refl)
room (suc (suc (suc zero))) n m z h = omega (arith, (z.node refl).0)
room (suc (suc (suc (suc zero)))) n m z h = omega (arith, z.reference refl)
room (suc (suc (suc (suc (suc zero))))) n m z h = omega (arith, z.cell refl)
room (suc (suc (suc (suc (suc (suc k)))))) n m z h = absurd (omega arith)

-- a record's floats lie within it
pub floats_within : (s : List ℕ) (at : ℕ) → shape_ok s at ≡ true
    → (end_of format.node ≤ length_at s at) × (floats_from (kind_at s at) + 8 * floats_count (kind_at s at) (length_at s at) ≤ length_at s at)
floats_within s at e = room _ _ _ (shape_sized s at e) (shape_known s at e)
