-- The counts of the records before an offset, and how a record adds to them.
-- Assumes nothing.
use mathlib.Core.Path.{◌≡◌, ap, ◌∙◌}
use Prim.Native.Nat.{ℕ, ◌+◌, ◌≤◌, ◌<◌}
use native.Mathlib.Omega.{arith}
use mathlib.Core.List.{List}
use mathlib.Core.Bool.{Bool, true, false, cond}
use lib.ListN.{length}
use lib.Dec.{eqb}
use Rattle.walk.specs.Offsets.{max_sheet_bytes, length_at, kind_at, offsets_from}
use Rattle.walk.proofs.Offsets.{offsets_within, offsets_more, offsets_end}
use Rattle.walk.specs.Find.{of_kind_in, count_of, count_in}
use Rattle.walk.proofs.Finding.{count_step}
use Rattle.check_sheet.specs.declared.Counts.{Counts}
use Rattle.check_sheet.specs.Count.{counts_of, tallied, counted, AtMost}

-- ---- One kind

tallied_at_most : (n kind k : ℕ) → tallied n kind k ≤ n + 1
unfolding tallied
tallied_at_most n kind k = by_test (eqb kind k)
  where
    by_test : (b : Bool) → n + cond b 1 0 ≤ n + 1
    by_test true = omega arith
    by_test false = omega arith

-- a count that is at most an offset stays so with the record there
pub tallied_next : (n kind k at size : ℕ) → n ≤ at → 6 ≤ size → tallied n kind k ≤ at + size
tallied_next n kind k at size h w = omega (arith, tallied_at_most n kind k)

-- n records of a kind before an offset, with those from there on, are all
abbrev Sum : List ℕ → ℕ → ℕ → ℕ → Type 0
Sum s at k n = n + count_in s k (offsets_from s at) ≡ count_of s k

sum_start : (s : List ℕ) (k : ℕ) → length s ≤ max_sheet_bytes → Sum s 0 k 0
sum_start s k h = let all = ap (count_in s k) (offsets_within s h) in omega arith

sum_step : (s : List ℕ) (at k n : ℕ) → at < length s → 6 ≤ length_at s at → Sum s at k n → Sum s (at + length_at s at) k (tallied n (kind_at s at) k)
unfolding tallied
sum_step s at k n h w e =
    let more = ap (count_in s k) (offsets_more s at h w) ∙ count_step s k at (offsets_from s (at + length_at s at)) in
    omega arith

sum_end : (s : List ℕ) (at k n : ℕ) → length s ≤ at → Sum s at k n → n ≡ count_of s k
unfolding of_kind_in
sum_end s at k n h e = let none = ap (count_in s k) (offsets_end s at h) in omega arith

-- ---- All five

-- c are the counts of the records before an offset
pub record Passed (s : List ℕ) (at : ℕ) (c : Counts) : Type 0 where
  pub at_most : AtMost c at
  pub geometries : Sum s at 1 c.geometries
  pub texts : Sum s at 2 c.texts
  pub nodes : Sum s at 3 c.nodes
  pub references : Sum s at 4 c.references
  pub cells : Sum s at 5 c.cells

pub passed_start : (s : List ℕ) → length s ≤ max_sheet_bytes → Passed s 0 (record { geometries = 0; texts = 0; nodes = 0; references = 0; cells = 0 })
passed_start s h =
    record {
      at_most = record { geometries = omega arith; texts = omega arith; nodes = omega arith; references = omega arith; cells = omega arith };
      geometries = sum_start s 1 h;
      texts = sum_start s 2 h;
      nodes = sum_start s 3 h;
      references = sum_start s 4 h;
      cells = sum_start s 5 h;
    }

pub passed_step : (s : List ℕ) (at : ℕ) (c : Counts) → at < length s → 6 ≤ length_at s at → Passed s at c → Passed s (at + length_at s at) (counted (kind_at s at) c)
unfolding counted
passed_step s at c h w p =
    record {
      at_most = record {
        geometries = tallied_next _ _ _ _ _ p.at_most.geometries w;
        texts = tallied_next _ _ _ _ _ p.at_most.texts w;
        nodes = tallied_next _ _ _ _ _ p.at_most.nodes w;
        references = tallied_next _ _ _ _ _ p.at_most.references w;
        cells = tallied_next _ _ _ _ _ p.at_most.cells w;
      };
      geometries = sum_step s at 1 _ h w p.geometries;
      texts = sum_step s at 2 _ h w p.texts;
      nodes = sum_step s at 3 _ h w p.nodes;
      references = sum_step s at 4 _ h w p.references;
      cells = sum_step s at 5 _ h w p.cells;
    }

pub passed_end : (s : List ℕ) (at : ℕ) (c : Counts) → length s ≤ at → Passed s at c → c ≡ counts_of s
unfolding counts_of
passed_end s at c h p =
    λ i. record {
      geometries = sum_end s at 1 _ h p.geometries i;
      texts = sum_end s at 2 _ h p.texts i;
      nodes = sum_end s at 3 _ h p.nodes i;
      references = sum_end s at 4 _ h p.references i;
      cells = sum_end s at 5 _ h p.cells i;
    }
