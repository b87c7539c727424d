-- The members of a grid in one loop: column by column and row by row is member by member, where member i stands in column i / rows and row i % rows.
-- Assumes nothing.
use mathlib.Core.Path.{◌≡◌, refl, sym, ap, ◌∙◌}
use Prim.Native.Nat.{ℕ, zero, suc, ◌+◌, ◌*◌, ◌/◌, ◌%◌, ◌≤◌, ◌<◌}
use native.Mathlib.Nat.{add-mul-div_right, add-mul-mod_self_right, div-eq_of_lt, mod-eq_of_lt, zero-mul}
use native.Mathlib.Omega.{arith}
use Rattle.plan_rules.specs.World.{World, Flow, bind, each}
use Rattle.plan_rules.proofs.Paths.Loops.{after_bind, each_append}

module _ {A : Type 0} (member : ℕ → ℕ → World A → Flow A) (rows : ℕ) where
  -- member i
  abbrev pub member_at : ℕ → World A → Flow A
  member_at i = member (i / rows) (i % rows)

  abbrev column_of : ℕ → World A → Flow A
  column_of column = each (member column) rows 0

  stands : (column row : ℕ) → row < rows → (v : World A) → member_at (row + column * rows) v ≡ member column row v
  stands column row h v =
      let some : 0 < rows = omega arith in
      let c : (row + column * rows) / rows ≡ column = add-mul-div_right row column some ∙ ap (λ (k : ℕ). k + column) (div-eq_of_lt h) ∙ (omega arith) in
      let r : (row + column * rows) % rows ≡ row = add-mul-mod_self_right row column rows ∙ mod-eq_of_lt h in
      ap (λ (k : ℕ). member k ((row + column * rows) % rows) v) c ∙ ap (λ (k : ℕ). member column k v) r

  -- what is left of a column
  within_column : (column n row : ℕ) → row + n ≤ rows → (w : World A) → each member_at n (row + column * rows) w ≡ each (member column) n row w
  unfolding each
  within_column column zero row h w = refl
  within_column column (suc n) row h w =
      let next : row + column * rows + 1 ≡ row + 1 + column * rows = omega arith in
      ap (λ (x : Flow A). bind x (each member_at n (row + column * rows + 1))) (stands column row (omega arith) w)
      ∙ after_bind (member column row w) (each member_at n (row + column * rows + 1)) (each (member column) n (row + 1))
      (λ v. ap (λ (j : ℕ). each member_at n j v) next ∙ within_column column n (row + 1) (omega arith) v)

  columns_from : (n column : ℕ) (w : World A) → each member_at (n * rows) (column * rows) w ≡ each column_of n column w
  unfolding each
  columns_from zero column w = ap (λ (k : ℕ). each member_at k (column * rows) w) (zero-mul rows)
  columns_from (suc n) column w =
      let more : suc n * rows ≡ rows + n * rows = omega arith in
      let first : column * rows ≡ 0 + column * rows = omega arith in
      let next : column * rows + rows ≡ (column + 1) * rows = omega arith in
      ap (λ (k : ℕ). each member_at k (column * rows) w) more
      ∙ each_append member_at rows (n * rows) (column * rows) w
      ∙ ap (λ (x : Flow A). bind x (each member_at (n * rows) (column * rows + rows)))
      (ap (λ (j : ℕ). each member_at rows j w) first ∙ within_column column rows 0 (omega arith) w)
      ∙ after_bind (column_of column w) (each member_at (n * rows) (column * rows + rows)) (each column_of n (column + 1))
      (λ v. ap (λ (j : ℕ). each member_at (n * rows) j v) next ∙ columns_from n (column + 1) v)

  -- THE MEMBERS IN ONE LOOP
  pub members_in_one_loop : (columns : ℕ) (w : World A) → each column_of columns 0 w ≡ each member_at (columns * rows) 0 w
  members_in_one_loop columns w =
      sym (columns_from columns 0 w) ∙ ap (λ (j : ℕ). each member_at (columns * rows) j w) (zero-mul rows)
