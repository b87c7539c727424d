-- The steps of a look-up by number, and what a sheet has at a number that was looked up so.
-- Assumes nothing.
use mathlib.Core.Path.{◌≡◌, sym, ◌∙◌}
use Prim.Native.Nat.{ℕ, ◌+◌, ◌≤◌, ◌<◌}
use mathlib.Core.List.{List}
use lib.ListN.{length, get_or}
use borrow.Author.Tests.{lt-ltb, le-ltb, eq-eqb, ne_eqb}
use Rattle.walk.specs.Find.{Found}
use Rattle.std.specs.Prelude.{Some, None}
use Rattle.walk.specs.Find.{find}
use Rattle.abstract_sheet.specs.Sheet.{read, Kind, kind_number, item_at, item}
use Rattle.abstract_sheet.proofs.Lookup.{item_read_by}
use Rattle.check_sheet.specs.declared.Counts.{Counts}
use Rattle.look_up.specs.Places.{count_for, start_for}
use Rattle.look_up.specs.Look.{placed, look_in, look, sheet_with}

module _ (f : List ℕ) (c : Counts) (kind n : ℕ) where
  -- the place of a number that the sheet has
  module _ (within : n < count_for c kind) (place : ℕ) (at_place : place ≡ start_for c kind + n) where
    pub look_hit : place < length f → look_in f c kind n ≡ Some (get_or f place 0)
    unfolding look_in placed
    look_hit h = rw (lt-ltb _ _ within, sym at_place, lt-ltb _ _ h)

  pub look_none : count_for c kind ≤ n → look_in f c kind n ≡ None
  unfolding look_in
  look_none h = rw (le-ltb _ _ h)

  module _ (s : List ℕ) where
    pub look_walks : length f ≡ 0 → look s f c kind n ≡ find s kind n
    unfolding look
    look_walks h = rw (eq-eqb _ _ h)

    pub look_reads : (length f ≡ 0 → ⊥) → look s f c kind n ≡ look_in f c kind n
    unfolding look
    look_reads h = rw (ne_eqb _ _ h)

-- what a sheet has at a number is what is read where the look-up found it
pub item_looked : (kind : Kind) (s f : List ℕ) (c : Counts) (n : ℕ) {found told : Found} → found ≡ look s f c (kind_number kind) n → found ≡ told
    → item kind (sheet_with s f c) n ≡ read (item_at kind s) told
item_looked kind s f c n looked told = item_read_by (look s f c) kind s n (sym looked ∙ told)
