-- What it means that a sheet has a record at a number, and that a look-up finds it.
-- Definitions only. Assumes nothing.
use Rattle.std.specs.Prelude.{◌≡◌, ℕ, List}
use Rattle.std.proofs.Math.Option.{Option, some}
use Rattle.walk.specs.Find.{Found}
use Rattle.std.specs.Prelude.{Some}
use Rattle.abstract_sheet.specs.Sheet.{Kind, kind_number, Item, item_at}

-- something stands at a number
abbrev pub Exists : {A : Type 0} → Option A → Type 0
Exists {A} o = (x : A) × (o ≡ some x)

-- where a look-up finds a record of a sheet
pub record Located (look : ℕ → ℕ → Found) (kind : Kind) (s : List ℕ) (n : ℕ) (x : Item kind) : Type 0 where
  pub at : ℕ
  pub found : look (kind_number kind) n ≡ Some at
  pub same : x ≡ item_at kind s at
