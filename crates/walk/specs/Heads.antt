-- What a walk over the records of a sheet gives: where each is, and its kind.
-- Definitions only. Assumes nothing.
use Rattle.std.specs.Prelude.{ℕ, List, map}
use Rattle.walk.specs.declared.heads.Head.{Head}
use Rattle.walk.specs.declared.heads.Records.{Records}
use Rattle.walk.specs.Offsets.{kind_at, offsets_from}

abbrev pub head_at : List ℕ → ℕ → Head
head_at s at = record { at = at; kind = kind_at s at }

-- those at a list of offsets
abbrev pub heads_at : List ℕ → List ℕ → List Head
heads_at s xs = map (head_at s) xs

-- what is left of a walk
abbrev pub left : Records → List Head
left r = heads_at r.sheet.now (offsets_from r.sheet.now r.at)
