-- From question 5: each float of a record that passes is finite.
-- Assumes nothing.
use mathlib.Core.Path.{◌≡◌}
use Prim.Native.Nat.{ℕ, ◌+◌, ◌*◌, ◌<◌}
use mathlib.Core.List.{List}
use mathlib.Core.Bool.{true}
use Rattle.floats.specs.Order.{is_finite}
use Rattle.fields.specs.Field.{f64_at}
use Rattle.walk.specs.Offsets.{length_at, kind_at}
use Rattle.check_record.proofs.Tests.{every_at}
use Rattle.check_record.specs.Floats.{finite_at, floats_from, floats_count, floats_ok}

pub float_finite : (s : List ℕ) (at j : ℕ) → floats_ok s at ≡ true → j < floats_count (kind_at s at) (length_at s at)
    → is_finite (f64_at s (at + floats_from (kind_at s at) + 8 * j)) ≡ true
unfolding floats_ok finite_at
float_finite s at j e h = every_at (finite_at s) 8 (floats_count (kind_at s at) (length_at s at)) (at + floats_from (kind_at s at)) j e h
