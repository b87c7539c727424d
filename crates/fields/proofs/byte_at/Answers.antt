-- `fields::byte_at` meets its contract. Assumes nothing.
use mathlib.Core.Path.{sym}
use Rattle.fields.specs.Field.{uint_at}
use Rattle.fields.proofs.Reading.{uint_at_past_end}
use borrow.Author.Rules.{rules}
use Rattle.fields.proofs.byte_at.Goals as goal

pub returns-then-at-s : goal.returns-then-at-s
unfolding uint_at
returns-then-at-s c = search rules

pub returns : goal.returns
returns c = sym (uint_at_past_end 1 c.args.s.now c.args.at c.if-at-s.false)
