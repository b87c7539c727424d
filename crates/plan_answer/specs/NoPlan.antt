-- Why there is no plan, and the one line that says so. Document 01: "A refusal prints `refused`, number, offset. A first record that is
-- no whole query prints `no query`. Input beyond the program's buffers, whose sizes docs/ gives, prints `too long` before all else."
-- Input that cannot be read to its end prints `unreadable`: added, and never a plan.
-- Definitions only; rests on plan_text's lines.
use Rattle.std.specs.Prelude.{List, ℕ}
use Rattle.streams.specs.declared.input.ReadError.{ReadError}
use Rattle.streams.specs.declared.input.ReadError.TheVariants as read
use Rattle.plan_query.specs.declared.QueryError.{QueryError}
use Rattle.plan_query.specs.declared.QueryError.TheVariants as query
use Rattle.plan_text.specs.Ascii.{ascii}
use Rattle.plan_text.specs.Text.{refused_line}
use Rattle.plan_answer.specs.declared.no_plan.NoPlan.{NoPlan}
use Rattle.plan_answer.specs.declared.no_plan.NoPlan.TheVariants.{Refused, NoQuery, TooLong, Unreadable}

-- without a query
abbrev pub without_query : QueryError → NoPlan
without_query query.NoQuery = NoQuery
without_query query.TooLong = TooLong

-- without a whole input
abbrev pub without_input : ReadError → NoPlan
without_input read.TooLong = TooLong
without_input read.Unreadable = Unreadable

abbrev pub no_query_line : List ℕ
no_query_line = ascii "no query\n"

abbrev pub too_long_line : List ℕ
too_long_line = ascii "too long\n"

abbrev pub unreadable_line : List ℕ
unreadable_line = ascii "unreadable\n"

abbrev pub line_instead : NoPlan → List ℕ
line_instead (Refused number offset) = refused_line number offset
line_instead NoQuery = no_query_line
line_instead TooLong = too_long_line
line_instead Unreadable = unreadable_line
