-- Document 01's worked example, computed from the bytes of its input to all that the program prints; and the answers of one line.
-- Assumes nothing.
use mathlib.Core.Path.{◌≡◌, refl}
use mathlib.Core.List.{List, [], ◌∷◌, ◌++◌}
use Prim.Native.Nat.{ℕ}
use lib.ListN.{replicate, take}
use Rattle.std.specs.Prelude.{Err}
use Rattle.streams.specs.declared.input.ReadError.TheVariants.{TooLong, Unreadable}
use Rattle.fields.specs.Field.{uint, f64, record_bytes}
use Rattle.abstract_sheet.proofs.Examples.{worked_text, worked_cell, worked_sheet}
use Rattle.plan_text.specs.Ascii.{ascii}
use Rattle.plan_query.proofs.Opened.{opened_query}
use Rattle.plan_text.proofs.Opened.{opened_text}
use Rattle.plan_rules.specs.Event.{encode}
use Rattle.plan_rules.proofs.Cases.Opened.{opened}
use Rattle.plan_rules.proofs.Cases.OpenedSheet.{opened_sheet}
use Rattle.plan_rules.specs.Samples.{whole}
use Rattle.plan_answer.specs.Text.{outcome_text}
use Rattle.plan_answer.specs.Reply.{Reply, reply_of_query, reply_of, reply_of_input}

-- "view 0, 0, 100, 100, zoom 1, depth 1", as a record of kind 20
abbrev worked_query : List ℕ
worked_query =
    record_bytes
    (uint 4 54 ∷ uint 2 20 ∷ uint 4 0 ∷ uint 4 1 ∷ f64 (whole 0) ∷ f64 (whole 0) ∷ f64 (whole 100) ∷ f64 (whole 100) ∷ f64 (whole 1) ∷ [])

-- lent: no hidden layer, a tape of 88 bytes, a count and three marks
abbrev replied : List ℕ → Reply
replied s = reply_of s [] [] (replicate 88 7) (8 ∷ []) (9 ∷ 9 ∷ 9 ∷ [])

-- "All it prints"
pub worked_example : (replied (worked_query ++ worked_sheet)).text ≡ ascii "text 0 4024000000000000 4034000000000000\ntotals 1 1 0 0 0 0 0\n"
unfolding opened_query opened_text opened_sheet opened encode worked_text worked_cell worked_sheet outcome_text reply_of_query reply_of
worked_example = refl

-- "A refusal prints `refused`, number, offset": a byte behind the sheet
pub refusal : (replied (worked_query ++ worked_sheet ++ (0 ∷ []))).text ≡ ascii "refused 2 86\n"
unfolding opened_query opened_text opened_sheet opened encode worked_text worked_cell worked_sheet outcome_text reply_of_query reply_of
refusal = refl

-- "A first record that is no whole query prints `no query`"
pub no_query : (replied (take 53 worked_query)).text ≡ ascii "no query\n"
unfolding opened_query opened_text reply_of
no_query = refl

-- "Input beyond the program's buffers .. prints `too long` before all else"
pub too_long : (b : List ℕ) → (reply_of_input b (Err TooLong) [] [] [] [] []).text ≡ ascii "too long\n"
too_long b = refl

-- a plan is never printed of an input that could not be read to its end
pub unreadable : (b f h o k m : List ℕ) → (reply_of_input b (Err Unreadable) f h o k m).text ≡ ascii "unreadable\n"
unreadable b f h o k m = refl
