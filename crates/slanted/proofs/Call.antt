-- PAPER 14 OF A CALL: an accepted call's output is the records of the rules' events. Assumes nothing.
use Prim.Native.Nat.{ℕ}
use Rattle.abstract_sheet.specs.Sheet.{sheet_of}
use Rattle.check_sheet.specs.Count.{counts_of}
use Rattle.cover.specs.Demand3.{events_of}
use Rattle.cover.proofs.AcceptedCall.{accepted_call, counts, marks}
use Rattle.fractions.specs.Errors.{position_error, most_bounded}
use Rattle.slanted.specs.Slanted.{WithinOfRules, WithinOfCall, most_references, sixty_fourth, Slanted, ByReferences}
use Rattle.slanted.proofs.Rules.{slanted_of_rules, by_references_of_rules}

-- what holds of the rules' events holds of them in a call
of_call : (most : ℕ) (E : ℕ → ℕ) (k : ℕ) → WithinOfRules most E k → WithinOfCall most E k
of_call most E k within s q o c m bounds e =
    let S = sheet_of s in
    let cells = (counts_of s).cells in
    (events_of s q, (accepted_call s q o c m e).tape, within S bounds q cells (counts S cells q) (marks S cells q))

pub slanted : Slanted
slanted = of_call most_references (λ n. 1) sixty_fourth slanted_of_rules

pub by_references : ByReferences
by_references = of_call most_bounded position_error 53 by_references_of_rules
