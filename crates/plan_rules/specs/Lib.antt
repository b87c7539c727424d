-- THE RULES of a plan, in document 01's order.
--     Limits       the limits, each in one place
--     Event        what happens in a plan, where, its record on the tape, and what it adds to the totals
--     World        the query, the state with its lent places, and loops that may stop early
--     Scratch      the places of the lent counts and marks
--     DrawUnits    `reference_draw_units`, `source_draw_units`, `cell_draw_units`
--     Push         `add_load`, `push_geometry`, `push_text`, `push_node`
--     Visit        `visit_cell`, `visit_reference`, `visit_source`
--     Plan         `plan`, and the totals
--     Tape         the code's end of the rules, bytes, and the proofs', events
--     Questions    questions 8 to 11, of the query and the lent scratch: the number of the first no
--     Outcome      the whole outcome of a call: questions 1 to 12, the tape, and every lent place
--     OnTape       the rules at the code's end, by the names that the planner's contracts cite
--     Maps         the draw units over the Rust's maps and sets: the lent scratch stands for them
--     MappedPlan   a plan over these maps and sets
--     Samples      small sheets and queries
--     Readings     the readings at the edges that document 01 marks P, as document 02 changes them
--     UnusedSites  document 02, paper 3: its sentences, as types
--     NodeGrid     document 02, paper 5: its sentences, as types
--     Deeper       document 02, paper 13: its sentences, as types
--     Statements   what is proved of the rules, as types
-- Definitions only; the facts about them are in proofs/.
pub mod Limits
pub mod Event
pub mod World
pub mod Scratch
pub mod DrawUnits
pub mod Push
pub mod Visit
pub mod Plan
pub mod Tape
pub mod Questions
pub mod Outcome
pub mod OnTape
pub mod Maps
pub mod MappedPlan
pub mod Samples
pub mod Readings
pub mod UnusedSites
pub mod NodeGrid
pub mod Deeper
pub mod Statements
