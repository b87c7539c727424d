-- THE PROOF OF DEMAND 3. Where each hypothesis enters: square and the depth in `Exactness`, true boxes in `Enclosure`, the whole-number view in `Cover`, zoom in `EventFacts`.
--     Tests         tests of the rules, taken apart
--     Exactness     placed boxes, moved points and members are exact; what is skipped is under one pixel
--     Enclosure     true boxes hold whatever a path reaches
--     Loops         loops that stop early
--     TagPaths      tags and paths
--     Cover         every path in view on a shown layer is claimed by an event
--     EveryEvent    a fact of every event, by the rules' induction
--     Standing      where a visit stands, at placements of any kind
--     EventFacts    what each event says is so
--     Once          no path is listed twice
--     Tally         a proxy is dropped only when 100,000 are listed, and counted
--     Demand3       the parts joined: the theorem about the rules
--     AcceptedCall  what an accepted call gives, and the theorem about its bytes
--     Manual        every record stands where the manual's placing along its path puts it
--     Examples      sheets that are square with true boxes, and their plans
--     Opposites     plans of changed rules, of which demand 3 is false
-- Assumes nothing.
pub mod Tests
pub mod Exactness
pub mod Enclosure
pub mod Loops
pub mod TagPaths
pub mod Cover
pub mod EveryEvent
pub mod Standing
pub mod EventFacts
pub mod Once
pub mod Tally
pub mod Demand3
pub mod AcceptedCall
pub mod Manual
pub mod Examples
pub mod Opposites
