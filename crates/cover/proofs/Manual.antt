-- THE MANUAL'S PLACING ALONG A PATH: the statement is in specs/Manual.antt. A record lists its path at the exact placement (`EventFacts`); the members of that path put every point
-- where that placement does, since each member keeps it so.
-- Assumes nothing.
use mathlib.Core.List.{[]}
use Rattle.abstract_sheet.specs.Sheet.{Sheet, sheet_of}
use Rattle.exact.specs.Placement.{vector_of}
use Rattle.exact.specs.Member.{grid_of}
use Rattle.exact.specs.Manual.{manual_along, PlacesAlong}
use Rattle.exact.proofs.Placements.Moving.{vector_same}
use Rattle.exact.proofs.Placements.Manual.{root_along, member_along}
use Rattle.check_sheet.specs.Count.{counts_of}
use Rattle.plan_rules.specs.Event.{Event}
use Rattle.plan_rules.specs.World.{Query}
use Rattle.paths.specs.Path as paths
use Rattle.paths.proofs.Leads.{SameItem, same_batch, same_text, same_point, leads_same}
use Rattle.cover.specs.Path.{Path, Item, member_at}
use Rattle.cover.specs.View.{text_position, point_position}
use Rattle.cover.specs.Covered.{Lists, lists_batch, lists_text, lists_point, ListsItsPath}
use Rattle.cover.specs.Demand3.{events_of}
use Rattle.cover.specs.Manual.{Members, through_member, StandsByManual, batch_stands, text_stands, point_stands, StandsAlongItsPath, ManualAlongPathOfRules, ManualAlongPath}
use Rattle.cover.proofs.TagPaths.{all_map}
use Rattle.cover.proofs.EventFacts.{plan_listed}
use Rattle.cover.proofs.AcceptedCall.{accepted_call, counts, marks}

stands : {h : Item} {k : paths.Item Members} {e : Event} → SameItem PlacesAlong h k → Lists h e → StandsByManual k e
stands (same_batch {T = T} along) (lists_batch i) = batch_stands T i along
stands (same_text {x = x} {T = T} {U = members} along) (lists_text {v = v} i) = text_stands (vector_same v (text_position x T) (manual_along members (vector_of x.origin)) (along (vector_of x.origin)) i)
stands (same_point {j = j} {x = x} {T = T} {U = members} along) (lists_point {v = v} i) = point_stands (vector_same v (point_position x j T) (manual_along members (vector_of (x.point j))) (along (vector_of (x.point j))) i)

stands_along_its_path : (S : Sheet) (q : Query) (p : Path) (e : Event) → ListsItsPath S q p e → StandsAlongItsPath S q p e
stands_along_its_path S q p e l =
    let k = leads_same PlacesAlong member_at through_member S (λ T U n r column row _ _ _ along. member_along T U (grid_of r.grid) column row along) [] root_along l.1 in
    (k.0, k.1, stands k.2 l.2)

pub manual_along_path_of_rules : ManualAlongPathOfRules
manual_along_path_of_rules S square few q depth cells counts marks = all_map _ (λ x l r. stands_along_its_path S q x.0 x.1 (l r)) (plan_listed S q few square cells depth counts marks)

pub manual_along_path : ManualAlongPath
manual_along_path s q o k m square e =
    let a = accepted_call s q o k m e in
    let S = sheet_of s in
    let cells = (counts_of s).cells in
    (events_of s q, a.tape, manual_along_path_of_rules S square a.few q a.depth cells (counts S cells q) (marks S cells q))
