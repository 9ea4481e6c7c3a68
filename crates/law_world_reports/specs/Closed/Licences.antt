-- what closed a node that a report tells closed, and where that shows (profile)
use Rattle.std.specs.Prelude.{◌≡◌, ℕ, List, [], true, Some}
use Rattle.rh_text.specs.declared.ends.Dir.{Dir}
use Rattle.rh_line.specs.declared.cause.Cause.{Cause}
use Rattle.rh_line.specs.declared.cause.Cause.TheVariants as cause
use Rattle.rh_line.specs.declared.leg.Leg.{Leg}
use Rattle.rh_line.specs.Texts.{cause_leg}
use Rattle.rh_record.specs.declared.answer.Answer.{Answer}
use Rattle.rh_record.specs.declared.answer.Answer.TheVariants as answer
use Rattle.rh_record.specs.declared.answer.Who.{Who}
use Rattle.rh_record.specs.declared.answer.Who.TheVariants.{Client, Server, In, Out}
use Rattle.rh_record.specs.declared.line.Line.{Line}
use Rattle.rh_shell.specs.Rules.{Rules}
use Rattle.rh_wires.specs.Wires.{receiver}
use Rattle.rh_company.specs.declared.event.Event.{Event}
use Rattle.rh_company.specs.declared.event.Event.TheVariants.{Comes, Ends, Breaks, Passes}
use Rattle.rh_company.specs.declared.place.Place.{Place}
use Rattle.rh_company.specs.declared.place.Place.TheVariants.{Absent, Here, Gone}
use Rattle.rh_company.specs.Company.{Company, Rulebook}
use Rattle.rh_nodes.specs.Giving.{Deeds}
use Rattle.rh_nodes.specs.Opening.{Makers}
use Rattle.rh_nodes.specs.Steps.{step_line}
use Rattle.rh_nodes.specs.World.{World, at}
use Rattle.law_node_history.specs.Changes.{all_changed}
use Rattle.law_node_history.specs.Closes.{IsClosedBy, IsOneOf}
use Rattle.law_node_history.specs.Histories.{in_place, out_place}
use Rattle.law_node_causes.specs.Closings.{MayClose}
use Rattle.law_world_reports.specs.Closed.Shows.{Shows, ShowsEnd, ShownWorks}

-- ---- the cause that an event may have, by the rules of the node's role

abbrev pub MayCloseThere : {S : Type 0} → Rules S → Place S → Event → Cause → Type 0
MayCloseThere rules Absent event why = ⊥
MayCloseThere rules (Here node legs) event why = MayClose rules node event why
MayCloseThere rules (Gone now) event why = ⊥

abbrev pub MayCloseAt : {C S I O : Type 0} → Rulebook C S I O → Company C S I O → Who → Event
    → Cause → Type 0
MayCloseAt r c Client event why = MayClose r.client c.client event why
MayCloseAt r c Server event why = MayClose r.server c.server event why
MayCloseAt r c (In n) event why = MayCloseThere r.in_proxy (in_place c n) event why
MayCloseAt r c (Out n) event why = MayCloseThere r.out_proxy (out_place c n) event why

-- ---- where a cause shows

-- the piece that came moved to the node on the leg, and is not empty
pub record ShowsMove {K C S I O : Type 0} (answers : List Answer) (w : World K C S I O)
    (node : Who) (event : Event) (leg : Leg) : Type 0 where
  pub piece : List ℕ
  pub came : event ≡ Comes leg piece
  pub dir : Dir
  pub reads : at w leg (receiver dir) ≡ node
  pub filled : piece ≡ [] → ⊥
  pub shown : IsOneOf (answer.Move (Some leg) dir (Some piece)) answers

-- a broken leg shows as a break, or as an end in the direction in which the node puts; an ended one
-- as an end in the direction in which it reads; silence as the moment; and what was amiss in bytes
-- as a move on the leg that the cause names, but where that was full for what came on another
abbrev pub ShowsCause : {K C S I O : Type 0} → List Answer → World K C S I O → Who → Event
    → Cause → Type 0
ShowsCause answers w node event (cause.LegBroken leg) = Shows answers w node (Breaks leg)
ShowsCause answers w node event (cause.LegEnded leg partial) = ShowsEnd answers w node leg
ShowsCause answers w node event (cause.Silent leg since now) =
    IsOneOf (answer.Tick now true) answers
ShowsCause answers w node event (cause.ControlFull leg) =
    (heard : Leg) × ShowsMove answers w node event heard
ShowsCause answers w node event why = ShowsMove answers w node event (cause_leg why)

-- what a cause tells of the event
abbrev pub IsPieceOn : Event → Leg → Type 0
IsPieceOn event leg = (piece : List ℕ) × (event ≡ Comes leg piece)

abbrev pub IsEventOf : Event → Cause → Type 0
IsEventOf event (cause.LegBroken leg) = event ≡ Breaks leg
IsEventOf event (cause.LegEnded leg partial) = event ≡ Ends leg
IsEventOf event (cause.Silent leg since now) = event ≡ Passes now
IsEventOf event (cause.ControlFull leg) = (heard : Leg) × IsPieceOn event heard
IsEventOf event why = IsPieceOn event (cause_leg why)

-- ---- a close that a line reports

-- one of the changes of the line, all of which its answers show, told the node what closed it; in
-- the world in the midst of the line the node's role allows that cause of that event
pub record IsLicensed {K C S I O : Type 0} (r : Rulebook C S I O) (m : Makers K I O)
    (d : Deeds C S) (line : Line) (w : World K C S I O) (node : Who) (why : Cause)
    : Type 0 where
  pub shown : ShownWorks r m d (step_line r m d line w).1 w (step_line r m d line w).0
  pub closed : IsClosedBy r m d w shown.works.leads.changes node why
  pub event : IsEventOf closed.closes.event why
  pub may : MayCloseAt r (all_changed r m d w closed.before).company node closed.closes.event why
  pub shows : ShowsCause (step_line r m d line w).1 (all_changed r m d w closed.before) node
      closed.closes.event why

-- the world in which the node was told what closed it
abbrev pub midst : {K C S I O : Type 0} → (r : Rulebook C S I O) → (m : Makers K I O)
    → (d : Deeds C S) → (line : Line) → (w : World K C S I O) → (node : Who) → (why : Cause)
    → IsLicensed r m d line w node why → World K C S I O
midst r m d line w node why is = all_changed r m d w is.closed.before
