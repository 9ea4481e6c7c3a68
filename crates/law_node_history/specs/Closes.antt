-- the nodes that closed, and what closed them (profile)
use Rattle.std.specs.Prelude.{◌≡◌, ◌⊎◌, ◌+◌, ◌++◌, if◌then◌else◌, ℕ, List, [], ◌∷◌, Some, None, Err}
use Rattle.std.specs.declared.option.Option.{Option}
use Rattle.rh_text.specs.declared.ends.Side.TheVariants as side
use Rattle.rh_line.specs.declared.cause.Cause.{Cause}
use Rattle.rh_line.specs.declared.give_fault.GiveFault.TheVariants as give_fault
use Rattle.rh_line.specs.declared.recycle_fault.RecycleFault.TheVariants as recycle_fault
use Rattle.rh_line.specs.declared.state.State.TheVariants as state
use Rattle.rh_record.specs.declared.answer.Answer.{Answer}
use Rattle.rh_record.specs.declared.answer.Answer.TheVariants as answer
use Rattle.rh_record.specs.declared.answer.TakeAnswer.TheVariants as takes
use Rattle.rh_record.specs.declared.answer.Who.{Who}
use Rattle.rh_record.specs.declared.answer.Who.TheVariants as who
use Rattle.rh_record.specs.declared.line.Line.{Line}
use Rattle.rh_shell.specs.Shells.{state_of}
use Rattle.rh_wires.specs.Legs as legs
use Rattle.rh_wires.specs.Wires.{receiver}
use Rattle.rh_company.specs.declared.event.Event.{Event}
use Rattle.rh_company.specs.declared.event.Event.TheVariants.{Comes}
use Rattle.rh_company.specs.declared.place.Place.{Place}
use Rattle.rh_company.specs.declared.place.Place.TheVariants.{Absent, Here, Gone}
use Rattle.rh_company.specs.Company as company
use Rattle.rh_company.specs.Company.{Company, Rulebook}
use Rattle.rh_nodes.specs.Giving.{Deeds, give, take, recycle_in, recycle_out}
use Rattle.rh_nodes.specs.Halves.{is_same}
use Rattle.rh_nodes.specs.Opening.{Makers}
use Rattle.rh_nodes.specs.Steps.{last_with, last_of, step_line}
use Rattle.rh_nodes.specs.World.{World, at}
use Rattle.law_moves.specs.Laws.{ClosedWith}
use Rattle.law_node_history.specs.Changes.{Change, IsTold, IsFed, all_changed, Works}
use Rattle.law_node_history.specs.Histories.{in_place, out_place}

-- one of a list
abbrev pub IsOneOf : {X : Type 0} → X → List X → Type 0
IsOneOf x [] = ⊥
IsOneOf x (y ∷ ys) = (y ≡ x) ⊎ IsOneOf x ys

-- how often a report tells that a node closed
abbrev pub closing_of : Who → Answer → ℕ
closing_of node (answer.NodeClosed closed why) = if is_same closed node then 1 else 0
closing_of node other = 0

abbrev pub closings_of : Who → List Answer → ℕ
closings_of node [] = 0
closings_of node (one ∷ answers) = closing_of node one + closings_of node answers

-- ---- what closes a node

-- who is told what by a change
abbrev pub told_by : {K C S I O : Type 0} → World K C S I O → Change → Option (Who × Event)
told_by w (IsTold node event) = Some (node, event)
told_by w (IsFed leg dir count) =
    Some (at w leg (receiver dir), Comes leg (legs.take_out leg dir count w.legs).1)
told_by w change = None

-- a change tells a node something, and that closes it
pub record ClosesNode {K C S I O : Type 0} (r : Rulebook C S I O) (w : World K C S I O)
    (change : Change) (node : Who) (why : Cause) : Type 0 where
  pub event : Event
  pub told : told_by w change ≡ Some (node, event)
  pub closes : (company.tell r w.company node event).1 ≡ Some why

-- one of the changes does
pub record IsClosedBy {K C S I O : Type 0} (r : Rulebook C S I O) (m : Makers K I O)
    (d : Deeds C S) (w : World K C S I O) (changes : List Change) (node : Who) (why : Cause)
    : Type 0 where
  pub before : List Change
  pub change : Change
  pub after : List Change
  pub split : changes ≡ before ++ change ∷ after
  pub closes : ClosesNode r (all_changed r m d w before) change node why

-- the changes of a line do, before it reports
pub record LineCloses {K C S I O : Type 0} (r : Rulebook C S I O) (m : Makers K I O)
    (d : Deeds C S) (line : Line) (w : World K C S I O) (node : Who) (why : Cause)
    : Type 0 where
  pub works : Works r m d w (step_line r m d line w).0
  pub closed : IsClosedBy r m d w works.leads.changes node why

-- ---- nodes that are closed

-- a proxy that was let go tells no cause any more
abbrev pub ClosedPlace : {S : Type 0} → Cause → Place S → Type 0
ClosedPlace why Absent = ⊥
ClosedPlace why (Here node legs) = ClosedWith why node.course
ClosedPlace why (Gone now) = Unit {0}

abbrev pub HasClosed : {C S I O : Type 0} → Company C S I O → Who → Cause → Type 0
HasClosed c who.Client why = ClosedWith why c.client.course
HasClosed c who.Server why = ClosedWith why c.server.course
HasClosed c (who.In n) why = ClosedPlace why (in_place c n)
HasClosed c (who.Out n) why = ClosedPlace why (out_place c n)

-- what a closed client is, and what it answers
pub record ClientTells {K C S I O : Type 0} (r : Rulebook C S I O) (d : Deeds C S)
    (w : World K C S I O) (why : Cause) : Type 0 where
  pub is : state_of r.client w.company.client ≡ state.Closed why
  pub give : (pdu : List ℕ)
      → (give d w side.Client pdu).1 ≡ answer.Give side.Client (Err (give_fault.Closed why))
  pub take : (take d w side.Client).1 ≡ takes.Closed why
  pub recycle : (recycle_in d.client r.client w).1
      ≡ answer.RecycleIn (Err recycle_fault.NotOpen)
  pub last : last_of r d w side.Client
      ≡ last_with side.Client (state.Closed why) (d.client.channels w.company.client.role)

-- and a closed server
pub record ServerTells {K C S I O : Type 0} (r : Rulebook C S I O) (d : Deeds C S)
    (w : World K C S I O) (why : Cause) : Type 0 where
  pub is : state_of r.server w.company.server ≡ state.Closed why
  pub give : (pdu : List ℕ)
      → (give d w side.Server pdu).1 ≡ answer.Give side.Server (Err (give_fault.Closed why))
  pub take : (take d w side.Server).1 ≡ takes.Closed why
  pub recycle : (recycle_out d.server r.server w).1
      ≡ answer.RecycleOut (Err recycle_fault.NotOpen)
  pub last : last_of r d w side.Server
      ≡ last_with side.Server (state.Closed why) (d.server.channels w.company.server.role)
