-- each close has its `closed` line in the report (profile)
use Rattle.std.specs.Prelude.{◌≡◌, ◌++◌, List, ◌∷◌, IsTrue, Some}
use Rattle.rh_text.specs.declared.ends.Side.{Side}
use Rattle.rh_line.specs.declared.cause.Cause.{Cause}
use Rattle.rh_record.specs.declared.answer.Answer.{Answer}
use Rattle.rh_record.specs.declared.answer.Answer.TheVariants.{NodeClosed}
use Rattle.rh_record.specs.declared.answer.Who.{Who}
use Rattle.rh_record.specs.declared.line.Line.{Line}
use Rattle.law_node_history.specs.Closes.{IsOneOf}
use Rattle.law_node_history.specs.Standing.{StandsClosed}
use Rattle.rh_world.specs.declared.any_world.AnyWorld.{AnyWorld}
use Rattle.rh_world.specs.declared.any_world.AnyWorld.TheVariants.{Before, Direct, Settings, Roles}
use Rattle.rh_world.specs.Any.{after, answers}
use Rattle.law_world_reports.specs.Naming.{cause_told, tells_of}
use Rattle.law_world_reports.specs.Telling.{node_of}

-- a node stands closed with this cause; only a world of roles has nodes
abbrev pub StandsClosedIn : AnyWorld → Who → Cause → Type 0
StandsClosedIn Before node why = ⊥
StandsClosedIn (Direct w) node why = ⊥
StandsClosedIn (Settings config) node why = ⊥
StandsClosedIn (Roles w) node why = StandsClosed w.company node why

-- behind the lines, each node that stands closed is one that their answers report as closed so
abbrev pub ReportsCloses : List Line → Type 0
ReportsCloses lines =
    (node : Who) (why : Cause) → StandsClosedIn (after Before lines) node why
    → IsOneOf (NodeClosed node why) (answers Before lines)

-- where an answer of an end names a cause, the end was reported as closed with that cause before
abbrev pub NamesReported : List Answer → Type 0
NamesReported report =
    (end : Side) (front behind : List Answer) (one : Answer) (why : Cause)
    → report ≡ front ++ one ∷ behind → IsTrue (tells_of end one) → cause_told one ≡ Some why
    → IsOneOf (NodeClosed (node_of end) why) front
