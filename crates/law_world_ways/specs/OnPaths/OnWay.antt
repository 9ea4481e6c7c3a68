-- what stands on one direction of a leg (profile)
use Rattle.std.specs.Prelude.{ℕ, ◌++◌, ◌&&◌, not, List, [], Bool, true, false, if◌then◌else◌, Some, None}
use Rattle.std.specs.declared.option.Option.{Option}
use Rattle.law_order.specs.Items.{Item}
use Rattle.law_order.specs.Logs.{seen}
use Rattle.rh_sig.specs.declared.name.Pipe.{Pipe}
use Rattle.rh_line.specs.declared.leg.Leg.{Leg}
use Rattle.rh_shell.specs.declared.course.Course.{Course}
use Rattle.rh_shell.specs.declared.course.Course.TheVariants.{Going, Closed, Refusing}
use Rattle.rh_shell.specs.NearEnds.{NearEnd, is_over}
use Rattle.rh_shell.specs.Rules.{Rules, Message}
use Rattle.rh_shell.specs.Shells.{Shell, end_at}
use Rattle.law_moves.specs.ReadBack.Reading.{Reading, begin, messages_from, reading}
use Rattle.law_node_streams.specs.Streams.{is_live, is_refused_on}

-- ---- the end that puts

-- the bytes that are begun and not drawn, where the node closed as well: none where the leg did not
-- come up, and where the node forgot it and was not told that it is lost, since it drew all before.
-- They are not told of a leg that is lost and forgotten, nor of one on which a node refuses its
-- client, where nothing was put
abbrev pub left_at : Bool → Bool → Option NearEnd → Option (List ℕ)
left_at up told (Some end) = Some end.begun
left_at true true None = None
left_at true false None = Some []
left_at false told None = Some []

abbrev pub left_on : {S : Type 0} → Shell S → Leg → Bool → Bool → Option (List ℕ)
left_on s leg up told =
    if is_refused_on leg s.course then None else left_at up told (end_at s leg)

-- ---- the end that takes

-- where it stands in what it reads: at the beginning where the leg did not come up. Of a leg that
-- is of no more use, or whose bytes are passed over, and of a node that closed, it is not told
abbrev pub read_at : {S : Type 0} → Rules S → S → Option Pipe → Bool → Option NearEnd
    → Option Reading
read_at rules role pipe up (Some end) =
    if not (is_over rules end role) && is_live end.intake.stage
    then Some (reading end.intake.stage end.intake.held) else None
read_at rules role pipe true None = None
read_at rules role pipe false None = Some (begin pipe)

abbrev pub read_by : {S : Type 0} → Rules S → S → Option Pipe → Bool → Option NearEnd → Course
    → Option Reading
read_by rules role pipe up end Going = read_at rules role pipe up end
read_by rules role pipe up end (Closed why) = None
read_by rules role pipe up end (Refusing why leg rest) = None

abbrev pub read_on : {S : Type 0} → Rules S → Shell S → Option Pipe → Leg → Bool
    → Option Reading
read_on rules s pipe leg up = read_by rules s.role pipe up (end_at s leg) s.course

-- ---- between them

-- the messages that are read, from where the end that takes stands, in the bytes in flight and then
-- in those that are begun at the end that puts. A leg gives nothing more where it is cut, or one of
-- these is not told
abbrev pub on_way : Option Pipe → Bool → Option Reading → List ℕ → Option (List ℕ)
    → Option (List Message)
on_way pipe true read flight begun = None
on_way pipe false None flight begun = None
on_way pipe false (Some r) flight None = None
on_way pipe false (Some r) flight (Some begun) = Some (messages_from pipe r (flight ++ begun))

-- what order sees of them
abbrev pub items_on_way : (Message → List Item) → Option (List Message) → List Item
items_on_way view None = []
items_on_way view (Some messages) = seen view messages

-- the leg gives nothing more
abbrev pub is_lost : Option (List Message) → Bool
is_lost None = true
is_lost (Some messages) = false
