-- a node of any role: what each call of its role does to it
use Rattle.std.specs.Prelude.{ℕ, ◌≤◌, List, [], ◌∷◌, Bool, length, take, max, min, Some, None, Ok, Err}
use Rattle.std.specs.declared.option.Option.{Option}
use Rattle.std.specs.declared.result.Result.{Result}
use Rattle.rh_rts.specs.declared.command.Cookie.{Cookie}
use Rattle.rh_text.specs.declared.ends.Side.{Side}
use Rattle.rh_text.specs.declared.ends.Side.TheVariants as sides
use Rattle.rh_sig.specs.declared.name.Pipe.{Pipe}
use Rattle.rh_sig.specs.declared.name.Pipe.TheVariants as pipes
use Rattle.rh_line.specs.declared.leg.Leg.{Leg}
use Rattle.rh_line.specs.declared.leg.LegKind.{LegKind}
use Rattle.rh_line.specs.declared.leg.LegKind.TheVariants as legs
use Rattle.rh_line.specs.declared.state.State.{State}
use Rattle.rh_line.specs.declared.state.Take.{Take}
use Rattle.rh_line.specs.declared.state.Take.TheVariants as taken_as
use Rattle.rh_line.specs.declared.state.Verdict.{Verdict}
use Rattle.rh_line.specs.declared.state.Verdict.TheVariants as verdicts
use Rattle.rh_line.specs.declared.give_fault.GiveFault.{GiveFault}
use Rattle.rh_line.specs.declared.recycle_fault.RecycleFault.{RecycleFault}
use Rattle.rh_record.specs.declared.answer.Answer.{Answer}
use Rattle.rh_record.specs.declared.answer.Answer.TheVariants as answers
use Rattle.rh_record.specs.declared.answer.TakeAnswer.{TakeAnswer}
use Rattle.rh_record.specs.declared.answer.TakeAnswer.TheVariants as takes
use Rattle.rh_shell.specs.Rules.{Rules, Acts}
use Rattle.rh_shell.specs.Shells as shells
use Rattle.rh_shell.specs.Shells.{Shell}
use Rattle.rh_shell.specs.Ends as ends
use Rattle.rh_client.specs.Client as clients
use Rattle.rh_server.specs.Servers as servers
use Rattle.rh_server.specs.FirstKinds as kinds
use Rattle.rh_server.specs.declared.first_frame.FirstKind.{FirstKind}
use Rattle.rh_server.specs.States.{no_cookie}
use Rattle.rh_inproxy.specs.Machine as in_proxies
use Rattle.rh_outproxy.specs.Machine as out_proxies
use Rattle.rh_outproxy.specs.OutProxy.{server_of}
use Rattle.rh_world.specs.declared.config.WorldConfig.{WorldConfig}
use Rattle.rh_world.specs.Roles as roles
use Rattle.rh_play.specs.declared.node.TheConstants.{CONNECTION, GROUP}
use Rattle.rh_play.specs.declared.node.Node.{Node}
use Rattle.rh_play.specs.declared.node.Node.TheVariants.{Client, Server, InProxy, OutProxy}
use Rattle.rh_script.specs.declared.step.Part.{Part}
use Rattle.rh_script.specs.declared.step.Part.TheVariants as parts
use Rattle.rh_script.specs.declared.step.Ask.{Ask}
use Rattle.rh_script.specs.declared.step.Ask.TheVariants.{Wants, May, Finished}
use Rattle.rh_script.specs.declared.step.Cut.{Cut}
use Rattle.rh_script.specs.declared.step.Cut.TheVariants.{Whole, Each}
use Rattle.rh_script.specs.declared.step.Loss.{Loss}
use Rattle.rh_script.specs.declared.step.Loss.TheVariants.{Ended, Broken}

-- the node that a part asks for, with these numbers
abbrev pub made : WorldConfig → Part → Node
made config parts.Client = Client (roles.client config CONNECTION GROUP)
made config parts.Server = Server (roles.server config)
made config (parts.InProxy number) = InProxy (roles.in_proxy config (max number 1))
made config (parts.OutProxy number) = OutProxy (roles.out_proxy config (max number 1))

-- ---- legs

abbrev pub wants : Node → Leg → Bool
wants (Client s) leg = shells.wants clients.rules s leg
wants (Server s) leg = shells.wants servers.rules s leg
wants (InProxy s) leg = shells.wants in_proxies.rules s leg
wants (OutProxy s) leg = shells.wants out_proxies.rules s leg

abbrev pub may_up : Node → Leg → Bool
may_up (Client s) leg = shells.may_up clients.rules s leg
may_up (Server s) leg = shells.may_up servers.rules s leg
may_up (InProxy s) leg = shells.may_up in_proxies.rules s leg
may_up (OutProxy s) leg = shells.may_up out_proxies.rules s leg

abbrev pub finished : Node → Leg → Bool
finished (Client s) leg = shells.finished clients.rules s leg
finished (Server s) leg = shells.finished servers.rules s leg
finished (InProxy s) leg = shells.finished in_proxies.rules s leg
finished (OutProxy s) leg = shells.finished out_proxies.rules s leg

abbrev pub asked : Node → Ask → Leg → Bool
asked node Wants leg = wants node leg
asked node May leg = may_up node leg
asked node Finished leg = finished node leg

-- a leg comes up, where it may; only a client has a cookie for it
abbrev pub seated : Node → Leg → Cookie → Node
seated (Client s) leg cookie = Client (shells.up clients.rules s leg cookie)
seated (Server s) leg cookie = Server (shells.up servers.rules s leg no_cookie)
seated (InProxy s) leg cookie = InProxy (shells.up in_proxies.rules s leg no_cookie)
seated (OutProxy s) leg cookie = OutProxy (shells.up out_proxies.rules s leg no_cookie)

abbrev pub up : Node → Leg → Cookie → Node × Bool
up node leg cookie = (seated node leg cookie, may_up node leg)

-- ---- events

-- what a role answers, of its node
abbrev pub of_node : {S X : Type 0} → (Shell S → Node) → Shell S × X → Node × X
of_node node answered = (node answered.0, answered.1)

abbrev pub heard : Node → Leg → List ℕ → Node × Verdict
heard (Client s) leg piece = of_node Client (shells.bytes clients.rules s leg piece)
heard (Server s) leg piece = of_node Server (shells.bytes servers.rules s leg piece)
heard (InProxy s) leg piece = of_node InProxy (shells.bytes in_proxies.rules s leg piece)
heard (OutProxy s) leg piece = of_node OutProxy (shells.bytes out_proxies.rules s leg piece)

-- one byte after the other; the verdict is that behind the last
abbrev pub each_from : Leg → List ℕ → Node × Verdict → Node × Verdict
each_from leg [] answered = answered
each_from leg (byte ∷ bytes) answered =
    each_from leg bytes (heard answered.0 leg (byte ∷ []))

abbrev pub heard_each : Node → Leg → List ℕ → Node × Verdict
heard_each node leg bytes = each_from leg bytes (node, verdicts.Going)

abbrev pub fed : Node → Cut → Leg → List ℕ → Node × Verdict
fed node Whole leg bytes = heard node leg bytes
fed node Each leg bytes = heard_each node leg bytes

abbrev pub ended : Node → Leg → Node × Verdict
ended (Client s) leg = of_node Client (shells.ended clients.rules s leg)
ended (Server s) leg = of_node Server (shells.ended servers.rules s leg)
ended (InProxy s) leg = of_node InProxy (shells.ended in_proxies.rules s leg)
ended (OutProxy s) leg = of_node OutProxy (shells.ended out_proxies.rules s leg)

abbrev pub broken : Node → Leg → Node × Verdict
broken (Client s) leg = of_node Client (shells.broken clients.rules s leg)
broken (Server s) leg = of_node Server (shells.broken servers.rules s leg)
broken (InProxy s) leg = of_node InProxy (shells.broken in_proxies.rules s leg)
broken (OutProxy s) leg = of_node OutProxy (shells.broken out_proxies.rules s leg)

abbrev pub lost : Node → Loss → Leg → Node × Verdict
lost node Ended leg = ended node leg
lost node Broken leg = broken node leg

abbrev pub drawn : Node → Leg → ℕ → Node × List ℕ
drawn (Client s) leg room = of_node Client (shells.drawn clients.rules s leg room)
drawn (Server s) leg room = of_node Server (shells.drawn servers.rules s leg room)
drawn (InProxy s) leg room = of_node InProxy (shells.drawn in_proxies.rules s leg room)
drawn (OutProxy s) leg room = of_node OutProxy (shells.drawn out_proxies.rules s leg room)

abbrev pub ticked : Node → ℕ → Node × Verdict
ticked (Client s) now = of_node Client (shells.tick clients.rules s now)
ticked (Server s) now = of_node Server (shells.tick servers.rules s now)
ticked (InProxy s) now = of_node InProxy (shells.tick in_proxies.rules s now)
ticked (OutProxy s) now = of_node OutProxy (shells.tick out_proxies.rules s now)

abbrev pub state : Node → State
state (Client s) = shells.state_of clients.rules s
state (Server s) = shells.state_of servers.rules s
state (InProxy s) = shells.state_of in_proxies.rules s
state (OutProxy s) = shells.state_of out_proxies.rules s

-- the pipe on which a node puts packets of a leg, where it puts any there
abbrev pub put_on : Node → LegKind → Option Pipe
put_on (Client s) legs.ClientIn = Some pipes.CiU
put_on (Client s) legs.ClientOut = Some pipes.CoU
put_on (Client s) _ = None
put_on (Server s) legs.InServer = Some pipes.IsD
put_on (Server s) legs.OutServer = Some pipes.OsD
put_on (Server s) _ = None
put_on (InProxy s) legs.InServer = Some pipes.IsU
put_on (InProxy s) _ = None
put_on (OutProxy s) legs.ClientOut = Some pipes.CoD
put_on (OutProxy s) legs.OutServer = Some pipes.OsU
put_on (OutProxy s) _ = None

-- ---- ends and proxies; none where the node is no such one

abbrev pub given_text : List ℕ → Result (Unit {0}) GiveFault → Result ℕ GiveFault
given_text pdu (Ok done) = Ok (min (length pdu) 65535)
given_text pdu (Err fault) = Err fault

abbrev pub give_answer : Side → List ℕ → Result (Unit {0}) GiveFault → Answer
give_answer side pdu given = answers.Give side (given_text pdu given)

abbrev pub gave : {S : Type 0} → (Shell S → Node) → Side → List ℕ
    → Shell S × Result (Unit {0}) GiveFault → Node × Option Answer
gave node side pdu given = (node given.0, Some (give_answer side pdu given.1))

abbrev pub given : Node → List ℕ → Node × Option Answer
given (Client s) pdu = gave Client sides.Client pdu (ends.give clients.acts s pdu)
given (Server s) pdu = gave Server sides.Server pdu (ends.give servers.acts s pdu)
given (InProxy s) pdu = (InProxy s, None)
given (OutProxy s) pdu = (OutProxy s, None)

-- a PDU that is taken fits into the room
abbrev pub Fits : Take → List ℕ → Type 0
Fits (taken_as.Pdu len) room = len ≤ length room
Fits taken_as.Empty room = Unit {0}
Fits taken_as.Ended room = Unit {0}
Fits (taken_as.Closed why) room = Unit {0}

-- what is answered to a take, whose PDU stands at the front of the room
abbrev pub take_answer : Take → List ℕ → TakeAnswer
take_answer (taken_as.Pdu len) room = takes.Pdu (take len room)
take_answer taken_as.Empty room = takes.Empty
take_answer taken_as.Ended room = takes.Ended
take_answer (taken_as.Closed why) room = takes.Closed why

-- the first PDU of a line, where there is one
abbrev pub first_of : List (List ℕ) → List ℕ
first_of [] = []
first_of (pdu ∷ pdus) = pdu

abbrev pub took_first : Take → List (List ℕ) → TakeAnswer
took_first (taken_as.Pdu len) pdus = takes.Pdu (first_of pdus)
took_first taken_as.Empty pdus = takes.Empty
took_first taken_as.Ended pdus = takes.Ended
took_first (taken_as.Closed why) pdus = takes.Closed why

abbrev pub end_takes : Side → TakeAnswer → Option Answer
end_takes side answer = Some (answers.Take side answer)

abbrev pub took : {S : Type 0} → Acts S → (Shell S → Node) → Side → Shell S → Node × Option Answer
took acts node side s = (
  node (ends.after_take acts s),
  end_takes side (took_first (ends.take_answer acts s) (acts.line s.role).current.pdus),
)

abbrev pub taken : Node → Node × Option Answer
taken (Client s) = took clients.acts Client sides.Client s
taken (Server s) = took servers.acts Server sides.Server s
taken (InProxy s) = (InProxy s, None)
taken (OutProxy s) = (OutProxy s, None)

abbrev pub closed : Node → Node × Option Answer
closed (Client s) = (Client (ends.close clients.acts s), Some (answers.Close sides.Client))
closed (Server s) = (Server (ends.close servers.acts s), Some (answers.Close sides.Server))
closed (InProxy s) = (InProxy s, None)
closed (OutProxy s) = (OutProxy s, None)

abbrev pub recycled_by : {S : Type 0} → (Shell S → Node)
    → (Result (Unit {0}) RecycleFault → Answer)
    → Shell S × Result (Unit {0}) RecycleFault → Node × Option Answer
recycled_by node answer did = (node did.0, Some (answer did.1))

abbrev pub recycled : Node → Node × Option Answer
recycled (Client s) =
    recycled_by Client answers.RecycleIn (ends.recycle clients.acts clients.rules s)
recycled (Server s) =
    recycled_by Server answers.RecycleOut (ends.recycle servers.acts servers.rules s)
recycled (InProxy s) = (InProxy s, None)
recycled (OutProxy s) = (OutProxy s, None)

abbrev pub channels : Node → Option (ℕ × ℕ)
channels (Client s) = Some (clients.acts.channels s.role)
channels (Server s) = Some (servers.acts.channels s.role)
channels (InProxy s) = None
channels (OutProxy s) = None

-- the host and port that a client asked a proxy for
abbrev pub target : Node → Option (Option (List ℕ × ℕ))
target (Client s) = None
target (Server s) = None
target (InProxy s) = Some s.role.target
target (OutProxy s) = Some (server_of s.role.request)

abbrev pub first : Node → List ℕ → Option FirstKind
first (Client s) bytes = None
first (Server s) bytes = Some (kinds.first_kind bytes)
first (InProxy s) bytes = None
first (OutProxy s) bytes = None
