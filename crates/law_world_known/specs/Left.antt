-- where nothing is left once the hops of the client are known (MS-RPCH 3.2; profile)
use Rattle.std.specs.Prelude.{◌≡◌, ◌++◌, ℕ, List, [], ◌∷◌, true, Some}
use Rattle.rh_text.specs.declared.ends.Side.TheVariants.{Client, Server as Serving}
use Rattle.rh_rts.specs.declared.command.Cookie.{Cookie}
use Rattle.rh_record.specs.declared.answer.Answer.{Answer}
use Rattle.rh_record.specs.declared.answer.Answer.TheVariants.{Quiet}
use Rattle.rh_record.specs.declared.line.Line.{Line}
use Rattle.rh_record.specs.declared.line.Line.TheVariants.{First, Settle}
use Rattle.rh_record.specs.Events.Events.{events, given, offered, taken}
use Rattle.rh_inproxy.specs.State.{InProxy}
use Rattle.rh_outproxy.specs.OutProxy.{OutProxy, joined}
use Rattle.rh_client.specs.State as client
use Rattle.rh_client.specs.declared.state.ClientRole.{ClientRole}
use Rattle.rh_server.specs.States as server
use Rattle.rh_server.specs.States.{Server}
use Rattle.rh_server.specs.declared.state.InLeg.{InLeg}
use Rattle.rh_nodes.specs.Breaking.{is_up}
use Rattle.rh_nodes.specs.World.{World}
use Rattle.law_node_history.specs.Closes.{IsOneOf}
use Rattle.rh_world.specs.declared.any_world.AnyWorld.{AnyWorld}
use Rattle.rh_world.specs.declared.any_world.AnyWorld.TheVariants.{Before, Direct, Settings, Roles}
use Rattle.rh_world.specs.Any.{after, answers, step}
use Rattle.rh_world.specs.Roles as roles
use Rattle.law_node_begins.specs.ProxiesBegin.Pipes.{co}
use Rattle.law_node_traces.specs.Traced.Ours.{AreOurs}
use Rattle.law_world_free.specs.Drained.{IsKnown, IsShort}
use Rattle.law_world_free.specs.Free.{IsFree}
use Rattle.law_world_reports.specs.ToldHistories.{HasTold, history_of}
use Rattle.law_world_order.specs.Flows.{numbers_of}
use Rattle.law_world_ways.specs.EndsInTime.Losses.{AllLoseInTime}
use Rattle.law_world_ways.specs.ExactPaths.GoingOn.{AllGoOn}
use Rattle.law_world_drained.specs.Drained.{Writes}
use Rattle.law_world_known.specs.Known.{IsHopDown, IsHopUp, IsToldDown, IsToldUp}

-- down: the server writes on the leg of the out proxy of the client's current channel, and both its
-- legs are up; its hop to the client is known
pub record IsFarKnown {K : Type 0} (w : World K ClientRole Server InProxy OutProxy) : Type 0
  where
    pub writes : Writes w
    pub same : w.company.server.role.writing ≡ w.company.client.role.current.number
    pub hop : IsHopDown w.company.client.role.current.number w
    pub told : IsToldDown w.company.client.role.current.number w hop
    pub to_client : is_up w (co w.company.client.role.current.number) ≡ true
    pub cookie : Cookie
    pub begun : joined hop.node.role.channel ≡ Some cookie
    pub is_open : server.is_open w.company.server.role.stage ≡ true
    pub far : IsKnown hop.node.role.window w.company.client.role.line.current.window
    pub short : IsShort w.company.server.role.queue

-- up: the in proxy of the server's current leg reads the client's writing channel; the client's hop
-- to it is known
pub record IsNearKnown {K : Type 0} (w : World K ClientRole Server InProxy OutProxy) : Type 0
  where
    pub writes : Writes w
    pub hop : IsHopUp w
    pub told : IsToldUp w hop
    pub reads : hop.node.role.current.number ≡ w.company.client.role.writing.number
    pub is_open : client.is_open w.company.client.role.phase ≡ true
    pub leg : InLeg
    pub kept : server.in_leg w.company.server.role.current.leg w.company.server.role.ins
        ≡ Some leg
    pub near : IsKnown w.company.client.role.writing.window hop.node.role.line.current.window
    pub short : IsShort w.company.client.role.queue

-- then what the answers tell as given is exactly what they tell as taken, while all nodes go on and
-- no lifetime stands in the way
pub record LeavesNone (lines : List Line) (answered : List Answer) (world : roles.World)
    : Type 0 where
  pub told : HasTold lines answered world
  pub ours : AreOurs roles.makers (roles.begun told.config).company told.config
  pub down : AllGoOn (numbers_of ours) (history_of told.config world told.by) → IsFree world
      → IsFarKnown world
      → given Serving (offered lines) (events answered) ≡ taken Client (events answered)
  pub up : AllGoOn (numbers_of ours) (history_of told.config world told.by) → IsFree world
      → IsNearKnown world
      → given Client (offered lines) (events answered) ≡ taken Serving (events answered)

-- only a world of roles has nodes
abbrev pub LeavesNoneIn : List Line → List Answer → AnyWorld → Type 0
LeavesNoneIn lines answered Before = Unit {0}
LeavesNoneIn lines answered (Direct world) = Unit {0}
LeavesNoneIn lines answered (Settings config) = Unit {0}
LeavesNoneIn lines answered (Roles world) = LeavesNone lines answered world

-- behind the lines, with what they are answered
abbrev pub LeavesNoneOf : List Line → Type 0
LeavesNoneOf lines = LeavesNoneIn lines (answers Before lines) (after Before lines)

-- behind a `settle` line that answers quiet, where legs were lost only that were over
abbrev pub LeavesNoneWhereQuiet : List Line → ℕ → Type 0
LeavesNoneWhereQuiet before rounds =
    AllLoseInTime Before (First true ∷ (before ++ Settle rounds ∷ []))
    → (count : ℕ)
    → IsOneOf (Quiet count) (step (after Before (First true ∷ before)) (Settle rounds)).1
    → LeavesNoneOf (First true ∷ (before ++ Settle rounds ∷ []))
