-- how long a role lets a leg be silent, in milliseconds: of a client MS-RPCH 3.2.2.6, of the others
-- MS-RPCH 3.2; which legs of a proxy are watched is this profile's. A server and an out proxy watch
-- none
use Rattle.std.specs.Prelude.{ℕ, ◌≡◌, ◌⊎◌, ◌<◌, ◌≤◌, ◌-◌, ◌&&◌, List, [], ◌∷◌, Bool, false, not, if◌then◌else◌, Some, None}
use Rattle.std.specs.declared.option.Option.{Option}
use Rattle.rh_sig.specs.declared.named.Named.{Named}
use Rattle.rh_sig.specs.declared.named.Named.TheVariants.{ConnA3, OutR1A6}
use Rattle.rh_http.specs.declared.config.ClientConfig.{ClientConfig}
use Rattle.rh_line.specs.declared.leg.Leg.{Leg}
use Rattle.rh_line.specs.declared.leg.LegKind.TheVariants.{ClientIn, ClientOut}
use Rattle.rh_shell.specs.Rules.{Message, Text, Pdu, Packet}
use Rattle.rh_shell.specs.Shells.{Shell}
use Rattle.rh_inproxy.specs.declared.state.InProxyConfig.{InProxyConfig}
use Rattle.rh_inproxy.specs.State.{InProxy, channel_of, is_client_leg}
use Rattle.rh_inproxy.specs.Time.{a5_came}
use Rattle.rh_inproxy.specs.Machine as in_proxy
use Rattle.rh_client.specs.declared.state.ClientRole.{ClientRole}
use Rattle.rh_client.specs.Client.{rules, acts, first_client}
use Rattle.rh_client.specs.State.{first}
use Rattle.rh_company.specs.declared.event.Event as told
use Rattle.rh_company.specs.declared.event.Event.TheVariants as happened
use Rattle.law_moves.specs.Moves.{OnLeg, EndPassage, end_started}
use Rattle.law_moves.specs.Moving.{EndEvent, EndLeads, Event, after_end_events, after_events}
use Rattle.law_node_causes.specs.Moments.{last_touched, last_touched_at_end}

-- ---- an in proxy

-- a ci leg, until IN_R1/A5 came there: for the timeout that the proxy was made with
abbrev pub in_proxy_limit : InProxyConfig → Leg → Bool → Option ℕ
in_proxy_limit config leg handed_over =
    if is_client_leg leg && not handed_over then Some config.timeout else None

-- ---- a client

-- the timeout of an OUT channel is told by CONN/A3 for the first one, and by OUT_R1/A6 for each
-- later one
abbrev pub TellsBy : ℕ → ℕ → Named → Type 0
TellsBy number timeout (ConnA3 told) = (number ≡ 1) × (told ≡ timeout)
TellsBy number timeout (OutR1A6 to version told) = (1 < number) × (told ≡ timeout)
TellsBy number timeout packet = ⊥

abbrev pub Tells : ℕ → ℕ → Message → Type 0
Tells number timeout (Text bytes) = ⊥
Tells number timeout (Pdu pdu) = ⊥
Tells number timeout (Packet packet) = TellsBy number timeout packet

-- one of the packets that came did
abbrev pub WasTold : ℕ → ℕ → List OnLeg → Type 0
WasTold number timeout [] = ⊥
WasTold number timeout (one ∷ log) = Tells number timeout one.1 ⊎ WasTold number timeout log

-- only a co leg is watched, and for the timeout that was told
pub record IsWatched (came : List OnLeg) (leg : Leg) (limit : ℕ) : Type 0 where
  pub kind : leg.kind ≡ ClientOut
  pub told : WasTold leg.number limit came

-- a client behind moves, and what it watches by what came
pub record Watches (config : ClientConfig) (node : Shell ClientRole) : Type 0 where
  pub passage : EndPassage ClientRole
  pub leads : EndLeads rules acts (end_started (first config)) passage
  pub role : passage.passage.role ≡ node.role
  pub watched : (leg : Leg) (limit : ℕ) → rules.silence node.role leg ≡ Some limit
      → IsWatched passage.passage.came leg limit

-- ---- a leg falls silent

-- no IN_R1/A5 came on the leg
abbrev pub IsBeforeA5 : InProxy → Leg → Type 0
IsBeforeA5 s leg = a5_came s (channel_of s leg.number) ≡ false

-- the moment closed an in proxy: no byte was heard on a ci leg for the timeout, since the last one
-- or since the leg came up
pub record InProxyFellSilent (config : InProxyConfig) (events : List Event) (event : told.Event)
    (leg : Leg) (since now : ℕ) : Type 0 where
  pub moment : event ≡ happened.Passes now
  pub kind : leg.kind ≡ ClientIn
  pub before : IsBeforeA5 (after_events in_proxy.rules (in_proxy.first_node config) events).role leg
  pub long : config.timeout ≤ now - since
  pub last : last_touched in_proxy.rules leg (in_proxy.first_node config) events None ≡ Some since

-- and a client: on a co leg, for the timeout that was told
pub record ClientFellSilent (config : ClientConfig) (events : List EndEvent) (event : told.Event)
    (leg : Leg) (since now : ℕ) : Type 0 where
  pub moment : event ≡ happened.Passes now
  pub watches : Watches config (after_end_events rules acts (first_client config) events)
  pub limit : ℕ
  pub watched : IsWatched watches.passage.passage.came leg limit
  pub long : limit ≤ now - since
  pub last : last_touched_at_end rules acts leg (first_client config) events None ≡ Some since
