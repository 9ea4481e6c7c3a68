-- what each role sees to for its streams, which legs it knows, and how a client asks
use Rattle.std.specs.Prelude.{◌≡◌, ℕ, List, true}
use Rattle.std.specs.List.{AllByRecursion}
use Rattle.rh_rts.specs.declared.command.Cookie.{Cookie}
use Rattle.rh_http.specs.declared.config.ClientConfig.{ClientConfig}
use Rattle.rh_http.specs.Texts.{in_request, out_request}
use Rattle.rh_line.specs.declared.leg.Leg.{Leg}
use Rattle.rh_shell.specs.Intakes.{is_whole_head}
use Rattle.rh_shell.specs.Rules.{Acts, Rules}
use Rattle.rh_shell.specs.Shells.{Shell, begun, may_up}
use Rattle.rh_inproxy.specs.declared.state.InProxyConfig.{InProxyConfig}
use Rattle.rh_inproxy.specs.Machine as in_proxy
use Rattle.rh_inproxy.specs.State as in_state
use Rattle.rh_outproxy.specs.declared.out_proxy.TheConstants.{ROOMS}
use Rattle.rh_outproxy.specs.declared.state.OutProxyConfig.{OutProxyConfig}
use Rattle.rh_outproxy.specs.Machine as out_proxy
use Rattle.rh_outproxy.specs.OutProxy.{new_proxy}
use Rattle.rh_client.specs.Client as client
use Rattle.rh_client.specs.State as client_state
use Rattle.rh_server.specs.Servers as server
use Rattle.law_moves.specs.Moves.{EndMove}
use Rattle.law_moves.specs.Moving.{ComesUp, EndEvent, Event, after_end_events, after_event, after_events}
use Rattle.law_moves.specs.ReadBack.Reading.{IsWholeText}
use Rattle.law_moves.specs.Wires.{of_leg}
use Rattle.law_role_client.specs.Order.{AreAllowedMoves, client_moved}
use Rattle.law_node_causes.specs.Once.{WasUp}
use Rattle.law_node_streams.specs.Streams.{HasPipes, NeverRefuses, StaysUnused, StaysUnusedAtEnd}
use Rattle.law_node_begins.specs.EndsBegin.{Asks}
use Rattle.law_node_begins.specs.ProxiesBegin.Pipes.{in_pipe, out_pipe}

-- ---- legs that came up were up

pub record KnowsLegs {S : Type 0} (rules : Rules S) (first : Shell S) : Type 0 where
  pub comes : (events : List Event) (leg : Leg) (cookie : Cookie)
      → may_up rules (after_events rules first events) leg ≡ true
      → WasUp rules (after_event rules (after_events rules first events) (ComesUp leg cookie)) leg
  pub once : (events later : List Event) (leg : Leg)
      → rules.was_up (after_events rules first events).role leg ≡ true
      → WasUp rules (after_events rules (after_events rules first events) later) leg

pub record KnowsLegsAtEnd {S : Type 0} (rules : Rules S) (acts : Acts S) (first : Shell S)
    : Type 0 where
  pub comes : (events : List EndEvent) (leg : Leg) (cookie : Cookie)
      → may_up rules (after_end_events rules acts first events) leg ≡ true
      → WasUp rules
      (after_event rules (after_end_events rules acts first events) (ComesUp leg cookie)) leg
  pub once : (events later : List EndEvent) (leg : Leg)
      → rules.was_up (after_end_events rules acts first events).role leg ≡ true
      → WasUp rules (after_end_events rules acts (after_end_events rules acts first events) later)
      leg

-- ---- the roles

pub record RolesKnow : Type 0 where
  pub in_pipes : (config : InProxyConfig)
      → HasPipes in_proxy.rules (in_state.first config) (in_pipe config)
  pub out_pipes : (config : OutProxyConfig)
      → HasPipes out_proxy.rules (new_proxy config) (out_pipe config)
  pub in_unused : (config : InProxyConfig) → StaysUnused in_proxy.rules (in_state.first config)
  pub out_unused : (config : OutProxyConfig) → StaysUnused out_proxy.rules (new_proxy config)
  pub server_refuses : NeverRefuses server.rules
  pub server_unused : (window : ℕ)
      → StaysUnusedAtEnd server.rules server.acts (server.first window)
  pub in_legs : (config : InProxyConfig)
      → KnowsLegs in_proxy.rules (begun (in_state.first config) in_proxy.rooms)
  pub out_legs : (config : OutProxyConfig)
      → KnowsLegs out_proxy.rules (begun (new_proxy config) ROOMS)
  pub server_legs : (window : ℕ)
      → KnowsLegsAtEnd server.rules server.acts (begun (server.first window) server.rooms)
  pub asks : (config : ClientConfig) (moves : List EndMove) (leg : Leg)
      → AreAllowedMoves config moves
      → AllByRecursion (Asks config leg.kind) (of_leg leg (client_moved config moves).passage.put)
  pub in_request : (config : ClientConfig) → IsWholeText is_whole_head (in_request config)
  pub out_request : (config : ClientConfig) (n : ℕ)
      → IsWholeText is_whole_head (out_request config n)

-- and the same of a client
pub record ClientKnows : Type 0 where
  pub refuses : NeverRefuses client.rules
  pub unused : (config : ClientConfig)
      → StaysUnusedAtEnd client.rules client.acts (client_state.first config)
  pub legs : (config : ClientConfig)
      → KnowsLegsAtEnd client.rules client.acts (begun (client_state.first config) client.rooms)
