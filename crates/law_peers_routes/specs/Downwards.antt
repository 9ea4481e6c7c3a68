-- what goes down: a server, out proxies and a client, joined by legs that carry bytes (profile)
use Rattle.std.specs.Prelude.{ℕ, ◌≡◌, List, [], if◌then◌else◌, Some}
use Rattle.std.specs.declared.option.Option.{Option}
use mathlib.Core.List.{IsPrefix}
use Rattle.rh_http.specs.declared.config.ClientConfig.{ClientConfig}
use Rattle.rh_sig.specs.declared.name.Pipe.{Pipe}
use Rattle.rh_sig.specs.declared.name.Pipe.TheVariants.{CoD, OsD}
use Rattle.rh_line.specs.declared.leg.Leg.{Leg}
use Rattle.law_order.specs.Routes.{Route}
use Rattle.law_moves.specs.Moves.{Passage, EndPassage}
use Rattle.law_moves.specs.Moving.{Event, EndEvent, after_end_events}
use Rattle.rh_shell.specs.Shells.{begun}
use Rattle.law_moves.specs.Wires.{of_leg}
use Rattle.law_moves.specs.Legible.Legible.{AreLegible}
use Rattle.law_moves.specs.ReadBack.Reading.{Begins}
use Rattle.law_node_history.specs.Carried.{heard_on, drawn_on, end_drawn_on, happened}
use Rattle.law_node_streams.specs.Streams.{Stream, EndStream, IsDrawn, all_given, all_taken}
use Rattle.rh_client.specs.declared.state.ClientRole.{ClientRole}
use Rattle.rh_client.specs.Client as client
use Rattle.rh_client.specs.Opening.{pipe_by}
use Rattle.law_role_client.specs.Order as client_order
use Rattle.rh_client.specs.State as client_state
use Rattle.rh_outproxy.specs.declared.out_proxy.TheConstants.{ROOMS}
use Rattle.rh_outproxy.specs.declared.state.OutProxyConfig.{OutProxyConfig}
use Rattle.law_role_outproxy.specs.Legible as proxy_legible
use Rattle.rh_outproxy.specs.Machine as proxy
use Rattle.rh_outproxy.specs.Opening as proxy_opening
use Rattle.law_role_outproxy.specs.Order as proxy_order
use Rattle.law_role_outproxy.specs.Order.{client_leg, server_leg}
use Rattle.rh_outproxy.specs.OutProxy.{OutProxy, new_proxy}
use Rattle.law_role_server.specs.Legible as server_legible
use Rattle.law_role_server.specs.Order as server_order
use Rattle.rh_server.specs.Servers as server
use Rattle.rh_server.specs.States.{Server}

-- ---- the route

-- what a server gave, by the out proxies, to what a client took: each channel has a leg to its own
-- out proxy, and one from there; there is none of number 0
abbrev pub down_route : EndPassage Server → (ℕ → Passage OutProxy) → EndPassage ClientRole → Route
down_route s o c = record {
  giver = server_order.giver_of s.given s.passage.role;
  proxies = λ m. proxy_order.passer_of (o m).role;
  taker = client_order.taker_of c.taken c.passage.role;
  legs = client_order.has_leg;
  known = client_order.has_leg;
  sent = server_order.sent s;
  came = λ m. proxy_order.came_log (o m).came;
  put = λ m. if client_order.has_leg m then proxy_order.put_items m (o m).put else [];
  got = client_order.came_log c.passage.came;
}

-- ---- what is read on a leg (MS-RPCH 2.2.4)

abbrev pub client_reads : Leg → Option Pipe
client_reads leg = pipe_by leg.kind

abbrev pub server_reads : Leg → Option Pipe
server_reads leg = server.pipe_of leg.kind

abbrev pub proxy_reads : OutProxyConfig → Leg → Option Pipe
proxy_reads config leg = proxy_opening.pipe (new_proxy config) leg

-- ---- what happened

-- the streams of a client, of a server and of each out proxy; and what was heard on each leg is a
-- front of what was drawn there
pub record GoesDown (config : ClientConfig) (window : ℕ) (out_config : ℕ → OutProxyConfig)
    (client_events server_events : List EndEvent) (outs : ℕ → List Event) : Type 0 where
  pub taker : EndStream client.rules client.acts (client_state.first config) client.rooms
      client_reads client_events
  pub giver : EndStream server.rules server.acts (server.first window) server.rooms server_reads
      server_events
  pub proxies : (n : ℕ) → Stream proxy.rules (new_proxy (out_config n)) ROOMS
      (proxy_reads (out_config n)) (outs n)
  pub numbered : (n : ℕ) → (out_config n).number ≡ n
  -- from the server to the out proxy of each number, and from there to the client
  pub near : (n : ℕ) → IsPrefix (heard_on (server_leg n) (outs n))
      (end_drawn_on server.rules server.acts (server.new_server window) (server_leg n)
      server_events)
  pub far : (n : ℕ) → IsPrefix (heard_on (client_leg n) (happened client_events))
      (drawn_on proxy.rules (begun (new_proxy (out_config n)) ROOMS) (client_leg n) (outs n))
  -- an out proxy hears nothing on the legs of another
  pub alone : (m n : ℕ) → (m ≡ n → ⊥) → heard_on (server_leg n) (outs m) ≡ []
  -- what was put begins as it is read there, and reads back
  pub server_begins : (n : ℕ) → Begins (Some OsD) (of_leg (server_leg n) giver.passage.passage.put)
  pub proxies_begin : (n : ℕ) → Begins (Some CoD) (of_leg (client_leg n) (proxies n).passage.put)
  pub server_legible : AreLegible server_legible.pipe_put giver.passage.passage.put
  pub proxies_legible : (n : ℕ) → AreLegible proxy_legible.pipe_put (proxies n).passage.put
  -- what an out proxy drew on the client's leg spells what it put there, or refuses the client
  pub proxies_drew : (n : ℕ) → IsDrawn (of_leg (client_leg n) (proxies n).passage.put)
      (drawn_on proxy.rules (begun (new_proxy (out_config n)) ROOMS) (client_leg n) (outs n))

-- the route of what happened
abbrev pub route_of : {config : ClientConfig} {window : ℕ} {out_config : ℕ → OutProxyConfig}
    {client_events server_events : List EndEvent} {outs : ℕ → List Event}
    → GoesDown config window out_config client_events server_events outs → Route
route_of d = down_route d.giver.passage (λ n. (d.proxies n).passage) d.taker.passage

-- ---- for the callers

-- a node's end, behind its events
abbrev pub client_after : ClientConfig → List EndEvent → ClientRole
client_after config events =
    (after_end_events client.rules client.acts (client.first_client config) events).role

abbrev pub server_after : ℕ → List EndEvent → Server
server_after window events =
    (after_end_events server.rules server.acts (server.new_server window) events).role

-- the PDUs that the client's caller took, and those that the server accepted from its own
abbrev pub client_took : ClientConfig → List EndEvent → List (List ℕ)
client_took config events =
    all_taken client.rules client.acts (client.first_client config) events

abbrev pub server_accepted : ℕ → List EndEvent → List (List ℕ)
server_accepted window events =
    all_given server.rules server.acts (server.new_server window) events
