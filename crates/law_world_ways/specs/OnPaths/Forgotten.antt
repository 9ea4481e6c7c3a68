-- what was put on a leg that is forgotten was drawn (MS-RPCH 3.2; profile)
use Rattle.std.specs.Prelude.{◌≡◌, ℕ, List, Bool, true, false, None}
use Rattle.std.specs.declared.option.Option.{Option}
use Rattle.rh_sig.specs.declared.name.Pipe.{Pipe}
use Rattle.rh_line.specs.declared.leg.Leg.{Leg}
use Rattle.rh_shell.specs.declared.rooms.Rooms.{Rooms}
use Rattle.rh_shell.specs.Rules.{Acts, Message, Rules}
use Rattle.rh_shell.specs.Shells.{Shell, begun, end_at}
use Rattle.rh_inproxy.specs.Machine as in_proxy
use Rattle.rh_inproxy.specs.State as in_state
use Rattle.rh_inproxy.specs.State.{InProxy}
use Rattle.rh_outproxy.specs.declared.out_proxy.TheConstants.{ROOMS}
use Rattle.rh_outproxy.specs.Machine as out_proxy
use Rattle.rh_outproxy.specs.OutProxy.{OutProxy, new_proxy}
use Rattle.rh_client.specs.declared.state.ClientRole.{ClientRole}
use Rattle.rh_client.specs.Client as client
use Rattle.rh_client.specs.State as client_state
use Rattle.rh_server.specs.Servers as server
use Rattle.rh_server.specs.States.{Server}
use Rattle.rh_nodes.specs.World.{World}
use Rattle.law_moves.specs.Carrying.{spelled}
use Rattle.law_moves.specs.Moving.{EndEvent, Event, after_end_events, after_events}
use Rattle.law_moves.specs.Wires.{of_leg}
use Rattle.law_node_history.specs.Carried.{came_up, drawn_on, end_drawn_on, happened}
use Rattle.law_node_history.specs.Histories.{History}
use Rattle.law_node_streams.specs.Streams.{EndStream, Stream, is_refused_on}
use Rattle.law_node_begins.specs.ProxiesBegin.Pipes.{in_pipe}
use Rattle.law_peers_routes.specs.Downwards.{client_reads, proxy_reads, server_reads}
use Rattle.law_world_order.specs.Directions.{Directions}
use Rattle.law_world_order.specs.Flows.{Numbers}
use Rattle.law_world_ways.specs.OnPaths.Lost.{was_lost}

-- the node keeps no end of the leg any more, which came up there and of which it was not told that
-- it ended or broke; and it refuses nobody there
pub record IsForgotten {S : Type 0} (node : Shell S) (leg : Leg) (up told : Bool) : Type 0 where
  pub free : is_refused_on leg node.course ≡ false
  pub gone : end_at node leg ≡ None
  pub rose : up ≡ true
  pub untold : told ≡ false

-- all that was put on such a leg was drawn
abbrev pub IsDrawnOut : {S : Type 0} → Shell S → Leg → Bool → Bool → List Message → List ℕ
    → Type 0
IsDrawnOut node leg up told put drawn = IsForgotten node leg up told → spelled put ≡ drawn

-- so it is on all legs of a node, by its stream
abbrev pub DrawsOut : {S : Type 0} (rules : Rules S) (first : S) (rooms : Rooms)
    (pipe : Leg → Option Pipe) (events : List Event) → Stream rules first rooms pipe events
    → Type 0
DrawsOut rules first rooms pipe events stream =
    (leg : Leg)
    → IsDrawnOut (after_events rules (begun first rooms) events) leg (came_up leg events)
    (was_lost leg events) (of_leg leg stream.passage.put)
    (drawn_on rules (begun first rooms) leg events)

-- and of an end
abbrev pub EndDrawsOut : {S : Type 0} (rules : Rules S) (acts : Acts S) (first : S)
    (rooms : Rooms) (pipe : Leg → Option Pipe) (events : List EndEvent)
    → EndStream rules acts first rooms pipe events → Type 0
EndDrawsOut rules acts first rooms pipe events stream =
    (leg : Leg)
    → IsDrawnOut (after_end_events rules acts (begun first rooms) events) leg
    (came_up leg (happened events)) (was_lost leg (happened events))
    (of_leg leg stream.passage.passage.put)
    (end_drawn_on rules acts (begun first rooms) leg events)

-- the nodes that put, by the streams of both directions
pub record DrawnDirections {K : Type 0} (numbers : Numbers)
    (v : World K ClientRole Server InProxy OutProxy) (h : History) : Type 0 where
  pub directions : Directions numbers v h
  pub client : EndDrawsOut client.rules client.acts (client_state.first numbers.client)
      client.rooms client_reads h.client directions.up.giver
  pub server : EndDrawsOut server.rules server.acts (server.first numbers.window) server.rooms
      server_reads h.server directions.down.giver
  pub ins : (n : ℕ) → DrawsOut in_proxy.rules (in_state.first (numbers.ins n)) in_proxy.rooms
      (in_pipe (numbers.ins n)) (h.ins n) (directions.up.proxies n)
  pub outs : (n : ℕ) → DrawsOut out_proxy.rules (new_proxy (numbers.outs n)) ROOMS
      (proxy_reads (numbers.outs n)) (h.outs n) (directions.down.proxies n)
