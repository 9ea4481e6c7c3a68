-- the hops that lie on one leg are kept at each moment
use Rattle.std.proofs.Common.{ℕ, ◌≤◌, List, Some, arith, subst}
use mathlib.Core.List.{IsPrefix}
use Rattle.rh_text.specs.declared.ends.Dir.{Dir}
use Rattle.rh_text.specs.declared.ends.Dir.TheVariants.{U, D}
use Rattle.rh_window.specs.Sides.{IsWindow}
use Rattle.law_order.proofs.Prefixes.{prefix_trans}
use Rattle.rh_sig.specs.declared.name.Pipe.TheVariants.{IsU, IsD, OsU, OsD}
use Rattle.rh_line.specs.declared.leg.Leg.{Leg}
use Rattle.rh_shell.specs.Rules.{Rules, Message}
use Rattle.rh_inproxy.specs.State.{InProxy}
use Rattle.rh_outproxy.specs.declared.state.OutProxyConfig.{OutProxyConfig}
use Rattle.rh_outproxy.specs.Machine as out_proxy
use Rattle.rh_outproxy.specs.OutProxy.{OutProxy, new_proxy}
use Rattle.rh_client.specs.declared.state.ClientRole.{ClientRole}
use Rattle.rh_server.specs.Servers as server
use Rattle.rh_server.specs.States.{Server}
use Rattle.rh_wires.specs.Wires.{receiver, sender}
use Rattle.rh_nodes.specs.Opening.{Makers}
use Rattle.rh_nodes.specs.World.{World}
use Rattle.law_moves.specs.Moves.{AreAllowed, AreAllowedAtEnd, EndMove, EndPassage, Move, Passage, all_end_moved, all_moved, end_started, started}
use Rattle.law_moves.specs.ReadBack.Reading.{all_read_of, messages_read}
use Rattle.law_moves.specs.Wires.{of_leg}
use Rattle.law_node_history.specs.Carried.{drawn_by, end_node, events_of, happened, heard_on}
use Rattle.law_node_history.specs.Histories.{History}
use Rattle.law_peers_moments.proofs.Read.{read_bytes}
use Rattle.law_node_traces.specs.Traced.Cookies.{ByChanges}
use Rattle.law_node_traces.specs.Traced.Ours.{AreOurs, deeds, rules}
use Rattle.law_node_traces.specs.Traced.Recordings.{history_at}
use Rattle.law_world_order.specs.Flows.{IsFlowing, numbers_of}
use Rattle.law_world_order.specs.Premises.{AreInRange}
use Rattle.law_world_windows.specs.Known.{HopLaws, Laws}
use Rattle.law_world_windows.specs.Holding.{held_by_out_proxy, held_by_server}
use Rattle.law_world_windows.specs.Hops.{HasRoomOn, ReceivesWithin, SendsWithin, greatest_edge, is_leg, os_leg, pdu_bytes}
use Rattle.law_world_windows.specs.KeptHops.{HopsAreKept, IsKept}
use Rattle.law_world_windows.proofs.Hop.{front_bytes, front_edges, read_edges}
use Rattle.law_world_windows.proofs.HopsKept.{in_came, in_sends, in_way, out_receives, out_way, server_receives, server_sends, server_way}
use Rattle.law_world_windows.proofs.Stopping.{way_read}

-- ---- a hop of which each end knows what was put at the other

came_of_put : (came put : List Message) → IsPrefix came (all_read_of put)
    → pdu_bytes came ≤ pdu_bytes put
came_of_put came put ahead =
    let a = front_bytes came (all_read_of put) ahead in
    let b = read_bytes put in omega (arith, a, b)

edge_of_put : (came put : List Message) → IsPrefix came (all_read_of put)
    → greatest_edge came ≤ greatest_edge put
edge_of_put came put back =
    let a = front_edges came (all_read_of put) back in
    let b = read_edges put in omega (arith, a, b)

kept : {S T : Type 0} (sends : Rules S) (receives : Rules T) (leg : Leg) (size : ℕ)
    (held : T → ℕ) (p : Passage S) (q : Passage T)
    → IsPrefix (of_leg leg q.came) (all_read_of (of_leg leg p.put))
    → IsPrefix (of_leg leg p.came) (all_read_of (of_leg leg q.put)) → SendsWithin sends leg p
    → ReceivesWithin receives leg q → HasRoomOn size held leg q → IsKept leg size held p q
kept sends receives leg size held p q ahead back within told room = record {
  received = came_of_put (of_leg leg q.came) (of_leg leg p.put) ahead;
  sent = within.within;
  edge = edge_of_put (of_leg leg p.came) (of_leg leg q.put) back;
  room = room;
  acks = told.acks;
}

-- ---- in a world

-- what each receiver told, whatever it did
pub record RoomLaws : Type 0 where
  pub server : (window n : ℕ) (moves : List EndMove) → IsWindow window
      → AreAllowedAtEnd server.rules server.acts (end_started (server.first window)) moves
      → HasRoomOn window (held_by_server n) (is_leg n)
      (all_end_moved server.rules server.acts (end_started (server.first window)) moves).passage
  pub outs : (config : OutProxyConfig) (moves : List Move) → IsWindow config.window
      → AreAllowed out_proxy.rules (started (new_proxy config)) moves
      → HasRoomOn config.window held_by_out_proxy (os_leg config.number)
      (all_moved out_proxy.rules (started (new_proxy config)) moves)

module _ {K : Type 0} (hop : HopLaws) (rooms : RoomLaws) (m : Makers K InProxy OutProxy)
    (w : World K ClientRole Server InProxy OutProxy) (ours : AreOurs m w.company w.cast)
    (ranges : AreInRange (numbers_of ours)) (law : Laws m w ours)
    (v : World K ClientRole Server InProxy OutProxy) (by : ByChanges rules m deeds w v) where
  abbrev h : History
  h = history_at m w v by.leads

  abbrev flowing : IsFlowing (numbers_of ours) w v h
  flowing = law.flowing v by

  -- what was heard on a leg was drawn there
  drawn : (leg : Leg) (way : Dir)
      → IsPrefix (heard_on leg (events_of h (end_node v.readers leg (receiver way))))
      (drawn_by rules m deeds w.company w.cast h (end_node v.readers leg (sender way)) leg)
  drawn leg way =
      subst (λ (k : K).
      IsPrefix (heard_on leg (events_of h (end_node v.readers leg (receiver way))))
      (drawn_by rules m deeds w.company k h (end_node v.readers leg (sender way)) leg))
      flowing.cast (law.drawn v h (law.known v by.leads).traced leg way)

  server_room : (n : ℕ) → HasRoomOn ours.window (held_by_server n) (is_leg n)
      flowing.flows.server.passage.passage
  server_room n =
      let f = flowing.flows.server in
      subst (λ (p : EndPassage Server). HasRoomOn ours.window (held_by_server n) (is_leg n)
      p.passage) f.leads.reached
      (rooms.server ours.window n f.leads.moves ranges.window f.leads.allowed)

  out_room : (n : ℕ) → HasRoomOn (ours.out_config n).window held_by_out_proxy (os_leg n)
      (flowing.flows.outs n).passage
  out_room n =
      let f = flowing.flows.outs n in
      let config = ours.out_config n in
      subst (λ (p : Passage OutProxy). HasRoomOn config.window held_by_out_proxy (os_leg n) p)
      f.leads.reached
      (subst (λ (k : ℕ). HasRoomOn config.window held_by_out_proxy (os_leg k)
      (all_moved out_proxy.rules (started (new_proxy config)) f.leads.moves))
      (ours.out_number n)
      (rooms.outs config f.leads.moves (ranges.outs n).window f.leads.allowed))

  is_kept : (n : ℕ) → IsKept (is_leg n) ours.window (held_by_server n)
      (flowing.flows.ins n).passage flowing.flows.server.passage.passage
  is_kept n =
      let leg = is_leg n in
      let p = (flowing.flows.ins n).passage in
      let q = flowing.flows.server.passage.passage in
      let at_server = heard_on leg (happened h.server) in
      let at_proxy = heard_on leg (h.ins n) in
      kept _ _ leg ours.window (held_by_server n) p q
      (prefix_trans (of_leg leg q.came) (messages_read (Some IsU) at_server)
      (all_read_of (of_leg leg p.put)) (flowing.flows.server.read leg)
      (way_read hop.readings (Some IsU) (of_leg leg p.put) at_server
      (in_way hop m w ours ranges v h flowing n at_server (drawn leg U))))
      (prefix_trans (of_leg leg p.came) (messages_read (Some IsD) at_proxy)
      (all_read_of (of_leg leg q.put)) (in_came hop m w ours ranges v h flowing n)
      (way_read hop.readings (Some IsD) (of_leg leg q.put) at_proxy
      (server_way hop m w ours ranges v h flowing leg at_proxy (flowing.begun.server_in n)
      (drawn leg D))))
      (in_sends hop m w ours ranges v h flowing n)
      (server_receives hop m w ours ranges v h flowing n) (server_room n)

  os_kept : (n : ℕ) → IsKept (os_leg n) (ours.out_config n).window held_by_out_proxy
      flowing.flows.server.passage.passage (flowing.flows.outs n).passage
  os_kept n =
      let leg = os_leg n in
      let p = flowing.flows.server.passage.passage in
      let q = (flowing.flows.outs n).passage in
      let at_server = heard_on leg (happened h.server) in
      let at_proxy = heard_on leg (h.outs n) in
      kept _ _ leg (ours.out_config n).window held_by_out_proxy p q
      (prefix_trans (of_leg leg q.came) (messages_read (Some OsD) at_proxy)
      (all_read_of (of_leg leg p.put)) ((flowing.flows.outs n).read leg)
      (way_read hop.readings (Some OsD) (of_leg leg p.put) at_proxy
      (server_way hop m w ours ranges v h flowing leg at_proxy (flowing.begun.server_out n)
      (drawn leg D))))
      (prefix_trans (of_leg leg p.came) (messages_read (Some OsU) at_server)
      (all_read_of (of_leg leg q.put)) (flowing.flows.server.read leg)
      (way_read hop.readings (Some OsU) (of_leg leg q.put) at_server
      (out_way hop m w ours ranges v h flowing n at_server (drawn leg U))))
      (server_sends hop m w ours ranges v h flowing n)
      (out_receives hop m w ours ranges v h flowing n) (out_room n)

  pub hops_are_kept : HopsAreKept m w ours v by
  hops_are_kept = record { flowing = flowing; up = is_kept; down = os_kept }
