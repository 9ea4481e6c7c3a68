use Rattle.rh_inproxy.specs.Machine as in_proxy
use Rattle.rh_outproxy.specs.Machine as out_proxy
use Rattle.rh_server.specs.Servers as server
use Rattle.law_role_inproxy.proofs.Vocabulary.{InProxy}
use Rattle.law_role_client.proofs.Vocabulary.{ClientRole, ci}
use Rattle.law_role_server.proofs.Vocabulary.{Server}
use Rattle.law_node_history.proofs.Vocabulary.{reader_of, Makers, World}
use Rattle.law_role_outproxy.proofs.Vocabulary.{OutProxy}
use Rattle.law_peers_moments.specs.Moments.{in_behind, out_behind, server_behind}
use Rattle.law_peers_expects.specs.OutProxyExpects.Early.{HaveLifetimes}
use Rattle.law_node_traces.proofs.Vocabulary.{AreOurs}
use Rattle.law_world_order.proofs.Vocabulary.{numbers_of, AreDistinct, AreInRange, moves_of, numbers}
use Rattle.law_world_windows.specs.Hops.{is_leg, os_leg}
use Rattle.law_world_expected.proofs.Roomy.Full.{finds_room}
use Rattle.law_world_expected.proofs.room.worlds.no_node_lacks_room.Goals as goal
use Rattle.law_world_expected.specs.Roles.{OfClient, WorldsExpect}
use Rattle.law_world_expected.specs.Roomy.{InHasRoom, OutHasRoom, ServerHasRoom}

pub returns : goal.returns
returns g c = record {
  client = c.no_node_that_has_room_closes_for_a_full_leg.ensures.client;
  in_proxies = c.no_node_that_has_room_closes_for_a_full_leg.ensures.in_proxies ins;
  out_proxies = c.no_node_that_has_room_closes_for_a_full_leg.ensures.out_proxies outs;
  server = c.no_node_that_has_room_closes_for_a_full_leg.ensures.server at_server;
}
  where
    ins : WorldsExpect g.row.K.Denot (OfClient AreDistinct) InHasRoom
    ins m w new ours ranges v by =
        let here = c.a_world_of_roles_is_at_a_moment.ensures m w new ours ranges v by in
        let moves = moves_of here.flowing in
        record {
          flowing = here.flowing;
          expects = λ distinct k n reads from count named used up tells ahead.
              finds_room
              (in_proxy.rules.packet (in_behind (numbers ours) moves k).role (ci n) count named).1
              (c.an_in_proxy_has_room.ensures.room (numbers ours) (reader_of v.readers) moves
              (here.moment distinct) k from (ci n) count named);
        }

    -- the lifetimes of OUT channels are in their range
    lifetimes : (m : Makers g.row.K.Denot InProxy OutProxy)
        (w : World g.row.K.Denot ClientRole Server InProxy OutProxy)
        (ours : AreOurs m w.company w.cast) → AreInRange (numbers_of ours)
        → HaveLifetimes (numbers ours)
    lifetimes m w ours ranges n = (ranges.outs n).lifetime

    outs : WorldsExpect g.row.K.Denot (OfClient AreDistinct) OutHasRoom
    outs m w new ours ranges v by =
        let here = c.a_world_of_roles_is_at_a_moment.ensures m w new ours ranges v by in
        let moves = moves_of here.flowing in
        record {
          flowing = here.flowing;
          expects = λ distinct n count named used up tells ahead.
              finds_room
              (out_proxy.rules.packet (out_behind (numbers ours) moves n).role (os_leg n) count
              named).1
              (λ full. (c.an_out_proxy_has_room.ensures (numbers ours) (reader_of v.readers) moves
              (here.moment distinct) (lifetimes m w ours ranges) n).packet (os_leg n) full count
              named);
        }

    at_server : WorldsExpect g.row.K.Denot (OfClient AreDistinct) ServerHasRoom
    at_server m w new ours ranges v by =
        let here = c.a_world_of_roles_is_at_a_moment.ensures m w new ours ranges v by in
        let moves = moves_of here.flowing in
        record {
          flowing = here.flowing;
          expects = λ distinct k count named used up tells ahead.
              finds_room
              (server.rules.packet (server_behind (numbers ours) moves).passage.role (is_leg k)
              count named).1
              (λ full. c.a_server_has_room.ensures (numbers ours) (reader_of v.readers) moves
              (here.moment distinct) (lifetimes m w ours ranges) k count named full ahead);
        }
