use Rattle.rh_inproxy.specs.Machine as in_proxy
use Rattle.rh_inproxy.specs.State as in_state
use Rattle.rh_outproxy.specs.Machine as out_proxy
use Rattle.rh_server.specs.Servers as server
use Rattle.law_moves.proofs.Vocabulary.{all_end_moved, all_moved, end_started, started}
use Rattle.law_role_inproxy.proofs.Vocabulary.{InProxy}
use Rattle.law_role_client.proofs.Vocabulary.{ClientRole, client_moved}
use Rattle.law_role_server.proofs.Vocabulary.{Server}
use Rattle.law_node_history.proofs.Vocabulary.{Makers, World}
use Rattle.law_role_outproxy.proofs.Vocabulary.{OutProxy, new_proxy}
use Rattle.law_node_traces.proofs.Vocabulary.{deeds, rules}
use Rattle.law_world_order.proofs.Joined.{AreAlone}
use Rattle.law_world_windows.proofs.ClientHops.Closing.{no_client_range, no_client_window, no_in_range, no_in_window, no_out_range, no_out_window}
use Rattle.law_world_windows.proofs.ClientHops.Honest.{RoleLaws}
use Rattle.law_world_windows.proofs.ClientHops.Joining.{client_begins, client_opens_once, client_receives, client_sends, in_proxy_sees, out_proxy_sees, server_sees}
use Rattle.law_world_windows.proofs.ClientHops.KeptMoments.{RoomLaws, client_hops_are_kept}
use Rattle.law_world_windows.proofs.Moment.{reads_of}
use Rattle.law_world_windows.proofs.client_hops.no_hop_of_a_client_closes_a_node.Goals as goal

pub returns : goal.returns
returns g c =
    let nodes = c.nodes_keep_their_laws.ensures in
    let readings = c.what_was_put_reads_back.ensures in
    let reads = reads_of readings in
    let law = c.worlds_keep_their_laws.ensures in record {
      in_window = λ m w new ours ranges one v by distinct change may k n reached edge closes.
          no_in_window roles nodes reads readings m w ours ranges one (law m w new ours ranges)
          (alone m w) v by distinct change may k n reached edge closes;
      in_range = λ m w new ours ranges one v by distinct change may k n command value closes.
          no_in_range roles nodes reads readings m w ours ranges one (law m w new ours ranges)
          (alone m w) v by distinct change may k n command value closes;
      client_window = λ m w new ours ranges one v by distinct change may n reached edge closes.
          no_client_window roles nodes reads readings m w ours ranges one (law m w new ours ranges)
          (alone m w) v by distinct change may n reached edge closes;
      client_range = λ m w new ours ranges one v by distinct change may n command value closes.
          no_client_range roles nodes reads readings m w ours ranges one (law m w new ours ranges)
          (alone m w) v by distinct change may n command value closes;
      out_window = λ m w new ours ranges one v by distinct change may k n reached edge closes.
          no_out_window roles nodes reads readings m w ours ranges one (law m w new ours ranges)
          (alone m w) v by distinct change may k n reached edge closes;
      out_range = λ m w new ours ranges one v by distinct change may k leg command value closes.
          no_out_range roles nodes reads readings m w ours ranges one (law m w new ours ranges)
          (alone m w) v by distinct change may k leg command value closes;
      kept = λ m w new ours ranges one.
          client_hops_are_kept roles rooms reads m w ours ranges one (law m w new ours ranges)
          (alone m w);
    }
  where
    roles : RoleLaws
    roles = record {
      sends = λ config moves allowed.
          client_sends moves (client_moved config moves).passage
          (c.a_client_sends_as_it_was_told.ensures config moves allowed);
      receives = λ config moves ranged allowed first.
          client_receives moves (client_moved config moves).passage
          (c.a_client_receives_within_its_window.ensures.windows config moves ranged allowed)
          (c.a_client_receives_within_its_window.ensures.acks config moves ranged allowed first)
          (c.a_client_receives_within_its_window.ensures.packets config moves)
          (c.a_client_acknowledges_what_came.ensures.acks config moves ranged allowed first);
      begins = λ config moves allowed.
          client_begins moves (client_moved config moves).passage
          (c.a_client_begins_each_channel_once.ensures config moves allowed);
      opens_once = λ config moves allowed.
          client_opens_once config moves
          (c.a_client_opens_out_channels_in_order.ensures config moves allowed);
      servers = λ window moves allowed.
          server_sees
          (all_end_moved server.rules server.acts (end_started (server.first window)) moves).passage
          (c.a_server_passes_acknowledgements_on.ensures window moves)
          (c.a_server_tells_what_it_was_told.ensures.connected window moves)
          (c.a_server_tells_what_it_was_told.ensures.replaced window moves);
      ins = λ config moves ranged allowed.
          in_proxy_sees config.window config.number
          (all_moved in_proxy.rules (started (in_state.first config)) moves)
          (λ n. c.an_in_proxy_receives_within_its_window.ensures config moves n ranged)
          (c.an_in_proxy_acknowledges_what_came.ensures config moves ranged)
          (c.an_in_proxy_passes_acknowledgements_on.ensures config moves)
          (c.an_in_proxy_tells_its_window.ensures.connected config moves)
          (c.an_in_proxy_tells_its_window.ensures.replaced config moves);
      outs = λ config moves allowed once.
          out_proxy_sees config.number
          (all_moved out_proxy.rules (started (new_proxy config)) moves) once
          (c.an_out_proxy_sends_within_the_clients_window.ensures config moves)
          (c.an_out_proxy_passes_acknowledgements_on.ensures config moves)
          (c.an_out_proxy_tells_what_it_was_told.ensures.connected config moves)
          (c.an_out_proxy_tells_what_it_was_told.ensures.replaced config moves);
    }

    rooms : RoomLaws
    rooms = record {
      ins = c.an_in_proxy_tells_within_its_window.ensures;
      client = c.a_client_tells_within_its_window.ensures;
      opens = c.a_client_tells_what_its_windows_told.ensures.opened;
    }

    alone : (m : Makers g.row.K.Denot InProxy OutProxy)
        (w : World g.row.K.Denot ClientRole Server InProxy OutProxy) → AreAlone m w
    alone m w u h traced node leg away =
        (c.a_leg_is_read_at_its_ends.ensures rules m deeds w.company u h traced node leg away).1
