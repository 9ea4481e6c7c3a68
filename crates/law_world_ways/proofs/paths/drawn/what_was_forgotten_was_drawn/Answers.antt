use Rattle.law_order.proofs.Vocabulary.{refl}
use Rattle.rh_inproxy.specs.Machine as in_proxy
use Rattle.rh_inproxy.specs.State as in_state
use Rattle.rh_outproxy.specs.Machine as out_proxy
use Rattle.rh_client.specs.Client as client
use Rattle.rh_client.specs.State as client_state
use Rattle.rh_server.specs.Servers as server
use Rattle.law_role_server.proofs.Vocabulary.{Server}
use Rattle.law_node_causes.proofs.ClientLegs.{first_is}
use Rattle.law_node_causes.proofs.InProxyLegs.{first_numbered}
use Rattle.law_node_causes.specs.Numbers.{AreNumbered, ClientIsNumbered}
use Rattle.law_role_outproxy.proofs.Vocabulary.{ROOMS, OutProxy, new_proxy}
use Rattle.law_node_begins.specs.ProxiesBegin.Pipes.{in_pipe}
use Rattle.law_node_traces.proofs.Vocabulary.{deeds, rules}
use Rattle.law_peers_routes.proofs.Upwards.Unread.{refusal_unread}
use Rattle.law_peers_routes.specs.Downwards.{client_reads, proxy_reads, server_reads}
use Rattle.law_world_order.proofs.Flowing.{Streaming, out_reads}
use Rattle.law_world_order.proofs.Starting.{Beginning}
use Rattle.law_world_order.proofs.Legal.{Legalities}
use Rattle.law_world_ways.proofs.OnPaths.DrawnFlows.{AllDraw, DrawLaws, drawn_directions}
use Rattle.law_world_ways.proofs.OnPaths.Forgotten.{end_drawn, node_drawn}
use Rattle.law_world_ways.proofs.paths.drawn.what_was_forgotten_was_drawn.Goals as goal

pub returns : goal.returns
returns g c = λ m w new ours ranges v by.
    drawn_directions laws m w ours ranges v by
    (c.a_recording_of_roles_is_known.ensures.changes m w v new ours by.leads)
    (c.channels_come_up_in_order.ensures.changes rules m deeds w v new
    (c.legs_of_roles_come_up_once.ensures m w.company w.cast ours) by).cookies
    (c.what_is_put_is_legible.ensures m w new ours ranges v by)
    (c.directions_are_joined.ensures m w new ours ranges v by)
  where
    streaming : Streaming
    streaming = record {
      proxies = record {
        ins = c.a_nodes_stream.ensures;
        outs = c.a_nodes_stream-2.ensures;
        in_pipes = c.proxies_keep_their_pipes.ensures.in_proxy;
        out_pipes = c.proxies_keep_their_pipes.ensures.out_proxy;
        in_unused = c.a_leg_that_an_in_proxy_left_stays_unused.ensures;
        out_unused = c.a_leg_that_an_out_proxy_left_stays_unused.ensures;
      };
      clients = c.an_ends_stream.ensures;
      servers = c.an_ends_stream-2.ensures;
      client_refuses = c.an_end_never_refuses.ensures.client;
      server_refuses = c.an_end_never_refuses.ensures.server;
      client_unused = c.a_leg_that_a_client_left_stays_unused.ensures.calls;
      server_unused = c.a_leg_that_a_server_left_stays_unused.ensures.calls;
    }

    draws : AllDraw
    draws = record {
      clients = λ config events once ok turn.
          end_drawn client.rules client.acts ClientIsNumbered
          c.a_clients_leg_comes_up_once.ensures.moves
          c.a_clients_leg_comes_up_once.ensures.calls c.roles_move_by_their_rules.ensures.event
          c.ends_move_by_their_rules.ensures.event (client_state.first config) client.rooms
          client_reads (streaming.client_unused config) (first_is config) events ok
          (c.an_ends_stream_grows.ensures (client_state.first config) client.rooms client_reads
          events (λ s leg. refl) streaming.client_refuses (streaming.client_unused config) once
          ok turn);
      servers = λ window events once ok turn.
          end_drawn server.rules server.acts (λ (s : Server). Unit {0})
          c.a_servers_leg_comes_up_once.ensures.moves
          c.a_servers_leg_comes_up_once.ensures.calls c.roles_move_by_their_rules-2.ensures.event
          c.ends_move_by_their_rules-2.ensures.event (server.first window) server.rooms
          server_reads (streaming.server_unused window) tt events ok
          (c.an_ends_stream_grows-2.ensures (server.first window) server.rooms server_reads
          events (λ s leg. refl) streaming.server_refuses (streaming.server_unused window) once
          ok turn);
      ins = λ config events once ok turn.
          node_drawn in_proxy.rules AreNumbered c.an_in_proxys_leg_comes_up_once.ensures.moves
          c.roles_move_by_their_rules-3.ensures.event (in_state.first config) in_proxy.rooms
          (in_pipe config) (streaming.proxies.in_unused config) (first_numbered config) events ok
          (c.a_nodes_stream_grows.ensures (in_state.first config) in_proxy.rooms
          (in_pipe config) events (streaming.proxies.in_pipes config)
          (streaming.proxies.in_unused config) once ok turn);
      outs = λ config events once ok turn.
          node_drawn out_proxy.rules (λ (s : OutProxy). Unit {0})
          c.an_out_proxys_leg_comes_up_once.ensures.moves
          c.roles_move_by_their_rules-4.ensures.event (new_proxy config) ROOMS
          (proxy_reads config) (streaming.proxies.out_unused config) tt events ok
          (c.a_nodes_stream_grows-2.ensures (new_proxy config) ROOMS (proxy_reads config) events
          (out_reads streaming.proxies config) (streaming.proxies.out_unused config) once ok
          turn);
    }

    begins : Beginning
    begins = record {
      client = c.a_client_begins_with_a_request.ensures;
      server = c.a_server_begins_with_a_greeting.ensures;
      in_server = c.an_in_proxy_begins.ensures.server;
      in_client = c.an_in_proxy_begins.ensures.client;
      out_server = c.an_out_proxy_begins.ensures.server;
      out_client = c.an_out_proxy_begins.ensures.client;
      in_refuses = c.an_in_proxy_refuses_first.ensures.client;
      in_refuses_else = c.an_in_proxy_refuses_first.ensures.elsewhere;
      out_refuses = c.an_out_proxy_refuses_first.ensures.client;
      out_refuses_else = c.an_out_proxy_refuses_first.ensures.elsewhere;
    }

    legal : Legalities
    legal = record {
      client = c.what_a_client_puts_reads_back.ensures;
      server = c.what_a_server_puts_reads_back.ensures;
      ins = c.what_an_in_proxy_puts_reads_back.ensures;
      outs = c.what_an_out_proxy_puts_reads_back.ensures;
    }

    laws : DrawLaws g.row.K.Denot
    laws = record {
      draws = draws;
      streaming = streaming;
      begins = begins;
      legal = legal;
      reads = record {
        put = c.what_was_put_is_read.ensures;
        fine = c.what_is_read_is_fine.ensures;
        refusal = refusal_unread;
      };
      drawn = λ m w v h. c.what_is_heard_was_drawn.ensures rules m deeds w.company v h;
      alone = λ m w v h traced node leg away.
          (c.a_leg_is_read_at_its_ends.ensures rules m deeds w.company v h traced node leg
          away).1;
    }
