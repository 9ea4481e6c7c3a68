use Rattle.rh_inproxy.specs.Machine as in_proxy
use Rattle.rh_inproxy.specs.State as in_state
use Rattle.rh_outproxy.specs.Machine as out_proxy
use Rattle.rh_client.specs.Client as client
use Rattle.rh_client.specs.State as client_state
use Rattle.rh_server.specs.Servers as server
use Rattle.law_moves.proofs.Vocabulary.{begun}
use Rattle.law_node_history.proofs.Vocabulary.{happened, heard_on}
use Rattle.law_role_outproxy.proofs.Vocabulary.{ROOMS, new_proxy}
use Rattle.law_node_begins.specs.EndsBegin.{client_reads, server_reads}
use Rattle.law_node_begins.specs.ProxiesBegin.Pipes.{in_pipe, out_pipe}
use Rattle.law_node_traces.proofs.Traced.Remembering.{in_wanted, out_wanted}
use Rattle.law_world_ways.proofs.LiveIntakes.LiveNodes.{end_read, node_read}
use Rattle.law_world_ways.proofs.LiveIntakes.TakenHeads.{client_brings, in_brings, out_brings, server_brings}
use Rattle.law_world_ways.proofs.LiveIntakes.UpOnce.{end_once, node_once}
use Rattle.law_world_ways.proofs.live_intakes.nodes.what_a_node_keeps_is_read.Goals as goal

pub returns : goal.returns
returns c = record {
  client = λ config events leg accepted turns.
      end_read client.rules client.acts c.an_ends_stream.ensures (client_state.first config)
      client.rooms client_reads events c.an_end_never_refuses.ensures.client_pipes
      c.an_end_never_refuses.ensures.client
      (c.a_leg_that_a_client_left_stays_unused.ensures.calls config)
      (end_once client.rules (client.first_client config) (λ role k e. e) client.acts
      (c.a_clients_leg_comes_up_once.ensures.comes config)
      (c.a_clients_leg_comes_up_once.ensures.once config)) accepted turns leg
      (client_brings (client_reads leg) leg (heard_on leg (happened events)));
  server = λ window events leg accepted turns.
      end_read server.rules server.acts c.an_ends_stream-2.ensures (server.first window)
      server.rooms server_reads events c.an_end_never_refuses.ensures.server_pipes
      c.an_end_never_refuses.ensures.server
      (c.a_leg_that_a_server_left_stays_unused.ensures.calls window)
      (end_once server.rules (server.new_server window) (λ role k e. absurd cc) server.acts
      (c.a_servers_leg_comes_up_once.ensures.comes window)
      (c.a_servers_leg_comes_up_once.ensures.once window)) accepted turns leg
      (server_brings (server_reads leg) leg (heard_on leg (happened events)));
  in_proxy = λ config events leg accepted turns none.
      node_read in_proxy.rules c.a_nodes_stream.ensures (in_state.first config) in_proxy.rooms
      (in_pipe config) events (c.proxies_keep_their_pipes.ensures.in_proxy config)
      (c.a_leg_that_an_in_proxy_left_stays_unused.ensures config)
      (node_once in_proxy.rules (in_proxy.first_node config) in_wanted
      (c.an_in_proxys_leg_comes_up_once.ensures.comes config)
      (c.an_in_proxys_leg_comes_up_once.ensures.once config)) accepted turns leg
      (in_brings (in_pipe config leg) leg (heard_on leg events) none);
  out_proxy = λ config events leg accepted turns none.
      node_read out_proxy.rules c.a_nodes_stream-2.ensures (new_proxy config) ROOMS
      (out_pipe config) events (c.proxies_keep_their_pipes.ensures.out_proxy config)
      (c.a_leg_that_an_out_proxy_left_stays_unused.ensures config)
      (node_once out_proxy.rules (begun (new_proxy config) ROOMS) out_wanted
      (c.an_out_proxys_leg_comes_up_once.ensures.comes config)
      (c.an_out_proxys_leg_comes_up_once.ensures.once config)) accepted turns leg
      (out_brings (out_pipe config leg) leg (heard_on leg events) none);
}
