use Rattle.law_node_traces.proofs.Vocabulary.{deeds, rules}
use Rattle.law_peers_routes.proofs.Upwards.Unread.{refusal_unread}
use Rattle.law_world_order.proofs.Legs.{Reads}
use Rattle.law_world_order.proofs.Flowing.{Streaming}
use Rattle.law_world_order.proofs.Starting.{Beginning}
use Rattle.law_world_order.proofs.Legal.{Legalities}
use Rattle.law_world_order.proofs.Reaching.{Tracing}
use Rattle.law_world_order.proofs.Moments.{Known, flowing}
use Rattle.law_world_order.proofs.directions.what_is_put_is_legible.Goals as goal

pub returns : goal.returns
returns g c = λ m w new ours ranges v lines.
    let reads : Reads = record {
      put = c.what_was_put_is_read.ensures;
      fine = c.what_is_read_is_fine.ensures;
      refusal = refusal_unread;
    } in
    let streaming : Streaming = record {
      proxies = record {
        ins = c.a_nodes_stream.ensures;
        outs = c.a_nodes_stream-2.ensures;
        in_pipes = c.proxies_keep_their_pipes.ensures.in_proxy;
        out_pipes = c.proxies_keep_their_pipes.ensures.out_proxy;
        in_unused = c.a_leg_that_an_in_proxy_left_stays_unused.ensures;
        out_unused = c.a_leg_that_an_out_proxy_left_stays_unused.ensures;
      };
      clients = c.an_ends_stream.ensures;
      servers = c.an_ends_stream-2.ensures;
      client_refuses = c.an_end_never_refuses.ensures.client;
      server_refuses = c.an_end_never_refuses.ensures.server;
      client_unused = c.a_leg_that_a_client_left_stays_unused.ensures.calls;
      server_unused = c.a_leg_that_a_server_left_stays_unused.ensures.calls;
    } in
    let begins : Beginning = record {
      client = c.a_client_begins_with_a_request.ensures;
      server = c.a_server_begins_with_a_greeting.ensures;
      in_server = c.an_in_proxy_begins.ensures.server;
      in_client = c.an_in_proxy_begins.ensures.client;
      out_server = c.an_out_proxy_begins.ensures.server;
      out_client = c.an_out_proxy_begins.ensures.client;
      in_refuses = c.an_in_proxy_refuses_first.ensures.client;
      in_refuses_else = c.an_in_proxy_refuses_first.ensures.elsewhere;
      out_refuses = c.an_out_proxy_refuses_first.ensures.client;
      out_refuses_else = c.an_out_proxy_refuses_first.ensures.elsewhere;
    } in
    let legal : Legalities = record {
      client = c.what_a_client_puts_reads_back.ensures;
      server = c.what_a_server_puts_reads_back.ensures;
      ins = c.what_an_in_proxy_puts_reads_back.ensures;
      outs = c.what_an_out_proxy_puts_reads_back.ensures;
    } in
    let tracing : Tracing g.row.K.Denot = record {
      turns = λ m. c.nodes_hear_in_turn.ensures.change rules m deeds;
      before = λ m. c.what_is_heard_was_drawn_before.ensures rules m deeds;
      alone = λ m. c.a_leg_is_read_at_its_ends.ensures rules m deeds;
    } in
    let known : Known g.row.K.Denot = record {
      known = c.a_recording_of_roles_is_known.ensures.changes;
      once = λ m w. c.legs_of_roles_come_up_once.ensures m w.company w.cast;
      order = λ m. c.channels_come_up_in_order.ensures.changes rules m deeds;
    } in
    flowing reads streaming begins legal tracing known m w new ours ranges v lines
