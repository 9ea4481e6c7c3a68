use Rattle.law_node_traces.proofs.Vocabulary.{deeds, history_at, rules}
use Rattle.law_peers_routes.proofs.Upwards.Unread.{refusal_unread}
use Rattle.law_world_order.proofs.Legal.{Legalities}
use Rattle.law_world_order.proofs.Legs.{Reads}
use Rattle.law_world_rest.proofs.Nodes.{are_steady}
use Rattle.law_world_rest.proofs.steady.nodes_of_roles_are_steady.Goals as goal

pub returns : goal.returns
returns g c = λ m w new ours ranges v by.
    let reads : Reads = record {
      put = c.what_was_put_is_read.ensures;
      fine = c.what_is_read_is_fine.ensures;
      refusal = refusal_unread;
    } in
    let legal : Legalities = record {
      client = c.what_a_client_puts_reads_back.ensures;
      server = c.what_a_server_puts_reads_back.ensures;
      ins = c.what_an_in_proxy_puts_reads_back.ensures;
      outs = c.what_an_out_proxy_puts_reads_back.ensures;
    } in
    let known = c.a_recording_of_roles_is_known.ensures.changes m w v new ours by.leads in
    let history = history_at m w v by.leads in
    are_steady reads legal m w ours ranges v by known
    (c.channels_come_up_in_order.ensures.changes rules m deeds w v new
    (c.legs_of_roles_come_up_once.ensures m w.company w.cast ours) by)
    (c.what_is_heard_was_drawn.ensures rules m deeds w.company v history known.traced)
    (λ node leg away.
    (c.a_leg_is_read_at_its_ends.ensures rules m deeds w.company v history known.traced node leg
    away).1)
    (c.what_is_put_is_legible.ensures m w new ours ranges v by)
