use Rattle.law_order.proofs.Vocabulary.{Some, refl, seen}
use Rattle.law_moves.proofs.Vocabulary.{CoD, refusal_text, begun, of_leg}
use Rattle.law_role_client.proofs.Vocabulary.{down_items}
use Rattle.law_node_history.proofs.Vocabulary.{heard_on, drawn_on, happened}
use Rattle.law_role_outproxy.proofs.Vocabulary.{ROOMS, rules as proxy_rules, new_proxy, pipe_put, client_leg, to_client}
use Rattle.law_node_streams.proofs.Streams.LegLogs.{leg_reads_back}
use Rattle.law_peers_routes.proofs.Downwards.Sides.{told, client_came, proxy_put, put_views, by_drawn}
use Rattle.law_peers_routes.proofs.down.legs.what_a_client_takes_was_put.Goals as goal

pub returns : goal.returns
returns c = λ config window out_config client server outs d n.
    let put = (d.proxies n).passage.put in
    let came = d.taker.passage.passage.came in
    let first = begun (new_proxy (out_config n)) ROOMS in
    let drawn = drawn_on proxy_rules first (client_leg n) (outs n) in
    let heard = heard_on (client_leg n) (happened client) in
    let takes = of_leg (client_leg n) came in
    told (client_came n came) (proxy_put n put)
    (by_drawn (seen down_items takes) (seen to_client (of_leg (client_leg n) put))
    (of_leg (client_leg n) put) drawn (d.proxies_drew n)
    (λ front. c.what_comes_was_put.ensures to_client down_items put_views (Some CoD)
    (of_leg (client_leg n) put) takes drawn heard (d.proxies_begin n)
    (leg_reads_back pipe_put (client_leg n) put (d.proxies_legible n).read_back)
    front (d.far n) (d.taker.read (client_leg n)))
    (λ refusal front. c.of_a_refusal_nothing_comes.ensures down_items (Some CoD) takes
    (refusal_text refusal) drawn heard
    (c.heads_have_no_messages.ensures.refusal (Some CoD) refusal refl) front (d.far n)
    (d.taker.read (client_leg n))))
