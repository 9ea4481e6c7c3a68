use Rattle.law_order.proofs.Vocabulary.{Some}
use Rattle.law_moves.proofs.Vocabulary.{OsD, of_leg}
use Rattle.law_role_server.proofs.Vocabulary.{rules as server_rules, acts as server_acts, new_server, pipe_put, out_items}
use Rattle.law_node_history.proofs.Vocabulary.{heard_on, end_drawn_on}
use Rattle.law_role_outproxy.proofs.Vocabulary.{server_leg, from_server}
use Rattle.law_node_streams.proofs.Streams.LegLogs.{leg_reads_back}
use Rattle.law_peers_routes.proofs.Downwards.Sides.{told, proxy_came, server_sent, sent_views}
use Rattle.law_peers_routes.proofs.down.legs.what_a_proxy_takes_was_sent.Goals as goal

pub returns : goal.returns
returns c = λ config window out_config client server outs d n.
    let put = d.giver.passage.passage.put in
    let came = (d.proxies n).passage.came in
    told (proxy_came n came) (server_sent n put)
    (c.what_comes_was_put.ensures out_items from_server sent_views (Some OsD)
    (of_leg (server_leg n) put) (of_leg (server_leg n) came)
    (end_drawn_on server_rules server_acts (new_server window) (server_leg n) server)
    (heard_on (server_leg n) (outs n)) (d.server_begins n)
    (leg_reads_back pipe_put (server_leg n) put d.server_legible.read_back)
    (d.giver.drawn (server_leg n)) (d.near n) ((d.proxies n).read (server_leg n)))
