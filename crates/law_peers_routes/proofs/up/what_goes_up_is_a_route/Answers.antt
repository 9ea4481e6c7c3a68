use Rattle.law_peers_routes.proofs.Upwards.Laws.{Laws, are_begun}
use Rattle.law_peers_routes.proofs.Upwards.Numbered.{goes_up}
use Rattle.law_peers_routes.proofs.up.what_goes_up_is_a_route.Goals as goal

pub returns : goal.returns
returns c = λ config window in_config client_events server_events ins made reader g.
    let laws : Laws = record {
      gives = c.a_client_gives_in_order.ensures;
      keeps = c.an_in_proxy_keeps_order.ensures;
      takes = c.a_server_takes_in_order.ensures;
      begin = record {
        requests = c.a_client_begins_with_a_request.ensures;
        begins = c.an_in_proxy_begins.ensures.server;
        elsewhere = c.an_in_proxy_begins.ensures.elsewhere;
      };
      refuses = c.an_in_proxy_refuses_first.ensures.elsewhere;
      turned = c.what_refuses_first_refuses_in_turn.ensures;
      carries = c.what_comes_was_put.ensures;
      nothing = c.of_a_refusal_nothing_comes.ensures;
    } in
    goes_up laws config window in_config client_events server_events ins made reader g
    (are_begun laws.begin config window in_config client_events server_events ins made reader g)
