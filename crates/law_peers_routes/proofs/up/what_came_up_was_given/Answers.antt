use Rattle.law_peers_routes.proofs.up.what_came_up_was_given.Goals as goal
use Rattle.law_peers_routes.specs.Upwards.{up_route}

pub returns-clause-taken : goal.returns-clause-taken
returns-clause-taken c = λ config window in_config client_events server_events ins made reader g.
    c.taken_is_a_front_of_given.ensures.taken
    (up_route reader g.giver.passage (λ n. (g.proxies n).passage) g.taker.leads.moves
    g.taker.passage)
    (c.what_goes_up_is_a_route.ensures config window in_config client_events server_events ins made
    reader g)

pub returns-clause-ended : goal.returns-clause-ended
returns-clause-ended c = λ config window in_config client_events server_events ins made reader g
    end.
    let route = up_route reader g.giver.passage (λ n. (g.proxies n).passage) g.taker.leads.moves
    g.taker.passage in
    let is = c.what_goes_up_is_a_route.ensures config window in_config client_events server_events
    ins made reader g in (
      c.all_is_taken_at_a_clean_end.ensures.taken route is end,
      c.all_is_taken_at_a_clean_end.ensures.closing route is end,
    )
