use Rattle.law_peers_routes.proofs.down.down.what_came_down_was_given.Goals as goal
use Rattle.law_peers_routes.specs.Downwards.{route_of}

pub returns : goal.returns
returns c = record {
  taken = λ config window out_config client server outs d.
      c.taken_is_a_front_of_given.ensures.taken (route_of d)
      (c.what_goes_down_is_a_route.ensures config window out_config client server outs d);
  ended = λ config window out_config client server outs d reports.
      let route =
      c.what_goes_down_is_a_route.ensures config window out_config client server outs d in (
        c.all_is_taken_at_a_clean_end.ensures.taken (route_of d) route reports,
        c.all_is_taken_at_a_clean_end.ensures.closing (route_of d) route reports,
      );
}
