use Rattle.law_peers_routes.proofs.Upwards.Laws.{BeginLaws}
use Rattle.law_world_ways.proofs.OnPaths.Legs.{AllRead}
use Rattle.law_world_ways.proofs.OnPaths.Worlds.{OrderLaws, on_their_way}
use Rattle.law_world_ways.proofs.paths.paths.nothing_on_its_way_is_lost.Goals as goal

pub returns : goal.returns
returns g c = λ m w new ours ranges v by.
    let read : AllRead = record {
      whole = c.all_that_was_put_is_read.ensures.whole;
      parts = c.all_that_was_put_is_read.ensures.parts;
    } in
    let law : OrderLaws = record {
      routes = record {
        down = c.what_goes_down_is_a_route.ensures;
        up = c.what_goes_up_is_a_route.ensures;
      };
      whole = c.nothing_is_lost.ensures;
      front = c.what_can_be_taken_was_given.ensures;
      far = c.nothing_stands_behind_a_mark.ensures.far;
    } in
    let begin : BeginLaws = record {
      requests = c.a_client_begins_with_a_request.ensures;
      begins = c.an_in_proxy_begins.ensures.server;
      elsewhere = c.an_in_proxy_begins.ensures.elsewhere;
    } in
    on_their_way read law begin c.a_recording_of_roles_is_known.ensures.changes m w new ours v by
    (c.what_was_forgotten_was_drawn.ensures m w new ours ranges v by)
