use Rattle.law_node_history.proofs.Vocabulary.{reader_of}
use Rattle.law_world_order.proofs.Vocabulary.{moves_of, numbers}
use Rattle.law_world_expected.proofs.IsLegs.{connected_by}
use Rattle.law_world_expected.proofs.roles.no_server_refuses_its_in_proxies.Goals as goal
use Rattle.law_world_expected.specs.Roles.{IsByLines, ServerExpectsIn, WorldsExpect}

pub returns : goal.returns
returns g c = record {
  unexpected = λ m w new ours ranges v by lines distinct change may n place.
      (c.no_node_refuses_what_it_expects.ensures.server_in worlds m w new ours ranges v by lines distinct
      n).0 place change may;
  cookie = λ m w new ours ranges v by lines distinct change may n expected got.
      (c.no_node_refuses_what_it_expects.ensures.server_in worlds m w new ours ranges v by lines distinct
      n).1 expected got change may;
}
  where
    worlds : WorldsExpect g.row.K.Denot IsByLines ServerExpectsIn
    worlds m w new ours ranges v by =
        let here = c.a_world_of_roles_is_at_a_moment.ensures m w new ours ranges v by in
        record {
          flowing = here.flowing;
          expects = λ so.
              let now = here.moment so.distinct in
              let moves = moves_of here.flowing in record {
                next = c.a_server_expects_its_in_proxies.ensures (numbers ours)
                    (reader_of v.readers) moves now
                    (connected_by m w v ours by.leads so
                    (c.is_legs_of_lines_are_connected.ensures m w new ours v) here.flowing);
                first = c.no_ping_goes_first_to_a_server.ensures.ins (numbers ours) moves
                    now.now.made;
              };
        }
