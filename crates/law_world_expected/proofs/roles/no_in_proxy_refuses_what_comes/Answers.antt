use Rattle.law_moves.proofs.Vocabulary.{of_leg}
use Rattle.law_role_client.proofs.Vocabulary.{ci, client_moved}
use Rattle.law_node_history.proofs.Vocabulary.{reader_of}
use Rattle.law_node_traces.proofs.Vocabulary.{history_at}
use Rattle.law_world_order.proofs.Vocabulary.{moves_of, numbers, AreDistinct}
use Rattle.law_world_expected.proofs.Facts.{are_read, no_ping}
use Rattle.law_world_expected.proofs.roles.no_in_proxy_refuses_what_comes.Goals as goal
use Rattle.law_world_expected.specs.Roles.{InExpects, OfClient, WorldsExpect}

pub returns : goal.returns
returns g c = record {
  unexpected = λ m w new ours ranges v by distinct change may k leg place.
      (c.no_node_refuses_what_it_expects.ensures.in_proxies worlds m w new ours ranges v by distinct
      k leg).0 place change may;
  cookie = λ m w new ours ranges v by distinct change may k leg expected got.
      (c.no_node_refuses_what_it_expects.ensures.in_proxies worlds m w new ours ranges v by distinct
      k leg).1 expected got change may;
}
  where
    worlds : WorldsExpect g.row.K.Denot (OfClient AreDistinct) InExpects
    worlds m w new ours ranges v by =
        let here = c.a_world_of_roles_is_at_a_moment.ensures m w new ours ranges v by in
        let known = c.a_recording_of_roles_is_known.ensures.changes m w v new ours by.leads in
        record {
          flowing = here.flowing;
          expects = λ distinct.
              let now = here.moment distinct in
              let moves = moves_of here.flowing in record {
                client = record {
                  next = c.an_in_proxy_expects_what_comes.ensures.client (numbers ours)
                      (reader_of v.readers) moves now
                      (are_read m w v ours (history_at m w v by.leads) known.traced here.flowing);
                  first = λ n.
                      no_ping (of_leg (ci n) (client_moved ours.config moves.client).passage.put)
                      ((c.a_client_puts_no_ping_first.ensures ours.config moves.client
                      now.now.made.client).ins n);
                };
                server = record {
                  next = c.an_in_proxy_expects_what_comes.ensures.server (numbers ours)
                      (reader_of v.readers) moves now;
                };
              };
        }
