use Rattle.law_role_client.proofs.Vocabulary.{co}
use Rattle.law_role_server.proofs.Vocabulary.{no_cookie}
use Rattle.law_node_history.proofs.Vocabulary.{reader_of}
use Rattle.law_world_order.proofs.Vocabulary.{moves_of, numbers}
use Rattle.law_world_expected.proofs.roles.no_out_proxy_refuses_its_server.Goals as goal
use Rattle.law_world_expected.specs.Roles.{HaveCookies, OfClient, OutExpectsServer, WorldsExpect}

pub returns : goal.returns
returns g c = record {
  unexpected = λ m w new ours ranges v by have change may k n place.
      (c.no_node_refuses_what_it_expects.ensures.out_server worlds m w new ours ranges v by have k
      n).0 place change may;
  cookie = λ m w new ours ranges v by have change may k n expected got.
      (c.no_node_refuses_what_it_expects.ensures.out_server worlds m w new ours ranges v by have k
      n).1 expected got change may;
}
  where
    worlds : WorldsExpect g.row.K.Denot (OfClient HaveCookies) OutExpectsServer
    worlds m w new ours ranges v by =
        let here = c.a_world_of_roles_is_at_a_moment.ensures m w new ours ranges v by in
        record {
          flowing = here.flowing;
          expects = λ have. record {
            next = c.an_out_proxy_expects_its_server.ensures (numbers ours) (reader_of v.readers)
                (moves_of here.flowing) (here.moment have.distinct) (record {
                  window = ranges.client.window;
                  lifetimes = λ n. (ranges.outs n).lifetime;
                  cookies = λ n rose.
                      have.some n (here.flowing.flows.client.raised (co n) no_cookie rose);
                });
          };
        }
