use Rattle.law_role_client.proofs.Vocabulary.{co}
use Rattle.law_node_history.proofs.Vocabulary.{reader_of}
use Rattle.law_world_order.proofs.Vocabulary.{AreDistinct, moves_of, numbers}
use Rattle.law_world_expected.proofs.worlds.no_client_refuses_what_comes.Goals as goal
use Rattle.law_world_expected.specs.Roles.{ClientExpects, OfClient, WorldsExpect}

pub returns : goal.returns
returns g c = record {
  unexpected = λ m w new ours ranges port v by distinct change may n place.
      c.no_node_refuses_what_it_expects.ensures.client worlds m w new ours ranges port v by distinct
      n place change may;
  cookie = λ m w new ours ranges port v by distinct change may n expected got closes.
      c.a_client_refuses_no_cookie.ensures m w new ours ranges v by change may (co n) expected got
      closes;
}
  where
    worlds : WorldsExpect g.row.K.Denot (OfClient AreDistinct) ClientExpects
    worlds m w new ours ranges v by =
        let here = c.a_world_of_roles_is_at_a_moment.ensures m w new ours ranges v by in
        record {
          flowing = here.flowing;
          expects = λ distinct. record {
            next = c.a_client_expects_what_comes.ensures (numbers ours) (reader_of v.readers)
                (moves_of here.flowing) (here.moment distinct);
          };
        }
