use Rattle.law_order.proofs.Vocabulary.{[], refl}
use Rattle.law_role_client.proofs.Vocabulary.{rules, acts, first_client, rooms, first}
use Rattle.law_node_history.proofs.Lemmas.{once_remembered_at_end}
use Rattle.law_node_begins.specs.EndsBegin.{client_reads}
use Rattle.law_world_honest.proofs.Refusals.Heard.{ClientLaws, heard_refusal, held}
use Rattle.law_world_honest.proofs.Refusals.ClosedClients.{closed_refused}
use Rattle.law_world_honest.proofs.refused.clients.what_a_client_holds_of_a_head.Goals as goal

pub returns : goal.returns
returns c =
    let laws : ClientLaws = record {
      stream = λ config events.
          c.an_ends_stream.ensures (first config) rooms client_reads events (λ s leg. refl)
          c.an_end_never_refuses.ensures.client
          (c.a_leg_that_a_client_left_stays_unused.ensures.calls config)
          (once_remembered_at_end rules acts (first_client config) (record {
            comes = λ events leg cookie may.
                (c.a_clients_leg_comes_up_once.ensures.comes config events leg cookie may).was_up;
            stays = λ events later leg was.
                (c.a_clients_leg_comes_up_once.ensures.once config events later leg was).was_up;
            once = λ events leg was.
                (c.a_clients_leg_comes_up_once.ensures.once config events [] leg was).not_again;
            wanted = λ role leg e. e;
          }));
      closed = c.a_node_closes_once.ensures.closed;
      again = c.a_node_closes_once.ensures.again;
      comes = c.causes_come_from_their_events.ensures;
      response = c.only_a_client_closes_with_http_refused.ensures.client;
      stays = c.an_end_closes_once.ensures;
      unheard = c.a_leg_is_silent_since_it_was_heard.ensures.unheard;
    } in
    record {
      held = λ config events leg end accepted turns.
          held laws config events accepted turns leg end;
      refused = λ config events event leg status accepted turns.
          heard_refusal laws config events accepted turns event leg status;
      closed = λ config events leg status accepted turns.
          closed_refused laws config leg status events accepted turns;
    }
