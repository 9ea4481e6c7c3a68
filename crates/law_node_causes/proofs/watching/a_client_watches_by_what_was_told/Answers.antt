use Rattle.rh_client.specs.State.{first}
use Rattle.rh_client.specs.Client as client
use Rattle.law_moves.proofs.Vocabulary.{after_end_events}
use Rattle.law_node_causes.proofs.ClientTimes.{watches}
use Rattle.law_node_causes.proofs.watching.a_client_watches_by_what_was_told.Goals as goal

pub returns : goal.returns
returns c = λ config events.
    watches config (after_end_events client.rules client.acts (client.first_client config) events)
    (c.ends_move_by_their_rules.ensures.run (first config) client.rooms events)
