use Rattle.rh_client.specs.State.{first}
use Rattle.rh_client.specs.Client.{rooms}
use Rattle.law_node_kept.proofs.ClientDone.{done_for_good}
use Rattle.law_node_kept.proofs.client.a_client_whose_work_is_done_is_done_for_good.Goals as goal

pub returns : goal.returns
returns c = λ config.
    done_for_good config (c.a_leg_that_a_client_left_stays_unused.ensures.calls config)
    c.ends_move_by_their_rules.ensures.event
    (c.ends_move_by_their_rules.ensures.run (first config) rooms)
