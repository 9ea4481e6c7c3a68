use Rattle.law_role_client.proofs.Vocabulary.{first, rules as client_rules, acts as client_acts}
use Rattle.law_node_causes.proofs.ClientLegs.{first_is}
use Rattle.law_node_causes.specs.Numbers.{ClientIsNumbered}
use Rattle.law_node_ends.proofs.Unused.Staying.{role_stays_unused, end_stays_unused}
use Rattle.law_node_ends.proofs.Unused.ClientStays.{client_keeps, calls_keep}
use Rattle.law_node_ends.proofs.leaving.client.a_leg_that_a_client_left_stays_unused.Goals as goal

pub returns : goal.returns
returns c =
    let law = client_keeps c.a_clients_leg_comes_up_once.ensures.moves in
    let calls = calls_keep c.a_clients_leg_comes_up_once.ensures.calls in
    record {
      moves = λ config. role_stays_unused client_rules ClientIsNumbered law (first config)
          (first_is config);
      calls = λ config. end_stays_unused client_rules ClientIsNumbered law client_acts calls
          (first config) (first_is config);
    }
