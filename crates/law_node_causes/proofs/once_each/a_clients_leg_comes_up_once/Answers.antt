use Rattle.rh_client.specs.State.{first}
use Rattle.rh_client.specs.Client as client
use Rattle.law_node_causes.proofs.ClientLegs.{client_once, client_keeps, first_is}
use Rattle.law_node_causes.proofs.once_each.a_clients_leg_comes_up_once.Goals as goal

pub returns : goal.returns
returns c = record {
  moves = client_once;
  calls = client_keeps;
  comes = λ config events leg cookie.
      c.an_ends_leg_comes_up_once.ensures.comes (first config) client.rooms events leg
      cookie (first_is config);
  once = λ config events later leg.
      c.an_ends_leg_comes_up_once.ensures.once (first config) client.rooms events later leg
      (first_is config);
  new = λ config events.
      c.an_ends_leg_comes_up_once.ensures.new (first config) client.rooms events (first_is config);
  numbers = λ config events.
      c.an_ends_leg_comes_up_once.ensures.holds (first config) client.rooms events
      (first_is config);
}

pub an_ends_leg_comes_up_once-requires-clause-moves :
    goal.an_ends_leg_comes_up_once-requires-clause-moves
an_ends_leg_comes_up_once-requires-clause-moves c = client_once

pub an_ends_leg_comes_up_once-requires-clause-calls :
    goal.an_ends_leg_comes_up_once-requires-clause-calls
an_ends_leg_comes_up_once-requires-clause-calls c = client_keeps
