use Rattle.rh_server.specs.Servers as server
use Rattle.law_node_causes.proofs.ServerLegs.{server_once, server_keeps}
use Rattle.law_node_causes.proofs.once_each.a_servers_leg_comes_up_once.Goals as goal

pub returns : goal.returns
returns c = record {
  moves = server_once;
  calls = server_keeps;
  comes = λ window events leg cookie.
      c.an_ends_leg_comes_up_once.ensures.comes (server.first window) server.rooms events leg
      cookie tt;
  once = λ window events later leg.
      c.an_ends_leg_comes_up_once.ensures.once (server.first window) server.rooms events later leg
      tt;
  new = λ window events.
      c.an_ends_leg_comes_up_once.ensures.new (server.first window) server.rooms events tt;
}

pub an_ends_leg_comes_up_once-requires-clause-moves :
    goal.an_ends_leg_comes_up_once-requires-clause-moves
an_ends_leg_comes_up_once-requires-clause-moves c = server_once

pub an_ends_leg_comes_up_once-requires-clause-calls :
    goal.an_ends_leg_comes_up_once-requires-clause-calls
an_ends_leg_comes_up_once-requires-clause-calls c = server_keeps
