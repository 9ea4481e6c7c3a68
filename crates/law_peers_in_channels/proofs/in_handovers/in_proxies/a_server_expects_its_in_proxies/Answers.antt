use Rattle.law_moves.proofs.Vocabulary.{of_leg, all_read_of}
use Rattle.law_role_inproxy.proofs.Vocabulary.{is_leg}
use Rattle.law_role_server.proofs.Vocabulary.{rules as server_rules}
use Rattle.law_peers_moments.specs.Moments.{in_behind, server_behind}
use Rattle.law_peers_in_channels.proofs.InHandovers.ByCases.{expects_all}
use Rattle.law_peers_in_channels.proofs.in_handovers.in_proxies.a_server_expects_its_in_proxies.Goals as goal

pub returns : goal.returns
returns c numbers reader moves moment connected n =
    expects_all server_rules (server_behind numbers moves).passage (is_leg n)
    (all_read_of (of_leg (is_leg n) (in_behind numbers moves n).put))
    (c.a_server_expects_successors.ensures numbers reader moves moment connected n)
    (c.a_server_expects_handovers.ensures numbers reader moves moment n)
    (c.a_server_expects_all_but_successors.ensures.packets numbers reader moves moment n)
    (c.a_server_expects_all_but_successors.ensures.pdus numbers reader moves moment n)
