use Rattle.law_order.proofs.Vocabulary.{arith}
use Rattle.law_moves.proofs.Vocabulary.{started, none_up}
use Rattle.law_role_inproxy.proofs.Vocabulary.{rules as proxy_rules, first}
use Rattle.law_node_causes.specs.Numbers.{AreNumbered}
use Rattle.law_peers_in_channels.proofs.ServerExpects.InTurn.{are_put_up}
use Rattle.law_peers_in_channels.proofs.server_expects.in_proxies.an_in_proxy_in_turn_puts_in_order.Goals as goal

pub returns : goal.returns
returns c config moves allowed turn =
    c.an_in_proxy_puts_in_order.ensures config moves
    (are_put_up proxy_rules AreNumbered c.an_in_proxys_leg_comes_up_once.ensures.moves
    (started (first config)) none_up moves (record { first = omega arith; behind = tt })
    (λ leg none. absurd cc) allowed turn)
