use Rattle.law_moves.proofs.Vocabulary.{all_moved, started}
use Rattle.law_role_inproxy.proofs.Vocabulary.{rules, first}
use Rattle.law_peers_in_channels.proofs.PdusInTurn.Items.{holds_back}
use Rattle.law_peers_in_channels.proofs.pdus_in_turn.in_proxies.an_in_proxy_holds_back_pdus_of_a_successor.Goals as goal

pub returns : goal.returns
returns c = λ config moves allowed.
    holds_back config.number (all_moved rules (started (first config)) moves)
    (c.an_in_proxy_keeps_order.ensures config moves allowed)
