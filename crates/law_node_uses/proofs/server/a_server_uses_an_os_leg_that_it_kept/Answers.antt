use Rattle.law_order.proofs.Vocabulary.{[], ◌∷◌}
use Rattle.law_node_uses.proofs.ServerOuts.{marks_kept}
use Rattle.law_node_uses.proofs.ServerUses.{in_use}
use Rattle.law_node_uses.proofs.server.a_server_uses_an_os_leg_that_it_kept.Goals as goal

pub returns : goal.returns
returns c = λ window events n.
    in_use n
    (λ node event one. c.a_node_goes_by_rules_that_mark_the_same.ensures (marks_kept n) node
    (event ∷ []) (one, tt))
    window events
