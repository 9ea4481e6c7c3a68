use Rattle.law_role_outproxy.proofs.Vocabulary.{ROOMS, new_proxy}
use Rattle.law_node_lasting.proofs.OutProxyHanded.{stays_handed}
use Rattle.law_node_lasting.proofs.out_proxy.an_out_proxy_hands_over_for_good.Goals as goal

pub returns : goal.returns
returns c = λ config events more.
    stays_handed c.roles_move_by_their_rules.ensures.event _ more
    (c.roles_move_by_their_rules.ensures.run (new_proxy config) ROOMS events).held
