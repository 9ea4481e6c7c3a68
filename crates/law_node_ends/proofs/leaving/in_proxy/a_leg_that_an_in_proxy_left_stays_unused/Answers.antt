use Rattle.law_role_inproxy.proofs.Vocabulary.{first, rules as proxy_rules}
use Rattle.law_node_causes.proofs.InProxyLegs.{first_numbered as first_are}
use Rattle.law_node_causes.specs.Numbers.{AreNumbered}
use Rattle.law_node_ends.proofs.Unused.Staying.{role_stays_unused}
use Rattle.law_node_ends.proofs.Unused.InProxyStays.{in_proxy_keeps}
use Rattle.law_node_ends.proofs.leaving.in_proxy.a_leg_that_an_in_proxy_left_stays_unused.Goals as goal

pub returns : goal.returns
returns c = λ config.
    role_stays_unused proxy_rules AreNumbered
    (in_proxy_keeps c.an_in_proxys_leg_comes_up_once.ensures.moves) (first config)
    (first_are config)
