use Rattle.law_role_outproxy.proofs.Vocabulary.{new_proxy, rules as proxy_rules}
use Rattle.law_node_ends.proofs.Unused.Staying.{role_stays_unused}
use Rattle.law_node_ends.proofs.Unused.OutProxyStays.{Any, out_proxy_stays}
use Rattle.law_node_ends.proofs.leaving.out_proxy.a_leg_that_an_out_proxy_left_stays_unused.Goals as goal

pub returns : goal.returns
returns c = λ config. role_stays_unused proxy_rules Any out_proxy_stays (new_proxy config) tt
