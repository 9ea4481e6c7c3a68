use Rattle.rh_inproxy.specs.State.{first}
use Rattle.rh_inproxy.specs.Machine as in_proxy
use Rattle.law_node_causes.proofs.InProxyLegs.{in_proxy_once, first_numbered}
use Rattle.law_node_causes.proofs.once_each.an_in_proxys_leg_comes_up_once.Goals as goal

pub returns : goal.returns
returns c = record {
  moves = in_proxy_once;
  comes = λ config events leg cookie.
      c.a_leg_comes_up_once.ensures.comes (first config) in_proxy.rooms events leg cookie
      (first_numbered config);
  once = λ config events later leg.
      c.a_leg_comes_up_once.ensures.once (first config) in_proxy.rooms events later leg
      (first_numbered config);
  new = λ config events.
      c.a_leg_comes_up_once.ensures.new (first config) in_proxy.rooms events
      (first_numbered config);
}

pub a_leg_comes_up_once-requires : goal.a_leg_comes_up_once-requires
a_leg_comes_up_once-requires c = in_proxy_once
