use Rattle.rh_outproxy.specs.OutProxy.{new_proxy}
use Rattle.rh_outproxy.specs.declared.out_proxy.TheConstants as out_proxies
use Rattle.law_node_causes.proofs.OutProxyLegs.{out_proxy_once}
use Rattle.law_node_causes.proofs.once_each.an_out_proxys_leg_comes_up_once.Goals as goal

pub returns : goal.returns
returns c = record {
  moves = out_proxy_once;
  comes = λ config events leg cookie.
      c.a_leg_comes_up_once.ensures.comes (new_proxy config) out_proxies.ROOMS events leg cookie tt;
  once = λ config events later leg.
      c.a_leg_comes_up_once.ensures.once (new_proxy config) out_proxies.ROOMS events later leg tt;
  new = λ config events.
      c.a_leg_comes_up_once.ensures.new (new_proxy config) out_proxies.ROOMS events tt;
}

pub a_leg_comes_up_once-requires : goal.a_leg_comes_up_once-requires
a_leg_comes_up_once-requires c = out_proxy_once
