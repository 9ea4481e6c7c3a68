use Rattle.law_order.proofs.Vocabulary.{sym, subst}
use Rattle.rh_inproxy.specs.Machine as in_proxy
use Rattle.rh_outproxy.specs.OutProxy.{new_proxy}
use Rattle.rh_outproxy.specs.declared.out_proxy.TheConstants as out_proxies
use Rattle.rh_outproxy.specs.Machine as out_proxy
use Rattle.rh_client.specs.Client as client
use Rattle.rh_server.specs.Servers as server
use Rattle.law_moves.proofs.Vocabulary.{begun, after_end_events}
use Rattle.law_node_history.proofs.Vocabulary.{ComesUpOnce, ComesUpOnceAtEnd}
use Rattle.law_node_traces.proofs.Traced.Remembering.{comes_up_once, comes_up_once_at_end, in_wanted, out_wanted, own_leg}
use Rattle.law_node_traces.proofs.traces.once.legs_of_roles_come_up_once.Goals as goal

pub returns : goal.returns
returns g c = λ m first cast are. record {
  client = subst (ComesUpOnceAtEnd client.rules client.acts) (sym are.client)
      (comes_up_once_at_end client.rules (client.first_client are.config) (λ role leg e. e)
      client.acts
      (c.a_clients_leg_comes_up_once.ensures.comes are.config)
      (c.a_clients_leg_comes_up_once.ensures.once are.config));
  server = subst (ComesUpOnceAtEnd server.rules server.acts) (sym are.server)
      (comes_up_once_at_end server.rules (server.new_server are.window)
      (λ role leg e. absurd cc) server.acts
      (c.a_servers_leg_comes_up_once.ensures.comes are.window)
      (c.a_servers_leg_comes_up_once.ensures.once are.window));
  ins = λ n. subst (ComesUpOnce in_proxy.rules) (sym (are.ins n))
      (comes_up_once in_proxy.rules (in_proxy.first_node (are.in_config n)) in_wanted
      (c.an_in_proxys_leg_comes_up_once.ensures.comes (are.in_config n))
      (c.an_in_proxys_leg_comes_up_once.ensures.once (are.in_config n)));
  outs = λ n. subst (ComesUpOnce out_proxy.rules) (sym (are.outs n))
      (comes_up_once out_proxy.rules (begun (new_proxy (are.out_config n)) out_proxies.ROOMS)
      out_wanted
      (c.an_out_proxys_leg_comes_up_once.ensures.comes (are.out_config n))
      (c.an_out_proxys_leg_comes_up_once.ensures.once (are.out_config n)));
  own = λ events leg accepted may.
      own_leg (after_end_events client.rules client.acts first.client events) leg may;
}
