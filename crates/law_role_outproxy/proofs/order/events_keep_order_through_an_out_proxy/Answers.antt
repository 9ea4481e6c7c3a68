use Rattle.law_order.proofs.Vocabulary.{subst}
use Rattle.law_role_outproxy.proofs.Vocabulary.{ROOMS, new_proxy, KeepsOrder}
use Rattle.law_role_outproxy.proofs.OrderKept.{order_kept}
use Rattle.law_role_outproxy.proofs.order.events_keep_order_through_an_out_proxy.Goals as goal

pub returns : goal.returns
returns c = λ config events.
    let follows = c.roles_move_by_their_rules.ensures.run (new_proxy config) ROOMS events in
    record {
      follows = follows;
      keeps = subst (KeepsOrder config.number) follows.leads.reached
          (order_kept config follows.leads.moves follows.leads.allowed);
    }
