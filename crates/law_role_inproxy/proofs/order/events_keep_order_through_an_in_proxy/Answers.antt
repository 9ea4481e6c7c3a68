use Rattle.law_order.proofs.Vocabulary.{subst}
use Rattle.law_role_inproxy.proofs.Vocabulary.{rooms, first, KeepsOrder}
use Rattle.law_role_inproxy.proofs.OrderMoves.{order_is_kept}
use Rattle.law_role_inproxy.proofs.order.events_keep_order_through_an_in_proxy.Goals as goal

pub returns : goal.returns
returns c = λ config events.
    let follows = c.roles_move_by_their_rules.ensures.run (first config) rooms events in
    record {
      follows = follows;
      keeps = subst (KeepsOrder config.number) follows.leads.reached
          (order_is_kept config follows.leads.moves);
    }
