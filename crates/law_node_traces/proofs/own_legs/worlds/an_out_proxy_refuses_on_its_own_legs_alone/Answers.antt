use Rattle.law_order.proofs.Vocabulary.{inl, inr, refl, ℕ}
use Rattle.rh_inproxy.specs.State.{InProxy}
use Rattle.rh_outproxy.specs.OutProxy.{OutProxy}
use Rattle.rh_outproxy.specs.Machine as out_proxy
use Rattle.rh_client.specs.declared.state.ClientRole.{ClientRole}
use Rattle.rh_server.specs.States.{Server}
use Rattle.law_moves.proofs.Vocabulary.{Cause, CookieMismatch, Unexpected, Leg}
use Rattle.law_node_history.proofs.Vocabulary.{Out, World, Change, MayChange, ClosesNode}
use Rattle.law_node_traces.proofs.OwnLegs.Amiss.{ClosesBy}
use Rattle.law_node_traces.proofs.OwnLegs.Fed.{at_out_proxy, of_out_proxy, stands_at}
use Rattle.law_node_traces.proofs.Vocabulary.{rules, IsAmissOn, IsOfOutProxy}
use Rattle.law_node_traces.proofs.own_legs.worlds.an_out_proxy_refuses_on_its_own_legs_alone.Goals as goal

pub returns : goal.returns
returns g c = record {
  unexpected = λ v change may k leg place closes.
      by v change may k leg (Unexpected leg place) (inl (place, refl)) closes;
  cookie = λ v change may k leg expected got closes.
      by v change may k leg (CookieMismatch leg expected got) (inr (expected, got, refl)) closes;
}
  where
    law : ClosesBy out_proxy.rules
    law = record {
      comes = c.causes_come_from_their_events.ensures;
      may = c.events_close_with_their_causes.ensures;
    }

    by : (v : World g.row.K.Denot ClientRole Server InProxy OutProxy) (change : Change)
        → MayChange rules v change → (k : ℕ) (leg : Leg) (why : Cause) → IsAmissOn leg why
        → ClosesNode rules v change (Out k) why → IsOfOutProxy leg
    by v change may k leg why amiss is =
        of_out_proxy v leg k
        (stands_at v (Out k) leg why change may is
        (at_out_proxy v is.event leg why amiss law k is.closes))
