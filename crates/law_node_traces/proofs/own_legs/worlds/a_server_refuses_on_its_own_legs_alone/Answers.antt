use Rattle.law_order.proofs.Vocabulary.{inl, inr, refl}
use Rattle.rh_inproxy.specs.State.{InProxy}
use Rattle.rh_outproxy.specs.OutProxy.{OutProxy}
use Rattle.rh_client.specs.declared.state.ClientRole.{ClientRole}
use Rattle.rh_server.specs.States.{Server}
use Rattle.rh_server.specs.Servers as server
use Rattle.law_moves.proofs.Vocabulary.{Cause, CookieMismatch, Unexpected, Leg}
use Rattle.law_node_history.proofs.Vocabulary.{Server as AtServer, World, Change, MayChange, ClosesNode}
use Rattle.law_node_traces.proofs.OwnLegs.Amiss.{ClosesBy}
use Rattle.law_node_traces.proofs.OwnLegs.Fed.{at_server, of_server, stands_at}
use Rattle.law_node_traces.proofs.Vocabulary.{rules, IsAmissOn, IsOfServer}
use Rattle.law_node_traces.proofs.own_legs.worlds.a_server_refuses_on_its_own_legs_alone.Goals as goal

pub returns : goal.returns
returns g c = record {
  unexpected = λ v change may leg place closes.
      by v change may leg (Unexpected leg place) (inl (place, refl)) closes;
  cookie = λ v change may leg expected got closes.
      by v change may leg (CookieMismatch leg expected got) (inr (expected, got, refl)) closes;
}
  where
    law : ClosesBy server.rules
    law = record {
      comes = c.causes_come_from_their_events.ensures;
      may = c.events_close_with_their_causes.ensures;
    }

    by : (v : World g.row.K.Denot ClientRole Server InProxy OutProxy) (change : Change)
        → MayChange rules v change → (leg : Leg) (why : Cause) → IsAmissOn leg why
        → ClosesNode rules v change AtServer why → IsOfServer leg
    by v change may leg why amiss is =
        of_server v leg
        (stands_at v AtServer leg why change may is
        (at_server v is.event leg why amiss law is.closes))
