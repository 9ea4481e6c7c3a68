use Rattle.law_order.proofs.Vocabulary.{◌≡◌, inl, inr, refl, ap, ◌∙◌, subst}
use Rattle.rh_inproxy.specs.State.{InProxy}
use Rattle.rh_outproxy.specs.OutProxy.{OutProxy}
use Rattle.rh_client.specs.declared.state.ClientRole.{ClientRole}
use Rattle.rh_client.specs.Client as client
use Rattle.rh_server.specs.States.{Server}
use Rattle.law_moves.proofs.Vocabulary.{Cause, CookieMismatch, Unexpected, Leg, ClientOut, Shell, after_end_events}
use Rattle.law_node_history.proofs.Vocabulary.{Client as AtClient, Makers, World, Change, Leads, ClosesNode, IsNew, all_noted, nothing}
use Rattle.law_node_causes.specs.Closings.{ClosesWith}
use Rattle.law_node_traces.proofs.Vocabulary.{AreOurs, deeds, rules, IsAmissOn}
use Rattle.law_node_traces.proofs.own_legs.worlds.a_client_refuses_on_out_legs_alone.Goals as goal

pub returns : goal.returns
returns g c = record {
  unexpected = λ m w new ours v leads change leg place closes.
      by m w new ours v leads change leg (Unexpected leg place) (inl (place, refl)) closes;
  cookie = λ m w new ours v leads change leg expected got closes.
      by m w new ours v leads change leg (CookieMismatch leg expected got)
      (inr (expected, got, refl)) closes;
}
  where
    by : (m : Makers g.row.K.Denot InProxy OutProxy)
        (w : World g.row.K.Denot ClientRole Server InProxy OutProxy) → IsNew w
        → AreOurs m w.company w.cast
        → (v : World g.row.K.Denot ClientRole Server InProxy OutProxy) → Leads rules m deeds w v
        → (change : Change) (leg : Leg) (why : Cause) → IsAmissOn leg why
        → ClosesNode rules v change AtClient why → leg.kind ≡ ClientOut
    by m w new ours v leads change leg why amiss is =
        let history = all_noted rules m deeds w nothing leads.changes in
        let runs = c.each_node_is_what_its_history_made.ensures.changes rules m deeds w.company w v
        nothing leads (c.each_node_is_what_its_history_made.ensures.begins rules m deeds w new) in
        let same : v.company.client
        ≡ after_end_events client.rules client.acts (client.first_client ours.config)
        history.client =
        runs.client
        ∙ ap (λ (s : Shell ClientRole). after_end_events client.rules client.acts s history.client)
        ours.client in
        c.each_node_refuses_on_its_own_legs.ensures.client ours.config history.client is.event leg
        why amiss
        (subst (λ (s : Shell ClientRole). ClosesWith client.rules s is.event why) same is.closes)
