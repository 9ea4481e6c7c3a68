-- what a client that is closed for a response heard was drawn at the other end
use Rattle.law_order.proofs.Vocabulary.{◌≡◌, ℕ, List, ◌∙◌, ap, subst, IsPrefix}
use Rattle.rh_line.specs.declared.cause.Cause.TheVariants as cause
use Rattle.rh_record.specs.declared.answer.Who.TheVariants as who
use Rattle.rh_client.specs.Client as client
use Rattle.law_moves.proofs.Vocabulary.{D, prefix_trans, ClientConfig, Leg, Shell, ClosedWith, EndEvent, after_end_events}
use Rattle.law_role_inproxy.proofs.Vocabulary.{InProxy}
use Rattle.law_role_client.proofs.Vocabulary.{ClientRole}
use Rattle.law_role_server.proofs.Vocabulary.{Server}
use Rattle.law_node_history.proofs.Vocabulary.{receiver, sender, Company, Makers, World, AreAcceptedAtEnd, IsTraced, drawn_by, end_node, events_of, happened, heard_on, Leads, History, IsNew, all_noted, nothing}
use Rattle.law_role_outproxy.proofs.Vocabulary.{OutProxy}
use Rattle.law_node_streams.specs.Streams.{HearsInTurn}
use Rattle.law_node_traces.proofs.Vocabulary.{AreOurs, deeds, rules, IsKnown}
use Rattle.law_world_honest.specs.Refusals.Refused.{BeginsRefused}

-- what begins so does where more bytes follow
pub refused_more : (front bytes : List ℕ) (leg : Leg) (status : ℕ) → IsPrefix front bytes
    → BeginsRefused front leg status → BeginsRefused bytes leg status
refused_more front bytes leg status more b = record {
  text = b.text;
  front = prefix_trans b.text front bytes b.front more;
  refused = b.refused;
}

module _ {K : Type 0}
    (closed : (config : ClientConfig) (events : List EndEvent) (leg : Leg) (status : ℕ)
    → AreAcceptedAtEnd client.rules client.acts (client.first_client config) events
    → HearsInTurn (happened events)
    → ClosedWith (cause.HttpRefused leg status)
    (after_end_events client.rules client.acts (client.first_client config) events).course
    → BeginsRefused (heard_on leg (happened events)) leg status)
    (known : (m : Makers K InProxy OutProxy)
    (w v : World K ClientRole Server InProxy OutProxy) → IsNew w → AreOurs m w.company w.cast
    → (leads : Leads rules m deeds w v) → IsKnown m w v leads)
    (drew : (m : Makers K InProxy OutProxy)
    (first : Company ClientRole Server InProxy OutProxy)
    (w : World K ClientRole Server InProxy OutProxy) (h : History)
    → IsTraced rules m deeds first w h → (leg : Leg)
    → IsPrefix (heard_on leg (events_of h (end_node w.readers leg (receiver D))))
    (drawn_by rules m deeds first w.cast h (end_node w.readers leg (sender D)) leg))
    (m : Makers K InProxy OutProxy) (w v : World K ClientRole Server InProxy OutProxy)
    (new : IsNew w) (ours : AreOurs m w.company w.cast) (leads : Leads rules m deeds w v) where
  pub heard_refused : (leg : Leg) (status : ℕ)
      → ClosedWith (cause.HttpRefused leg status) v.company.client.course
      → BeginsRefused (heard_on leg
      (happened (all_noted rules m deeds w nothing leads.changes).client)) leg status
  heard_refused leg status h =
      let known_here = known m w v new ours leads in
      let events = (all_noted rules m deeds w nothing leads.changes).client in
      let node : v.company.client
      ≡ after_end_events client.rules client.acts (client.first_client ours.config) events =
      known_here.traced.runs.client
      ∙ ap (λ (s : Shell ClientRole). after_end_events client.rules client.acts s events)
      ours.client in
      closed ours.config events leg status
      (subst (λ (s : Shell ClientRole). AreAcceptedAtEnd client.rules client.acts s events)
      ours.client known_here.traced.accepted.client) known_here.in_turn.client
      (subst (λ (s : Shell ClientRole). ClosedWith (cause.HttpRefused leg status) s.course) node
      h)

  pub drawn_refused : (leg : Leg) (status : ℕ)
      → end_node v.readers leg (receiver D) ≡ who.Client
      → ClosedWith (cause.HttpRefused leg status) v.company.client.course
      → BeginsRefused (drawn_by rules m deeds w.company v.cast
      (all_noted rules m deeds w nothing leads.changes) (end_node v.readers leg (sender D)) leg)
      leg status
  drawn_refused leg status is h =
      let here = all_noted rules m deeds w nothing leads.changes in
      refused_more (heard_on leg (happened here.client))
      (drawn_by rules m deeds w.company v.cast here (end_node v.readers leg (sender D)) leg) leg
      status
      (subst (λ x. IsPrefix (heard_on leg (events_of here x))
      (drawn_by rules m deeds w.company v.cast here (end_node v.readers leg (sender D)) leg)) is
      (drew m w.company v here (known m w v new ours leads).traced leg))
      (heard_refused leg status h)
