-- a clean end is final: what is told of the other end before and behind
use Rattle.rh_text.specs.declared.ends.Side.TheVariants as side
use Rattle.law_order.proofs.Vocabulary.{◌≡◌, ◌++◌, ℕ, List, ◌∷◌, true, rules, ap, ◌∙◌, subst}
use Rattle.rh_record.specs.Events.Events.{Ends, Event}
use Rattle.rh_client.specs.Client as client
use Rattle.rh_server.specs.Servers as server
use Rattle.law_moves.proofs.Vocabulary.{Side, Shell, EndEvent, IsClosed, after_end_events}
use Rattle.law_role_inproxy.proofs.Vocabulary.{InProxy}
use Rattle.law_role_client.proofs.Vocabulary.{ClientRole}
use Rattle.law_role_server.proofs.Vocabulary.{Server, is_closing}
use Rattle.law_node_history.proofs.Vocabulary.{Stops, given, other, Makers, World, of_line, IsOneOf}
use Rattle.law_role_outproxy.proofs.Vocabulary.{OutProxy}
use Rattle.law_node_ends.proofs.Stops.ClientStays as at_client
use Rattle.law_node_ends.proofs.Stops.ServerStays as at_server
use Rattle.law_node_traces.proofs.Vocabulary.{deeds, rules as ours}
use Rattle.law_world_reports.proofs.Ordering.Ordering.{Telling, closing_gives}
use Rattle.law_world_reports.proofs.Ordering.ToldToClose.{stops_are_told}
use Rattle.law_world_reports.proofs.Vocabulary.{Moment, end_events, until, IsClosing, KeepsOrder}

-- a PDU that is given leaves alone whether the end was told to give no more
pub client_give : (s : ClientRole) (pdu : List ℕ)
    → at_client.said (client.acts.give s pdu).0 ≡ at_client.said s
client_give s pdu = search rules

pub server_give : (s : Server) (pdu : List ℕ)
    → at_server.said (server.acts.give s pdu).0 ≡ at_server.said s
server_give s pdu = search rules

module _ {K : Type 0} (m : Makers K InProxy OutProxy)
    (w : World K ClientRole Server InProxy OutProxy) (pdus : List (List ℕ)) (all : List Event)
    (telling : Telling m w pdus all) (law : KeepsOrder of_line m w)
    (client_told : (events : List EndEvent)
    → (after_end_events ours.client deeds.client w.company.client events).role.is_closing ≡ true
    → IsOneOf IsClosed events)
    (server_told : (events : List EndEvent)
    → is_closing (after_end_events ours.server deeds.server w.company.server events).role.giving
    ≡ true
    → IsOneOf IsClosed events) where
  -- an end that gives no more at a moment was told so
  told_at : (front behind : List Event) (at : Moment ours m deeds w pdus front behind)
      (end : Side) → IsClosing at.v end → IsOneOf IsClosed (end_events (until at) end)
  told_at front behind at side.Client closing =
      client_told (until at).client
      (subst (λ (s : Shell ClientRole). s.role.is_closing ≡ true)
      (telling.runs at.v at.before.leads).client closing)
  told_at front behind at side.Server closing =
      server_told (until at).server
      (subst (λ (s : Shell Server). is_closing s.role.giving ≡ true)
      (telling.runs at.v at.before.leads).server closing)

  stop_reported : (front behind : List Event) (at : Moment ours m deeds w pdus front behind)
      (end : Side) → IsOneOf IsClosed (end_events (until at) end) → IsOneOf (Stops end) front
  stop_reported front behind at side.Client there =
      stops_are_told side.Client front (until at).client (at.here.stops side.Client) there
  stop_reported front behind at side.Server there =
      stops_are_told side.Server front (until at).server (at.here.stops side.Server) there

  pub told_before_end : (end : Side) (front behind : List Event)
      → all ≡ front ++ Ends end ∷ behind → IsOneOf (Stops (other end)) front
  told_before_end end front behind e =
      let at = telling.moment front (Ends end ∷ behind) e in
      stop_reported front (Ends end ∷ behind) at (other end)
      (told_at front (Ends end ∷ behind) at (other end)
      (law.clean at.v at.before end at.next).closing)

  pub none_given_behind_end : (end : Side) (front behind : List Event)
      → all ≡ front ++ Ends end ∷ behind → given (other end) pdus all ≡ given (other end) pdus front
  none_given_behind_end end front behind e =
      let at = telling.moment front (Ends end ∷ behind) e in
      ap (given (other end) pdus) e
      ∙ telling.gives_no_more front (Ends end ∷ behind) at (other end)
      (closing_gives m w pdus all telling front (Ends end ∷ behind) at (other end)
      (law.clean at.v at.before end at.next).closing)
