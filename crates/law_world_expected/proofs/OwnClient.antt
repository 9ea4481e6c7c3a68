-- whatever a change of a world is, it closes its client for nothing that was not to come on an OUT
-- channel, where the client expects what comes there and each packet has a name
use Rattle.law_order.proofs.Vocabulary.{◌≡◌, ℕ, refl, sym, subst, Some}
use Rattle.rh_line.specs.declared.cause.Cause.TheVariants as cause
use Rattle.rh_record.specs.declared.answer.Who.TheVariants as who
use Rattle.rh_shell.specs.declared.answers.Refused.TheVariants as refused
use Rattle.rh_client.specs.Client as client
use Rattle.rh_wires.specs.Legs as legs
use Rattle.rh_company.specs.Company as company
use Rattle.law_moves.proofs.Vocabulary.{Dir, U, D, CoD, Cause, Leg, EndPassage, Passage, of_leg, all_read_of, ReadsWell, is_named}
use Rattle.law_role_inproxy.proofs.Vocabulary.{InProxy}
use Rattle.law_role_client.proofs.Vocabulary.{ClientRole, co}
use Rattle.law_role_server.proofs.Vocabulary.{Server}
use Rattle.law_node_history.proofs.Vocabulary.{receiver, Event, Comes, Makers, World, at, end_node, events_of, happened, heard_on, Change, IsFed, MayChange, changed, ClosesNode, noted}
use Rattle.law_node_causes.specs.Closings.{ClosesWith}
use Rattle.law_node_causes.specs.Reasons.{ComesAmiss}
use Rattle.law_role_outproxy.proofs.Vocabulary.{OutProxy}
use Rattle.law_peers_moments.specs.Expecting.{Expects}
use Rattle.law_peers_moments.specs.Moments.{Moves, client_behind}
use Rattle.law_node_traces.proofs.Vocabulary.{ByChanges, AreOurs, deeds, rules, history_at}
use Rattle.law_world_order.proofs.Legs.{Reads}
use Rattle.law_world_order.proofs.Vocabulary.{AreDistinct, moves_of, numbers}
use Rattle.law_world_honest.proofs.Honesty.Closing.{by_fed}
use Rattle.law_world_honest.proofs.Honesty.Fed.{told_what, told_who}
use Rattle.law_world_windows.proofs.Moment.{comes_of, known}
use Rattle.law_world_windows.specs.Known.{Laws, NodesLaws, Readings}
use Rattle.law_world_expected.proofs.Amiss.AtNodes.{client_next}
use Rattle.law_world_expected.proofs.Amiss.Moments.{AllFlow, flowing}
use Rattle.law_world_expected.proofs.Amiss.Next.{never_amiss}
use Rattle.law_world_expected.proofs.Closing.{AtMoment}
use Rattle.law_world_expected.proofs.Facts.{came_before, distinct_of_cookies}
use Rattle.law_world_expected.specs.Known.{ClientKnows, RolesKnow}
use Rattle.law_world_expected.specs.Roles.{ClientExpects, OfClient}

module _ {K : Type 0} (roles : RolesKnow) (client_roles : ClientKnows) (nodes : NodesLaws)
    (reads : Reads) (readings : Readings) (m : Makers K InProxy OutProxy)
    (w : World K ClientRole Server InProxy OutProxy) (ours : AreOurs m w.company w.cast)
    (law : Laws m w ours)
    (flow : AllFlow m w ours (AtMoment (OfClient AreDistinct) (ClientExpects (numbers ours)) ours))
    (v : World K ClientRole Server InProxy OutProxy) (by : ByChanges rules m deeds w v)
    (named : (change : Change) → MayChange rules v change → (n : ℕ)
    → ReadsWell is_named (Some CoD) (heard_on (co n)
    (events_of (noted v (history_at m w v by.leads) change)
    (end_node (changed rules m deeds v change).readers (co n) (receiver D)))))
    (distinct : AreDistinct (happened (history_at m w v by.leads).client)) (n place : ℕ) where
  abbrev why : Cause
  why = cause.Unexpected (co n) place

  abbrev May : Leg → Dir → Type 0
  May leg dir = MayChange rules v (IsFed leg dir 0)

  abbrev event : Leg → Dir → ℕ → Event
  event leg dir count = Comes leg (legs.take_out leg dir count v.legs).1

  abbrev ClientAt : Leg → Type 0
  ClientAt leg =
      (dir : Dir) (count : ℕ) → May leg dir → at v leg (receiver dir) ≡ who.Client
      → ClosesWith client.rules v.company.client (event leg dir count) why → ⊥

  client_at : ClientAt (co n)
  client_at U count may here closes = absurd cc
  client_at D count may here closes =
      let next = client_next roles reads readings m w v ours law
      (AtMoment (OfClient AreDistinct) (ClientExpects (numbers ours)) ours) flow by (co n) D
      (λ j. may) refused.Unexpected is_named (λ e. refl) (λ k. named (IsFed (co n) D k) may n)
      why refl count who.Client here client_roles nodes.client refl closes in
      let then_flowing = flowing reads readings m w v ours law
      (AtMoment (OfClient AreDistinct) (ClientExpects (numbers ours)) ours) flow by (co n) D
      (λ j. may) next.0 in
      let f = then_flowing.flows.flows in
      let moves : Moves = moves_of then_flowing.flows in
      let now = then_flowing.holds
      (distinct_of_cookies (happened (history_at m w v by.leads).client) _
      (came_before w.company.client v (history_at m w v by.leads) (co n) D next.0
      (known m w v ours law by (co n) D (λ k. may)).traced.runs.client) distinct) in
      let put = of_leg (co n) (f.outs n).passage.put in
      never_amiss client.rules f.client.passage.passage (co n) (Some CoD) put
      refused.Unexpected tt
      (subst (λ (p : EndPassage ClientRole).
      Expects client.rules p.passage (co n) (all_read_of put)) f.client.leads.reached
      (subst (λ (p : Passage OutProxy).
      Expects client.rules (client_behind (numbers ours) moves).passage (co n)
      (all_read_of (of_leg (co n) p.put))) (f.outs n).leads.reached (now.next n)))
      (λ upward. absurd cc) next.1

  -- a piece on the one leg that the cause names
  fed : (leg : Leg) (dir : Dir) (count : ℕ) → MayChange rules v (IsFed leg dir count)
      → ClosesNode rules v (IsFed leg dir count) who.Client why → ⊥
  fed leg dir count may is =
      let closes = subst (λ (e : Event).
      (company.tell rules v.company who.Client e).1 ≡ Some why) (sym (told_what _ _ _ _ is.told))
      is.closes in
      let comes : ComesAmiss client.rules v.company.client leg
      (legs.take_out leg dir count v.legs).1 why =
      nodes.client.amiss v.company.client (event leg dir count) why closes in
      subst ClientAt comes.cause client_at dir count may (told_who _ _ _ _ is.told) closes

  pub no_client_amiss : (change : Change) → MayChange rules v change
      → ClosesNode rules v change who.Client why → ⊥
  no_client_amiss change may is =
      by_fed v who.Client why ⊥ fed (comes_of nodes) change may is (λ S its shell comes. comes)
