-- at each moment of a world of roles all nodes are steady
use Rattle.law_order.proofs.Vocabulary.{◌≡◌, ℕ, zero, suc, List, [], sym, ap, ◌∙◌, subst, IsPrefix}
use Rattle.rh_inproxy.specs.Machine as in_proxy
use Rattle.rh_outproxy.specs.Machine as out_proxy
use Rattle.rh_client.specs.Client as client
use Rattle.rh_server.specs.Servers as server
use Rattle.law_moves.proofs.Vocabulary.{AreFine, Dir, Side, Leg, EndPassage, Event, Passage, Rules, Shell, after_end_events, after_events}
use Rattle.law_role_inproxy.proofs.Vocabulary.{InProxy}
use Rattle.law_role_client.proofs.Vocabulary.{ClientRole}
use Rattle.law_role_server.proofs.Vocabulary.{Server}
use Rattle.law_node_history.proofs.Vocabulary.{Absent, Gone, Here, History, IsRun, Makers, Place, Who, World, drawn_by, end_node, events_of, happened, heard_on, in_place, out_place, receiver, sender}
use Rattle.law_role_outproxy.proofs.Vocabulary.{OutProxy}
use Rattle.law_node_traces.proofs.Vocabulary.{AreOurs, ByChanges, ComeUpInOrder, IsKnown, deeds, history_at, rules}
use Rattle.law_world_order.proofs.Heard.{heard_fine}
use Rattle.law_world_order.proofs.Legal.{Legalities}
use Rattle.law_world_order.proofs.Legs.{Reads}
use Rattle.law_world_order.proofs.Moments.{sized}
use Rattle.law_world_order.proofs.Pasts.Legal.{have_cookies}
use Rattle.law_world_order.proofs.Vocabulary.{AllFine, AreInRange, IsFlowing, numbers_of}
use Rattle.law_world_rest.proofs.ClientTakes.{client_takes}
use Rattle.law_world_rest.proofs.RolesPut.{client_puts, in_puts, out_puts, server_puts}
use Rattle.law_world_rest.proofs.ServerTakes.{server_takes}
use Rattle.law_world_rest.specs.Steady.{AreSteady, PutsBytes, PutsBytesThere, TakesNothing}

-- what is put by the role of a proxy that is there
there : {S : Type 0} (its : Rules S) (made : Shell S) (events : List Event) (place : Place S)
    → IsRun its made events place → PutsBytes its (after_events its made events).role
    → PutsBytesThere its place
there its made events Absent run puts = tt
there {S} its made events (Here node legs) run puts =
    subst (λ (s : Shell S). PutsBytes its s.role) (sym run) puts
there its made events (Gone now) run puts = tt

module _ {K : Type 0} (reads : Reads) (legal : Legalities) (m : Makers K InProxy OutProxy)
    (w : World K ClientRole Server InProxy OutProxy) (ours : AreOurs m w.company w.cast)
    (ranges : AreInRange (numbers_of ours)) (v : World K ClientRole Server InProxy OutProxy)
    (by : ByChanges rules m deeds w v) where
  abbrev history : History
  history = history_at m w v by.leads

  module _ (known : IsKnown m w v by.leads) (order : ComeUpInOrder v history)
      (drawn : (leg : Leg) (dir : Dir)
      → IsPrefix (heard_on leg (events_of history (end_node v.readers leg (receiver dir))))
      (drawn_by rules m deeds w.company v.cast history (end_node v.readers leg (sender dir)) leg))
      (alone : (node : Who) (leg : Leg) → ((end : Side) → end_node v.readers leg end ≡ node → ⊥)
      → heard_on leg (events_of history node) ≡ [])
      (flowing : IsFlowing (numbers_of ours) w v history) where
    fine : AllFine (numbers_of ours) history flowing.flows
    fine =
        heard_fine reads m w.company w.cast ours history history v.readers v.readers
        (λ leg dir. subst (λ (c : K).
        IsPrefix (heard_on leg (events_of history (end_node v.readers leg (receiver dir))))
        (drawn_by rules m deeds w.company c history (end_node v.readers leg (sender dir)) leg))
        flowing.cast (drawn leg dir)) alone flowing.flows flowing.begun flowing.legible
        flowing.flows

    -- ---- the client

    client_is : v.company.client
        ≡ after_end_events client.rules client.acts (client.first_client ours.config)
        history.client
    client_is =
        known.traced.runs.client
        ∙ ap (λ (node : Shell ClientRole).
        after_end_events client.rules client.acts node history.client) ours.client

    -- a fact of the role that its moves lead to
    at_client : (P : ClientRole → Type 0) → P flowing.flows.client.passage.passage.role
        → P v.company.client.role
    at_client P =
        subst P (flowing.flows.client.role
        ∙ sym (ap (λ (node : Shell ClientRole). node.role) client_is))

    client_has : PutsBytes client.rules flowing.flows.client.passage.passage.role
    client_has =
        subst (λ (p : EndPassage ClientRole). PutsBytes client.rules p.passage.role)
        flowing.flows.client.leads.reached
        (client_puts legal ours.config flowing.flows.client.leads.moves ranges.client
        ranges.cookies
        (have_cookies flowing.flows.client.leads.moves
        (flowing.flows.client.cookies (sized (happened history.client) order.cookies))))

    client_still : TakesNothing client.acts flowing.flows.client.passage.passage.role
    client_still =
        subst (λ (p : EndPassage ClientRole). TakesNothing client.acts p.passage.role)
        flowing.flows.client.leads.reached
        (client_takes ours.config flowing.flows.client.leads.moves
        flowing.flows.client.leads.allowed)

    -- ---- the server

    server_is : v.company.server
        ≡ after_end_events server.rules server.acts (server.new_server ours.window)
        history.server
    server_is =
        known.traced.runs.server
        ∙ ap (λ (node : Shell Server).
        after_end_events server.rules server.acts node history.server) ours.server

    server_has : PutsBytes server.rules v.company.server.role
    server_has =
        subst (PutsBytes server.rules)
        (ap (λ (p : EndPassage Server). p.passage.role) flowing.flows.server.leads.reached
        ∙ flowing.flows.server.role
        ∙ sym (ap (λ (node : Shell Server). node.role) server_is))
        (server_puts legal ours.window flowing.flows.server.leads.moves ranges.window
        (subst (λ (p : EndPassage Server). AreFine p.passage.came)
        (sym flowing.flows.server.leads.reached) fine.server))

    -- ---- the proxies

    in_has : (n : ℕ) → PutsBytes in_proxy.rules
        (after_events in_proxy.rules (m.in_proxy v.cast (suc n)) (history.ins (suc n))).role
    in_has n =
        let stream = flowing.flows.ins (suc n) in
        subst (PutsBytes in_proxy.rules)
        (ap (λ (p : Passage InProxy). p.role) stream.leads.reached ∙ stream.role
        ∙ sym (ap (λ (node : Shell InProxy).
        (after_events in_proxy.rules node (history.ins (suc n))).role)
        (ap (λ (c : K). m.in_proxy c (suc n)) flowing.cast ∙ ours.ins (suc n))))
        (in_puts legal (ours.in_config (suc n)) stream.leads.moves (ranges.ins n)
        (ranges.sizes (suc n))
        (subst (λ (p : Passage InProxy). AreFine p.came) (sym stream.leads.reached)
        (fine.ins (suc n))))

    ins_have : (n : ℕ) → PutsBytesThere in_proxy.rules (in_place v.company n)
    ins_have zero = subst (PutsBytesThere in_proxy.rules) (sym known.traced.zero) tt
    ins_have (suc n) =
        there in_proxy.rules (m.in_proxy v.cast (suc n)) (history.ins (suc n))
        (in_place v.company (suc n)) (known.traced.runs.ins (suc n)) (in_has n)

    out_has : (n : ℕ) → PutsBytes out_proxy.rules
        (after_events out_proxy.rules (m.out_proxy v.cast n) (history.outs n)).role
    out_has n =
        let stream = flowing.flows.outs n in
        subst (PutsBytes out_proxy.rules)
        (ap (λ (p : Passage OutProxy). p.role) stream.leads.reached ∙ stream.role
        ∙ sym (ap (λ (node : Shell OutProxy).
        (after_events out_proxy.rules node (history.outs n)).role)
        (ap (λ (c : K). m.out_proxy c n) flowing.cast ∙ ours.outs n)))
        (out_puts legal (ours.out_config n) stream.leads.moves (ranges.outs n)
        (subst (λ (p : Passage OutProxy). AreFine p.came) (sym stream.leads.reached)
        (fine.outs n)))

    outs_have : (n : ℕ) → PutsBytesThere out_proxy.rules (out_place v.company n)
    outs_have n =
        there out_proxy.rules (m.out_proxy v.cast n) (history.outs n) (out_place v.company n)
        (known.traced.runs.outs n) (out_has n)

    -- ---- all of them

    pub are_steady : AreSteady rules deeds v.company
    are_steady = record {
      client = at_client (PutsBytes client.rules) client_has;
      server = server_has;
      ins = ins_have;
      outs = outs_have;
      client_takes = at_client (TakesNothing client.acts) client_still;
      server_takes = server_takes v.company.server.role;
    }
