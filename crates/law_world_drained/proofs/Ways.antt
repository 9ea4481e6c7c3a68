-- a direction whose hops are known leaves nothing waiting
use Rattle.law_order.proofs.Vocabulary.{◌≡◌, ℕ, suc, List, [], ◌∷◌, ◌++◌, false, true, None, Some, arith, sym, ap, ap₂, ◌∙◌, Route, IsRoute}
use Rattle.law_order.proofs.ByNumber.{below_empty}
use Rattle.rh_window.specs.Sides.{Sender}
use Rattle.rh_line.specs.Lines.{IsLine}
use Rattle.rh_inproxy.specs.State.{InProxy}
use Rattle.rh_outproxy.specs.Acknowledging as out_acks
use Rattle.rh_outproxy.specs.OutProxy.{OutProxy}
use Rattle.rh_client.specs.State as client
use Rattle.rh_client.specs.declared.state.ClientRole.{ClientRole}
use Rattle.rh_server.specs.States.{Server, out_leg}
use Rattle.rh_server.specs.declared.state.InLeg.{InLeg}
use Rattle.rh_server.specs.declared.state.OutLeg.{OutLeg}
use Rattle.law_role_inproxy.specs.Order as in_order
use Rattle.law_role_client.specs.Order as client_order
use Rattle.law_role_server.specs.Order as server_order
use Rattle.law_role_outproxy.specs.Order as out_order
use Rattle.law_world_free.proofs.Acks.{client_due, in_due, out_due, server_due}
use Rattle.law_world_free.proofs.AtOne.{hold_none}
use Rattle.law_world_free.proofs.Ends.{client_waits, server_waits}
use Rattle.law_world_free.proofs.Hops.{held_short, none_left}
use Rattle.law_world_free.specs.AtOne.{HoldsNone, passer_of}
use Rattle.law_world_free.specs.Drained.{IsKnown, IsShort, WaitsForWindow}
use Rattle.law_world_free.specs.Free.{IsFreeClient, IsFreeServer}
use Rattle.law_world_waits.specs.HeldUp.{AcksNone, HoldsUpClient, HoldsUpIn, HoldsUpOut, HoldsUpServer, IsBehindEdge}
use Rattle.law_world_waits.specs.Waits.{waits, waits_of}

-- PDUs that are held for the window alone
behind_edge : (s : Sender) (pdus : List (List ℕ)) → IsBehindEdge s pdus → WaitsForWindow s pdus
behind_edge s [] behind = tt
behind_edge s (pdu ∷ pdus) behind = behind

-- where none is held, none waits
pub none_waits : (r : Route) → HoldsNone r → waits r ≡ []
none_waits r none =
    ap₂ (λ (x y : List (List ℕ)). x ++ y)
    (below_empty (λ (n : ℕ). waits_of r (suc n)) r.giver.writing (λ n less.
    let here = none.channels (suc n) (omega arith) (omega (arith, less)) in
    ap₂ (λ (x y : List (List ℕ)). x ++ y) here.taker here.proxy))
    none.queue

module _ (r : Route) (is : IsRoute r) (untaken : r.taker.shelves.now.held ≡ []) where
  -- ---- down

  module _ (c : ClientRole) (s : Server) (o : OutProxy) (leg : OutLeg)
      (shelves : r.taker.shelves ≡ client_order.shelves_of c)
      (passer : passer_of r ≡ out_order.passer_of o)
      (giver : r.giver ≡ server_order.giver_of r.giver.given s)
      (client_line : IsLine c.line) (proxy_line : IsLine o.line)
      (free : IsFreeClient c) (free_server : IsFreeServer s)
      (reads : o.config.number ≡ s.writing) (kept : out_leg s.writing s.outs ≡ Some leg)
      (number : leg.number ≡ s.writing)
      (far : IsKnown o.window c.line.current.window)
      (near : IsKnown leg.window o.line.current.window) (short : IsShort s.queue)
      (held : HoldsUpClient c) (passes : HoldsUpOut o) (acks : out_acks.ack_due o ≡ None)
      (gives : HoldsUpServer s leg) where
    abbrev proxy_pdus : List (List ℕ)
    proxy_pdus = o.line.current.pdus

    down_far : r.taker.shelves.now.ended ≡ false → r.taker.shelves.now.finished ≡ false
        → (passer_of r).shelves.now.held ≡ []
    down_far ended finished =
        ap (λ p. p.shelves.now.held) passer
        ∙ none_left o.window c.line.current (record {
          sound = client_line.current;
          empty = sym (ap (λ x. x.now.held) shelves) ∙ untaken;
          known = far;
          none = client_due c free held.current_ack
              (sym (ap (λ x. x.now.ended) shelves) ∙ ended)
              (sym (ap (λ x. x.now.finished) shelves) ∙ finished);
        }) proxy_pdus (held_short proxy_pdus proxy_line.current.each)
        (behind_edge o.window proxy_pdus passes.pdu)

    down_near : (passer_of r).shelves.now.held ≡ [] → (passer_of r).shelves.now.ended ≡ false
        → (passer_of r).shelves.now.finished ≡ false → r.giver.queue ≡ []
    down_near empty ended finished =
        ap (λ g. g.queue) giver
        ∙ none_left leg.window o.line.current (record {
          sound = proxy_line.current;
          empty = sym (ap (λ p. p.shelves.now.held) passer) ∙ empty;
          known = near;
          none = out_due o acks (sym (ap (λ p. p.shelves.now.ended) passer) ∙ ended)
              (sym (ap (λ p. p.shelves.now.finished) passer) ∙ finished);
        }) s.queue short (server_waits s leg free_server kept number gives.pdu)

    pub down_none : waits r ≡ []
    down_none =
        none_waits r (hold_none r is
        (ap (λ p. p.shelves.current) passer ∙ reads ∙ sym (ap (λ g. g.writing) giver)) untaken
        (record { far = down_far; near = down_near }))

  -- ---- up

  module _ (c : ClientRole) (s : Server) (i : InProxy) (leg : InLeg)
      (shelves : r.taker.shelves ≡ server_order.shelves_of s)
      (passer : passer_of r ≡ in_order.passer_of i)
      (giver : r.giver ≡ client_order.giver_of r.giver.given c)
      (server_line : IsLine s.line) (proxy_line : IsLine i.line) (free : IsFreeClient c)
      (reads : i.current.number ≡ c.writing.number) (number : leg.number ≡ s.current.leg)
      (is_open : client.is_open c.phase ≡ true)
      (far : IsKnown i.window s.line.current.window)
      (near : IsKnown c.writing.window i.line.current.window) (short : IsShort c.queue)
      (held : HoldsUpClient c) (passes : HoldsUpIn i) (acks : AcksNone s leg) where
    abbrev in_pdus : List (List ℕ)
    in_pdus = i.line.current.pdus

    up_far : r.taker.shelves.now.ended ≡ false → r.taker.shelves.now.finished ≡ false
        → (passer_of r).shelves.now.held ≡ []
    up_far ended finished =
        ap (λ p. p.shelves.now.held) passer
        ∙ none_left i.window s.line.current (record {
          sound = server_line.current;
          empty = sym (ap (λ x. x.now.held) shelves) ∙ untaken;
          known = far;
          none = server_due s leg acks number
              (sym (ap (λ x. x.now.finished) shelves) ∙ finished)
              (sym (ap (λ x. x.now.ended) shelves) ∙ ended);
        }) in_pdus (held_short in_pdus proxy_line.current.each)
        (behind_edge i.window in_pdus passes.pdu)

    up_near : (passer_of r).shelves.now.held ≡ [] → (passer_of r).shelves.now.ended ≡ false
        → (passer_of r).shelves.now.finished ≡ false → r.giver.queue ≡ []
    up_near empty ended finished =
        ap (λ g. g.queue) giver
        ∙ none_left c.writing.window i.line.current (record {
          sound = proxy_line.current;
          empty = sym (ap (λ p. p.shelves.now.held) passer) ∙ empty;
          known = near;
          none = in_due i passes.ack (sym (ap (λ p. p.shelves.now.ended) passer) ∙ ended)
              (sym (ap (λ p. p.shelves.now.finished) passer) ∙ finished);
        }) c.queue short (client_waits c free is_open held.pdu)

    pub up_none : waits r ≡ []
    up_none =
        none_waits r (hold_none r is
        (ap (λ p. p.shelves.current) passer ∙ reads ∙ sym (ap (λ g. g.writing) giver)) untaken
        (record { far = up_far; near = up_near }))
