use Rattle.law_order.proofs.Vocabulary.{◌≡◌, ℕ, false, true≢false, sym, ap, ◌∙◌, subst, IsPrefix}
use Rattle.rh_record.specs.declared.answer.Who.TheVariants as who
use Rattle.rh_client.specs.Client as client
use Rattle.law_moves.proofs.Vocabulary.{U, Leg, InServer, Shell, same_leg}
use Rattle.law_role_inproxy.proofs.Vocabulary.{InProxy}
use Rattle.law_role_client.proofs.Vocabulary.{ClientRole}
use Rattle.law_role_server.proofs.Vocabulary.{Server}
use Rattle.law_node_history.proofs.Vocabulary.{reader_of, Makers, World, end_drawn_on, heard_on, IsNew}
use Rattle.law_node_history.proofs.Lemmas.{same_itself}
use Rattle.law_role_outproxy.proofs.Vocabulary.{OutProxy}
use Rattle.law_node_begins.specs.ProxiesBegin.Pipes.{co, is}
use Rattle.law_node_traces.proofs.Vocabulary.{ByChanges, AreOurs, deeds, rules, history_at}
use Rattle.law_world_ways.proofs.LiveIntakes.FirstTexts.{RequestLaws, apart_in, in_begins, out_begins}
use Rattle.law_world_ways.proofs.live_intakes.heads.no_bytes_that_come_ask_for_an_echo.Goals as goal

pub returns : goal.returns
returns g c = record {
  ins = λ m w new ours ranges port v by n.
      let d = c.directions_are_joined.ensures m w new ours ranges v by in
      let h = history_at m w v by.leads in
      in_begins laws ours.config port h.client d.up.giver ranges.client (ours.in_config n)
      (λ leg. heard_on leg (h.ins n)) (d.up.near n)
      (λ leg a b.
      (c.a_leg_is_read_at_its_ends.ensures rules m deeds w.company v h
      (c.a_recording_of_roles_is_known.ensures.changes m w v new ours by.leads).traced
      (who.In n) leg
      (λ end.
      apart_in (reader_of v.readers leg.number) leg.number n leg.kind end a
      (λ e same. apart leg n (ours.in_config n).number (ours.in_number n) e same (b e)))).1);
  outs = λ m w new ours ranges port v by n.
      let d = c.directions_are_joined.ensures m w new ours ranges v by in
      let h = history_at m w v by.leads in
      out_begins laws ours.config port h.client d.up.giver (ours.out_config n)
      (λ leg. heard_on leg (h.outs n)) (near m w new ours v by n);
}
  where
    laws : RequestLaws
    laws = record {
      begins = c.a_client_begins_with_a_request.ensures;
      asks = c.a_client_asks_by_its_requests.ensures;
      in_whole = c.texts_are_whole.ensures.in_request;
      out_whole = c.texts_are_whole.ensures.out_request;
    }

    -- the leg of another in proxy
    apart : (leg : Leg) (n k : ℕ) → k ≡ n → leg.kind ≡ InServer → leg.number ≡ n
        → same_leg (is k) leg ≡ false → ⊥
    apart leg n k same kind number other =
        true≢false (sym (same_itself (is k))
        ∙ ap (same_leg (is k)) (ap is (same ∙ sym number)
        ∙ ap (λ x. record leg { kind = x }) (sym kind)) ∙ other)

    near : (m : Makers g.row.K.Denot InProxy OutProxy)
        (w : World g.row.K.Denot ClientRole Server InProxy OutProxy) → IsNew w
        → (ours : AreOurs m w.company w.cast)
        → (v : World g.row.K.Denot ClientRole Server InProxy OutProxy)
        (by : ByChanges rules m deeds w v) (n : ℕ)
        → IsPrefix (heard_on (co (ours.out_config n).number) ((history_at m w v by.leads).outs n))
        (end_drawn_on client.rules client.acts (client.first_client ours.config)
        (co (ours.out_config n).number) (history_at m w v by.leads).client)
    near m w new ours v by n =
        let h = history_at m w v by.leads in
        subst (λ (k : ℕ). IsPrefix (heard_on (co k) (h.outs n))
        (end_drawn_on client.rules client.acts (client.first_client ours.config) (co k) h.client))
        (sym (ours.out_number n))
        (subst (λ (s : Shell ClientRole). IsPrefix (heard_on (co n) (h.outs n))
        (end_drawn_on client.rules client.acts s (co n) h.client)) ours.client
        (c.what_is_heard_was_drawn.ensures rules m deeds w.company v h
        (c.a_recording_of_roles_is_known.ensures.changes m w v new ours by.leads).traced (co n) U))
