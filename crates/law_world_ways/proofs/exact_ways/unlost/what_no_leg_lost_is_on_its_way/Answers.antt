use Rattle.law_order.proofs.Vocabulary.{◌≡◌, ap, ◌∙◌, subst}
use Rattle.rh_inproxy.specs.Machine as in_proxy
use Rattle.rh_outproxy.specs.Machine as out_proxy
use Rattle.rh_client.specs.Client as client
use Rattle.rh_server.specs.Servers as server
use Rattle.law_moves.proofs.Vocabulary.{Shell}
use Rattle.law_role_inproxy.proofs.Vocabulary.{InProxy}
use Rattle.law_role_client.proofs.Vocabulary.{ClientRole}
use Rattle.law_role_server.proofs.Vocabulary.{Server}
use Rattle.law_node_history.proofs.Vocabulary.{Makers, World, AreAccepted, AreAcceptedAtEnd, IsNew}
use Rattle.law_node_history.proofs.Lemmas.{cast_kept}
use Rattle.law_role_outproxy.proofs.Vocabulary.{OutProxy}
use Rattle.law_node_traces.proofs.Vocabulary.{ByChanges, is_made, AreOurs, deeds, rules, history_at}
use Rattle.law_world_order.proofs.Vocabulary.{numbers_of, AreInRange, IsPort}
use Rattle.law_world_ways.proofs.ExactWays.ReadBy.{read_by}
use Rattle.law_world_ways.proofs.ExactWays.NoLoss.{Accepted, AreRead, NoEchoes, NodeLaws, down_goes, up_goes}
use Rattle.law_world_ways.proofs.exact_ways.unlost.what_no_leg_lost_is_on_its_way.Goals as goal

pub returns : goal.returns
returns g c = record {
  down = λ m w new ours ranges port v by ways none.
      c.legs_that_go_on_lose_nothing.ensures.down (numbers_of ours) v (history_at m w v by.leads)
      ways
      (down_goes laws (numbers_of ours) v (history_at m w v by.leads) ways
      (accepted m w new ours v by) (echoes m w new ours ranges port v by)
      (are_read m w new ours ranges port v by) none);
  up = λ m w new ours ranges port v by ways none.
      c.legs_that_go_on_lose_nothing.ensures.up (numbers_of ours) v (history_at m w v by.leads)
      ways
      (up_goes laws (numbers_of ours) v (history_at m w v by.leads) ways
      (accepted m w new ours v by) (echoes m w new ours ranges port v by)
      (are_read m w new ours ranges port v by) none
      (read_by v.readers (is_made v.company)
      (c.a_recording_of_roles_is_known.ensures.changes m w v new ours by.leads).read));
}
  where
    laws : NodeLaws
    laws = record {
      keeps_client = c.a_leg_of_use_is_kept.ensures.client;
      keeps_server = c.a_leg_of_use_is_kept.ensures.server;
      keeps_in = c.a_leg_of_use_is_kept.ensures.in_proxy;
      keeps_out = c.a_leg_of_use_is_kept.ensures.out_proxy;
      knows_client = c.a_leg_that_came_up_is_known.ensures.client;
      knows_server = c.a_leg_that_came_up_is_known.ensures.server;
      knows_in = c.a_leg_that_came_up_is_known.ensures.in_proxy;
      knows_out = c.a_leg_that_came_up_is_known.ensures.out_proxy;
      out_law = c.an_out_proxy_is_done_behind_a_mark.ensures;
      in_law = c.an_in_proxy_is_done_behind_a_mark_or_end.ensures;
      server_law = c.a_server_is_done_behind_a_mark.ensures;
      takes = c.a_client_takes_in_order.ensures;
    }

    accepted : (m : Makers g.row.K.Denot InProxy OutProxy)
        (w : World g.row.K.Denot ClientRole Server InProxy OutProxy) → IsNew w
        → (ours : AreOurs m w.company w.cast)
        → (v : World g.row.K.Denot ClientRole Server InProxy OutProxy)
        (by : ByChanges rules m deeds w v)
        → Accepted (numbers_of ours) (history_at m w v by.leads)
    accepted m w new ours v by =
        let h = history_at m w v by.leads in
        let all =
        (c.a_recording_of_roles_is_known.ensures.changes m w v new ours by.leads).traced.accepted in
        let same : v.cast ≡ w.cast = cast_kept rules m deeds w v by.leads in
        record {
          client =
              subst (λ (s : Shell ClientRole). AreAcceptedAtEnd client.rules client.acts s h.client)
              ours.client all.client;
          server =
              subst (λ (s : Shell Server). AreAcceptedAtEnd server.rules server.acts s h.server)
              ours.server all.server;
          ins = λ n.
              subst (λ (s : Shell InProxy). AreAccepted in_proxy.rules s (h.ins n))
              (ap (λ (k : g.row.K.Denot). m.in_proxy k n) same ∙ ours.ins n) (all.ins n);
          outs = λ n.
              subst (λ (s : Shell OutProxy). AreAccepted out_proxy.rules s (h.outs n))
              (ap (λ (k : g.row.K.Denot). m.out_proxy k n) same ∙ ours.outs n) (all.outs n);
        }

    echoes : (m : Makers g.row.K.Denot InProxy OutProxy)
        (w : World g.row.K.Denot ClientRole Server InProxy OutProxy) → IsNew w
        → (ours : AreOurs m w.company w.cast) → AreInRange (numbers_of ours)
        → IsPort ours.config.port
        → (v : World g.row.K.Denot ClientRole Server InProxy OutProxy)
        (by : ByChanges rules m deeds w v)
        → NoEchoes (numbers_of ours) (history_at m w v by.leads)
    echoes m w new ours ranges port v by = record {
      ins = c.no_head_that_comes_asks_for_an_echo.ensures.ins m w new ours ranges port v by;
      outs = c.no_head_that_comes_asks_for_an_echo.ensures.outs m w new ours ranges port v by;
    }

    are_read : (m : Makers g.row.K.Denot InProxy OutProxy)
        (w : World g.row.K.Denot ClientRole Server InProxy OutProxy) → IsNew w
        → (ours : AreOurs m w.company w.cast) → AreInRange (numbers_of ours)
        → IsPort ours.config.port
        → (v : World g.row.K.Denot ClientRole Server InProxy OutProxy)
        (by : ByChanges rules m deeds w v)
        → AreRead (numbers_of ours) (history_at m w v by.leads)
    are_read m w new ours ranges port v by = record {
      client = c.what_comes_is_read.ensures.client m w new ours v by;
      server = c.what_comes_is_read.ensures.server m w new ours v by;
      ins = c.what_comes_is_read.ensures.ins m w new ours ranges port v by;
      outs = c.what_comes_is_read.ensures.outs m w new ours ranges port v by;
    }
