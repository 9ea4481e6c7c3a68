use Rattle.law_order.proofs.Vocabulary.{◌≡◌, ◌⊎◌, inl, inr, ℕ, List, arith, refl, subst}
use Rattle.rh_inproxy.specs.Machine as in_proxy
use Rattle.rh_outproxy.specs.Machine as out_proxy
use Rattle.law_moves.proofs.Vocabulary.{ClientIn, ClientOut, InServer, OutServer, Shell}
use Rattle.law_role_inproxy.proofs.Vocabulary.{InProxy}
use Rattle.law_node_history.proofs.Vocabulary.{reader_of, leg_at}
use Rattle.law_role_outproxy.proofs.Vocabulary.{OutProxy}
use Rattle.law_node_traces.proofs.Vocabulary.{DrawsRightly, history_at}
use Rattle.law_world_honest.proofs.Refusals.Losses.{in_lost_503, its_own, out_lost_503}
use Rattle.law_world_honest.proofs.Refusals.Moments.{ProxyLaws, in_traced, out_traced}
use Rattle.law_world_honest.proofs.refused.recordings.a_client_refused_with_503_lost_its_server.Goals as goal
use Rattle.law_world_honest.specs.Refusals.Refused.{DrewRefusal}

-- 503 is not the status of success
no_success : (drawn : List ℕ) (status : ℕ) → status ≡ 503
    → (status ≡ 200) ⊎ DrewRefusal drawn status → DrewRefusal drawn status
no_success drawn status is (inl e) = absurd (omega (arith, is, e))
no_success drawn status is (inr drew) = drew

pub returns : goal.returns
returns g c =
    let law : ProxyLaws g.row.K.Denot = record {
      streams = record {
        ins = c.a_nodes_stream.ensures;
        outs = c.a_nodes_stream-2.ensures;
        in_pipes = c.proxies_keep_their_pipes.ensures.in_proxy;
        out_pipes = c.proxies_keep_their_pipes.ensures.out_proxy;
        in_unused = c.a_leg_that_an_in_proxy_left_stays_unused.ensures;
        out_unused = c.a_leg_that_an_out_proxy_left_stays_unused.ensures;
      };
      known = c.a_recording_of_roles_is_known.ensures.changes;
      once = λ m w. c.legs_of_roles_come_up_once.ensures m w.company w.cast;
    } in
    let rightly = c.a_proxy_draws_503_where_its_server_is_lost.ensures in
    record {
      out_channel = λ m w new ours ranges v by n h.
          let events = (history_at m w v by.leads).outs n in
          out_lost_503 c.an_out_proxy_begins.ensures.client (ours.out_config n) (ranges.outs n) n
          (ours.out_number n) events (out_traced law m w new ours v by n)
          (subst (λ (s : Shell OutProxy).
          DrawsRightly out_proxy.rules s (leg_at OutServer n) (leg_at ClientOut n) events)
          (ours.outs n)
          (rightly.out_proxy m w.company w.cast ours n (leg_at ClientOut n) events))
          (c.a_proxy_refuses_for_a_reason.ensures.out_proxy (ours.out_config n))
          (c.a_refused_out_channel_was_refused_by_its_proxy.ensures m w new ours ranges v by n
          503 h);
      in_channel = λ m w new ours ranges v by n h.
          let k = reader_of v.readers n in
          let ins = (history_at m w v by.leads).ins in
          its_own n k ins
          (in_lost_503 (ours.in_config k) n k (ours.in_number k) (ins k)
          (in_traced law m w new ours v by k)
          (subst (λ (s : Shell InProxy).
          DrawsRightly in_proxy.rules s (leg_at InServer k) (leg_at ClientIn n) (ins k))
          (ours.ins k)
          (rightly.in_proxy m w.company w.cast ours k (leg_at ClientIn n) (ins k)))
          (c.a_proxy_refuses_for_a_reason.ensures.in_proxy (ours.in_config k))
          (no_success _ 503 refl
          (c.a_refused_in_channel_was_refused_by_its_proxy.ensures m w new ours ranges v by n
          503 h)));
    }
