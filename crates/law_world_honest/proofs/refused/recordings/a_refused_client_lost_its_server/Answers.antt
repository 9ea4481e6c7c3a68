use Rattle.law_order.proofs.Vocabulary.{◌≡◌, ℕ, List, [], refl, ap, ◌∙◌, subst, IsPrefix}
use Rattle.rh_inproxy.specs.Machine as in_proxy
use Rattle.rh_inproxy.specs.State as in_state
use Rattle.rh_outproxy.specs.Machine as out_proxy
use Rattle.rh_client.specs.Client as client
use Rattle.law_moves.proofs.Vocabulary.{U, HttpRefused, ClientIn, ClientOut, Shell, spelled, ClosedWith, of_leg, RefusesInTurn}
use Rattle.law_role_inproxy.proofs.Vocabulary.{InProxy}
use Rattle.law_role_client.proofs.Vocabulary.{ClientRole}
use Rattle.law_node_history.proofs.Vocabulary.{reader_of, leg_at, drawn_on, end_drawn_on, heard_on}
use Rattle.law_node_history.proofs.Lemmas.{cast_kept}
use Rattle.law_role_outproxy.proofs.Vocabulary.{ROOMS, OutProxy, new_proxy}
use Rattle.law_node_begins.specs.ProxiesBegin.Pipes.{in_pipe}
use Rattle.law_node_traces.proofs.Vocabulary.{deeds, rules, history_at}
use Rattle.law_peers_routes.specs.Downwards.{proxy_reads}
use Rattle.law_world_order.proofs.FirstTexts.Asking.{head_is, whole_requests}
use Rattle.law_world_order.proofs.FirstTexts.OutTexts.{puts_200}
use Rattle.law_world_order.proofs.FirstTexts.Taken.{in_taken, none_echoes, out_taken}
use Rattle.law_world_honest.proofs.Refusals.Lost.{has_503}
use Rattle.law_world_honest.proofs.Refusals.Refusals.{none_refused, put_none}
use Rattle.law_world_honest.proofs.refused.recordings.a_refused_client_lost_its_server.Goals as goal
use Rattle.law_world_honest.specs.Refusals.Refused.{BeginsRefused}

pub returns : goal.returns
returns g c =
    let is_asked =
    head_is c.a_client_begins_with_a_request.ensures c.a_client_asks_by_its_requests.ensures
    (whole_requests c.texts_are_whole.ensures.in_request c.texts_are_whole.ensures.out_request) in
    record {
      out_channel = λ m w new ours ranges port v by n status h.
          let here = history_at m w v by.leads in
          let leg = leg_at ClientOut n in
          let config = ours.out_config n in
          let events = here.outs n in
          let down = (c.directions_are_joined.ensures m w new ours ranges v by).down in
          let proxy = down.proxies n in
          let near =
          subst (λ (s : Shell ClientRole). IsPrefix (heard_on leg events)
          (end_drawn_on client.rules client.acts s leg here.client)) ours.client
          (c.what_is_heard_was_drawn.ensures rules m deeds w.company v here
          (c.a_recording_of_roles_is_known.ensures.changes m w v new ours by.leads).traced leg U)
          in
          let is_503 =
          has_503 out_proxy.rules (new_proxy config) ROOMS (proxy_reads config) leg events proxy
          status
          (subst (λ (k : ℕ). RefusesInTurn out_proxy.rules (new_proxy config) (proxy_reads config)
          (leg_at ClientOut k)) (ours.out_number n)
          (c.an_out_proxy_refuses_first.ensures.client config))
          (put_none config (ranges.outs n) leg refl status (of_leg leg proxy.passage.put)
          (puts_200 config proxy.passage leg proxy.leads) (down.proxies_begin n))
          (λ t. out_taken ours.config t.role leg t.text t.fault port
          (is_asked ours.config here.client down.taker leg refl (heard_on leg events) t.text near
          t.stands) t.refuses)
          (subst (λ (s : Shell OutProxy). BeginsRefused (drawn_on out_proxy.rules s leg events) leg
          status)
          (ap (λ cast. m.out_proxy cast n) (cast_kept rules m deeds w v by.leads) ∙ ours.outs n)
          (c.a_refused_client_heard_what_was_drawn.ensures.out_leg m w v new ours by.leads n
          status h)) in (
            is_503,
            c.a_client_refused_with_503_lost_its_server.ensures.out_channel m w new ours ranges v
                by n
                (subst (λ (k : ℕ). ClosedWith (HttpRefused leg k) v.company.client.course) is_503
                h),
          );
      in_channel = λ m w new ours ranges port v by n status h.
          let here = history_at m w v by.leads in
          let leg = leg_at ClientIn n in
          let k = reader_of v.readers n in
          let config = ours.in_config k in
          let events = here.ins k in
          let up = (c.directions_are_joined.ensures m w new ours ranges v by).up in
          let proxy = up.proxies k in
          let is_honest = λ (text : List ℕ).
          is_asked ours.config here.client up.giver leg refl (heard_on leg events) text
          (up.near k n) in
          let none : of_leg leg proxy.passage.put ≡ [] =
          subst (λ p. of_leg leg p.put ≡ []) proxy.leads.reached
          (c.an_in_proxy_answers_echoes_alone.ensures config proxy.leads.moves n
          proxy.leads.allowed proxy.in_turn
          (none_echoes ours.config leg (heard_on leg events) proxy.leads.moves ranges.client port
          is_honest (proxy.heads leg))) in
          let is_503 =
          has_503 in_proxy.rules (in_state.first config) in_proxy.rooms (in_pipe config) leg events
          proxy status (c.an_in_proxy_refuses_first.ensures.client config n)
          (λ b. none_refused leg status
          (subst (λ (x : List ℕ). BeginsRefused x leg status) (ap spelled none) b))
          (λ t. in_taken ours.config t.role leg t.text t.fault ranges.client port
          (is_honest t.text t.stands) t.refuses)
          (subst (λ (s : Shell InProxy). BeginsRefused (drawn_on in_proxy.rules s leg events) leg
          status)
          (ap (λ cast. m.in_proxy cast k) (cast_kept rules m deeds w v by.leads) ∙ ours.ins k)
          (c.a_refused_client_heard_what_was_drawn.ensures.in_leg m w v new ours by.leads n
          status h)) in
          let own =
          c.a_client_refused_with_503_lost_its_server.ensures.in_channel m w new ours ranges v by n
          (subst (λ (k : ℕ). ClosedWith (HttpRefused leg k) v.company.client.course) is_503 h) in
          (is_503, own.0, own.1);
    }
