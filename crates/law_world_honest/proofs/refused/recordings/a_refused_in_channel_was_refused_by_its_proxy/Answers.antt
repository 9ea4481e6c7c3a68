use Rattle.law_order.proofs.Vocabulary.{inl, inr, ap, refl, ◌∙◌, subst, ⊎_elim}
use Rattle.rh_inproxy.specs.Machine as in_proxy
use Rattle.law_moves.proofs.Vocabulary.{ClientIn, Shell, of_leg}
use Rattle.law_role_inproxy.proofs.Vocabulary.{InProxy}
use Rattle.law_node_history.proofs.Vocabulary.{reader_of, leg_at, drawn_on}
use Rattle.law_node_history.proofs.Lemmas.{cast_kept}
use Rattle.law_node_traces.proofs.Vocabulary.{deeds, rules, history_at}
use Rattle.law_world_order.proofs.FirstTexts.InTexts.{echoes_alone}
use Rattle.law_world_honest.proofs.Refusals.Refusals.{by_drawn, echo_success}
use Rattle.law_world_honest.proofs.refused.recordings.a_refused_in_channel_was_refused_by_its_proxy.Goals as goal
use Rattle.law_world_honest.specs.Refusals.Refused.{BeginsRefused}

pub returns : goal.returns
returns g c = λ m w new ours ranges v by n status h.
    let here = history_at m w v by.leads in
    let leg = leg_at ClientIn n in
    let k = reader_of v.readers n in
    let up = (c.directions_are_joined.ensures m w new ours ranges v by).up in
    let node =
    ap (λ cast. m.in_proxy cast k) (cast_kept rules m deeds w v by.leads) ∙ ours.ins k in
    let begins =
    subst (λ (s : Shell InProxy). BeginsRefused (drawn_on in_proxy.rules s leg (here.ins k)) leg
    status) node
    (c.a_refused_client_heard_what_was_drawn.ensures.in_leg m w v new ours by.leads n status h)
    in
    let put = of_leg leg (up.proxies k).passage.put in
    ⊎_elim (λ refused. inl (echo_success put leg status
    (echoes_alone (ours.in_config k) leg refl (up.proxies k).passage (up.proxies k).leads)
    refused)) (λ drew. inr drew)
    (by_drawn put
    (drawn_on in_proxy.rules (in_proxy.first_node (ours.in_config k)) leg (here.ins k)) leg status
    ((up.proxies k).drawn leg (c.an_in_proxy_refuses_first.ensures.client (ours.in_config k) n))
    begins)
