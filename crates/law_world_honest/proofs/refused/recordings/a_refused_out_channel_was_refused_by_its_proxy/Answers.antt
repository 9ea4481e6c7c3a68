use Rattle.law_order.proofs.Vocabulary.{refl, ⊎_elim}
use Rattle.rh_outproxy.specs.Machine as out_proxy
use Rattle.law_moves.proofs.Vocabulary.{D, ClientOut, begun, of_leg}
use Rattle.law_node_history.proofs.Vocabulary.{leg_at, drawn_on, happened, heard_on}
use Rattle.law_role_outproxy.proofs.Vocabulary.{ROOMS, new_proxy}
use Rattle.law_node_traces.proofs.Vocabulary.{deeds, rules, history_at}
use Rattle.law_world_order.proofs.FirstTexts.OutTexts.{puts_200}
use Rattle.law_world_honest.proofs.Refusals.Drawn.{heard_refused, refused_more}
use Rattle.law_world_honest.proofs.Refusals.Refusals.{by_drawn, put_none}
use Rattle.law_world_honest.proofs.refused.recordings.a_refused_out_channel_was_refused_by_its_proxy.Goals as goal

pub returns : goal.returns
returns g c = λ m w new ours ranges v by n status h.
    let here = history_at m w v by.leads in
    let leg = leg_at ClientOut n in
    let down = (c.directions_are_joined.ensures m w new ours ranges v by).down in
    let heard = heard_refused c.what_a_client_holds_of_a_head.ensures.closed
    c.a_recording_of_roles_is_known.ensures.changes
    (λ m first w h traced leg.
    c.what_is_heard_was_drawn.ensures rules m deeds first w h traced leg D) m w v new ours
    by.leads leg status h in
    let drawn = drawn_on out_proxy.rules (begun (new_proxy (ours.out_config n)) ROOMS) leg
    (here.outs n) in
    let put = of_leg leg (down.proxies n).passage.put in
    ⊎_elim (λ refused. absurd (put_none (ours.out_config n) (ranges.outs n) leg refl status put
    (puts_200 (ours.out_config n) (down.proxies n).passage leg (down.proxies n).leads)
    (down.proxies_begin n) refused)) (λ drew. drew)
    (by_drawn put drawn leg status (down.proxies_drew n)
    (refused_more (heard_on leg (happened here.client)) drawn leg status (down.far n) heard))
