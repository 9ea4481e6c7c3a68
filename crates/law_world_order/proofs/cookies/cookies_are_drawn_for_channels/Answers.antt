use Rattle.law_order.proofs.Vocabulary.{◌≡◌, suc, true, false, [], arith, subst}
use Rattle.rh_client.specs.Client as client
use Rattle.law_moves.proofs.Vocabulary.{Leg, Shell, may_up, after_end_events}
use Rattle.law_role_client.proofs.Vocabulary.{LAST_NUMBER, ClientRole}
use Rattle.law_node_history.proofs.Vocabulary.{AreAcceptedAtEnd, came_up, happened, all_noted, nothing}
use Rattle.law_node_traces.proofs.Vocabulary.{deeds, rules}
use Rattle.law_world_order.proofs.CookiesLeft.Channels.{ClientLaws, all_below, all_once}
use Rattle.law_world_order.proofs.CookiesLeft.Counting.{no_more_than}
use Rattle.law_world_order.proofs.CookiesLeft.Noting.{all_ups}
use Rattle.law_world_order.proofs.Vocabulary.{legs_up}
use Rattle.law_world_order.proofs.cookies.cookies_are_drawn_for_channels.Goals as goal

pub returns : goal.returns
returns g c m w v new ours others by =
    let changes = by.works.leads.changes in
    let events = (all_noted rules m deeds w nothing changes).client in
    let count = by.drawn.count others in
    let ups = all_ups rules m deeds w nothing changes in
    let accepted : AreAcceptedAtEnd client.rules client.acts (client.first_client ours.config)
    events =
    subst (λ (s : Shell ClientRole). AreAcceptedAtEnd client.rules client.acts s events)
    ours.client
    (c.a_recording_of_roles_is_known.ensures.changes m w v new ours
    by.works.leads).traced.accepted.client in
    let law : ClientLaws ours.config = record {
      comes = c.a_clients_leg_comes_up_once.ensures.comes ours.config;
      numbers = c.a_clients_leg_comes_up_once.ensures.numbers ours.config;
      once = λ front leg.
          subst (λ (s : Shell ClientRole). AreAcceptedAtEnd client.rules client.acts s front
          → came_up leg (happened front) ≡ true
          → may_up client.rules (after_end_events client.rules client.acts s front) leg ≡ false)
          ours.client
          ((c.legs_of_roles_come_up_once.ensures m w.company w.cast ours).client.once front leg);
    } in
    let most = no_more_than (suc LAST_NUMBER) (legs_up (happened events))
    (all_below ours.config law [] events accepted)
    (λ (leg : Leg). all_once ours.config law leg [] events tt accepted (omega arith)) in
    omega (arith, count, ups, most)
