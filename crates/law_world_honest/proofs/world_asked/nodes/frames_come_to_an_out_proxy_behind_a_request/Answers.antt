use Rattle.law_order.proofs.Vocabulary.{◌≡◌, ℕ, ap, ◌∙◌, subst, Some, is_some, true}
use Rattle.rh_shell.specs.declared.stage.Stage.TheVariants as stage
use Rattle.law_moves.proofs.Vocabulary.{ClientOut, Going, Shell, begun, end_at, after_events}
use Rattle.law_node_history.proofs.Vocabulary.{leg_at, AreAccepted, ComesUpOnce}
use Rattle.law_node_history.proofs.Lemmas.{cast_kept}
use Rattle.law_role_outproxy.proofs.Vocabulary.{ROOMS, rules as out_rules, OutProxy, new_proxy}
use Rattle.law_node_traces.proofs.Vocabulary.{deeds, rules, history_at}
use Rattle.law_world_honest.proofs.world_asked.nodes.frames_come_to_an_out_proxy_behind_a_request.Goals as goal

pub returns : goal.returns
returns g c = λ m w new ours v by n end.
    let h = history_at m w v by.leads in
    let known = c.a_recording_of_roles_is_known.ensures.changes m w v new ours by.leads in
    let config = ours.out_config n in
    let made = ap (λ cast. m.out_proxy cast n) (cast_kept rules m deeds w v by.leads) ∙ ours.outs n
    in
    subst (λ (k : ℕ).
    (let node = after_events out_rules (begun (new_proxy config) ROOMS) (h.outs n) in
    node.course ≡ Going → end_at node (leg_at ClientOut k) ≡ Some end
    → end.intake.stage ≡ stage.Frames → is_some node.role.request ≡ true)) (ours.out_number n)
    (c.an_out_proxy_reads_frames_behind_a_request.ensures config (h.outs n)
    (subst (λ (x : Shell OutProxy). ComesUpOnce out_rules x) (ours.outs n)
    ((c.legs_of_roles_come_up_once.ensures m w.company w.cast ours).outs n))
    (subst (λ (x : Shell OutProxy). AreAccepted out_rules x (h.outs n)) made
    (known.traced.accepted.outs n)) (known.in_turn.outs n) end)
