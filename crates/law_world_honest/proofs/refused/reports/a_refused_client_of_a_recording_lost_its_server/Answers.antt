use Rattle.law_moves.proofs.Vocabulary.{ClientIn, ClientOut}
use Rattle.law_node_history.proofs.Vocabulary.{leg_at}
use Rattle.rh_world.specs.Roles as roles
use Rattle.law_node_traces.proofs.Traced.ByChanges.{lines_by_changes}
use Rattle.law_world_reports.proofs.Vocabulary.{WorldConfig}
use Rattle.law_world_order.proofs.Recorded.{in_range, new, ours}
use Rattle.law_world_order.proofs.FirstTexts.Taken.{recorded_port}
use Rattle.law_world_honest.proofs.Refusals.Reporting.{an_in_proxy, an_out_proxy, reported_loss}
use Rattle.law_world_honest.proofs.refused.reports.a_refused_client_of_a_recording_lost_its_server.Goals as goal

pub returns : goal.returns
returns c =
    let shown = c.what_a_line_tells_shows.ensures roles.rules roles.makers roles.deeds in
    let ever = c.a_node_closes_once.ensures.ever roles.rules roles.makers roles.deeds in
    let refused = c.only_a_client_of_a_recording_is_refused.ensures in
    let lost = c.a_refused_client_lost_its_server.ensures in
    let by_changes = λ (config : WorldConfig).
    lines_by_changes roles.rules roles.makers roles.deeds (roles.begun config) in
    let once = λ (config : WorldConfig).
    c.legs_of_roles_come_up_once.ensures roles.makers (roles.begun config).company config
    (ours config) in
    record {
      out_channel = λ before line node n status h.
          reported_loss shown ever before line node (leg_at ClientOut n) status (an_out_proxy n)
          once
          (λ config ranges v run. lost.out_channel roles.makers (roles.begun config) (new config)
          (ours config) (in_range config ranges) (recorded_port config) v (by_changes config v run)
          n status) (refused before line node (leg_at ClientOut n) status h);
      in_channel = λ before line node n status h.
          reported_loss shown ever before line node (leg_at ClientIn n) status (an_in_proxy n) once
          (λ config ranges v run closed.
          let three = lost.in_channel roles.makers (roles.begun config) (new config) (ours config)
          (in_range config ranges) (recorded_port config) v (by_changes config v run) n status
          closed in
          (three.0, three.2)) (refused before line node (leg_at ClientIn n) status h);
    }
