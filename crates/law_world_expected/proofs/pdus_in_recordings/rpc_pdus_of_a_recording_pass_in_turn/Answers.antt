use Rattle.rh_world.specs.Roles as roles
use Rattle.law_world_order.proofs.Recorded.{in_range, new, ours}
use Rattle.law_world_expected.proofs.TurnsRecorded.{TurnLaws, lines_pass}
use Rattle.law_world_expected.proofs.pdus_in_recordings.rpc_pdus_of_a_recording_pass_in_turn.Goals as goal

pub returns : goal.returns
returns c =
    let law : TurnLaws = record {
      settings = c.windows_hold_in_a_world_of_roles.ensures.cast;
      turns = λ config range world by.
          c.rpc_pdus_pass_in_turn.ensures roles.makers (roles.begun config) (new config)
          (ours config) (in_range config range) world by;
    } in
    lines_pass law
