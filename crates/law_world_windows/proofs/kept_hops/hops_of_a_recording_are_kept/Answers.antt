use Rattle.law_order.proofs.Vocabulary.{arith, refl}
use Rattle.rh_world.specs.Roles as roles
use Rattle.law_world_order.proofs.Recorded.{in_range, new, ours}
use Rattle.law_world_windows.proofs.HopsRecorded.{RecordedLaws, lines_keep}
use Rattle.law_world_windows.proofs.kept_hops.hops_of_a_recording_are_kept.Goals as goal

pub returns : goal.returns
returns c =
    let law : RecordedLaws = record {
      settings = c.windows_hold_in_a_world_of_roles.ensures.cast;
      hops = λ config range world by.
          c.hops_on_one_leg_are_kept.ensures roles.makers (roles.begun config) (new config)
          (ours config) (in_range config range) world by;
      left = λ config world draws.
          let most = c.cookies_are_drawn_for_channels.ensures roles.makers (roles.begun config)
          world (new config) (ours config) refl draws in
          omega (arith, most);
      client_hops = λ config range world by.
          c.no_hop_of_a_client_closes_a_node.ensures.kept roles.makers (roles.begun config)
          (new config) (ours config) (in_range config range) (λ m n. refl) world by;
    } in
    lines_keep law
