use Rattle.law_order.proofs.Vocabulary.{refl}
use Rattle.rh_world.specs.Roles as roles
use Rattle.law_world_reports.proofs.Ordering.Recorded.{new, ours}
use Rattle.law_world_reports.proofs.Ordering.FinalRecordings.{run_final}
use Rattle.law_world_reports.proofs.ordered.final_ends.a_recording_ends_for_good.Goals as goal

pub returns : goal.returns
returns c = λ law.
    run_final (λ config range lines.
    c.a_report_ends_for_good.ensures roles.makers lines (roles.begun config) (ours config)
    (new config) refl (law config range))
