use Rattle.law_order.proofs.Vocabulary.{refl}
use Rattle.rh_world.specs.Roles as roles
use Rattle.law_world_reports.proofs.Ordering.Recorded.{new, ours, run_ordered}
use Rattle.law_world_reports.proofs.ordered.recordings.a_recording_is_ordered.Goals as goal

pub returns : goal.returns
returns c = λ law.
    run_ordered (λ config range lines.
    c.a_report_is_ordered.ensures roles.makers lines (roles.begun config) (ours config)
    (new config) refl (law config range))
