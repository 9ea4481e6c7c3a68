use Rattle.law_order.proofs.Vocabulary.{refl}
use Rattle.rh_world.specs.Roles as roles
use Rattle.law_world_reports.proofs.Ordering.Recorded.{roles_hold}
use Rattle.law_world_reports.proofs.Vocabulary.{CountsCapped}
use Rattle.law_world_reports.proofs.ordered.counts.a_recording_counts.Goals as goal

pub returns : goal.returns
returns c =
    roles_hold CountsCapped (λ key value lines report h. h) (λ lines report h. h)
    (λ config range lines. c.a_report_counts.ensures roles.rules roles.makers roles.deeds lines
    (roles.begun config) refl refl)
