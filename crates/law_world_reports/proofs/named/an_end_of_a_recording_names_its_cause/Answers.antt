use Rattle.law_order.proofs.Vocabulary.{refl}
use Rattle.rh_world.specs.Roles as roles
use Rattle.law_world_reports.proofs.Naming.Recorded.{run_names}
use Rattle.law_world_reports.proofs.named.an_end_of_a_recording_names_its_cause.Goals as goal

pub returns : goal.returns
returns c =
    run_names (λ config lines.
    c.a_closed_end_names_its_cause.ensures roles.rules roles.makers roles.deeds lines
    (roles.begun config) refl)
