use Rattle.law_world_audited.proofs.FaultsNone.{no_fault}
use Rattle.law_world_audited.proofs.faults.an_audit_of_a_recording_tells_no_fault.Goals as goal

pub returns : goal.returns
returns c =
    no_fault c.no_stream_of_a_recording_is_broken.ensures.faults
    c.the_chains_of_a_recording_have_all_legs.ensures
