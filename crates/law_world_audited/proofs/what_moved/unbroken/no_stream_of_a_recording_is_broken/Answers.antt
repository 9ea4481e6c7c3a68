use Rattle.law_order.proofs.Vocabulary.{◌∷◌, true}
use Rattle.rh_record.specs.declared.line.Line.TheVariants.{First}
use Rattle.rh_world.specs.Any.{run}
use Rattle.law_world_audited.proofs.Moving.NoFaults.{no_faults, none_broken, recording_unbroken}
use Rattle.law_world_audited.proofs.what_moved.unbroken.no_stream_of_a_recording_is_broken.Goals as goal

pub returns : goal.returns
returns c = record {
  stream = λ behind.
      none_broken c.no_bytes_are_no_frames.ensures (run (First true ∷ behind))
      (recording_unbroken c.no_bytes_are_no_frames.ensures c.what_moved_is_a_stream.ensures behind);
  faults = λ behind.
      no_faults c.no_bytes_are_no_frames.ensures (run (First true ∷ behind))
      (recording_unbroken c.no_bytes_are_no_frames.ensures c.what_moved_is_a_stream.ensures behind);
}
