use Rattle.law_audit.proofs.Streams.NoBytes.{none_streamed}
use Rattle.law_audit.proofs.laws_of_streams.fronts.no_bytes_are_no_frames.Goals as goal

pub returns : goal.returns
returns c = none_streamed
