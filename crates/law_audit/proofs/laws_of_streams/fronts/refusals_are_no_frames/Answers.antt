use Rattle.law_audit.proofs.Streams.FineTexts.{refused}
use Rattle.law_audit.proofs.laws_of_streams.fronts.refusals_are_no_frames.Goals as goal

pub returns : goal.returns
returns c = refused
