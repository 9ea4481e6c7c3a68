use Rattle.law_audit.proofs.Streams.FrameFronts.{unbroken}
use Rattle.law_audit.proofs.laws_of_streams.fronts.no_front_is_broken.Goals as goal

pub returns : goal.returns
returns c = unbroken
