-- where no bytes are, there are no frames
use Rattle.law_order.proofs.Vocabulary.{◌≡◌, [], None, refl}
use Rattle.rh_pdu.specs.Cut.{cut, left}
use Rattle.rh_sig.specs.declared.name.Pipe.{Pipe}
use Rattle.rh_sig.specs.declared.name.Pipe.TheVariants.{CiU, IsU, IsD, CoU, CoD, OsU, OsD}
use Rattle.rh_audit.specs.Openings.{first_end}
use Rattle.rh_audit.specs.Streams.{counted, framed, stream, stream_is}

pub none_streamed : (pipe : Pipe) → stream pipe [] ≡ stream_is [] None
unfolding first_end framed counted cut left
none_streamed CiU = refl
none_streamed IsU = refl
none_streamed IsD = refl
none_streamed CoU = refl
none_streamed CoD = refl
none_streamed OsU = refl
none_streamed OsD = refl
