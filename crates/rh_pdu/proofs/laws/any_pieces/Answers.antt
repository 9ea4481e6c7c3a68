-- a law of lists
use Rattle.rh_pdu.proofs.Pieces.{any_told}
use Rattle.rh_pdu.proofs.laws.any_pieces.Goals as goal

pub returns : goal.returns
returns c = any_told
