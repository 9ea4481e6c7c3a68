use Rattle.law_order.proofs.Vocabulary.{refl}
use Rattle.law_moves.proofs.Vocabulary.{goes}
use Rattle.law_moves.proofs.TakenPieces.{piece_takes}
use Rattle.law_moves.proofs.moving.frames_are_taken_in_order.Goals as goal

pub returns : goal.returns
returns g c = λ now passage end piece held.
    piece_takes g.R.Role.rules now passage (goes end passage.role) piece refl held
