use Rattle.law_moves.proofs.ReadBack.Fine.{came_fine}
use Rattle.law_moves.proofs.reading.reading.what_is_read_is_fine.Goals as goal

pub returns : goal.returns
returns c = came_fine
