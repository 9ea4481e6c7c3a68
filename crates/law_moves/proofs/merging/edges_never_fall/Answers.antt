use Rattle.law_moves.proofs.Merges.{raises}
use Rattle.law_moves.proofs.merging.edges_never_fall.Goals as goal

pub returns : goal.returns
returns c = λ waiting packet key. raises waiting packet key
