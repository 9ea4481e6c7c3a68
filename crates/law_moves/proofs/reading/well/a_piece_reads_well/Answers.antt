use Rattle.law_moves.proofs.ReadBack.PutsWell.{well_behind}
use Rattle.law_moves.proofs.Vocabulary.{begin}
use Rattle.law_moves.proofs.reading.well.a_piece_reads_well.Goals as goal

pub returns : goal.returns
returns c = λ well pipe heard piece all. well_behind well pipe (begin pipe) heard piece all
