use Rattle.law_moves.proofs.Vocabulary.{empty}
use Rattle.law_moves.proofs.Merges.{all_merged, none_waits}
use Rattle.law_moves.proofs.merging.one_waits_of_each.Goals as goal

pub returns : goal.returns
returns c = λ room events. all_merged events (empty room) (none_waits room)
