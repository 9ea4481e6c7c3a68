use Rattle.law_order.proofs.Vocabulary.{refl}
use Rattle.law_moves.proofs.Vocabulary.{prefix_trans, first_stage, spelled}
use Rattle.law_moves.proofs.ReadBack.Puts.{put_read}
use Rattle.law_moves.proofs.reading.reading.what_was_put_is_read.Goals as goal

pub returns : goal.returns
returns c = λ pipe put drawn heard begins back p q.
    put_read pipe (first_stage pipe) put refl begins back heard
    (prefix_trans heard drawn (spelled put) q p)
