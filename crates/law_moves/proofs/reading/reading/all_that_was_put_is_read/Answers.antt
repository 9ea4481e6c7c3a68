use Rattle.law_order.proofs.Vocabulary.{refl}
use Rattle.law_moves.proofs.Vocabulary.{first_stage, begin}
use Rattle.law_moves.proofs.ReadBack.Puts.{put_whole}
use Rattle.law_moves.proofs.ReadBack.Taking.{read_behind}
use Rattle.law_moves.proofs.reading.reading.all_that_was_put_is_read.Goals as goal

pub returns : goal.returns
returns c = record {
  whole = λ pipe put begins back. put_whole pipe (first_stage pipe) put refl begins back;
  parts = λ pipe a b. read_behind pipe (begin pipe) a b;
}
