use Rattle.law_moves.proofs.Vocabulary.{refusal_text}
use Rattle.law_moves.proofs.ReadBack.Heads.{frame_nothing, head_nothing}
use Rattle.law_moves.proofs.ReadBack.Written.{refusal_whole}
use Rattle.law_moves.proofs.reading.texts.heads_have_no_messages.Goals as goal

pub returns-clause-head : goal.returns-clause-head
returns-clause-head c = head_nothing

pub returns-clause-frame : goal.returns-clause-frame
returns-clause-frame c = frame_nothing

pub returns-clause-refusal : goal.returns-clause-refusal
returns-clause-refusal c = λ pipe refusal first.
    head_nothing pipe (refusal_text refusal) first (refusal_whole refusal)
