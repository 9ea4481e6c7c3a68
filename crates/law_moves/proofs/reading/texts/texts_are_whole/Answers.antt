use Rattle.law_order.proofs.Vocabulary.{true, false}
use Rattle.law_moves.proofs.ReadBack.Written.{refusal_whole, request_whole, response_whole}
use Rattle.law_moves.proofs.reading.texts.texts_are_whole.Goals as goal

pub returns-clause-in_request : goal.returns-clause-in_request
returns-clause-in_request c = λ config. request_whole true config config.lifetime

pub returns-clause-out_request : goal.returns-clause-out_request
returns-clause-out_request c = request_whole false

pub returns-clause-response : goal.returns-clause-response
returns-clause-response c = response_whole

pub returns-clause-refusal : goal.returns-clause-refusal
returns-clause-refusal c = refusal_whole
