use Rattle.law_order.proofs.Vocabulary.{true, false, refl}
use Rattle.law_audit.proofs.Streams.FineTexts.{refusal_is_fine, request_is_fine, response_is_fine}
use Rattle.law_audit.proofs.laws_of_streams.texts.written_texts_are_fine.Goals as goal

pub returns : goal.returns
returns c = record {
  in_request = λ config least most asks.
      request_is_fine true config config.lifetime least most asks;
  out_request = λ config n least most asks. request_is_fine false config n least most asks;
  response = response_is_fine;
  refusal = refusal_is_fine;
  greeting = refl;
}
