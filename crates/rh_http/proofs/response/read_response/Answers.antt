use Rattle.rh_http.proofs.OneAnswer.{one_response_answer}
use Rattle.rh_http.proofs.response.read_response.Goals as goal

pub returns-clause-alone : goal.returns-clause-alone
returns-clause-alone c = λ other h.
    one_response_answer c.args.bytes.now other c.answer.result h c.answer.ensures
