use Rattle.rh_http.proofs.OneAnswer.{one_request_answer}
use Rattle.rh_http.proofs.request.read_request.Goals as goal

pub returns-clause-alone : goal.returns-clause-alone
returns-clause-alone c = λ other h.
    one_request_answer c.args.inbound c.args.bytes.now other c.answer.result h
    c.answer.ensures
