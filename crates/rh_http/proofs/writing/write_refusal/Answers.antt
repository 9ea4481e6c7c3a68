use Rattle.rh_http.proofs.WrittenResponses.{refusal_told}
use Rattle.rh_http.proofs.writing.write_refusal.Goals as goal

pub returns-clause-read : goal.returns-clause-read
returns-clause-read c = refusal_told c.args.refusal
