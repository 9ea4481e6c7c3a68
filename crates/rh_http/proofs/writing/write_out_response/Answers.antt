use Rattle.rh_http.proofs.WrittenResponses.{response_told}
use Rattle.rh_http.proofs.writing.write_out_response.Goals as goal

pub returns-clause-read : goal.returns-clause-read
returns-clause-read c = response_told c.args.length
