use Rattle.std.proofs.Common.{false}
use Rattle.rh_http.proofs.Written.{request_read}
use Rattle.rh_http.proofs.writing.write_out_request.Goals as goal

pub returns-clause-read : goal.returns-clause-read
returns-clause-read c = request_read false c.args.config.now c.args.length
