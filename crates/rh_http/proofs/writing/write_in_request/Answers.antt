use Rattle.std.proofs.Common.{true}
use Rattle.rh_http.proofs.Written.{request_read}
use Rattle.rh_http.proofs.writing.write_in_request.Goals as goal

pub returns-clause-read : goal.returns-clause-read
returns-clause-read c = request_read true c.args.config.now c.args.config.now.lifetime
