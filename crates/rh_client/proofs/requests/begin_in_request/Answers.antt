use Rattle.std.proofs.Common.{rules, arith, true}
use Rattle.rh_client.proofs.RequestLengths.{request_short}
use Rattle.rh_client.proofs.requests.begin_in_request.Goals as goal

pub unreachable-requires : goal.unreachable-requires
unreachable-requires c =
    let told = c.in-Err.ensures.writes in
    let config = c.args.config.now in
    let short = request_short true config config.lifetime (search rules) (search rules) in
    omega (arith, told.0, told.1, short)
