use Rattle.std.proofs.Common.{rules, arith, false}
use Rattle.rh_client.proofs.RequestLengths.{request_short}
use Rattle.rh_client.proofs.requests.begin_out_request.Goals as goal

pub unreachable-requires : goal.unreachable-requires
unreachable-requires c =
    let told = c.in-Err.ensures.writes in
    let short = request_short false c.args.config.now c.args.length (search rules) (search rules) in
    omega (arith, told.0, told.1, short)
