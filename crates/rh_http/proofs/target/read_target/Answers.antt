use Rattle.rh_http.proofs.Servers.{target_found}
use Rattle.rh_http.proofs.target.read_target.Goals as goal

pub returns : goal.returns
returns c =
    let parts = c.in_ok-query.ensures.some in
    target_found c.read_server.result c.args.target.now c.in_ok-query.field-0-0.now
    c.in_ok-query.query.now
    parts.0 parts.1 c.read_server.ensures
