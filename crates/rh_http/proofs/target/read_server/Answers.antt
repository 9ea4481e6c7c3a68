use Rattle.std.proofs.Common.{ℕ, List, subst, sym}
use Rattle.rh_http.specs.Hosts.{IsHost}
use Rattle.rh_http.proofs.Servers.{no_server, port_behind}
use Rattle.rh_http.proofs.target.read_server.Goals as goal

pub returns-in_err-host : goal.returns-in_err-host
returns-in_err-host c =
    rw c.from_residual.ensures
    (λ host port h. no_server c.args.query.now host port c.in_err-host.ensures.none h)

pub returns-in_err-port : goal.returns-in_err-port
returns-in_err-port c =
    let parts = c.in_ok-host.ensures.some in
    rw c.from_residual-in_err-port.ensures (λ host port h.
    c.in_err-port.ensures port
    (port_behind c.args.query.now c.in_ok-host.host.now c.in_ok-host.port.now host port h parts.0
    parts.1).1)

pub returns-in-Err : goal.returns-in-Err
returns-in-Err c = λ host port h.
    let parts = c.in_ok-host.ensures.some in
    let same =
    (port_behind c.args.query.now c.in_ok-host.host.now c.in_ok-host.port.now host port h
    parts.0 parts.1).0 in
    let P : List ℕ → Type 0 = λ x. IsHost x in
    let taken = c.in-Err.ensures.taken.1 (subst P (sym same) h.is_host) in absurd (cc)
