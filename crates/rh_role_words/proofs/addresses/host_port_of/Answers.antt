-- a text without these parts names no host and port
use Rattle.std.proofs.Common.{ℕ, List, subst, sym}
use Rattle.rh_http.specs.Hosts.{IsHost}
use Rattle.rh_http.specs.Requests.{host_text}
use Rattle.rh_http.proofs.Servers.{no_server, port_behind}
use Rattle.rh_role_words.proofs.addresses.host_port_of.Goals as goal

pub returns-in_err-host : goal.returns-in_err-host
returns-in_err-host c =
    rw c.from_residual.ensures
    (λ address h. no_server c.args.text.now (host_text address.host) address.port
    c.in_err-host.ensures.none h)

pub returns-in_err-port : goal.returns-in_err-port
returns-in_err-port c =
    let parts = c.in_ok-host.ensures.some in
    rw c.from_residual-in_err-port.ensures (λ address h.
    c.in_err-port.ensures address.port
    (port_behind c.args.text.now c.in_ok-host.host.now c.in_ok-host.port.now
    (host_text address.host) address.port h parts.0 parts.1).1)

pub returns-in-Err : goal.returns-in-Err
returns-in-Err c = λ address h.
    let parts = c.in_ok-host.ensures.some in
    let same =
    (port_behind c.args.text.now c.in_ok-host.host.now c.in_ok-host.port.now
    (host_text address.host) address.port h
    parts.0 parts.1).0 in
    let P : List ℕ → Type 0 = λ x. IsHost x in
    let taken = c.in-Err.ensures.taken.1 (subst P (sym same) h.is_host) in absurd (cc)
