-- what a receiver holds of the RPC PDUs that came on a leg, in bytes; the rest of them it passed on
use Rattle.std.specs.Prelude.{ℕ, ◌==◌, ◌&&◌, if◌then◌else◌}
use Rattle.rh_line.specs.Queue.{total}
use Rattle.rh_outproxy.specs.OutProxy.{OutProxy}
use Rattle.rh_server.specs.States.{Server}

-- a server, on is leg n: of the current channel and of the next one, where it is there
abbrev pub held_by_server : ℕ → Server → ℕ
held_by_server n s =
    if s.current.leg == n then total s.line.current.pdus
    else (if s.line.has_next && (s.next.leg == n) then total s.line.next.pdus else 0)

-- an out proxy, on its os leg
abbrev pub held_by_out_proxy : OutProxy → ℕ
held_by_out_proxy s = total s.line.current.pdus
