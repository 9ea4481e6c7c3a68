-- idle times and keepalives, in milliseconds (MS-RPCH 3.2; what is watched is this profile's)
use Rattle.std.specs.Prelude.{ℕ, ◌*◌, ◌&&◌, Bool, true, false, not, if◌then◌else◌, Some, None}
use Rattle.std.specs.declared.option.Option.{Option}
use Rattle.rh_sig.specs.declared.named.Named.TheVariants.{Ping}
use Rattle.rh_line.specs.declared.leg.Leg.{Leg}
use Rattle.rh_line.specs.declared.which.Which.{Which}
use Rattle.rh_shell.specs.Rules.{Packet}
use Rattle.rh_inproxy.specs.Answers.{Done, Pick, taken, unexpected}
use Rattle.rh_inproxy.specs.Opening.{kept_for}
use Rattle.rh_inproxy.specs.State.{InProxy, channel_of, has_a5, is_client_leg, is_server_leg}

-- KeepAlive on a ci leg: no IN_R1/A5 came there
abbrev pub on_keep_alive : InProxy → Which → ℕ → Done
on_keep_alive s which keepalive =
    if has_a5 s which then unexpected s
    else taken (record s { keepalive = kept_for keepalive })

abbrev pub a5_came : InProxy → Option Which → Bool
a5_came s None = false
a5_came s (Some which) = has_a5 s which

-- a ci leg is watched until IN_R1/A5 came there
abbrev pub silence : InProxy → Leg → Option ℕ
silence s leg =
    if is_client_leg leg && not (a5_came s (channel_of s leg.number)) then Some s.config.timeout
    else None

-- a Ping is due on is where nothing was put for the keepalive, which is half of this
abbrev pub ping_after : InProxy → Leg → Option ℕ
ping_after s leg = if is_server_leg s leg then Some (2 * s.keepalive) else None

abbrev pub ping : InProxy → Leg → InProxy
ping s leg = if is_server_leg s leg then record s { ping_due = true } else s

-- 6. a Ping
abbrev pub put_ping : InProxy → Pick
put_ping s = if s.ping_due then Some (record s { ping_due = false }, Packet Ping) else None
