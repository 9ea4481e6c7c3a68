-- time at an out proxy, in milliseconds: it watches no leg, and puts Pings to the client (MS-RPCH
-- 3.2, profile)
use Rattle.std.specs.Prelude.{ℕ, ◌&&◌, if◌then◌else◌, Some, None}
use Rattle.std.specs.declared.option.Option.{Option}
use Rattle.rh_line.specs.declared.leg.Leg.{Leg}
use Rattle.rh_outproxy.specs.declared.state.Ping.TheVariants.{Due}
use Rattle.rh_outproxy.specs.OutProxy.{OutProxy, is_response_put}
use Rattle.rh_outproxy.specs.Rows.{is_co}

abbrev pub silence : OutProxy → Leg → Option ℕ
silence s leg = None

-- a Ping is due to the client where nothing was put for half the timeout behind the response
abbrev pub ping_after : OutProxy → Leg → Option ℕ
ping_after s leg =
    if is_co s leg && is_response_put s.answer then Some s.config.timeout else None

abbrev pub ping : OutProxy → Leg → OutProxy
ping s leg = record s { ping = Due }
