-- time: a server watches no leg, and puts no Pings (MS-RPCH 3.2.5)
use Rattle.std.specs.Prelude.{ℕ, None}
use Rattle.std.specs.declared.option.Option.{Option}
use Rattle.rh_line.specs.declared.leg.Leg.{Leg}
use Rattle.rh_server.specs.States.{Server}

abbrev pub silence : Server → Leg → Option ℕ
silence s leg = None

abbrev pub ping_after : Server → Leg → Option ℕ
ping_after s leg = None

abbrev pub ping : Server → Leg → Server
ping s leg = s
