-- idle legs and Pings, in milliseconds (MS-RPCH 3.2.2.6)
use Rattle.std.specs.Prelude.{ℕ, true, if◌then◌else◌, Some, None}
use Rattle.std.specs.declared.option.Option.{Option}
use Rattle.rh_line.specs.declared.leg.Leg.{Leg}
use Rattle.rh_line.specs.declared.leg.LegKind.{LegKind}
use Rattle.rh_line.specs.declared.leg.LegKind.TheVariants.{ClientOut, OutServer, ClientIn, InServer}
use Rattle.rh_client.specs.declared.state.ClientRole.{ClientRole}
use Rattle.rh_client.specs.State.{is_writing, is_in_successor, is_current, is_out_successor}

abbrev pub silence_by : ClientRole → ℕ → LegKind → Option ℕ
silence_by s n ClientOut =
    if is_current s n then s.current.timeout
    else (if is_out_successor s n then s.out_successor.timeout else None)
silence_by s n ClientIn = None
silence_by s n OutServer = None
silence_by s n InServer = None

-- an OUT channel is watched once its timeout is told
abbrev pub silence : ClientRole → Leg → Option ℕ
silence s leg = silence_by s leg.number leg.kind

abbrev pub ping_after_by : ClientRole → ℕ → LegKind → Option ℕ
ping_after_by s n ClientIn =
    if is_writing s n then Some s.writing.timeout
    else (if is_in_successor s n then Some s.in_successor.timeout else None)
ping_after_by s n ClientOut = None
ping_after_by s n OutServer = None
ping_after_by s n InServer = None

-- an IN channel is kept alive by the timeout that its in proxy told
abbrev pub ping_after : ClientRole → Leg → Option ℕ
ping_after s leg = ping_after_by s leg.number leg.kind

abbrev pub ping_by : ClientRole → ℕ → LegKind → ClientRole
ping_by s n ClientIn =
    if is_writing s n then record s { writing = record (s.writing) { is_ping_due = true } }
    else (if is_in_successor s n
    then record s { in_successor = record (s.in_successor) { is_ping_due = true } }
    else s)
ping_by s n ClientOut = s
ping_by s n OutServer = s
ping_by s n InServer = s

-- a Ping becomes due there
abbrev pub ping : ClientRole → Leg → ClientRole
ping s leg = ping_by s leg.number leg.kind
