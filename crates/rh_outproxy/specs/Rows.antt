-- what the rows of an out proxy's table are made of: its legs, its conditions, and its answers
-- (MS-RPCH 3.2, profile)
use Rattle.std.specs.Prelude.{ℕ, Bool, true, false, not, ◌&&◌, ◌==◌, if◌then◌else◌, is_some, Ok, Err}
use Rattle.std.specs.Str.{bytes_eq}
use Rattle.rh_rts.specs.declared.command.Cookie.{Cookie}
use Rattle.rh_rts.specs.declared.command.TheConstants.{TO_CLIENT}
use Rattle.rh_sig.specs.declared.named.Named.{Named}
use Rattle.rh_line.specs.declared.leg.Leg.{Leg}
use Rattle.rh_line.specs.declared.leg.LegKind.TheVariants.{ClientOut, OutServer}
use Rattle.rh_shell.specs.declared.answers.Count.{Count}
use Rattle.rh_shell.specs.declared.answers.Count.TheVariants as count
use Rattle.rh_shell.specs.declared.answers.Refused.{Refused}
use Rattle.rh_shell.specs.declared.answers.Refused.TheVariants as refused
use Rattle.rh_shell.specs.Rules.{Row}
use Rattle.rh_shell.specs.Shells.{same_leg}
use Rattle.rh_shell.specs.Waiting.{Waiting}
use Rattle.rh_shell.specs.Waiting as waits
use Rattle.rh_outproxy.specs.OutProxy.{OutProxy, is_client_marked, has_come, joined}

-- ---- legs

abbrev pub co : OutProxy → Leg
co s = record { kind = ClientOut; number = s.config.number }

abbrev pub os : OutProxy → Leg
os s = record { kind = OutServer; number = s.config.number }

abbrev pub is_co : OutProxy → Leg → Bool
is_co s leg = same_leg (co s) leg

abbrev pub is_os : OutProxy → Leg → Bool
is_os s leg = same_leg (os s) leg

-- ---- conditions

abbrev pub is_first : Count → Bool
is_first count.Zero = true
is_first n = false

abbrev pub is_second : Count → Bool
is_second count.One = true
is_second n = false

-- OUT_R1/A3 or CONN/C1 came
abbrev pub is_joined : OutProxy → Bool
is_joined s = is_some (joined s.channel)

-- and no OUT_R1/A9
abbrev pub is_carrying : OutProxy → Bool
is_carrying s = is_joined s && not (has_come s.handover)

-- and no END
abbrev pub takes_pdus : OutProxy → Bool
takes_pdus s = is_carrying s && not (has_come s.end)

abbrev pub same_cookie : Cookie → Cookie → Bool
same_cookie one other = bytes_eq one.0 other.0

-- ---- answers

-- the proxy behind a row, and what the row answers
abbrev pub Done : Type 0
Done = OutProxy × Row

abbrev pub taken : OutProxy → Done
taken s = (s, Ok tt)

abbrev pub refuse : OutProxy → Refused → Done
refuse s why = (s, Err why)

-- no row's condition holds
abbrev pub unexpected : OutProxy → Done
unexpected s = refuse s refused.Unexpected

-- ---- forwarding

abbrev pub forwarded_by : OutProxy → Waiting × Bool → Done
forwarded_by s (waiting, true) = taken (record s { waiting = waiting })
forwarded_by s (waiting, false) = refuse (record s { waiting = waiting }) (refused.Full (co s))

-- a packet is to be forwarded to the client, where there is room for it; it is dropped where the
-- client's leg is marked
abbrev pub forwarded : OutProxy → Named → Done
forwarded s packet =
    if is_client_marked s.client then taken s
    else forwarded_by s (waits.forwarded s.waiting packet)

-- a packet for the client is forwarded as this one, as long as the channel carries any
abbrev pub passed_on : OutProxy → ℕ → Named → Done
passed_on s to packet =
    if is_carrying s && (to == TO_CLIENT) then forwarded s packet else unexpected s
