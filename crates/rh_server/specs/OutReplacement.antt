-- the OUT channel is replaced (profile)
use Rattle.std.specs.Prelude.{ℕ, ◌+◌, ◌==◌, ◌&&◌, ◌||◌, Bool, true, false, not, if◌then◌else◌, nat_lt, Some, None, Ok, Err}
use Rattle.std.specs.declared.option.Option.{Option}
use Rattle.std.specs.declared.result.Result.{Result}
use Rattle.rh_rts.specs.declared.command.Cookie.{Cookie}
use Rattle.rh_rts.specs.declared.command.TheConstants.{TO_CLIENT, TO_SERVER}
use Rattle.rh_sig.specs.declared.ranges.TheConstants.{PROTOCOL_VERSION}
use Rattle.rh_sig.specs.declared.named.Named.TheVariants as named
use Rattle.rh_keep.specs.Meters.{started, wanted}
use Rattle.rh_shell.specs.declared.answers.Count.{Count}
use Rattle.rh_shell.specs.declared.answers.Refused.TheVariants as refused
use Rattle.rh_shell.specs.declared.end_role.RecycleRefused.{RecycleRefused}
use Rattle.rh_shell.specs.declared.end_role.RecycleRefused.TheVariants.{Busy, Last}
use Rattle.rh_shell.specs.Waiting.{added}
use Rattle.rh_server.specs.declared.state.Stage.{Stage}
use Rattle.rh_server.specs.declared.state.Stage.TheVariants as stage
use Rattle.rh_server.specs.declared.state.EndMark.TheVariants.{Unput}
use Rattle.rh_server.specs.declared.state.OutLeg.{OutLeg}
use Rattle.rh_server.specs.declared.state.Replacement.{Replacement}
use Rattle.rh_server.specs.declared.state.Replacement.TheVariants.{Steady, Asked, Answered, Confirmed}
use Rattle.rh_server.specs.declared.out_line.Kind.TheVariants as kind
use Rattle.rh_line.specs.declared.leg.TheConstants.{LAST_NUMBER}
use Rattle.rh_server.specs.OutLines.{waits}
use Rattle.rh_server.specs.States.{Server, is_open, is_steady, same_cookie, out_at, out_place, out_leg, out_cookie}
use Rattle.rh_server.specs.Opening.{Done, took, refuse, unexpected, is_first, with_out_channel}
use Rattle.rh_server.specs.Acknowledging.{out_server}

-- ---- a replacement begins

-- the greatest number of a channel
abbrev pub last_number : ℕ
last_number = LAST_NUMBER

-- a replacement is under way, or a packet of it still waits
abbrev pub is_under_way : Server → Bool
is_under_way s = not (is_steady s.replacement) || waits kind.OutR1 s.waiting

-- OUT_R1/A1 is due
abbrev pub asks : Server → Server
asks s = record s {
  replacement = Asked;
  waiting = added s.waiting (named.OutR1A1 TO_CLIENT);
}

-- it is asked for: none is under way, and the writing channel's number is not the last one, for
-- which no replacement is ever under way
abbrev pub recycle : Server → Server × Result (Unit {0}) RecycleRefused
recycle s =
    if s.writing == last_number then (s, Err Last)
    else (if is_under_way s then (s, Err (Busy (out_server (s.writing + 1))))
    else (asks s, Ok tt))

abbrev pub wanted_by : Option OutLeg → Bool
wanted_by None = false
wanted_by (Some leg) = wanted leg.meter

-- the writing channel's meter wishes for a successor
abbrev pub wishes : Server → Bool
wishes s =
    is_open s.stage && (nat_lt s.writing last_number
    && (not (is_under_way s) && wanted_by (out_leg s.writing s.outs)))

abbrev pub wished : Server → Server
wished s = if wishes s then asks s else s

-- ---- OUT_R1/A4

-- the successor's channel begins; OUT_R1/A5 is due on the predecessor
abbrev pub answered : Server → ℕ → OutLeg → Cookie → ℕ → ℕ → ℕ → Server
answered s place leg successor lifetime window timeout =
    record (with_out_channel s place leg successor window (started lifetime 0)) {
      replacement = Answered successor;
      waiting = added s.waiting (named.OutR1A5 TO_CLIENT PROTOCOL_VERSION timeout);
    }

abbrev pub answered_by : Server → Cookie → ℕ → ℕ → ℕ → Option ℕ → Option OutLeg → Done
answered_by s successor lifetime window timeout (Some place) (Some leg) =
    took (answered s place leg successor lifetime window timeout)
answered_by s successor lifetime window timeout place leg = unexpected s

abbrev pub answered_on : Server → ℕ → Cookie → ℕ → ℕ → ℕ → Done
answered_on s number successor lifetime window timeout =
    let place = out_place number s.outs in
    answered_by s successor lifetime window timeout place (out_at s.outs place)

abbrev pub out_r1_a4_by : Server → ℕ → Cookie → Cookie → Cookie → Cookie → ℕ → ℕ → ℕ
    → Option Cookie → Done
out_r1_a4_by s number first connection predecessor successor lifetime window timeout None =
    unexpected s
out_r1_a4_by s number first connection predecessor successor lifetime window timeout
    (Some writing) =
    if not (same_cookie first connection) then refuse s (refused.Cookie first connection)
    else (if not (same_cookie writing predecessor)
    then refuse s (refused.Cookie writing predecessor)
    else answered_on s number successor lifetime window timeout)

abbrev pub out_r1_a4_at : Server → Stage → ℕ → Cookie → Cookie → Cookie → ℕ → ℕ → ℕ → Done
out_r1_a4_at s (stage.Open first) number connection predecessor successor lifetime window timeout =
    out_r1_a4_by s number first connection predecessor successor lifetime window timeout
    (out_cookie s.writing s.outs)
out_r1_a4_at s opening number connection predecessor successor lifetime window timeout =
    unexpected s

abbrev pub is_asked : Replacement → Bool
is_asked Steady = false
is_asked Asked = true
is_asked (Answered successor) = false
is_asked Confirmed = false

-- it is first on the os leg behind the writing channel's; OUT_R1/A1 was put, and no OUT_R1/A4 came
-- since
abbrev pub may_answer : Server → ℕ → Count → Bool
may_answer s number count =
    is_first count && ((number == s.writing + 1)
    && (is_asked s.replacement && not (waits kind.OutR1 s.waiting)))

-- OUT_R1/A4 comes where it may; the connection is this one, and the predecessor the writing channel
abbrev pub on_out_r1_a4 : Server → ℕ → Count → Cookie → Cookie → Cookie → ℕ → ℕ → ℕ → Done
on_out_r1_a4 s number count connection predecessor successor lifetime window timeout =
    if may_answer s number count
    then out_r1_a4_at s s.stage number connection predecessor successor lifetime window timeout
    else unexpected s

-- ---- OUT_R1/A8

-- OUT_R1/A9 is due
abbrev pub confirms : Server → Server
confirms s = record s {
  replacement = Confirmed;
  waiting = added s.waiting named.OutR1A9;
}

abbrev pub out_r1_a8_at : Server → Cookie → Replacement → Done
out_r1_a8_at s successor (Answered cookie) =
    if same_cookie cookie successor then took (confirms s)
    else refuse s (refused.Cookie cookie successor)
out_r1_a8_at s successor Steady = unexpected s
out_r1_a8_at s successor Asked = unexpected s
out_r1_a8_at s successor Confirmed = unexpected s

-- OUT_R1/A8 comes on an is leg, not first, for the server; OUT_R1/A5 was put, and none came since
abbrev pub on_out_r1_a8 : Server → Count → ℕ → Cookie → Done
on_out_r1_a8 s count destination successor =
    if not (is_first count) && ((destination == TO_SERVER) && not (waits kind.OutR1 s.waiting))
    then out_r1_a8_at s successor s.replacement
    else unexpected s

-- ---- OUT_R1/A9 is put

-- the successor is the writing channel, and END was not put on it
abbrev pub handed : Server → Server
handed s = record s {
  writing = s.writing + 1;
  end_mark = Unput;
  replacement = Steady;
}
