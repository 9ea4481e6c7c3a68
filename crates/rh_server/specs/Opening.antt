-- a connection is opened (MS-RPCH 3.2.5)
use Rattle.std.specs.Prelude.{ℕ, ◌+◌, ◌==◌, ◌&&◌, List, [], ◌∷◌, ◌++◌, length, Bool, true, false, not, if◌then◌else◌, nat_lt, slice_set, Some, None, Ok, Err}
use Rattle.std.specs.declared.option.Option.{Option}
use Rattle.rh_rts.specs.declared.command.Cookie.{Cookie}
use Rattle.rh_sig.specs.declared.ranges.TheConstants.{PROTOCOL_VERSION}
use Rattle.rh_sig.specs.declared.named.Named.TheVariants.{ConnC1}
use Rattle.rh_window.specs.Sending.{unsent}
use Rattle.rh_keep.specs.Meters.{Meter, started}
use Rattle.rh_line.specs.declared.leg.Leg.{Leg}
use Rattle.rh_line.specs.declared.leg.LegKind.{LegKind}
use Rattle.rh_line.specs.declared.leg.LegKind.TheVariants.{ClientOut, OutServer, ClientIn, InServer}
use Rattle.rh_shell.specs.declared.answers.Count.{Count}
use Rattle.rh_shell.specs.declared.answers.Count.TheVariants as counts
use Rattle.rh_shell.specs.declared.answers.Refused.{Refused}
use Rattle.rh_shell.specs.declared.answers.Refused.TheVariants as refused
use Rattle.rh_shell.specs.Rules.{Row}
use Rattle.rh_shell.specs.Waiting.{added}
use Rattle.rh_server.specs.declared.opening.TheConstants.{BEFORE_FIRST}
use Rattle.rh_server.specs.declared.state.TheConstants.{LEGS}
use Rattle.rh_server.specs.declared.state.Stage.{Stage}
use Rattle.rh_server.specs.declared.state.Stage.TheVariants.{Waits, OutCame, InCame, Open, Ended}
use Rattle.rh_server.specs.declared.state.Greeting.TheVariants as greeting
use Rattle.rh_server.specs.declared.state.InStage.TheVariants as in_stage
use Rattle.rh_server.specs.declared.state.Tells.TheVariants as tells
use Rattle.rh_server.specs.declared.state.Leaving.TheVariants.{Stays}
use Rattle.rh_server.specs.declared.state.InLeg.{InLeg}
use Rattle.rh_server.specs.declared.state.OutLeg.{OutLeg}
use Rattle.rh_server.specs.declared.out_line.Kind.TheVariants as kind
use Rattle.rh_server.specs.OutLines.{waits}
use Rattle.rh_server.specs.States.{Server, in_leg, with_in, out_at, out_place, same_cookie, no_cookie}

-- ---- what a row answers

abbrev pub Done : Type 0
Done = Server × Row

abbrev pub took : Server → Done
took s = (s, Ok tt)

abbrev pub refuse : Server → Refused → Done
refuse s why = (s, Err why)

abbrev pub unexpected : Server → Done
unexpected s = refuse s refused.Unexpected

-- the first packet on a leg
abbrev pub is_first : Count → Bool
is_first counts.Zero = true
is_first counts.One = false
is_first counts.More = false

-- ---- legs come up

abbrev pub in_leg_up : ℕ → InLeg
in_leg_up number = record {
  number = number;
  greeting = greeting.Due;
  cookie = no_cookie;
  stage = in_stage.Fresh;
  tells = tells.Nothing;
  leaving = Stays;
}

abbrev pub out_leg_up : ℕ → OutLeg
out_leg_up number = record {
  number = number;
  greeting = greeting.Due;
  cookie = None;
  window = unsent 0;
  meter = started 0 0;
}

-- so many legs of a kind are kept at most
abbrev pub has_room : {A : Type 0} → List A → Bool
has_room legs = nat_lt (length legs) LEGS

-- a leg has the number above the newest of its kind
abbrev pub may_up_by : Server → ℕ → LegKind → Bool
may_up_by s number InServer = (number == s.newest_in + 1) && has_room s.ins
may_up_by s number OutServer = (number == s.newest_out + 1) && has_room s.outs
may_up_by s number ClientIn = false
may_up_by s number ClientOut = false

abbrev pub may_up : Server → Leg → Bool
may_up s leg = may_up_by s leg.number leg.kind

abbrev pub was_up_by : Server → ℕ → LegKind → Bool
was_up_by s number InServer = nat_lt number (s.newest_in + 1) && nat_lt 0 number
was_up_by s number OutServer = nat_lt number (s.newest_out + 1) && nat_lt 0 number
was_up_by s number ClientIn = false
was_up_by s number ClientOut = false

abbrev pub was_up : Server → Leg → Bool
was_up s leg = was_up_by s leg.number leg.kind

-- the greeting is due
abbrev pub up_by : Server → ℕ → LegKind → Server
up_by s number InServer =
    record s { newest_in = number; ins = s.ins ++ in_leg_up number ∷ [] }
up_by s number OutServer =
    record s { newest_out = number; outs = s.outs ++ out_leg_up number ∷ [] }
up_by s number ClientIn = s
up_by s number ClientOut = s

abbrev pub up : Server → Leg → Cookie → Server
up s leg cookie = if may_up s leg then up_by s leg.number leg.kind else s

-- ---- CONN/A2 and CONN/B2

-- both came: CONN/B3 and CONN/C1 are due, and the server is open
abbrev pub opens : Server → Cookie → ℕ → ℕ → Server
opens s connection window timeout = record s {
  stage = Open connection;
  waiting = added s.waiting (ConnC1 PROTOCOL_VERSION window timeout);
}

-- the OUT channel of a leg
abbrev pub with_out_channel : Server → ℕ → OutLeg → Cookie → ℕ → Meter → Server
with_out_channel s place leg cookie window meter = record s {
  outs = slice_set s.outs place (record leg {
    cookie = Some cookie;
    window = unsent window;
    meter = meter;
  });
}

-- the first OUT channel begins behind CONN/A3, whose 28 bytes its meter counts
abbrev pub first_out_at : Server → Cookie → ℕ → ℕ → Option ℕ → Option OutLeg → Server
first_out_at s cookie lifetime window (Some place) (Some leg) =
    with_out_channel s place leg cookie window (started lifetime BEFORE_FIRST)
first_out_at s cookie lifetime window place leg = s

abbrev pub with_first_out : Server → Cookie → ℕ → ℕ → Server
with_first_out s cookie lifetime window =
    let place = out_place 1 s.outs in
    first_out_at s cookie lifetime window place (out_at s.outs place)

-- CONN/A2 is first on os 1, while the server opens, and the connection's cookie is that of CONN/B2
abbrev pub conn_a2_at : Server → Stage → Cookie → Cookie → ℕ → ℕ → Done
conn_a2_at s Waits connection cookie lifetime window =
    took (record (with_first_out s cookie lifetime window) { stage = OutCame connection })
conn_a2_at s (InCame first in_window timeout) connection cookie lifetime window =
    if same_cookie first connection
    then took (opens (with_first_out s cookie lifetime window) first in_window timeout)
    else refuse s (refused.Cookie first connection)
conn_a2_at s (OutCame first) connection cookie lifetime window = unexpected s
conn_a2_at s (Open first) connection cookie lifetime window = unexpected s
conn_a2_at s Ended connection cookie lifetime window = unexpected s

abbrev pub on_conn_a2 : Server → ℕ → Count → Cookie → Cookie → ℕ → ℕ → Done
on_conn_a2 s number count connection cookie lifetime window =
    if is_first count && ((number == 1) && not (waits kind.ConnC1 s.waiting))
    then conn_a2_at s s.stage connection cookie lifetime window
    else unexpected s

-- the channel of is 1 is the current one
abbrev pub first_current : Server → Cookie → Server
first_current s cookie = record s {
  current = record { leg = 1; number = 1; cookie = cookie };
  newest = record { leg = 1; cookie = cookie };
}

-- the first IN channel is that of is 1; CONN/B3 is due there once the server is open
abbrev pub first_in : Server → Cookie → Option InLeg → Server
first_in s cookie None = s
first_in s cookie (Some leg) = with_in
    (record s {
      current = record { leg = 1; number = 1; cookie = cookie };
      newest = record { leg = 1; cookie = cookie };
    })
    (record leg { cookie = cookie; stage = in_stage.Opened; tells = tells.ConnB3 })

abbrev pub with_first_in : Server → Cookie → Server
with_first_in s cookie = first_in s cookie (in_leg 1 s.ins)

-- CONN/B2 is first on is 1, while the server opens, and the connection's cookie is that of CONN/A2
abbrev pub conn_b2_at : Server → Stage → Cookie → Cookie → ℕ → ℕ → Done
conn_b2_at s Waits connection cookie window timeout =
    took (record (with_first_in s cookie) { stage = InCame connection window timeout })
conn_b2_at s (OutCame first) connection cookie window timeout =
    if same_cookie first connection
    then took (opens (with_first_in s cookie) first window timeout)
    else refuse s (refused.Cookie first connection)
conn_b2_at s (InCame first in_window in_timeout) connection cookie window timeout = unexpected s
conn_b2_at s (Open first) connection cookie window timeout = unexpected s
conn_b2_at s Ended connection cookie window timeout = unexpected s

abbrev pub on_conn_b2 : Server → ℕ → Count → Cookie → Cookie → ℕ → ℕ → Done
on_conn_b2 s number count connection cookie window timeout =
    if is_first count && ((number == 1) && not (waits kind.ConnC1 s.waiting))
    then conn_b2_at s s.stage connection cookie window timeout
    else unexpected s
