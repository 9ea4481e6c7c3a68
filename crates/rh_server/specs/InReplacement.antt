-- the IN channel is replaced, by another in proxy or by the same one (profile)
use Rattle.std.specs.Prelude.{ℕ, ◌+◌, ◌==◌, ◌&&◌, ◌||◌, List, Bool, true, false, not, if◌then◌else◌, nat_lt, position, Some, None}
use Rattle.std.specs.List.{list_any}
use Rattle.std.specs.declared.option.Option.{Option}
use Rattle.rh_rts.specs.declared.command.Cookie.{Cookie}
use Rattle.rh_rts.specs.declared.command.TheConstants.{TO_CLIENT}
use Rattle.rh_sig.specs.declared.ranges.TheConstants.{PROTOCOL_VERSION}
use Rattle.rh_sig.specs.declared.named.Named.TheVariants as named
use Rattle.rh_line.specs.Lines.{Line, after_open_next, after_end, after_finish, after_take}
use Rattle.rh_line.specs.declared.which.Which.{Which}
use Rattle.rh_line.specs.declared.which.Which.TheVariants.{Current, Next}
use Rattle.rh_shell.specs.declared.answers.Count.{Count}
use Rattle.rh_shell.specs.declared.answers.Refused.TheVariants as refused
use Rattle.rh_shell.specs.Waiting.{added}
use Rattle.rh_line.specs.declared.leg.TheConstants.{LAST_NUMBER}
use Rattle.rh_server.specs.declared.state.Stage.{Stage}
use Rattle.rh_server.specs.declared.state.Stage.TheVariants as stage
use Rattle.rh_server.specs.declared.state.Edge.TheVariants.{Shut}
use Rattle.rh_server.specs.declared.state.InStage.{InStage}
use Rattle.rh_server.specs.declared.state.InStage.TheVariants.{Fresh, Waits, Opened}
use Rattle.rh_server.specs.declared.state.Tells.TheVariants as tells
use Rattle.rh_server.specs.declared.state.Leaving.TheVariants as leaving
use Rattle.rh_server.specs.declared.state.InLeg.{InLeg}
use Rattle.rh_server.specs.declared.state.InChannel.{InChannel}
use Rattle.rh_server.specs.declared.state.Newest.{Newest}
use Rattle.rh_server.specs.declared.out_line.Kind.TheVariants as kind
use Rattle.rh_server.specs.OutLines.{waits}
use Rattle.rh_server.specs.States.{Server, is_open, is_fresh, is_waiting, same_cookie, in_at, in_leg, with_in}
use Rattle.rh_server.specs.Opening.{Done, took, refuse, unexpected, is_first}
use Rattle.rh_server.specs.Acknowledging.{channel_at}

-- ---- the next channel

abbrev pub ended_if : Bool → Line → Line
ended_if false line = line
ended_if true line = after_end line Next

-- a leg whose channel is open: IN_R1/B2 is to tell its window
abbrev pub opened_leg : InLeg → InLeg
opened_leg leg = record leg { stage = Opened; tells = tells.InR1B2 }

-- the channel of the leg is the next one, with a shut window
abbrev pub next_begun : Server → InLeg → Bool → Server
next_begun s leg ended = record s {
  line = ended_if ended (after_open_next s.line true);
  next = record { leg = leg.number; number = leg.number; cookie = leg.cookie };
}

-- and IN_R1/A3 is due
abbrev pub next_told : Server → ℕ → ℕ → Server
next_told s window timeout = record s {
  waiting = added s.waiting (named.InR1A3 TO_CLIENT PROTOCOL_VERSION window timeout);
}

-- the channel of the leg is the next one, with a shut window; IN_R1/A3 is due, and IN_R1/B2 once it
-- is the current one
abbrev pub opens_next : Server → InLeg → InStage → Server
opens_next s leg Fresh = s
opens_next s leg Opened = s
opens_next s leg (Waits window timeout ended) = with_in
    (record s {
      line = ended_if ended (after_open_next s.line true);
      next = record { leg = leg.number; number = leg.number; cookie = leg.cookie };
      waiting = added s.waiting (named.InR1A3 TO_CLIENT PROTOCOL_VERSION window timeout);
    })
    (record leg { stage = Opened; tells = tells.InR1B2 })

abbrev pub opens_leg : Server → Option InLeg → Server
opens_leg s None = s
opens_leg s (Some leg) = opens_next s leg leg.stage

abbrev pub waiting_place : List InLeg → Option ℕ
waiting_place legs = position (λ (leg : InLeg). is_waiting leg.stage) legs

-- the first leg on which IN_R1/A2 came and whose channel is not open yet
abbrev pub first_waiting : List InLeg → Option InLeg
first_waiting legs = in_at legs (waiting_place legs)

-- the first channel that waits is opened where there is no next one: so the one before it is the
-- current one
abbrev pub next_opened : Server → Server
next_opened s =
    if s.line.has_next || waits kind.InR1A3 s.waiting then s
    else opens_leg s (first_waiting s.ins)

-- ---- the next channel becomes current

-- its window is told by IN_R1/B2, and the channel behind it may be opened
abbrev pub becomes_current : Server → Server
becomes_current s = next_opened (record s { current = s.next; edge = Shut })

-- it is so where the line had a next channel and has none
abbrev pub moved_if : Bool → Server → Server
moved_if had_next s =
    if had_next && not s.line.has_next then becomes_current s else s

-- the next PDU is taken
abbrev pub take : Server → Server
take s = moved_if s.line.has_next (record s { line = after_take s.line })

-- ---- IN_R1/A2

-- a leg below this one on which no packet came
abbrev pub is_fresh_below : ℕ → InLeg → Bool
is_fresh_below number leg = nat_lt leg.number number && is_fresh leg.stage

abbrev pub has_fresh_below : ℕ → List InLeg → Bool
has_fresh_below number legs = list_any (is_fresh_below number) legs

abbrev pub with_newest : Server → ℕ → Cookie → Server
with_newest s leg cookie = record s { newest = record { leg = leg; cookie = cookie } }

abbrev pub announced : Server → InLeg → Cookie → ℕ → ℕ → Server
announced s leg successor window timeout = next_opened (with_in
    (record s { newest = record { leg = leg.number; cookie = successor } })
    (record leg { cookie = successor; stage = Waits window timeout false }))

abbrev pub in_r1_a2_by : Server → Cookie → Cookie → Cookie → Cookie → ℕ → ℕ → Option InLeg → Done
in_r1_a2_by s first connection predecessor successor window timeout None = unexpected s
in_r1_a2_by s first connection predecessor successor window timeout (Some leg) =
    if not (is_fresh leg.stage) then unexpected s
    else (if not (same_cookie first connection) then refuse s (refused.Cookie first connection)
    else (if not (same_cookie s.newest.cookie predecessor)
    then refuse s (refused.Cookie s.newest.cookie predecessor)
    else took (announced s leg successor window timeout)))

abbrev pub in_r1_a2_at : Server → Stage → ℕ → Cookie → Cookie → Cookie → ℕ → ℕ → Done
in_r1_a2_at s (stage.Open first) number connection predecessor successor window timeout =
    in_r1_a2_by s first connection predecessor successor window timeout (in_leg number s.ins)
in_r1_a2_at s opening number connection predecessor successor window timeout = unexpected s

-- IN_R1/A2 is first on an is leg of an open server, where packets came on all legs before; the
-- predecessor is the newest channel
abbrev pub on_in_r1_a2 : Server → ℕ → Count → Cookie → Cookie → Cookie → ℕ → ℕ → Done
on_in_r1_a2 s number count connection predecessor successor window timeout =
    if is_first count && not (has_fresh_below number s.ins)
    then in_r1_a2_at s s.stage number connection predecessor successor window timeout
    else unexpected s

-- ---- IN_R1/A6

abbrev pub leaves_by : Server → Option InLeg → Server
leaves_by s None = s
leaves_by s (Some leg) = with_in s (record leg { leaving = leaving.InR1B1 })

-- IN_R1/B1 is due on the leg
abbrev pub leaves : Server → ℕ → Server
leaves s number = leaves_by s (in_leg number s.ins)

-- the current channel is finished
abbrev pub hands_over : Server → ℕ → Server
hands_over s number =
    moved_if true (record (leaves s number) { line = after_finish s.line })

-- the leg carries the current channel, and IN_R1/A3 for the next one was put
abbrev pub may_hand_over : Server → ℕ → Bool
may_hand_over s number =
    (number == s.current.leg)
    && (not s.line.finished && (s.line.has_next && not (waits kind.InR1A3 s.waiting)))

-- IN_R1/A6 comes on the current leg, where IN_R1/A3 for the next channel was put, whose cookie it
-- has
abbrev pub on_in_r1_a6 : Server → ℕ → Cookie → Done
on_in_r1_a6 s number successor =
    if (number == s.current.leg)
    && (not s.line.finished && (s.line.has_next && not (waits kind.InR1A3 s.waiting)))
    then (if same_cookie s.next.cookie successor
    then took (hands_over s number)
    else refuse s (refused.Cookie s.next.cookie successor))
    else unexpected s

-- ---- IN_R2/A2

abbrev pub carries : InChannel → ℕ → InChannel
carries channel number = record channel { number = number }

abbrev pub carried_on : Server → Which → ℕ → Server
carried_on s Current number = record s { current = carries s.current number }
carried_on s Next number = record s { next = carries s.next number }

-- a channel on the newest leg is the newest channel there
abbrev pub newest_by : Newest → ℕ → Cookie → Newest
newest_by newest number successor =
    if number == newest.leg then record newest { cookie = successor } else newest

-- each IN_R2/A3 before was put, and a number is left
abbrev pub may_carry : Server → Bool
may_carry s =
    is_open s.stage && (not (waits kind.InR2A3 s.waiting) && nat_lt s.newest_in LAST_NUMBER)

-- the leg carries the channel with the next number; IN_R2/A3 is due
abbrev pub carries_next : Server → ℕ → Cookie → Which → Server
carries_next s number successor which = record (carried_on s which (s.newest_in + 1)) {
  newest_in = s.newest_in + 1;
  newest = newest_by s.newest number successor;
  waiting = added s.waiting (named.InR2A3 TO_CLIENT);
}

abbrev pub in_r2_a2_on : Server → ℕ → Cookie → Option Which → Done
in_r2_a2_on s number successor None = unexpected s
in_r2_a2_on s number successor (Some which) = took (carries_next s number successor which)

-- IN_R2/A2 comes on the current or the next is leg of an open server, not first, behind no
-- IN_R1/A6, where each IN_R2/A3 before was put and a number is left
abbrev pub on_in_r2_a2 : Server → ℕ → Count → Cookie → Done
on_in_r2_a2 s number count successor =
    if not (is_first count) && (is_open s.stage
    && (not (waits kind.InR2A3 s.waiting) && nat_lt s.newest_in LAST_NUMBER))
    then in_r2_a2_on s number successor (channel_at s number)
    else unexpected s
