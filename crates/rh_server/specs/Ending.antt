-- the end of a direction, of a leg, and of the work (profile)
use Rattle.std.specs.Prelude.{ℕ, ◌+◌, ◌&&◌, ◌||◌, ◌++◌, List, [], ◌∷◌, length, Bool, true, false, not, if◌then◌else◌, nat_le, Some, None, Ok, Err}
use Rattle.std.specs.List.{list_all}
use Rattle.std.specs.declared.option.Option.{Option}
use Rattle.std.specs.declared.result.Result.{Result}
use Rattle.rh_pdu.specs.Checking.{pdu_fault}
use Rattle.rh_pdu.specs.declared.fault.PduFault.{PduFault}
use Rattle.rh_line.specs.Lines.{after_end}
use Rattle.rh_line.specs.Queue.{queue_bytes, total}
use Rattle.rh_line.specs.declared.leg.Leg.{Leg}
use Rattle.rh_line.specs.declared.leg.LegKind.{LegKind}
use Rattle.rh_line.specs.declared.leg.LegKind.TheVariants.{ClientOut, OutServer, ClientIn, InServer}
use Rattle.rh_line.specs.declared.which.Which.{Which}
use Rattle.rh_line.specs.declared.which.Which.TheVariants.{Current, Next}
use Rattle.rh_shell.specs.declared.answers.Count.{Count}
use Rattle.rh_shell.specs.declared.end_role.GiveRefused.{GiveRefused}
use Rattle.rh_shell.specs.declared.end_role.GiveRefused.TheVariants as give_refused
use Rattle.rh_shell.specs.Waiting.{Waiting, taken}
use Rattle.rh_server.specs.declared.state.Stage.TheVariants as stage
use Rattle.rh_server.specs.declared.state.Giving.TheVariants.{Closing}
use Rattle.rh_server.specs.declared.state.InStage.{InStage}
use Rattle.rh_server.specs.declared.state.InStage.TheVariants.{Fresh, Waits, Opened}
use Rattle.rh_server.specs.declared.state.InLeg.{InLeg}
use Rattle.rh_server.specs.declared.state.Leaving.TheVariants.{Lost}
use Rattle.rh_rts.specs.declared.command.Cookie.{Cookie}
use Rattle.rh_server.specs.OutLines.{is_ack_of}
use Rattle.rh_server.specs.States.{Server, is_open, is_closing, is_put, is_lost, is_waiting, is_some, stays, has_left, in_leg, with_in, without_in, without_out, out_place, out_cookie}
use Rattle.rh_server.specs.Opening.{Done, took, unexpected, is_first}
use Rattle.rh_server.specs.Acknowledging.{channel_at}
use Rattle.rh_server.specs.OutReplacement.{wished}

-- ---- PDUs are given

abbrev pub give_by : Server → List ℕ → Option PduFault → Server × Result (Unit {0}) GiveRefused
give_by s pdu (Some fault) = (s, Err (give_refused.BadPdu fault))
give_by s pdu None =
    if nat_le (total s.queue + length pdu) queue_bytes
    then (record s { queue = s.queue ++ pdu ∷ [] }, Ok tt)
    else (s, Err (give_refused.Full (total s.queue) (length pdu)))

-- a PDU is given to the client
abbrev pub give : Server → List ℕ → Server × Result (Unit {0}) GiveRefused
give s pdu =
    if is_closing s.giving then (s, Err give_refused.Closing)
    else give_by s pdu (pdu_fault pdu)

-- none will be given any more
abbrev pub close : Server → Server
close s = record s { giving = Closing }

-- ---- END/A2

-- END came on the channel of the line
abbrev pub is_over_on : Server → Which → Bool
is_over_on s Current = s.line.current.ended
is_over_on s Next = s.line.next.ended

-- END came on a leg whose channel waits: it stands on the channel once that is open
abbrev pub end_a2_on_leg : Server → InLeg → InStage → Done
end_a2_on_leg s leg Fresh = unexpected s
end_a2_on_leg s leg Opened = unexpected s
end_a2_on_leg s leg (Waits window timeout ended) =
    if ended then unexpected s
    else took (with_in s (record leg { stage = Waits window timeout true }))

abbrev pub end_a2_waiting : Server → Option InLeg → Done
end_a2_waiting s None = unexpected s
end_a2_waiting s (Some leg) = end_a2_on_leg s leg leg.stage

abbrev pub end_a2_at : Server → ℕ → Option Which → Done
end_a2_at s number (Some which) =
    if is_over_on s which then unexpected s
    else took (record s { line = after_end s.line which })
end_a2_at s number None = end_a2_waiting s (in_leg number s.ins)

-- END/A2 comes on an is leg, not first, behind no END and no IN_R1/A6
abbrev pub on_end_a2 : Server → ℕ → Count → Done
on_end_a2 s number count =
    if is_first count then unexpected s else end_a2_at s number (channel_at s number)

-- ---- the work is done

-- each leg that is kept is lost
abbrev pub is_lost_leg : InLeg → Bool
is_lost_leg leg = is_lost leg.leaving

abbrev pub are_lost : List InLeg → Bool
are_lost legs = list_all is_lost_leg legs

-- END/B1 was put on the writing channel, and every is leg is ended or finished
abbrev pub is_complete : Server → Bool
is_complete s = is_open s.stage && (is_put s.end_mark && are_lost s.ins)

abbrev pub completed : Server → Server
completed s = if is_complete s then record s { stage = stage.Ended } else s

-- behind each put, and where a leg is lost: the work may be done, or the meter wishes for a
-- successor
abbrev pub settled : Server → Server
settled s = wished (completed s)

-- ---- legs are done, drawn and lost

abbrev pub in_is_done : Option InLeg → Bool
in_is_done None = true
in_is_done (Some leg) = has_left leg.leaving || is_lost leg.leaving

abbrev pub is_done_by : Server → ℕ → LegKind → Bool
is_done_by s number InServer = in_is_done (in_leg number s.ins)
is_done_by s number OutServer = not (is_some (out_place number s.outs))
is_done_by s number ClientIn = false
is_done_by s number ClientOut = false

-- there is no use for a leg behind IN_R1/B1, nor once it is lost
abbrev pub is_done : Server → Leg → Bool
is_done s leg = is_done_by s leg.number leg.kind

-- IN_R1/B1 was put there
abbrev pub in_is_drawn : Option InLeg → Bool
in_is_drawn None = true
in_is_drawn (Some leg) = has_left leg.leaving

abbrev pub drawn_by : Server → ℕ → LegKind → Server
drawn_by s number InServer =
    if in_is_drawn (in_leg number s.ins) then settled (without_in s number) else s
drawn_by s number OutServer = s
drawn_by s number ClientIn = s
drawn_by s number ClientOut = s

-- behind the last byte of IN_R1/B1 the leg is finished
abbrev pub drawn : Server → Leg → Server
drawn s leg = drawn_by s leg.number leg.kind

-- ---- ends and breaks

-- END came on the leg
abbrev pub waits_ended : InStage → Bool
waits_ended Fresh = false
waits_ended Opened = false
waits_ended (Waits window timeout ended) = ended

abbrev pub ended_on : Server → InLeg → Option Which → Bool
ended_on s leg None = waits_ended leg.stage
ended_on s leg (Some which) = is_over_on s which

-- IN_R1/A6 came on the is leg; or END/A2 came, and END/B1 was put on the writing channel
abbrev pub in_only_marks : Server → Option InLeg → Bool
in_only_marks s None = false
in_only_marks s (Some leg) =
    not (stays leg.leaving)
    || (is_put s.end_mark && ended_on s leg (channel_at s leg.number))

-- OUT_R1/A9 was put on the os leg: its channel is behind
abbrev pub only_marks_by : Server → ℕ → LegKind → Bool
only_marks_by s number InServer = in_only_marks s (in_leg number s.ins)
only_marks_by s number OutServer = not (nat_le s.writing number)
only_marks_by s number ClientIn = false
only_marks_by s number ClientOut = false

abbrev pub only_marks : Server → Leg → Bool
only_marks s leg = only_marks_by s leg.number leg.kind

abbrev pub without_ack_of : Waiting → Option Cookie → Waiting
without_ack_of w None = w
without_ack_of w (Some cookie) = (taken (is_ack_of cookie) w).0

-- an AckTo 3 for the leg's channel is dropped
abbrev pub with_ack_dropped : Server → ℕ → Server
with_ack_dropped s number =
    record s { waiting = without_ack_of s.waiting (out_cookie number s.outs) }

-- an is leg is lost; while its channel waits, that is kept
abbrev pub lost_in : Server → ℕ → Option InLeg → Server
lost_in s number None = without_in s number
lost_in s number (Some leg) =
    if is_waiting leg.stage && stays leg.leaving
    then with_in s (record leg { leaving = Lost })
    else without_in s number

abbrev pub mark_by : Server → ℕ → LegKind → Server
mark_by s number InServer = settled (lost_in s number (in_leg number s.ins))
mark_by s number OutServer = settled (without_out (with_ack_dropped s number) number)
mark_by s number ClientIn = s
mark_by s number ClientOut = s

-- the leg is lost, and is finished
abbrev pub mark : Server → Leg → Server
mark s leg = mark_by s leg.number leg.kind
