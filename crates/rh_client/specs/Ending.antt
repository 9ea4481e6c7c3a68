-- what is given and taken, and the clean end (profile)
use Rattle.std.specs.Prelude.{ℕ, ◌+◌, ◌==◌, ◌&&◌, ◌++◌, List, [], ◌∷◌, length, Bool, true, false, if◌then◌else◌, nat_le, nat_lt, Some, None, Ok, Err}
use Rattle.std.specs.declared.option.Option.{Option}
use Rattle.std.specs.declared.result.Result.{Result}
use Rattle.rh_pdu.specs.Checking.{checked, pdu_fault}
use Rattle.rh_pdu.specs.declared.fault.PduFault.{PduFault}
use Rattle.rh_line.specs.Queue.{total, queue_bytes}
use Rattle.rh_line.specs.Lines.{channel_of, after_end, after_take}
use Rattle.rh_line.specs.declared.leg.Leg.{Leg}
use Rattle.rh_line.specs.declared.leg.LegKind.{LegKind}
use Rattle.rh_line.specs.declared.leg.LegKind.TheVariants.{ClientOut, OutServer, ClientIn, InServer}
use Rattle.rh_line.specs.declared.which.Which.{Which}
use Rattle.rh_line.specs.declared.which.Which.TheVariants.{Current, Next}
use Rattle.rh_shell.specs.declared.end_role.GiveRefused.{GiveRefused}
use Rattle.rh_shell.specs.declared.end_role.GiveRefused.TheVariants.{Closing, BadPdu, Full}
use Rattle.rh_client.specs.declared.state.ClientRole.{ClientRole}
use Rattle.rh_client.specs.Channels.{unopened_in}
use Rattle.rh_client.specs.Replacements.{is_finished}
use Rattle.rh_client.specs.State.{Done, taken, unexpected, settled, is_open, is_current, is_out_successor}
use Rattle.rh_client.specs.OutReplacement.{passed}

-- ---- what is given

abbrev pub Given : Type 0
Given = ClientRole × Result (Unit {0}) GiveRefused

abbrev pub give_pdu : ClientRole → List ℕ → Result (Unit {0}) PduFault → Given
give_pdu s pdu (Err fault) = (s, Err (BadPdu fault))
give_pdu s pdu (Ok valid) =
    if nat_le (total s.queue + length pdu) queue_bytes
    then (record s { queue = s.queue ++ pdu ∷ [] }, Ok tt)
    else (s, Err (Full (total s.queue) (length pdu)))

-- a PDU stands behind those that were given, where there is room
abbrev pub give : ClientRole → List ℕ → Given
give s pdu = if s.is_closing then (s, Err Closing) else give_pdu s pdu (checked (pdu_fault pdu))

-- no PDU will be given any more
abbrev pub close : ClientRole → ClientRole
close s = record s { is_closing = true }

-- ---- what is taken

-- behind the last PDU of a finished channel its successor is the current one
abbrev pub take : ClientRole → ClientRole
take s = passed (record s { line = after_take s.line })

-- ---- END

-- the channel of a leg, which is the current one or its successor
abbrev pub end_channel : ClientRole → ℕ → Option Which
end_channel s n =
    if is_current s n then Some Current
    else (if s.line.has_next && is_out_successor s n then Some Next else None)

abbrev pub end_on : ClientRole → Option Which → Done
end_on s None = unexpected s
end_on s (Some which) =
    if (channel_of s.line which).ended then unexpected s
    else taken (settled (record s { line = after_end s.line which }))

-- END/B2, once on each channel: the server gives no more
abbrev pub on_end_b2 : ClientRole → ℕ → Done
on_end_b2 s n = if is_open s.phase then end_on s (end_channel s n) else unexpected s

-- ---- legs of no use

-- IN_R1/A5 was put there, or OUT_R1/A10 came
abbrev pub is_done_by : ClientRole → ℕ → LegKind → Bool
is_done_by s n ClientOut =
    if is_current s n then is_finished s.replacement else nat_lt n s.current.number
is_done_by s n ClientIn = nat_lt n s.writing.number
is_done_by s n OutServer = false
is_done_by s n InServer = false

abbrev pub is_done : ClientRole → Leg → Bool
is_done s leg = is_done_by s leg.number leg.kind

abbrev pub drawn_by : ClientRole → ℕ → LegKind → ClientRole
drawn_by s n ClientIn =
    if n == s.leaving.number then record s { leaving = unopened_in 0 s.config.lifetime } else s
drawn_by s n ClientOut = s
drawn_by s n OutServer = s
drawn_by s n InServer = s

-- a message was drawn to its end: on the predecessor's leg that was IN_R1/A5, and the leg is
-- finished
abbrev pub drawn : ClientRole → Leg → ClientRole
drawn s leg = drawn_by s leg.number leg.kind
