-- what each call does to the side that sends (MS-RPCH 3.2)
use Rattle.std.specs.Prelude.{ℕ, ◌+◌, max, nat_lt, nat_le, Bool, is_ok, if◌then◌else◌, Ok, Err}
use Rattle.std.specs.declared.result.Result.{Result}
use Rattle.rh_window.specs.Sides.{Sender}
use Rattle.rh_window.specs.declared.fault.BadAck.{BadAck}
use Rattle.rh_window.specs.declared.fault.TheConstants.{FLOW_CONTROL_ACK}
use Rattle.rh_window.specs.declared.range.TheConstants.{GREATEST_WINDOW}

-- nothing was sent
abbrev pub unsent : ℕ → Sender
unsent edge = record { sent = 0; edge = edge }

-- whether a PDU of so many bytes is within the edge
abbrev pub may_send : Sender → ℕ → Bool
may_send s len = nat_le (s.sent + len) s.edge

abbrev pub after_sent : Sender → ℕ → Sender
after_sent s len = record s { sent = s.sent + len }

abbrev pub bad_ack : ℕ → BadAck
bad_ack value = record { command = FLOW_CONTROL_ACK; value = value }

-- an acknowledgement is of no more than was sent, and of a window that is none too great (profile)
abbrev pub ack_verdict : Sender → ℕ → ℕ → Result (Unit {0}) BadAck
ack_verdict s received available =
    if nat_lt s.sent received then Err (bad_ack received)
    else (if nat_lt GREATEST_WINDOW available then Err (bad_ack available) else Ok tt)

-- the greater edge stays, so that an older acknowledgement that comes late takes nothing back
abbrev pub after_acked : Sender → ℕ → ℕ → Sender
after_acked s received available =
    if is_ok (ack_verdict s received available)
    then record s { edge = max s.edge (received + available) }
    else s
