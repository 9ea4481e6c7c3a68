-- RPC PDUs from the server, and the windows on both legs (MS-RPCH 3.2)
use Rattle.std.specs.Prelude.{ℕ, ◌==◌, ◌||◌, List, if◌then◌else◌, Some, None, Ok, Err}
use Rattle.std.specs.declared.option.Option.{Option}
use Rattle.std.specs.declared.result.Result.{Result}
use Rattle.rh_rts.specs.declared.command.Cookie.{Cookie}
use Rattle.rh_rts.specs.declared.command.TheConstants.{TO_CLIENT, TO_OUT_PROXY}
use Rattle.rh_sig.specs.declared.named.Named.TheVariants.{AckTo}
use Rattle.rh_window.specs.declared.fault.BadAck.{BadAck}
use Rattle.rh_window.specs.declared.recv_window.Ack.{Ack}
use Rattle.rh_window.specs.Sending.{ack_verdict, after_acked}
use Rattle.rh_line.specs.declared.line_fault.LineFault.{LineFault}
use Rattle.rh_line.specs.declared.line_fault.LineFault.TheVariants as line_fault
use Rattle.rh_line.specs.declared.which.Which.TheVariants.{Current}
use Rattle.rh_line.specs.Lines.{admit_verdict, after_admit, due}
use Rattle.rh_shell.specs.declared.answers.Refused.TheVariants as refused
use Rattle.rh_shell.specs.Rules.{Row}
use Rattle.rh_outproxy.specs.OutProxy.{OutProxy, has_come, joined}
use Rattle.rh_outproxy.specs.Rows.{Done, takes_pdus, same_cookie, refuse, unexpected, passed_on}

-- ---- an RPC PDU

abbrev pub line_row : Result (Unit {0}) LineFault → Row
line_row (Ok admitted) = Ok tt
line_row (Err (line_fault.Window exceeded)) = Err (refused.Window exceeded)
line_row (Err line_fault.Over) = Err refused.Unexpected

-- it is held behind those that came, where the window allows it
abbrev pub admitted : OutProxy → List ℕ → Done
admitted s pdu = (
  record s { line = after_admit s.line Current pdu },
  line_row (admit_verdict s.line Current pdu),
)

-- an RPC PDU from the server: OUT_R1/A3 or CONN/C1 came; no A9, no END
abbrev pub on_pdu : OutProxy → List ℕ → Done
on_pdu s pdu = if takes_pdus s then admitted s pdu else unexpected s

-- ---- acknowledgements from the client

abbrev pub ack_row : Result (Unit {0}) BadAck → Row
ack_row (Ok acked) = Ok tt
ack_row (Err bad) = Err (refused.OutOfRange bad.command bad.value)

abbrev pub acked : OutProxy → ℕ → ℕ → Done
acked s received available = (
  record s { window = after_acked s.window received available },
  ack_row (ack_verdict s.window received available),
)

-- AckTo 3: OUT_R1/A3 or CONN/C1 came. Its cookie is this channel's
abbrev pub ack_by : Option Cookie → OutProxy → ℕ → ℕ → Cookie → Done
ack_by None s received available of = unexpected s
ack_by (Some cookie) s received available of =
    if same_cookie cookie of then acked s received available
    else refuse s (refused.Cookie cookie of)

abbrev pub on_ack : OutProxy → ℕ → ℕ → Cookie → Done
on_ack s received available of = ack_by (joined s.channel) s received available of

-- AckTo 3 is applied to the window towards the client; AckTo 0 is forwarded
abbrev pub on_ack_to : OutProxy → ℕ → ℕ → ℕ → Cookie → Done
on_ack_to s to received available of =
    if to == TO_OUT_PROXY then on_ack s received available of
    else passed_on s to (AckTo TO_CLIENT received available of)

-- ---- the proxy's own acknowledgements

-- none is due where END or OUT_R1/A9 came
abbrev pub ack_due : OutProxy → Option Ack
ack_due s = if has_come s.end || has_come s.handover then None else due s.line Current
