-- RPC PDUs on their way from ci to is (MS-RPCH 3.2)
use Rattle.std.specs.Prelude.{ℕ, ◌||◌, List, [], ◌∷◌, length, if◌then◌else◌, Some, None, Ok, Err}
use Rattle.std.specs.declared.result.Result.{Result}
use Rattle.rh_window.specs.Sending.{may_send, after_sent}
use Rattle.rh_line.specs.Lines as line
use Rattle.rh_line.specs.declared.line_fault.LineFault.{LineFault}
use Rattle.rh_line.specs.declared.line_fault.LineFault.TheVariants.{Window, Over}
use Rattle.rh_line.specs.declared.which.Which.{Which}
use Rattle.rh_shell.specs.declared.answers.Refused.TheVariants as refused
use Rattle.rh_shell.specs.Rules.{Pdu}
use Rattle.rh_inproxy.specs.Answers.{Done, Pick, taken, refuse, unexpected}
use Rattle.rh_inproxy.specs.State.{InProxy, has_a5, followed}

abbrev pub pdu_by : InProxy → Result (Unit {0}) LineFault → Done
pdu_by s (Ok admitted) = taken s
pdu_by s (Err (Window exceeded)) = refuse s (refused.Window exceeded)
pdu_by s (Err Over) = unexpected s

-- an RPC PDU on a ci leg: no IN_R1/A5 and no END came there, and no END on an earlier one; it is
-- admitted to its channel
abbrev pub on_pdu : InProxy → Which → List ℕ → Done
on_pdu s which pdu =
    if has_a5 s which || line.is_ended s.line then unexpected s
    else pdu_by (record s { line = line.after_admit s.line which pdu })
    (line.admit_verdict s.line which pdu)

-- the PDU goes, and is released; behind the last one of a finished channel the next one is current
abbrev pub passed : InProxy → ℕ → InProxy
passed s len = followed (
    record s { line = line.after_take s.line; window = after_sent s.window len }
    )

abbrev pub next_pdu : InProxy → List (List ℕ) → Pick
next_pdu s [] = None
next_pdu s (pdu ∷ pdus) =
    if may_send s.window (length pdu) then Some (passed s (length pdu), Pdu pdu) else None

-- 4. the front PDU of the current channel, where the window of the server allows it
abbrev pub put_pdu : InProxy → Pick
put_pdu s = next_pdu s s.line.current.pdus
