-- a line goes on counting what it holds, within its windows; and END stays told
use Rattle.std.proofs.Common.{◌≡◌, ℕ, List, [], ◌∷◌, true, Some, arith, rules}
use Rattle.rh_pdu.specs.Frames.{IsPdu}
use Rattle.rh_window.specs.Sides.{IsWindow}
use Rattle.rh_window.specs.Receiving as windows
use Rattle.rh_window.specs.declared.recv_window.Ack.{Ack}
use Rattle.rh_line.specs.declared.which.Which.{Which}
use Rattle.rh_line.specs.declared.which.Which.TheVariants.{Current, Next}
use Rattle.rh_line.specs.Lines.{Incoming, Line, IsIncoming, IsLine, admitted, channel_of, first_line, is_ended, released, with_end, with_window}
use Rattle.rh_line.specs.Histories.{Call, Admits, Ends, Finishes, OpensNext, Tells, Acknowledges, Takes, after, CanCall, CanRun, line_behind, IsWithin}
use Rattle.rh_line.proofs.Channels.{counts_more}

-- ---- a channel

admitted_sound : (c : Incoming) (pdu : List ℕ) → IsIncoming c → IsPdu pdu
    → IsIncoming (admitted c pdu)
admitted_sound c pdu h is = search (rules, counts_more)

ended_sound : (c : Incoming) → IsIncoming c → IsIncoming (with_end c)
ended_sound c h = record { side = h.side; each = h.each; counted = h.counted }

told_sound : (c : Incoming) (ack : Ack) → IsIncoming c → windows.due c.window ≡ Some ack
    → IsIncoming (with_window c (windows.after_told c.window ack))
told_sound c ack h due = record { side = search rules; each = h.each; counted = h.counted }

opened_sound : (c : Incoming) → IsIncoming c → c.window.told ≡ 0
    → IsIncoming (with_window c (windows.after_tell c.window))
opened_sound c h shut = record { side = search rules; each = h.each; counted = h.counted }

released_sound : (pdus : List (List ℕ)) (c : Incoming) → c.pdus ≡ pdus → IsIncoming c
    → IsIncoming (released pdus c)
released_sound [] c is h = h
released_sound (pdu ∷ pdus) c is h =
    let each = rw is at h.each in
    let counted = rw is at h.counted in
    record { side = search rules; each = each.1; counted = omega arith }

-- ---- a line

pub first_sound : (size : ℕ) → IsWindow size → IsLine (first_line size)
first_sound size window = search rules

pub step_sound : (line : Line) (call : Call) → IsLine line → CanCall line call
    → IsLine (after line call)
step_sound line (Admits Current pdu) h can = search (rules, admitted_sound)
step_sound line (Admits Next pdu) h can = search (rules, admitted_sound)
step_sound line (Ends Current) h can = search (rules, ended_sound)
step_sound line (Ends Next) h can = search (rules, ended_sound)
step_sound line Finishes h can = search rules
step_sound line (OpensNext shut) h can = search rules
step_sound line (Tells Current) h can = search (rules, opened_sound)
step_sound line (Tells Next) h can = search (rules, opened_sound)
step_sound line (Acknowledges Current ack) h can = search (rules, told_sound)
step_sound line (Acknowledges Next ack) h can = search (rules, told_sound)
step_sound line Takes h can = search (rules, released_sound)

pub run_sound : (calls : List Call) (line : Line) → IsLine line → CanRun line calls
    → IsLine (line_behind line calls)
run_sound [] line h can = h
run_sound (call ∷ calls) line h can =
    run_sound calls (after line call) (step_sound line call h can.0) can.1

pub within : (line : Line) (which : Which) → IsLine line
    → IsWithin (channel_of line which) line.size
within line Current h = search rules
within line Next h = search rules

-- ---- END

pub ended_kept : (line : Line) (call : Call) → is_ended line ≡ true
    → is_ended (after line call) ≡ true
ended_kept line (Admits Current pdu) told = search rules
ended_kept line (Admits Next pdu) told = search rules
ended_kept line (Ends Current) told = search rules
ended_kept line (Ends Next) told = search rules
ended_kept line Finishes told = search rules
ended_kept line (OpensNext shut) told = search rules
ended_kept line (Tells Current) told = search rules
ended_kept line (Tells Next) told = search rules
ended_kept line (Acknowledges Current ack) told = search rules
ended_kept line (Acknowledges Next ack) told = search rules
ended_kept line Takes told = search rules
