-- what each call does to the side that receives (MS-RPCH 3.2); when an acknowledgement is due
-- (profile)
use Rattle.std.specs.Prelude.{ℕ, ◌+◌, ◌-◌, ◌*◌, ◌^◌, nat_lt, nat_le, Bool, ◌&&◌, ◌||◌, is_ok, if◌then◌else◌}
use Rattle.std.specs.Prelude.{Some, None, Ok, Err}
use Rattle.std.specs.declared.option.Option.{Option}
use Rattle.std.specs.declared.result.Result.{Result}
use Rattle.rh_window.specs.Sides.{Receiver}
use Rattle.rh_window.specs.declared.fault.WindowExceeded.{WindowExceeded}
use Rattle.rh_window.specs.declared.recv_window.Ack.{Ack}
use Rattle.rh_window.specs.declared.range.TheConstants.{LEAST_WINDOW}

-- nothing came, and the whole window was told
abbrev pub opened : ℕ → Receiver
opened size = record { received = 0; released = 0; told = size; size = size }

-- nothing came, and nothing was told
abbrev pub shut : ℕ → Receiver
shut size = record { received = 0; released = 0; told = 0; size = size }

abbrev pub after_tell : Receiver → Receiver
after_tell r = record r { told = r.size }

-- a PDU of so many bytes may come where it is within what was told
abbrev pub admit_verdict : Receiver → ℕ → Result (Unit {0}) WindowExceeded
admit_verdict r len =
    if nat_le (r.received + len) r.told then Ok tt
    else Err (record { reached = r.received + len; edge = r.told })

abbrev pub after_admit : Receiver → ℕ → Receiver
after_admit r len =
    if is_ok (admit_verdict r len) then record r { received = r.received + len } else r

abbrev pub after_release : Receiver → ℕ → Receiver
after_release r len = record r { released = r.released + len }

-- ---- acknowledging

-- up to where the window reaches
abbrev pub edge_of : Receiver → ℕ
edge_of r = r.released + r.size

-- an acknowledgement is due where the window was told, its edge is behind what was told and in 32
-- bits, and either half the window or more is still to be told, or the longest PDU may not fit into
-- what is left of what was told
abbrev pub is_due : Receiver → Bool
is_due r =
    nat_lt 0 r.told && nat_lt r.told (edge_of r) && nat_lt (edge_of r) (2 ^ 32)
    && (nat_le r.size (2 * (edge_of r - r.told)) || nat_lt (r.told - r.received) LEAST_WINDOW)

abbrev pub due : Receiver → Option Ack
due r =
    if is_due r then Some (record { received = r.received; available = edge_of r - r.received })
    else None

abbrev pub after_told : Receiver → Ack → Receiver
after_told r ack = record r { told = ack.received + ack.available }
