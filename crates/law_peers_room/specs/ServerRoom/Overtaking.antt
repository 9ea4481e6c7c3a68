-- what a server puts before an acknowledgement to the client that waits longer: its answers to the
-- announcements of IN channels (MS-RPCH 2.2.4, 3.2.5; when they go is this profile's)
use Rattle.std.specs.Prelude.{ℕ, ◌+◌, ◌-◌, ◌*◌, ◌≤◌, ◌++◌, List, length, Bool, Some}
use Rattle.std.specs.List.{AllByRecursion}
use Rattle.rh_keep.specs.declared.meter.TheConstants.{RESERVE}
use Rattle.rh_rts.specs.declared.command.Cookie.{Cookie}
use Rattle.rh_rts.specs.declared.command.TheConstants.{TO_CLIENT}
use Rattle.rh_sig.specs.declared.lengths.TheConstants.{ACK_TO_LEN, IN_R1_A3_LEN, IN_R2_A3_LEN}
use Rattle.rh_sig.specs.declared.named.Named.{Named}
use Rattle.rh_sig.specs.declared.named.Named.TheVariants.{ConnA2, OutR1A4}
use Rattle.rh_shell.specs.Rules.{Text, Pdu, Packet}
use Rattle.rh_shell.specs.Waiting.{are_one, key_of}
use Rattle.rh_server.specs.States.{Server}
use Rattle.law_moves.specs.Moves.{EndMove, OnLeg, Passage}
use Rattle.law_role_server.specs.Counted.Counting.{is_in_r1_a3, is_in_r2_a3, out_put, waits_for}
use Rattle.law_role_server_in.specs.Handovers.{passed}

-- ---- packets

-- an acknowledgement of this channel to the client
abbrev pub is_ack_for : Cookie → Named → Bool
is_ack_for channel packet =
    are_one (key_of packet) (Some (record { destination = TO_CLIENT; channel = channel }))

-- the lifetime that CONN/A2 or OUT_R1/A4 tells of a channel is no less than so many bytes
abbrev pub IsLong : ℕ → Named → Type 0
IsLong least (ConnA2 version connection cookie lifetime window) = least ≤ lifetime
IsLong least (OutR1A4 version connection predecessor successor lifetime window timeout) =
    least ≤ lifetime
IsLong least packet = Unit {0}

abbrev pub IsLongOn : ℕ → OnLeg → Type 0
IsLongOn least (leg, Text bytes) = Unit {0}
IsLongOn least (leg, Pdu pdu) = Unit {0}
IsLongOn least (leg, Packet packet) = IsLong least packet

abbrev pub AreLong : ℕ → List OnLeg → Type 0
AreLong least came = AllByRecursion (IsLongOn least) came

-- ---- answers

-- the bytes of IN_R1/A3 and IN_R2/A3 that were put, and of those that are due
abbrev pub answer_bytes : Passage Server → ℕ
answer_bytes p =
    IN_R1_A3_LEN * out_put is_in_r1_a3 p + IN_R2_A3_LEN * out_put is_in_r2_a3 p

abbrev pub due_bytes : Server → ℕ
due_bytes s =
    IN_R1_A3_LEN * waits_for is_in_r1_a3 s + IN_R2_A3_LEN * waits_for is_in_r2_a3 s

-- the bytes that a meter has left where it lets an acknowledgement go
abbrev pub ack_room : ℕ
ack_room = ACK_TO_LEN + RESERVE

-- ---- the law

-- while an acknowledgement waits that waited behind the front of the moves, the answers that are
-- put are those that were due there, and others of fewer bytes than an acknowledgement needs
abbrev pub FewOvertake : ℕ → List EndMove → List EndMove → Type 0
FewOvertake window front later =
    (least : ℕ) (channel : Cookie) → AreLong least (passed window (front ++ later)).came
    → ACK_TO_LEN * length (passed window front).role.waiting.due + ack_room ≤ least
    → 1 ≤ waits_for (is_ack_for channel) (passed window front).role
    → out_put (is_ack_for channel) (passed window (front ++ later))
    ≤ out_put (is_ack_for channel) (passed window front)
    → answer_bytes (passed window (front ++ later))
    ≤ answer_bytes (passed window front) + due_bytes (passed window front).role + (ack_room - 1)
