-- the packets that wait for os legs: those of the OUT line go on the writing channel, and an AckTo
-- 3 on the leg of its channel. All are in the order in which they became due (MS-RPCH 3.2.1;
-- profile)
use Rattle.std.specs.Prelude.{ℕ, ◌+◌, ◌==◌, ◌≤◌, ◌&&◌, List, Bool, true, false, if◌then◌else◌, find, count_by, Some, None}
use Rattle.std.specs.declared.option.Option.{Option}
use Rattle.rh_rts.specs.declared.command.Cookie.{Cookie}
use Rattle.rh_rts.specs.declared.command.TheConstants.{TO_OUT_PROXY}
use Rattle.rh_sig.specs.declared.lengths.TheConstants.{ACK_TO_LEN, CONN_C1_LEN, IN_R1_A3_LEN}
use Rattle.rh_sig.specs.declared.lengths.TheConstants.{IN_R2_A3_LEN, OUT_R1_A1_LEN, OUT_R1_A5_LEN, OUT_R1_A9_LEN}
use Rattle.rh_sig.specs.declared.named.Named.{Named}
use Rattle.rh_sig.specs.declared.named.Named.TheVariants as named
use Rattle.rh_keep.specs.Meters.{Meter, may_put, fits}
use Rattle.rh_shell.specs.declared.due.Due.{Due}
use Rattle.rh_shell.specs.declared.due.Origin.TheVariants.{Own}
use Rattle.rh_shell.specs.Waiting.{Waiting, is_of, count, takes}
use Rattle.rh_server.specs.declared.out_line.Kind.{Kind}
use Rattle.rh_server.specs.declared.out_line.Kind.TheVariants as kind
use Rattle.rh_server.specs.States.{is_some, same_cookie}

-- ---- kinds of the server's own packets, of each of which one waits at most

abbrev pub kind_of : Named → Option Kind
kind_of (named.ConnC1 version window timeout) = Some kind.ConnC1
kind_of (named.InR1A3 destination version window timeout) = Some kind.InR1A3
kind_of (named.InR2A3 destination) = Some kind.InR2A3
kind_of (named.OutR1A1 destination) = Some kind.OutR1
kind_of (named.OutR1A5 destination version timeout) = Some kind.OutR1
kind_of named.OutR1A9 = Some kind.OutR1
kind_of packet = None

abbrev pub are_kind : Kind → Option Kind → Bool
are_kind kind None = false
are_kind kind.ConnC1 (Some kind.ConnC1) = true
are_kind kind.InR1A3 (Some kind.InR1A3) = true
are_kind kind.InR2A3 (Some kind.InR2A3) = true
are_kind kind.OutR1 (Some kind.OutR1) = true
are_kind kind (Some other) = false

abbrev pub is_kind : Kind → Named → Bool
is_kind kind packet = are_kind kind (kind_of packet)

abbrev pub is_own : Kind → Due → Bool
is_own kind due = is_of Own due && is_kind kind due.packet

-- one that passes the test waits
abbrev pub has : (Due → Bool) → Waiting → Bool
has test w = is_some (find test w.due)

-- a packet of this kind waits
abbrev pub waits : Kind → Waiting → Bool
waits kind w = has (is_own kind) w

-- of each kind one waits at most, and the server has no others of its own
pub record AreOnce (dues : List Due) : Type 0 where
  pub conn_c1 : count_by (is_own kind.ConnC1) dues ≤ 1
  pub in_r1_a3 : count_by (is_own kind.InR1A3) dues ≤ 1
  pub in_r2_a3 : count_by (is_own kind.InR2A3) dues ≤ 1
  pub out_r1 : count_by (is_own kind.OutR1) dues ≤ 1
  pub all : count Own dues ≤ count_by (is_own kind.ConnC1) dues
      + count_by (is_own kind.InR1A3) dues
      + count_by (is_own kind.InR2A3) dues
      + count_by (is_own kind.OutR1) dues

-- ---- which may go on a leg

-- what lets packets go on an os leg: its channel's cookie and meter, whether it is the writing one,
-- and whether the successor may take its place
pub record Gate : Type 0 where
  pub cookie : Cookie
  pub meter : Meter
  pub is_writing : Bool
  pub hands_over : Bool

-- the bytes of a packet that goes on the writing channel (MS-RPCH 2.2.4)
abbrev pub length_of : Named → ℕ
length_of (named.ConnC1 version window timeout) = CONN_C1_LEN
length_of (named.InR1A3 destination version window timeout) = IN_R1_A3_LEN
length_of (named.InR2A3 destination) = IN_R2_A3_LEN
length_of (named.OutR1A1 destination) = OUT_R1_A1_LEN
length_of (named.OutR1A5 destination version timeout) = OUT_R1_A5_LEN
length_of named.OutR1A9 = OUT_R1_A9_LEN
length_of (named.AckTo destination received window cookie) = ACK_TO_LEN
length_of packet = 0

-- the packets of replacement ask whether they fit; CONN/C1 and AckTo leave the reserve
abbrev pub lets_by_meter : Meter → Named → Bool
lets_by_meter m (named.ConnC1 version window timeout) = may_put m CONN_C1_LEN
lets_by_meter m (named.InR1A3 destination version window timeout) = fits m IN_R1_A3_LEN
lets_by_meter m (named.InR2A3 destination) = fits m IN_R2_A3_LEN
lets_by_meter m (named.OutR1A1 destination) = fits m OUT_R1_A1_LEN
lets_by_meter m (named.OutR1A5 destination version timeout) = fits m OUT_R1_A5_LEN
lets_by_meter m named.OutR1A9 = fits m OUT_R1_A9_LEN
lets_by_meter m (named.AckTo destination received window cookie) =
    may_put m ACK_TO_LEN
lets_by_meter m packet = false

-- AckTo 3 goes on the leg of its channel and asks no meter; OUT_R1/A9 goes once the successor may
-- take the channel's place; and no packet waits but these
abbrev pub lets_packet : Gate → Named → Bool
lets_packet g (named.AckTo destination received window cookie) =
    if destination == TO_OUT_PROXY then same_cookie cookie g.cookie
    else g.is_writing && may_put g.meter ACK_TO_LEN
lets_packet g named.OutR1A9 = g.is_writing && (g.hands_over && fits g.meter OUT_R1_A9_LEN)
lets_packet g packet = g.is_writing && lets_by_meter g.meter packet

abbrev pub lets : Gate → Due → Bool
lets g due = lets_packet g due.packet

-- ---- AckTo 3

-- it is for the channel of that cookie
abbrev pub is_ack_of : Cookie → Due → Bool
is_ack_of cookie due = takes (named.AckTo TO_OUT_PROXY 0 0 cookie) due

-- an acknowledgement with a destination
abbrev pub is_ack : Named → Bool
is_ack (named.AckTo destination received window cookie) = true
is_ack packet = false
