-- the packets of replacements, and how many of them a log has (the replacement of channels is this
-- profile's; the packets are of MS-RPCH 2.2.4)
use Rattle.std.specs.Prelude.{ℕ, ◌≡◌, ◌+◌, ◌&&◌, Bool, true, false, nat_le, nat_lt, List, if◌then◌else◌}
use Rattle.rh_sig.specs.declared.named.Named.{Named}
use Rattle.rh_sig.specs.declared.named.Named.TheVariants.{ConnA1, ConnB1, ConnC2, InR1A1, InR1A4, InR1A5, InR2A4, Ping}
use Rattle.rh_sig.specs.declared.named.Named.TheVariants.{OutR1A2, OutR1A3, OutR1A6, OutR1A7, OutR1A10}
use Rattle.rh_line.specs.declared.leg.Leg.{Leg}
use Rattle.rh_line.specs.declared.leg.LegKind.{LegKind}
use Rattle.rh_shell.specs.Rules.{Message, Text, Pdu, Packet}
use Rattle.rh_shell.specs.Shells.{is_of}
use Rattle.law_moves.specs.Moves.{OnLeg}
use Rattle.law_moves.specs.Wires.{of_leg}
use Rattle.law_moves.specs.Passages.Passing.{count_of, of_kind}

-- ---- the packets

abbrev pub is_conn_a1 : Named → Bool
is_conn_a1 (ConnA1 version connection channel window) = true
is_conn_a1 packet = false

abbrev pub is_conn_b1 : Named → Bool
is_conn_b1 (ConnB1 version connection channel lifetime keepalive group) = true
is_conn_b1 packet = false

abbrev pub is_conn_c2 : Named → Bool
is_conn_c2 (ConnC2 version window timeout) = true
is_conn_c2 packet = false

abbrev pub is_in_r1_a1 : Named → Bool
is_in_r1_a1 (InR1A1 version connection predecessor successor) = true
is_in_r1_a1 packet = false

-- the answer for an IN channel, IN_R1/A4 or IN_R2/A4
abbrev pub is_in_a4 : Named → Bool
is_in_a4 (InR1A4 destination version window timeout) = true
is_in_a4 (InR2A4 destination) = true
is_in_a4 packet = false

abbrev pub is_in_r1_a5 : Named → Bool
is_in_r1_a5 (InR1A5 successor) = true
is_in_r1_a5 packet = false

abbrev pub is_out_r1_a2 : Named → Bool
is_out_r1_a2 (OutR1A2 destination) = true
is_out_r1_a2 packet = false

abbrev pub is_out_r1_a3 : Named → Bool
is_out_r1_a3 (OutR1A3 version connection predecessor successor window) = true
is_out_r1_a3 packet = false

abbrev pub is_out_r1_a6 : Named → Bool
is_out_r1_a6 (OutR1A6 destination version timeout) = true
is_out_r1_a6 packet = false

abbrev pub is_out_r1_a7 : Named → Bool
is_out_r1_a7 (OutR1A7 destination successor) = true
is_out_r1_a7 packet = false

abbrev pub is_out_r1_a10 : Named → Bool
is_out_r1_a10 OutR1A10 = true
is_out_r1_a10 packet = false

-- what a client puts on IN channels before it is open: the request, CONN/B1 and Pings
abbrev pub is_greeting_packet : Named → Bool
is_greeting_packet (ConnB1 version connection channel lifetime keepalive group) = true
is_greeting_packet Ping = true
is_greeting_packet packet = false

abbrev pub is_greeting : Message → Bool
is_greeting (Text bytes) = true
is_greeting (Pdu pdu) = false
is_greeting (Packet named) = is_greeting_packet named

-- ---- how many, and where

-- on all legs of a kind
abbrev pub total : (Named → Bool) → LegKind → List OnLeg → ℕ
total test kind log = count_of test (of_kind kind log)

-- one of so many numbers in a row
abbrev pub is_among : ℕ → ℕ → ℕ → Bool
is_among first count n = nat_le first n && nat_lt n (first + count)

abbrev pub once_if : Bool → ℕ
once_if b = if b then 1 else 0

-- they stand on the legs of this kind from a first number on, one on each, and on no other leg
abbrev pub StandsOnEach : (Named → Bool) → LegKind → ℕ → List OnLeg → Type 0
StandsOnEach test kind first log =
    (leg : Leg) → count_of test (of_leg leg log)
    ≡ once_if (is_of kind leg && is_among first (total test kind log) leg.number)
