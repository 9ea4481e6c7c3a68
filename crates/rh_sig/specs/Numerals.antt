-- the numbers of named packets, written out
use Rattle.std.specs.Prelude.{◌≡◌, ◌≢◌, ◌+◌, ℕ, List, [], ◌∷◌, length, map, sum, get_or}
use Rattle.rh_window.specs.declared.fault.TheConstants.{FLOW_CONTROL_ACK}
use Rattle.rh_rts.specs.declared.kinds.TheConstants as kinds
use Rattle.rh_rts.specs.Commands.{HaveSizes}
use Rattle.rh_sig.specs.declared.cookie.TheConstants.{COOKIE_TEXT_LEN}
use Rattle.rh_sig.specs.declared.lengths.TheConstants.{CONN_B1_LEN, CONN_C1_LEN, IN_R1_A1_LEN}
use Rattle.rh_sig.specs.declared.lengths.TheConstants.{IN_R1_A3_LEN, IN_R1_A5_LEN, IN_R2_A3_LEN}
use Rattle.rh_sig.specs.declared.lengths.TheConstants.{OUT_R1_A1_LEN, OUT_R1_A5_LEN, OUT_R1_A7_LEN}
use Rattle.rh_sig.specs.declared.lengths.TheConstants.{OUT_R1_A9_LEN, END_A1_LEN, END_B1_LEN}
use Rattle.rh_sig.specs.declared.lengths.TheConstants.{ACK_TO_LEN, PING_LEN, GREATEST_NAMED_LEN}
use Rattle.rh_sig.specs.declared.ranges.TheConstants.{LEAST_TIMEOUT, GREATEST_TIMEOUT}
use Rattle.rh_sig.specs.declared.ranges.TheConstants.{DEFAULT_TIMEOUT}
use Rattle.rh_sig.specs.declared.ranges.TheConstants.{DEFAULT_KEEPALIVE, LEAST_KEEPALIVE}
use Rattle.rh_sig.specs.declared.ranges.TheConstants.{GREATEST_KEEPALIVE, PROTOCOL_VERSION}
use Rattle.rh_sig.specs.declared.name.Name.{Name}
use Rattle.rh_sig.specs.declared.name.Name.TheVariants.{ConnB1, ConnB2, ConnC1, InR1A1, InR1A3}
use Rattle.rh_sig.specs.declared.name.Name.TheVariants.{InR1A5, InR2A3, OutR1A1, OutR1A5, OutR1A7}
use Rattle.rh_sig.specs.declared.name.Name.TheVariants.{OutR1A9, EndA1, EndB1, AckTo, Ping}
use Rattle.rh_sig.specs.declared.named.Named.{Named}
use Rattle.rh_sig.specs.Names.{row_of}
use Rattle.rh_sig.specs.Naming.{named_bytes}
use Rattle.rh_sig.specs.Values.{name_of_named, commands_of}

-- the bytes of each command, by its type: of a padding that is empty, of an address of IPv4
-- (MS-RPCH 2.2.3)
abbrev pub sizes : List ℕ
sizes = 8 ∷ 28 ∷ 8 ∷ 20 ∷ 8 ∷ 8 ∷ 8 ∷ 4 ∷ 8 ∷ 4 ∷ 4 ∷ 24 ∷ 20 ∷ 8 ∷ 8 ∷ []

abbrev pub size_of : ℕ → ℕ
size_of kind = get_or sizes kind 0

-- the bytes of a packet of that name: the header, and the commands of its row
abbrev pub bytes_of : Name → ℕ
bytes_of name = 20 + sum (map size_of (row_of name).types)

-- so many bytes has a packet of that name, and the constant says so
abbrev pub IsLength : Name → ℕ → ℕ → Type 0
IsLength name constant n = (constant ≡ n) × (bytes_of name ≡ n)

pub record AreFixed : Type 0 where
  -- each named packet has the bytes of its row; that with an address may have one of IPv6
  -- (MS-RPCH 2.2.4)
  pub packets : (named : Named) → name_of_named named ≢ ConnB2 → HaveSizes (commands_of named)
      → length (named_bytes named) ≡ bytes_of (name_of_named named)
  -- the lengths of opening, acknowledgements and pings (MS-RPCH 2.2.4), of replacement and of a
  -- clean end (profile)
  pub conn_b1 : IsLength ConnB1 CONN_B1_LEN 104
  pub conn_c1 : IsLength ConnC1 CONN_C1_LEN 44
  pub in_r1_a1 : IsLength InR1A1 IN_R1_A1_LEN 88
  pub in_r1_a3 : IsLength InR1A3 IN_R1_A3_LEN 52
  pub in_r1_a5 : IsLength InR1A5 IN_R1_A5_LEN 40
  pub in_r2_a3 : IsLength InR2A3 IN_R2_A3_LEN 28
  pub out_r1_a1 : IsLength OutR1A1 OUT_R1_A1_LEN 28
  pub out_r1_a5 : IsLength OutR1A5 OUT_R1_A5_LEN 44
  pub out_r1_a7 : IsLength OutR1A7 OUT_R1_A7_LEN 48
  pub out_r1_a9 : IsLength OutR1A9 OUT_R1_A9_LEN 24
  pub end_a1 : IsLength EndA1 END_A1_LEN 24
  pub end_b1 : IsLength EndB1 END_B1_LEN 24
  pub ack_to : IsLength AckTo ACK_TO_LEN 56
  pub ping : IsLength Ping PING_LEN 20
  -- the most bytes of a named packet (MS-RPCH 2.2.4)
  pub greatest : GREATEST_NAMED_LEN ≡ 140
  -- timeouts and keepalives, in milliseconds; 0 stands for the keepalive by default (profile)
  pub least_timeout : LEAST_TIMEOUT ≡ 120_000
  pub greatest_timeout : GREATEST_TIMEOUT ≡ 14_400_000
  pub default_timeout : DEFAULT_TIMEOUT ≡ 120_000
  pub default_keepalive : DEFAULT_KEEPALIVE ≡ 0
  pub least_keepalive : LEAST_KEEPALIVE ≡ 60_000
  pub greatest_keepalive : GREATEST_KEEPALIVE ≡ 4_294_967_295
  -- the version (MS-RPCH 2.2.3)
  pub version : PROTOCOL_VERSION ≡ 1
  -- the characters of a cookie's text (profile)
  pub cookie_text : COOKIE_TEXT_LEN ≡ 36
  -- windows name the command that acknowledges by the type that packets have
  pub acknowledges : FLOW_CONTROL_ACK ≡ kinds.FLOW_CONTROL_ACK
