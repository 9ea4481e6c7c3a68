-- on which OUT channels a server writes, and what stands behind a channel's last message (MS-RPCH
-- 3.2.5; successors are this profile's)
use Rattle.std.specs.Prelude.{ℕ, suc, ◌≡◌, ◌≤◌, List, ◌∷◌, ◌++◌, true, false}
use Rattle.std.specs.List.{AllByRecursion}
use Rattle.rh_rts.specs.declared.command.TheConstants.{TO_OUT_PROXY}
use Rattle.rh_sig.specs.declared.named.Named.TheVariants.{OutR1A9, EndB1}
use Rattle.rh_line.specs.declared.leg.LegKind.TheVariants.{OutServer}
use Rattle.rh_shell.specs.Rules.{Message, Text, Pdu, Packet}
use Rattle.rh_server.specs.States.{Server}
use Rattle.law_moves.specs.Moves.{OnLeg, Passage}
use Rattle.law_moves.specs.Wires.{of_leg}
use Rattle.law_role_server.specs.Counted.Counting.{is_ack_to, is_out_r1_a9, often, out_put}
use Rattle.law_role_server_rows.specs.Putting.Puts.{os}

-- an RPC PDU or a packet, but no acknowledgement to an out proxy
abbrev pub IsWritten : Message → Type 0
IsWritten (Text bytes) = ⊥
IsWritten (Pdu pdu) = Unit {0}
IsWritten (Packet packet) = is_ack_to TO_OUT_PROXY packet ≡ false

-- an acknowledgement to an out proxy
abbrev pub IsToOutProxy : Message → Type 0
IsToOutProxy (Text bytes) = ⊥
IsToOutProxy (Pdu pdu) = ⊥
IsToOutProxy (Packet packet) = is_ack_to TO_OUT_PROXY packet ≡ true

-- neither an RPC PDU nor END/B1
abbrev pub MayFollowEnd : Message → Type 0
MayFollowEnd (Text bytes) = Unit {0}
MayFollowEnd (Pdu pdu) = ⊥
MayFollowEnd (Packet EndB1) = ⊥
MayFollowEnd (Packet packet) = Unit {0}

-- what is written on an os leg stands behind as many OUT_R1/A9 as there are channels before it;
-- behind OUT_R1/A9 stand acknowledgements to the out proxy alone, and behind END/B1 no RPC PDU and
-- no other END/B1
pub record WritesOnBegun (p : Passage Server) : Type 0 where
  pub in_turn : (n : ℕ) (m : Message) (before behind : List OnLeg)
      → p.put ≡ before ++ (os n, m) ∷ behind → IsWritten m
      → n ≡ suc (often is_out_r1_a9 OutServer before)
  pub handed_over : (n : ℕ) (m : Message) (before behind : List Message)
      → of_leg (os (suc n)) p.put ≡ before ++ m ∷ behind → IsWritten m
      → n ≤ out_put is_out_r1_a9 p
  pub behind_out_r1_a9 : (n : ℕ) (before behind : List Message)
      → of_leg (os n) p.put ≡ before ++ Packet OutR1A9 ∷ behind
      → AllByRecursion IsToOutProxy behind
  pub behind_end : (n : ℕ) (before behind : List Message)
      → of_leg (os n) p.put ≡ before ++ Packet EndB1 ∷ behind
      → AllByRecursion MayFollowEnd behind
