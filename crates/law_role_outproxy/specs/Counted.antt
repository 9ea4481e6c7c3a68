-- how many packets an out proxy puts for those that came (MS-RPCH 2.2.4; replacement and the end
-- are this profile's)
use Rattle.std.specs.Prelude.{ℕ, ◌≡◌, ◌≤◌, List}
use Rattle.rh_rts.specs.declared.command.Cookie.{Cookie}
use Rattle.rh_sig.specs.declared.named.Named.{Named}
use Rattle.rh_sig.specs.declared.named.Named.TheVariants.{ConnA1, ConnA2, OutR1A3, OutR1A4}
use Rattle.rh_line.specs.declared.leg.Leg.{Leg}
use Rattle.rh_line.specs.declared.leg.LegKind.TheVariants.{ClientOut, OutServer}
use Rattle.rh_shell.specs.Rules.{Message}
use Rattle.rh_outproxy.specs.OutProxy.{OutProxy}
use Rattle.law_moves.specs.Moves.{Passage}
use Rattle.law_moves.specs.Wires.{of_leg}
use Rattle.law_moves.specs.Passages.Passing.{count_of, Has, HasOne}
use Rattle.law_moves.specs.PacketKinds.{is_conn_a1, is_conn_a2, is_conn_a3, is_conn_c1, is_conn_c2, is_in_r1_a3, is_in_r1_a4, is_in_r2_a3, is_in_r2_a4, is_out_r1_a1, is_out_r1_a2, is_out_r1_a3, is_out_r1_a4, is_out_r1_a5, is_out_r1_a6, is_out_r1_a9, is_out_r1_a10, is_end_b1, is_end_b2}

-- the legs of the out proxy with this number: from its client, and to the server
abbrev pub co_leg : ℕ → Leg
co_leg n = record { kind = ClientOut; number = n }

abbrev pub os_leg : ℕ → Leg
os_leg n = record { kind = OutServer; number = n }

-- it forwards to its client no more than came from the server
pub record ForwardsWhatCame (n : ℕ) (p : Passage OutProxy) : Type 0 where
  -- CONN/C2 for CONN/C1
  pub connection : count_of is_conn_c2 (of_leg (co_leg n) p.put)
      ≤ count_of is_conn_c1 (of_leg (os_leg n) p.came)
  -- IN_R1/A4 for IN_R1/A3, and IN_R2/A4 for IN_R2/A3
  pub in_r1 : count_of is_in_r1_a4 (of_leg (co_leg n) p.put)
      ≤ count_of is_in_r1_a3 (of_leg (os_leg n) p.came)
  pub in_r2 : count_of is_in_r2_a4 (of_leg (co_leg n) p.put)
      ≤ count_of is_in_r2_a3 (of_leg (os_leg n) p.came)
  -- OUT_R1/A2 for OUT_R1/A1, and OUT_R1/A6 for OUT_R1/A5
  pub wishes : count_of is_out_r1_a2 (of_leg (co_leg n) p.put)
      ≤ count_of is_out_r1_a1 (of_leg (os_leg n) p.came)
  pub answers : count_of is_out_r1_a6 (of_leg (co_leg n) p.put)
      ≤ count_of is_out_r1_a5 (of_leg (os_leg n) p.came)
  -- OUT_R1/A10 for OUT_R1/A9
  pub handover : count_of is_out_r1_a10 (of_leg (co_leg n) p.put)
      ≤ count_of is_out_r1_a9 (of_leg (os_leg n) p.came)
  -- END/B2 for END/B1
  pub ends : count_of is_end_b2 (of_leg (co_leg n) p.put)
      ≤ count_of is_end_b1 (of_leg (os_leg n) p.came)

-- it opens no more than its client asked for
pub record OpensWhatCame (n : ℕ) (p : Passage OutProxy) : Type 0 where
  -- CONN/A2 to the server, and CONN/A3 to the client, for CONN/A1
  pub connection : count_of is_conn_a2 (of_leg (os_leg n) p.put)
      ≤ count_of is_conn_a1 (of_leg (co_leg n) p.came)
  pub timeout : count_of is_conn_a3 (of_leg (co_leg n) p.put)
      ≤ count_of is_conn_a1 (of_leg (co_leg n) p.came)
  -- OUT_R1/A4 to the server for OUT_R1/A3
  pub successor : count_of is_out_r1_a4 (of_leg (os_leg n) p.put)
      ≤ count_of is_out_r1_a3 (of_leg (co_leg n) p.came)

-- ---- what it opens with

-- CONN/A1 of this connection and channel
abbrev pub NamesNew : Cookie → Cookie → Named → Type 0
NamesNew connection channel (ConnA1 version other own window) =
    (other ≡ connection) × (own ≡ channel)
NamesNew connection channel packet = ⊥

-- OUT_R1/A3 of this connection, predecessor and successor
abbrev pub NamesSuccessor : Cookie → Cookie → Cookie → Named → Type 0
NamesSuccessor connection predecessor successor (OutR1A3 version other before own window) =
    (other ≡ connection) × (before ≡ predecessor) × (own ≡ successor)
NamesSuccessor connection predecessor successor packet = ⊥

-- CONN/A2 and OUT_R1/A4 name what one of these named
abbrev pub IsOpenedBy : List Message → Named → Type 0
IsOpenedBy came (ConnA2 version connection channel lifetime window) =
    HasOne (NamesNew connection channel) came
IsOpenedBy came (OutR1A4 version connection predecessor successor lifetime window timeout) =
    HasOne (NamesSuccessor connection predecessor successor) came
IsOpenedBy came packet = Unit {0}

-- so does each that was put to the server, of those that came from the client
abbrev pub OpensAsAsked : ℕ → Passage OutProxy → Type 0
OpensAsAsked n p =
    (named : Named) → Has named (of_leg (os_leg n) p.put)
    → IsOpenedBy (of_leg (co_leg n) p.came) named
