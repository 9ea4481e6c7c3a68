-- how many packets an in proxy puts for those that came (MS-RPCH 2.2.4; replacement is this
-- profile's)
use Rattle.std.specs.Prelude.{ℕ, ◌≡◌, ◌≤◌, true, Bool}
use Rattle.rh_rts.specs.declared.command.Cookie.{Cookie}
use Rattle.rh_line.specs.declared.leg.Leg.{Leg}
use Rattle.rh_line.specs.declared.leg.LegKind.TheVariants.{ClientIn, InServer}
use Rattle.rh_inproxy.specs.State.{InProxy}
use Rattle.rh_inproxy.specs.InReplacement.{has_passed}
use Rattle.law_moves.specs.Moves.{Passage}
use Rattle.law_moves.specs.Wires.{of_leg}
use Rattle.law_moves.specs.Passages.Passing.{count_of, of_kind}
use Rattle.law_moves.specs.PacketKinds.{is_conn_b1, is_conn_b2, is_in_r1_a1, is_in_a2, is_in_r1_a5, is_in_r1_a6, is_in_r1_b1, is_out_r1_a7, is_out_r1_a8, opens_server}

-- the leg to the server of the in proxy with this number; it reads its client on several ci legs
abbrev pub is_leg : ℕ → Leg
is_leg n = record { kind = InServer; number = n }

-- it puts no more than came for it: on its is leg, for what came on all ci legs
pub record PutsForWhatCame (n : ℕ) (p : Passage InProxy) : Type 0 where
  -- CONN/B2 for CONN/B1
  pub connection : count_of is_conn_b2 (of_leg (is_leg n) p.put)
      ≤ count_of is_conn_b1 (of_kind ClientIn p.came)
  -- IN_R1/A2 and IN_R2/A2 for IN_R1/A1: of all successors, of one cookie, or of any others
  pub successors : (of : Cookie → Bool)
      → count_of (is_in_a2 of) (of_leg (is_leg n) p.put)
      ≤ count_of (is_in_r1_a1 of) (of_kind ClientIn p.came)
  -- IN_R1/A6 for IN_R1/A5
  pub handover : count_of is_in_r1_a6 (of_leg (is_leg n) p.put)
      ≤ count_of is_in_r1_a5 (of_kind ClientIn p.came)
  -- OUT_R1/A8 for OUT_R1/A7, so too
  pub answers : (of : Cookie → Bool)
      → count_of (is_out_r1_a8 of) (of_leg (is_leg n) p.put)
      ≤ count_of (is_out_r1_a7 of) (of_kind ClientIn p.came)

-- what comes or is put once at most
pub record HappensOnce (n : ℕ) (p : Passage InProxy) : Type 0 where
  -- CONN/B1 came
  pub connection : count_of is_conn_b1 (of_kind ClientIn p.came) ≤ 1
  -- IN_R1/A6 was put
  pub handover : count_of is_in_r1_a6 (of_leg (is_leg n) p.put) ≤ 1
  -- behind it the handover has passed, so that IN_R1/B1 is taken
  pub passed : 1 ≤ count_of is_in_r1_a6 (of_leg (is_leg n) p.put)
      → has_passed p.role.handover ≡ true
  -- CONN/B3 or IN_R1/B2 came
  pub window : count_of opens_server (of_leg (is_leg n) p.came) ≤ 1

-- IN_R1/B1 came for IN_R1/A6
abbrev pub IsLetGo : ℕ → Passage InProxy → Type 0
IsLetGo n p =
    count_of is_in_r1_b1 (of_leg (is_leg n) p.came) ≤ count_of is_in_r1_a6 (of_leg (is_leg n) p.put)
