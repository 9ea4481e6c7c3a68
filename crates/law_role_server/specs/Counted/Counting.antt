-- how often packets passed on legs of a kind, and how many wait (MS-RPCH 2.2.4)
use Rattle.std.specs.Prelude.{ℕ, suc, ◌≡◌, ◌+◌, ◌<◌, ◌≤◌, ◌==◌, List, [], ◌∷◌, Bool, true, false, if◌then◌else◌}
use Rattle.rh_sig.specs.declared.named.Named.{Named}
use Rattle.rh_sig.specs.declared.named.Named.TheVariants.{ConnA2, ConnB2, ConnB3, ConnC1, InR1A2, InR1A3, InR1A6, InR2A2, InR2A3, OutR1A1, OutR1A4, OutR1A5, OutR1A8, OutR1A9, EndA2, AckTo}
use Rattle.rh_line.specs.declared.leg.Leg.{Leg}
use Rattle.rh_line.specs.declared.leg.LegKind.{LegKind}
use Rattle.rh_line.specs.declared.leg.LegKind.TheVariants.{OutServer, InServer}
use Rattle.rh_shell.specs.declared.due.Due.{Due}
use Rattle.rh_server.specs.States.{Server}
use Rattle.law_moves.specs.Moves.{OnLeg, Passage}
use Rattle.law_moves.specs.Wires.{of_leg}
use Rattle.law_moves.specs.Passages.Passing.{count_of, of_kind}

-- ---- packets (MS-RPCH 2.2.4)

abbrev pub is_conn_a2 : Named → Bool
is_conn_a2 (ConnA2 version connection cookie lifetime window) = true
is_conn_a2 packet = false

abbrev pub is_conn_b2 : Named → Bool
is_conn_b2 (ConnB2 version connection cookie window timeout group address padding) = true
is_conn_b2 packet = false

abbrev pub is_conn_b3 : Named → Bool
is_conn_b3 (ConnB3 window version) = true
is_conn_b3 packet = false

abbrev pub is_conn_c1 : Named → Bool
is_conn_c1 (ConnC1 version window timeout) = true
is_conn_c1 packet = false

abbrev pub is_in_r1_a2 : Named → Bool
is_in_r1_a2 (InR1A2 version connection predecessor successor window timeout) = true
is_in_r1_a2 packet = false

abbrev pub is_in_r1_a3 : Named → Bool
is_in_r1_a3 (InR1A3 destination version window timeout) = true
is_in_r1_a3 packet = false

abbrev pub is_in_r1_a6 : Named → Bool
is_in_r1_a6 (InR1A6 successor) = true
is_in_r1_a6 packet = false

abbrev pub is_in_r2_a2 : Named → Bool
is_in_r2_a2 (InR2A2 successor) = true
is_in_r2_a2 packet = false

abbrev pub is_in_r2_a3 : Named → Bool
is_in_r2_a3 (InR2A3 destination) = true
is_in_r2_a3 packet = false

abbrev pub is_out_r1_a1 : Named → Bool
is_out_r1_a1 (OutR1A1 destination) = true
is_out_r1_a1 packet = false

abbrev pub is_out_r1_a4 : Named → Bool
is_out_r1_a4 (OutR1A4 version connection predecessor successor lifetime window timeout) = true
is_out_r1_a4 packet = false

abbrev pub is_out_r1_a5 : Named → Bool
is_out_r1_a5 (OutR1A5 destination version timeout) = true
is_out_r1_a5 packet = false

abbrev pub is_out_r1_a8 : Named → Bool
is_out_r1_a8 (OutR1A8 destination successor) = true
is_out_r1_a8 packet = false

abbrev pub is_out_r1_a9 : Named → Bool
is_out_r1_a9 OutR1A9 = true
is_out_r1_a9 packet = false

abbrev pub is_end_a2 : Named → Bool
is_end_a2 EndA2 = true
is_end_a2 packet = false

-- an acknowledgement to this destination
abbrev pub is_ack_to : ℕ → Named → Bool
is_ack_to to (AckTo destination received window cookie) = destination == to
is_ack_to to packet = false

-- ---- how often

-- on all legs of a kind
abbrev pub often : (Named → Bool) → LegKind → List OnLeg → ℕ
often test kind log = count_of test (of_kind kind log)

abbrev pub leg_at : LegKind → ℕ → Leg
leg_at kind number = record { kind = kind; number = number }

-- on one of them
abbrev pub often_at : (Named → Bool) → LegKind → ℕ → List OnLeg → ℕ
often_at test kind number log = count_of test (of_leg (leg_at kind number) log)

-- once on each leg from this number on, as often as they passed in all, and on no other leg
pub record IsOnEachFrom (first : ℕ) (test : Named → Bool) (kind : LegKind) (log : List OnLeg)
    : Type 0 where
  pub each : (n : ℕ) → first ≤ n → n < first + often test kind log
      → often_at test kind n log ≡ 1
  pub before : (n : ℕ) → n < first → often_at test kind n log ≡ 0
  pub behind : (n : ℕ) → first + often test kind log ≤ n → often_at test kind n log ≡ 0

-- what came on a server's is legs and os legs, and what it put there
abbrev pub in_came : (Named → Bool) → Passage Server → ℕ
in_came test p = often test InServer p.came

abbrev pub out_came : (Named → Bool) → Passage Server → ℕ
out_came test p = often test OutServer p.came

abbrev pub in_put : (Named → Bool) → Passage Server → ℕ
in_put test p = often test InServer p.put

abbrev pub out_put : (Named → Bool) → Passage Server → ℕ
out_put test p = often test OutServer p.put

-- ---- how many wait

abbrev pub waiting_of : (Named → Bool) → List Due → ℕ
waiting_of test [] = 0
waiting_of test (due ∷ dues) =
    if test due.packet then suc (waiting_of test dues) else waiting_of test dues

-- for an os leg of the server
abbrev pub waits_for : (Named → Bool) → Server → ℕ
waits_for test s = waiting_of test s.waiting.due
