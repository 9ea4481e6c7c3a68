-- a connection is opened once (MS-RPCH 3.2.5; profile)
use Rattle.std.specs.Prelude.{ℕ, ◌≡◌, ◌+◌, ◌≤◌}
use Rattle.std.specs.List.{AllByRecursion}
use Rattle.rh_line.specs.declared.leg.LegKind.TheVariants.{OutServer}
use Rattle.rh_shell.specs.declared.answers.Phase.TheVariants as phase
use Rattle.rh_shell.specs.Rules.{Message, Text, Pdu, Packet}
use Rattle.rh_server.specs.declared.state.Stage.{Stage}
use Rattle.rh_server.specs.declared.state.Stage.TheVariants.{Waits, OutCame, InCame, Open, Ended}
use Rattle.rh_server.specs.States.{Server, phase_of}
use Rattle.law_moves.specs.Moves.{Passage}
use Rattle.law_moves.specs.Passages.Passing.{of_kind}
use Rattle.law_role_server.specs.Counted.Counting.{is_conn_a2, is_conn_b2, is_conn_b3, is_conn_c1, is_in_r1_a2, is_in_r2_a2, in_came, out_came, in_put, out_put, waits_for}

-- ---- how far the opening is: 1 from this on, 0 before

-- CONN/A2 came
abbrev pub since_conn_a2 : Stage → ℕ
since_conn_a2 Waits = 0
since_conn_a2 (OutCame connection) = 1
since_conn_a2 (InCame connection window timeout) = 0
since_conn_a2 (Open connection) = 1
since_conn_a2 Ended = 1

-- CONN/B2 came
abbrev pub since_conn_b2 : Stage → ℕ
since_conn_b2 Waits = 0
since_conn_b2 (OutCame connection) = 0
since_conn_b2 (InCame connection window timeout) = 1
since_conn_b2 (Open connection) = 1
since_conn_b2 Ended = 1

-- both came, so CONN/C1 is due, or was put
abbrev pub since_open : Stage → ℕ
since_open Waits = 0
since_open (OutCame connection) = 0
since_open (InCame connection window timeout) = 0
since_open (Open connection) = 1
since_open Ended = 1

-- ---- the law

-- a head or a greeting
abbrev pub IsText : Message → Type 0
IsText (Text bytes) = Unit {0}
IsText (Pdu pdu) = ⊥
IsText (Packet named) = ⊥

-- nothing but greetings was put on os legs, nor CONN/B3 on an is leg, and no IN channel was
-- replaced
pub record IsEarly (p : Passage Server) : Type 0 where
  pub greetings : AllByRecursion IsText (of_kind OutServer p.put)
  pub conn_b3 : in_put is_conn_b3 p ≡ 0
  pub in_r1_a2 : in_came is_in_r1_a2 p ≡ 0
  pub in_r2_a2 : in_came is_in_r2_a2 p ≡ 0

pub record OpensOnce (p : Passage Server) : Type 0 where
  pub conn_a2 : out_came is_conn_a2 p ≡ since_conn_a2 p.role.stage
  pub conn_b2 : in_came is_conn_b2 p ≡ since_conn_b2 p.role.stage
  pub conn_c1 : out_put is_conn_c1 p + waits_for is_conn_c1 p.role ≡ since_open p.role.stage
  pub conn_b3 : in_put is_conn_b3 p ≤ since_open p.role.stage
  -- so each comes and goes once at most
  pub conn_a2_once : out_came is_conn_a2 p ≤ 1
  pub conn_b2_once : in_came is_conn_b2 p ≤ 1
  pub conn_c1_once : out_put is_conn_c1 p ≤ 1
  pub conn_b3_once : in_put is_conn_b3 p ≤ 1
  -- the server opens exactly until both came
  pub opening : phase_of p.role.stage ≡ phase.Opening
      → out_came is_conn_a2 p + in_came is_conn_b2 p ≤ 1
  pub opened : (phase_of p.role.stage ≡ phase.Opening → ⊥)
      → (out_came is_conn_a2 p ≡ 1) × (in_came is_conn_b2 p ≡ 1)
  pub early : out_came is_conn_a2 p + in_came is_conn_b2 p ≤ 1 → IsEarly p
