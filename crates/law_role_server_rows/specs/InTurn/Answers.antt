-- what a server puts on an is leg, in which order and for what (MS-RPCH 3.2.5; replacement is this
-- profile's)
use Rattle.std.specs.Prelude.{ℕ, ◌≡◌, ◌⊎◌, ◌≤◌, ◌+◌, List, [], ◌∷◌, Bool, true, false}
use Rattle.rh_rts.specs.declared.command.Cookie.{Cookie}
use Rattle.rh_sig.specs.declared.named.Named.{Named}
use Rattle.rh_sig.specs.declared.named.Named.TheVariants.{ConnB3, InR1B1, InR1B2, Ack}
use Rattle.rh_line.specs.declared.leg.LegKind.TheVariants.{InServer}
use Rattle.rh_shell.specs.Hearing.{greeting}
use Rattle.rh_shell.specs.Rules.{Message, Text, Packet}
use Rattle.rh_server.specs.States.{Server}
use Rattle.law_moves.specs.Moves.{OnLeg, Passage}
use Rattle.law_moves.specs.Wires.{of_leg}
use Rattle.law_moves.specs.Passages.Passing.{Has}
use Rattle.law_role_server.specs.Counted.Counting.{is_conn_b2, is_conn_b3, is_in_r1_a2, is_in_r1_a6, often_at}
use Rattle.law_role_server_rows.specs.Putting.Copying.{Begins, CameAt}
use Rattle.law_role_server_rows.specs.Putting.Greeting.{is}

abbrev pub is_in_r1_b1 : Named → Bool
is_in_r1_b1 InR1B1 = true
is_in_r1_b1 packet = false

abbrev pub is_in_r1_b2 : Named → Bool
is_in_r1_b2 (InR1B2 size) = true
is_in_r1_b2 packet = false

-- ---- on is leg n, by what came

-- such a packet came on it
abbrev pub Came : (Named → Bool) → ℕ → List OnLeg → Type 0
Came test n came = 1 ≤ often_at test InServer n came

-- CONN/B3 is for CONN/B2, on the first leg, and IN_R1/B2 for IN_R1/A2
abbrev pub TellsAt : ℕ → List OnLeg → Message → Type 0
TellsAt n came (Packet (ConnB3 size version)) = (n ≡ 1) × Came is_conn_b2 n came
TellsAt n came (Packet (InR1B2 size)) = Came is_in_r1_a2 n came
TellsAt n came message = ⊥

-- an acknowledgement has the cookie of a channel that began there
abbrev pub AcksAt : ℕ → List OnLeg → Message → Type 0
AcksAt n came (Packet (Ack received window cookie)) = CameAt InServer n (Begins cookie) came
AcksAt n came message = ⊥

-- IN_R1/B1 is for IN_R1/A6
abbrev pub LeavesAt : ℕ → List OnLeg → Message → Type 0
LeavesAt n came (Packet InR1B1) = Came is_in_r1_a6 n came
LeavesAt n came message = ⊥

-- acknowledgements, and IN_R1/B1 at most once and last
abbrev pub AcksOn : ℕ → List OnLeg → List Message → Type 0
AcksOn n came [] = Unit {0}
AcksOn n came (first ∷ rest) =
    (AcksAt n came first × AcksOn n came rest) ⊎ (LeavesAt n came first × (rest ≡ []))

-- behind CONN/B3 or IN_R1/B2
abbrev pub TellsOn : ℕ → List OnLeg → List Message → Type 0
TellsOn n came [] = Unit {0}
TellsOn n came (first ∷ rest) = TellsAt n came first × AcksOn n came rest

-- behind the greeting
abbrev pub AnswersOn : ℕ → List OnLeg → List Message → Type 0
AnswersOn n came [] = Unit {0}
AnswersOn n came (first ∷ rest) = (first ≡ Text greeting) × TellsOn n came rest

-- ---- the law

pub record AnswersInOrder (p : Passage Server) : Type 0 where
  pub order : (n : ℕ) → AnswersOn n p.came (of_leg (is n) p.put)
  -- so an acknowledgement has a cookie that came there
  pub acks : (n received window : ℕ) (cookie : Cookie)
      → Has (Ack received window cookie) (of_leg (is n) p.put)
      → CameAt InServer n (Begins cookie) p.came
  -- and by counts
  pub tells_once : (n : ℕ)
      → often_at is_conn_b3 InServer n p.put + often_at is_in_r1_b2 InServer n p.put ≤ 1
  pub conn_b3 : (n : ℕ)
      → often_at is_conn_b3 InServer n p.put ≤ often_at is_conn_b2 InServer n p.came
  pub in_r1_b2 : (n : ℕ)
      → often_at is_in_r1_b2 InServer n p.put ≤ often_at is_in_r1_a2 InServer n p.came
  pub leaves_once : (n : ℕ) → often_at is_in_r1_b1 InServer n p.put ≤ 1
  pub in_r1_b1 : (n : ℕ)
      → often_at is_in_r1_b1 InServer n p.put ≤ often_at is_in_r1_a6 InServer n p.came
