-- which RPC PDUs an in proxy puts that reads several IN channels on its ci legs (MS-RPCH 3.2.3;
-- successors are this profile's)
use Rattle.std.specs.Prelude.{ℕ, ◌≡◌, ◌≤◌, List, [], ◌∷◌, length}
use mathlib.Core.List.{IsPrefix}
use Rattle.rh_line.specs.declared.leg.LegKind.TheVariants.{InServer}
use Rattle.law_order.specs.Logs.{through}
use Rattle.law_moves.specs.Moves.{OnLeg, Passage}
use Rattle.rh_shell.specs.Rules.{Message, Text, Pdu, Packet}
use Rattle.law_moves.specs.Wires.{of_leg}
use Rattle.law_moves.specs.Passages.Passing.{count_of, of_kind}
use Rattle.law_moves.specs.PacketKinds.{is_in_r1_a5}
use Rattle.rh_inproxy.specs.State.{InProxy}
use Rattle.law_role_inproxy.specs.Putting.Puts.{ci, is_leg}

-- the RPC PDUs among messages
abbrev pub pdus_of : List Message → List (List ℕ)
pdus_of [] = []
pdus_of (Text bytes ∷ messages) = pdus_of messages
pdus_of (Pdu pdu ∷ messages) = pdu ∷ pdus_of messages
pdus_of (Packet packet ∷ messages) = pdus_of messages

-- those that came on the ci legs up to this one, in the order of the legs
abbrev pub pdus_up_to : ℕ → List OnLeg → List (List ℕ)
pdus_up_to k came = through (λ n. pdus_of (of_leg (ci n) came)) k

-- as long as no IN_R1/A5 came on ci leg k, those that were put on is legs are a front of these, so
-- no more of them stand on the leg of the proxy's number
pub record HoldsBack (number : ℕ) (p : Passage InProxy) : Type 0 where
  pub front : (k : ℕ) → number ≤ k → count_of is_in_r1_a5 (of_leg (ci k) p.came) ≡ 0
      → IsPrefix (pdus_of (of_kind InServer p.put)) (pdus_up_to k p.came)
  pub count : (k : ℕ) → number ≤ k → count_of is_in_r1_a5 (of_leg (ci k) p.came) ≡ 0
      → length (pdus_of (of_leg (is_leg number) p.put)) ≤ length (pdus_up_to k p.came)
