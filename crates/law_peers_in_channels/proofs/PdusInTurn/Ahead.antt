-- where an RPC PDU stands on an is leg, IN_R1/A6 came on the leg of each IN channel before
use Rattle.law_order.proofs.Vocabulary.{◌≡◌, ℕ, ◌+◌, ◌≤◌, Bool, List, refl, subst, arith}
use Rattle.rh_sig.specs.declared.named.Named.TheVariants as named
use Rattle.law_moves.proofs.Vocabulary.{Named, Message, Passage, of_leg, count_of}
use Rattle.law_role_inproxy.proofs.Vocabulary.{HasPdu, SendsWhereTold}
use Rattle.law_role_inproxy.specs.Putting.Puts.{is_leg}
use Rattle.law_role_inproxy.specs.Putting.Standing as at_proxy
use Rattle.law_role_server.proofs.Vocabulary.{Server}
use Rattle.law_role_server.specs.Counted.Counting as at_server
use Rattle.law_peers_moments.proofs.Joining.{is_back}
use Rattle.law_peers_moments.proofs.Read.{front_count}
use Rattle.law_peers_moments.specs.Moments.{AreJoined, AreMade, Moves, Numbers, in_behind, passages, server_behind}
use Rattle.law_role_server_in.specs.Refusing as in_rows
use Rattle.law_peers_expects.proofs.InProxyExpects.Fronts.{same_counts as as_many}
use Rattle.law_peers_in_channels.specs.PdusInTurn.Telling.{IsTold, TellsBehind}
use Rattle.law_peers_in_channels.specs.PdusInTurn.Turns.{ComeBehindHandovers}

-- ---- tests that are the same

pub same_conn_b3 : (m : Named) → at_proxy.is_conn_b3 m ≡ at_server.is_conn_b3 m
same_conn_b3 (named.ConnB3 window version) = refl
same_conn_b3 m = refl

pub same_in_r1_b2 : (m : Named) → at_proxy.is_in_r1_b2 m ≡ in_rows.is_in_r1_b2 m
same_in_r1_b2 (named.InR1B2 window) = refl
same_in_r1_b2 m = refl

module _ (numbers : Numbers) (reader : ℕ → ℕ) (moves : Moves) (made : AreMade numbers moves)
    (joined : AreJoined reader (passages numbers moves))
    (sends : (m : ℕ) → SendsWhereTold (numbers.ins m) (in_behind numbers moves m))
    (tells : TellsBehind moves.server (server_behind numbers moves).passage) where
  abbrev server : Passage Server
  server = (server_behind numbers moves).passage

  abbrev came : ℕ → List Message
  came m = of_leg (is_leg m) (in_behind numbers moves m).came

  abbrev put : ℕ → List Message
  put m = of_leg (is_leg m) server.put

  told : (m : ℕ) (pdu : List ℕ) → HasPdu pdu (of_leg (is_leg m) (in_behind numbers moves m).put)
      → 1 ≤ count_of at_proxy.is_conn_b3 (came m) + count_of at_proxy.is_in_r1_b2 (came m)
  told m pdu has =
      subst (λ (n : ℕ). HasPdu pdu (of_leg (is_leg n) (in_behind numbers moves m).put)
      → 1 ≤ count_of at_proxy.is_conn_b3 (of_leg (is_leg n) (in_behind numbers moves m).came)
      + count_of at_proxy.is_in_r1_b2 (of_leg (is_leg n) (in_behind numbers moves m).came))
      (made.in_number m) (sends m pdu) has

  -- what came there the server put
  was_put : (test : Named → Bool) (m : ℕ) → count_of test (came m) ≤ count_of test (put m)
  was_put test m =
      front_count test (came m) (put m)
      (is_back reader (passages numbers moves) joined m)

  is_told : (m : ℕ) (pdu : List ℕ)
      → HasPdu pdu (of_leg (is_leg m) (in_behind numbers moves m).put) → IsTold server m
  is_told m pdu has =
      let here = told m pdu has in
      let conn_b3 = was_put at_proxy.is_conn_b3 m in
      let in_r1_b2 = was_put at_proxy.is_in_r1_b2 m in
      let first = as_many at_proxy.is_conn_b3 at_server.is_conn_b3 same_conn_b3 (put m) in
      let later = as_many at_proxy.is_in_r1_b2 in_rows.is_in_r1_b2 same_in_r1_b2 (put m) in
      omega (arith, here, conn_b3, in_r1_b2, first, later)

  pub come_behind : ComeBehindHandovers numbers moves
  come_behind m pdu has channel leg less on =
      let low = on.least in
      tells.begun leg m (is_told m pdu has) (omega (arith, low, less)) on.began
