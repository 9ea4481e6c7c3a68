-- where a server's messages stand, by those that it put before
use Rattle.law_order.proofs.Vocabulary.{◌≡◌, List, [], ◌∷◌, ◌++◌, arith, refl, false≢true, AllByRecursion}
use Rattle.rh_sig.specs.declared.named.Named.TheVariants as named
use Rattle.law_moves.proofs.Vocabulary.{Message, Text, Pdu, Packet, OnLeg, count_of}
use Rattle.law_moves.proofs.Lemmas.{count_append}
use Rattle.law_role_server.proofs.Vocabulary.{is_out_r1_a9, MayGoBefore}
use Rattle.law_role_server_rows.specs.Putting.Puts.{Turn, behind, behind_all, Stands, StandFrom}

-- each message stands by the turn behind those before it
pub stands_in : (t : Turn) (before : List OnLeg) (one : OnLeg) (after : List OnLeg)
    → StandFrom t (before ++ one ∷ after) → Stands (behind_all t before) one
stands_in t [] one after h = h.0
stands_in t (first ∷ before) one after h = stands_in (behind t first.1) before one after h.1

-- what may go before CONN/C1 is no OUT_R1/A9
pub none_before : (ms : List Message) → AllByRecursion MayGoBefore ms
    → count_of is_out_r1_a9 ms ≡ 0
none_before [] all = refl
none_before (m ∷ ms) all =
    let rest = none_before ms all.1 in
    let one = by m all.0 in
    let first = count_append is_out_r1_a9 (m ∷ []) ms in
    omega (arith, rest, one, first)
  where
    by : (x : Message) → MayGoBefore x → count_of is_out_r1_a9 (x ∷ []) ≡ 0
    by (Text bytes) may = refl
    by (Pdu pdu) may = refl
    by (Packet named.OutR1A9) may = absurd (false≢true may)
    by (Packet packet) may = refl
