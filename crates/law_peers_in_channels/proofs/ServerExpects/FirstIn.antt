-- CONN/B1 is on the client's first IN channel alone
use Rattle.law_order.proofs.Vocabulary.{◌≡◌, ℕ, ◌≤◌, true, refl, arith, nat_tests}
use Rattle.law_moves.proofs.Vocabulary.{Cookie, Named, ConnB1, ConnB2, ClientIn, Passage, of_leg, count_of, HasOne}
use Rattle.law_role_client.proofs.Vocabulary.{ClientRole, ci, is_among, is_conn_b1, once_if, total, NamesIns}
use Rattle.law_role_server.proofs.Vocabulary.{is_conn_b2}
use Rattle.law_peers_in_channels.proofs.ServerExpects.Logs.{counted_some}

abbrev pub IsConnB2 : Named → Type 0
IsConnB2 (ConnB2 version connection channel window timeout group address padding) = Unit {0}
IsConnB2 packet = ⊥

abbrev pub IsConnB1 : Named → Type 0
IsConnB1 (ConnB1 version connection channel lifetime keepalive group) = Unit {0}
IsConnB1 packet = ⊥

pub passes_conn_b2 : (m : Named) → is_conn_b2 m ≡ true → IsConnB2 m
passes_conn_b2 (ConnB2 version connection channel window timeout group address padding) e = tt
passes_conn_b2 m e = absurd cc

conn_b1_counts : (m : Named) → IsConnB1 m → is_conn_b1 m ≡ true
conn_b1_counts (ConnB1 version connection channel lifetime keepalive group) h = refl
conn_b1_counts m h = absurd h

among_one : (n k count : ℕ) → count ≡ once_if (is_among 1 k n) → 1 ≤ count → k ≤ 1 → n ≡ 1
among_one n k count e some one = grind (arith, nat_tests, e, some, one)

pub conn_b1_first : (connection : Cookie) (client : Passage ClientRole) → NamesIns connection client
    → (n : ℕ) → HasOne IsConnB1 (of_leg (ci n) client.put) → n ≡ 1
conn_b1_first connection client law n has =
    among_one n (total is_conn_b1 ClientIn client.put)
    (count_of is_conn_b1 (of_leg (ci n) client.put)) (law.begins_on (ci n))
    (counted_some IsConnB1 is_conn_b1 conn_b1_counts (of_leg (ci n) client.put) has) law.once
