-- the packets that an out proxy passes on, by the tests with which each role counts them
use Rattle.law_order.proofs.Vocabulary.{◌≡◌, ℕ, ◌≤◌, Bool, List, refl}
use Rattle.rh_sig.specs.declared.named.Named.TheVariants as named
use Rattle.law_moves.proofs.Vocabulary.{Named, Message, Passage, of_leg, count_of}
use Rattle.law_moves.specs.PacketKinds as at_proxy
use Rattle.law_role_client.specs.Counted.Counting as at_client
use Rattle.law_role_server.specs.Counted.Counting as at_server
use Rattle.law_role_outproxy.proofs.Vocabulary.{OutProxy, ForwardsWhatCame, co_leg, os_leg}
use Rattle.law_peers_moments.proofs.GoingRound.Rounding.{agrees, finishes, grants, hands_over, once, r1_answers, r2_answers, same_counts, wants, wishes}

-- a packet that the server puts for an OUT channel is another that comes to the client, of which
-- the out proxy puts no more than came for it
pub record Forwarding (before behind : Named → Bool) : Type 0 where
  pub came : Named → Bool
  pub put : Named → Bool
  pub first : (ms : List Message) → count_of came ms ≡ count_of before ms
  pub last : (ms : List Message) → count_of put ms ≡ count_of behind ms
  pub passes : (n : ℕ) (p : Passage OutProxy) → ForwardsWhatCame n p
      → count_of put (of_leg (co_leg n) p.put) ≤ count_of came (of_leg (os_leg n) p.came)

pub connects : (packet : Named) → once (at_proxy.is_conn_c2 packet)
    ≡ once (at_client.is_conn_c2 packet)
connects (named.ConnC2 version window timeout) = refl
connects packet = refl

pub is_connected : (packet : Named) → once (at_proxy.is_conn_c1 packet)
    ≡ once (at_server.is_conn_c1 packet)
is_connected (named.ConnC1 version window timeout) = refl
is_connected packet = refl

abbrev pub connection : Forwarding at_server.is_conn_c1 at_client.is_conn_c2
connection = record {
  came = at_proxy.is_conn_c1;
  put = at_proxy.is_conn_c2;
  first = same_counts at_proxy.is_conn_c1 at_server.is_conn_c1 is_connected;
  last = same_counts at_proxy.is_conn_c2 at_client.is_conn_c2 connects;
  passes = λ n p f. f.connection;
}

abbrev pub in_r1 : Forwarding at_server.is_in_r1_a3 at_proxy.is_in_r1_a4
in_r1 = record {
  came = at_proxy.is_in_r1_a3;
  put = at_proxy.is_in_r1_a4;
  first = same_counts at_proxy.is_in_r1_a3 at_server.is_in_r1_a3 r1_answers;
  last = λ ms. refl;
  passes = λ n p f. f.in_r1;
}

abbrev pub in_r2 : Forwarding at_server.is_in_r2_a3 at_proxy.is_in_r2_a4
in_r2 = record {
  came = at_proxy.is_in_r2_a3;
  put = at_proxy.is_in_r2_a4;
  first = same_counts at_proxy.is_in_r2_a3 at_server.is_in_r2_a3 r2_answers;
  last = λ ms. refl;
  passes = λ n p f. f.in_r2;
}

abbrev pub wish : Forwarding at_server.is_out_r1_a1 at_client.is_out_r1_a2
wish = record {
  came = at_proxy.is_out_r1_a1;
  put = at_proxy.is_out_r1_a2;
  first = same_counts at_proxy.is_out_r1_a1 at_server.is_out_r1_a1 wants;
  last = same_counts at_proxy.is_out_r1_a2 at_client.is_out_r1_a2 wishes;
  passes = λ n p f. f.wishes;
}

abbrev pub answer : Forwarding at_server.is_out_r1_a5 at_client.is_out_r1_a6
answer = record {
  came = at_proxy.is_out_r1_a5;
  put = at_proxy.is_out_r1_a6;
  first = same_counts at_proxy.is_out_r1_a5 at_server.is_out_r1_a5 grants;
  last = same_counts at_proxy.is_out_r1_a6 at_client.is_out_r1_a6 agrees;
  passes = λ n p f. f.answers;
}

abbrev pub handover : Forwarding at_server.is_out_r1_a9 at_client.is_out_r1_a10
handover = record {
  came = at_proxy.is_out_r1_a9;
  put = at_proxy.is_out_r1_a10;
  first = same_counts at_proxy.is_out_r1_a9 at_server.is_out_r1_a9 hands_over;
  last = same_counts at_proxy.is_out_r1_a10 at_client.is_out_r1_a10 finishes;
  passes = λ n p f. f.handover;
}
