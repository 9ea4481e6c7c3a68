-- which steps of an out proxy leave its client's leg alone, and what waits for it
use Rattle.law_order.proofs.Vocabulary.{◌≡◌, ℕ, List, Some, None, rules, IfSome, Option}
use Rattle.rh_outproxy.specs.declared.state.ClientLeg.{ClientLeg}
use Rattle.law_moves.proofs.Vocabulary.{by_test, Cookie, Named, Leg, Count, Message, Waiting, Ack}
use Rattle.law_role_outproxy.proofs.Vocabulary.{Answer, Channel, OutProxy, is_server_first, joined, head, first_packet, on_ack, ack_due, on_out_r1_a9, drawn, on_end_b1, Pick, or_else, answer_by, pdu_by, put_end, put_handover, put_ping, first_by, put_first, ack_by, put_ack, next_os, pdu, ping, on_co}

pub record Seen : Type 0 where
  pub client : ClientLeg
  pub waiting : Waiting

abbrev pub seen : OutProxy → Seen
seen s = record { client = s.client; waiting = s.waiting }

abbrev pub Same : OutProxy → OutProxy → Type 0
Same s t = seen t ≡ seen s

pub same_head : (s : OutProxy) (leg : Leg) (text : List ℕ) → Same s (head s leg text).0
same_head s leg text = search rules

pub same_pdu : (s : OutProxy) (leg : Leg) (count : Count) (bytes : List ℕ)
    → Same s (pdu s leg count bytes).0
same_pdu s leg count bytes = search rules

pub same_co : (s : OutProxy) (count : Count) (m : Named) → Same s (on_co s count m).0
same_co s count m = search rules

pub same_on_ack : (s : OutProxy) (received available : ℕ) (channel : Cookie)
    → Same s (on_ack s received available channel).0
same_on_ack s received available channel = search rules

pub same_a9 : (s : OutProxy) → Same s (on_out_r1_a9 s).0
same_a9 s = search rules

pub same_end : (s : OutProxy) → Same s (on_end_b1 s).0
same_end s = search rules

pub same_drawn : (s : OutProxy) (leg : Leg) → Same s (drawn s leg)
same_drawn s leg = search rules

pub same_ping : (s : OutProxy) (leg : Leg) → Same s (ping s leg)
same_ping s leg = search rules

-- ---- what is put

abbrev pub IsQuiet : OutProxy → Pick → Type 0
IsQuiet s pick = IfSome pick (λ (one : OutProxy × Message). Same s one.0)

module _ (s : OutProxy) where
  or_quiet : (a b : Pick) → IsQuiet s a → IsQuiet s b → IsQuiet s (or_else a b)
  or_quiet None b h k = k
  or_quiet (Some one) b h k = h

  pub quiet_answer : (a : Answer) → IsQuiet s (answer_by a s)
  quiet_answer a = search rules

  pub quiet_front : (pdus : List (List ℕ)) → IsQuiet s (pdu_by s pdus)
  quiet_front pdus = search rules

  pub quiet_end : IsQuiet s (put_end s)
  quiet_end = search rules

  pub quiet_handover : IsQuiet s (put_handover s)
  quiet_handover = search rules

  pub quiet_ping : IsQuiet s (put_ping s)
  quiet_ping = search rules

  quiet_first : (c : Channel) → IsQuiet s (first_by s (first_packet s c))
  quiet_first c = search rules

  quiet_ack : (o : Option Cookie) (a : Option Ack) → IsQuiet s (ack_by s o a)
  quiet_ack o a = search rules

  pub quiet_os : IsQuiet s (next_os s)
  quiet_os =
      or_quiet (put_first s) (put_ack s)
      (by_test (IsQuiet s) (is_server_first s.server) (first_by s (first_packet s s.channel)) None
      (λ e. quiet_first s.channel) (λ e. tt))
      (quiet_ack (joined s.channel) (ack_due s))
