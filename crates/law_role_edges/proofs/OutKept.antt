-- what an out proxy puts leaves the edge up to which it sends as it is
use Rattle.law_order.proofs.Vocabulary.{◌≡◌, ℕ, List, Some, None, rules, if◌then◌else◌, IfSome, Option}
use Rattle.law_moves.proofs.Vocabulary.{by_test, Cookie, Leg, Due, Message, Ack}
use Rattle.law_role_outproxy.proofs.Vocabulary.{Answer, Channel, OutProxy, is_server_first, joined, is_co, is_os, first_packet, ack_due, Pick, or_else, answer_by, put_answer, waiting_by, put_waiting, pdu_by, put_pdu, put_end, put_handover, put_mark, put_ping, next_co, first_by, put_first, ack_by, put_ack, next_os, put as put_of}

-- a put leaves the edge as it is
abbrev pub IsEdgeKept : OutProxy → Pick → Type 0
IsEdgeKept s pick =
    IfSome pick (λ (one : OutProxy × Message).
    (one.0.config ≡ s.config) × (one.0.channel ≡ s.channel)
    × (one.0.window.edge ≡ s.window.edge))

module _ (s : OutProxy) where
  or_kept : (a b : Pick) → IsEdgeKept s a → IsEdgeKept s b → IsEdgeKept s (or_else a b)
  or_kept None b h k = k
  or_kept (Some one) b h k = h

  answer_kept : (a : Answer) → IsEdgeKept s (answer_by a s)
  answer_kept a = search rules

  waiting_kept : (dues : List Due) → IsEdgeKept s (waiting_by s dues)
  waiting_kept dues = search rules

  front_kept : (pdus : List (List ℕ)) → IsEdgeKept s (pdu_by s pdus)
  front_kept pdus = search rules

  end_kept : IsEdgeKept s (put_end s)
  end_kept = search rules

  handover_kept : IsEdgeKept s (put_handover s)
  handover_kept = search rules

  ping_kept : IsEdgeKept s (put_ping s)
  ping_kept = search rules

  first_kept : (c : Channel) → IsEdgeKept s (first_by s (first_packet s c))
  first_kept c = search rules

  ack_kept : (o : Option Cookie) (a : Option Ack) → IsEdgeKept s (ack_by s o a)
  ack_kept o a = search rules

  co_kept : IsEdgeKept s (next_co s)
  co_kept =
      or_kept (put_answer s) _ (answer_kept s.answer)
      (or_kept (put_waiting s) _ (waiting_kept s.waiting.due)
      (or_kept (put_pdu s) _ (front_kept s.line.current.pdus)
      (or_kept (put_mark s) (put_ping s)
      (or_kept (put_end s) (put_handover s) end_kept handover_kept) ping_kept)))

  os_kept : IsEdgeKept s (next_os s)
  os_kept =
      or_kept (put_first s) (put_ack s)
      (by_test (IsEdgeKept s) (is_server_first s.server)
      (first_by s (first_packet s s.channel)) None (λ e. first_kept s.channel) (λ e. tt))
      (ack_kept (joined s.channel) (ack_due s))

  pub put_kept : (leg : Leg) → IsEdgeKept s (put_of s leg)
  put_kept leg =
      by_test (IsEdgeKept s) (is_co s leg) (next_co s)
      (if is_os s leg then next_os s else None) (λ e. co_kept)
      (λ e. by_test (IsEdgeKept s) (is_os s leg) (next_os s) None (λ f. os_kept) (λ f. tt))
