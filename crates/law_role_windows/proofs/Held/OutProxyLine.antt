-- an out proxy holds no more than its window
use Rattle.law_order.proofs.Vocabulary.{◌≡◌, ℕ, ◌+◌, List, [], ◌∷◌, length, ◌&&◌, ◌||◌, Some, None, sym, subst, rules, if◌then◌else◌, IfSome, nat_le, Option}
use Rattle.rh_line.specs.Histories.{Takes}
use Rattle.rh_outproxy.specs.declared.state.Answer.{Answer}
use Rattle.rh_outproxy.specs.OutProxy.{OutProxy, has_come, joined, is_server_first, is_due, is_ping_due, is_echo_put}
use Rattle.rh_outproxy.specs.Rows.{Done, is_co, is_os, unexpected, takes_pdus}
use Rattle.rh_outproxy.specs.Opening.{up, head, first_packet}
use Rattle.rh_outproxy.specs.Acknowledging.{admitted, on_pdu, ack_due}
use Rattle.rh_outproxy.specs.Ending.{drawn, mark}
use Rattle.rh_outproxy.specs.Putting.{Pick, ping_room, or_else, answer_by, put_answer, waiting_by, put_waiting, pdu_by, put_pdu, put_end, put_handover, put_mark, put_ping, next_co, first_by, put_first, ack_by, put_ack, next_os, put}
use Rattle.rh_outproxy.specs.Machine.{packet, pdu, on_co, on_os, rules as proxy_rules}
use Rattle.rh_outproxy.specs.declared.state.Answer.TheVariants as answers
use Rattle.law_moves.proofs.Vocabulary.{Ack, may_send, by_test, IsPdu, Cookie, Named, due, is_empty, Admits, Acknowledges, Leg, Current, Count, Due, Message}
use Rattle.law_role_windows.proofs.Held.Lines.{IsKept, call_kept, due_else}
use Rattle.law_role_windows.proofs.Held.Roles.{RulesKeep}

abbrev pub Kept : ℕ → OutProxy → Type 0
Kept window s = IsKept window s.line

-- the line stays
abbrev Same : OutProxy → OutProxy → Type 0
Same s t = t.line ≡ s.line

same_kept : (window : ℕ) (s t : OutProxy) → Same s t → Kept window s → Kept window t
same_kept window s t same k = subst (IsKept window) (sym same) k

-- ---- rows

same_co : (s : OutProxy) (count : Count) (named : Named) → Same s (on_co s count named).0
same_co s count named = search rules

same_os : (s : OutProxy) (named : Named) → Same s (on_os s named).0
same_os s named = search rules

same_head : (s : OutProxy) (leg : Leg) (text : List ℕ) → Same s (head s leg text).0
same_head s leg text = search rules

module _ (window : ℕ) where
  packet_kept : (s : OutProxy) (leg : Leg) (count : Count) (named : Named) → Kept window s
      → Kept window (packet s leg count named).0
  packet_kept s leg count named k =
      by_test (λ (d : Done). Kept window d.0) (is_co s leg) (on_co s count named)
      (if is_os s leg then on_os s named else unexpected s)
      (λ e. same_kept window s (on_co s count named).0 (same_co s count named) k)
      (λ e. by_test (λ (d : Done). Kept window d.0) (is_os s leg) (on_os s named) (unexpected s)
      (λ f. same_kept window s (on_os s named).0 (same_os s named) k) (λ f. k))

  pdu_kept : (s : OutProxy) (leg : Leg) (count : Count) (bytes : List ℕ) → IsPdu bytes
      → Kept window s → Kept window (pdu s leg count bytes).0
  pdu_kept s leg count bytes is k =
      by_test (λ (d : Done). Kept window d.0) (is_os s leg) (on_pdu s bytes) (unexpected s)
      (λ e. by_test (λ (d : Done). Kept window d.0) (takes_pdus s) (admitted s bytes) (unexpected s)
      (λ f. call_kept window s.line (Admits Current bytes) (tt, is) k) (λ f. k))
      (λ e. k)

  -- ---- what is put

  abbrev PickKept : Pick → Type 0
  PickKept pick = IfSome pick (λ (put : OutProxy × Message). Kept window put.0)

  or_kept : (a b : Pick) → PickKept a → PickKept b → PickKept (or_else a b)
  or_kept None b h k = k
  or_kept (Some pick) b h k = h

  answer_kept : (s : OutProxy) (answer : Answer) → Kept window s → PickKept (answer_by answer s)
  answer_kept s answers.Awaited k = tt
  answer_kept s answers.EchoDue k = k
  answer_kept s answers.EchoPut k = tt
  answer_kept s answers.EchoDrawn k = tt
  answer_kept s answers.ResponseDue k = k
  answer_kept s answers.TimeoutDue k = k
  answer_kept s answers.Put k = tt

  waiting_kept : (s : OutProxy) (dues : List Due) → Kept window s → PickKept (waiting_by s dues)
  waiting_kept s [] k = tt
  waiting_kept s (due ∷ dues) k = k

  -- the PDU that is put is released
  front_kept : (s : OutProxy) (pdus : List (List ℕ)) → Kept window s → PickKept (pdu_by s pdus)
  front_kept s [] k = tt
  front_kept s (pdu ∷ pdus) k =
      by_test PickKept (may_send s.window (length pdu)) _ None
      (λ e. call_kept window s.line Takes tt k) (λ e. tt)

  mark_kept : (s : OutProxy) → Kept window s → PickKept (put_mark s)
  mark_kept s k =
      or_kept (put_end s) (put_handover s)
      (by_test PickKept (is_empty s.line.current.pdus && is_due s.end) _ None (λ e. k) (λ e. tt))
      (by_test PickKept (is_empty s.line.current.pdus && is_due s.handover) _ None (λ e. k)
      (λ e. tt))

  ping_kept : (s : OutProxy) → Kept window s → PickKept (put_ping s)
  ping_kept s k =
      by_test PickKept (is_ping_due s.ping && nat_le (s.pinged + 20) ping_room) _ None (λ e. k)
      (λ e. tt)

  co_kept : (s : OutProxy) → Kept window s → PickKept (next_co s)
  co_kept s k =
      or_kept (put_answer s) _ (answer_kept s s.answer k)
      (or_kept (put_waiting s) _ (waiting_kept s s.waiting.due k)
      (or_kept (put_pdu s) _ (front_kept s s.line.current.pdus k)
      (or_kept (put_mark s) (put_ping s) (mark_kept s k) (ping_kept s k))))

  first_packet_kept : (s : OutProxy) (o : Option Named) → Kept window s → PickKept (first_by s o)
  first_packet_kept s None k = tt
  first_packet_kept s (Some packet) k = k

  ack_kept : (s : OutProxy) (cookie : Option Cookie) (o : Option Ack)
      → IfSome o (λ (ack : Ack). due s.line Current ≡ Some ack) → Kept window s
      → PickKept (ack_by s cookie o)
  ack_kept s None o is k = tt
  ack_kept s (Some cookie) None is k = tt
  ack_kept s (Some cookie) (Some ack) is k =
      call_kept window s.line (Acknowledges Current ack) (tt, is) k

  os_kept : (s : OutProxy) → Kept window s → PickKept (next_os s)
  os_kept s k =
      or_kept (put_first s) (put_ack s)
      (by_test PickKept (is_server_first s.server) (first_by s (first_packet s s.channel)) None
      (λ e. first_packet_kept s (first_packet s s.channel) k) (λ e. tt))
      (ack_kept s (joined s.channel) (ack_due s)
      (due_else (has_come s.end || has_come s.handover) (due s.line Current)) k)

  put_kept : (s : OutProxy) (leg : Leg) → Kept window s → PickKept (put s leg)
  put_kept s leg k =
      by_test PickKept (is_co s leg) (next_co s) (if is_os s leg then next_os s else None)
      (λ e. co_kept s k)
      (λ e. by_test PickKept (is_os s leg) (next_os s) None (λ f. os_kept s k) (λ f. tt))

  -- ---- the role

  up_kept : (s : OutProxy) (leg : Leg) (cookie : Cookie) → Kept window s
      → Kept window (up s leg cookie)
  up_kept s leg cookie k =
      by_test (λ (t : OutProxy). Kept window t) (is_co s leg) _ _ (λ e. k) (λ e. k)

  drawn_kept : (s : OutProxy) (leg : Leg) → Kept window s → Kept window (drawn s leg)
  drawn_kept s leg k = by_test (λ (t : OutProxy). Kept window t)
      (is_co s leg && is_echo_put s.answer) _ s (λ e. k) (λ e. k)

  lost_kept : (s : OutProxy) (leg : Leg) → Kept window s → Kept window (mark s leg)
  lost_kept s leg k =
      by_test (λ (t : OutProxy). Kept window t) (is_co s leg) _ _ (λ e. k) (λ e. k)

  pub out_proxy_keeps : RulesKeep proxy_rules (Kept window)
  out_proxy_keeps = record {
    up = up_kept;
    head = λ s leg text. same_kept window s (head s leg text).0 (same_head s leg text);
    pdu = pdu_kept;
    packet = packet_kept;
    put = put_kept;
    drawn = drawn_kept;
    mark = lost_kept;
    ping = λ s leg k. k;
  }
