-- an out proxy of which no head asks for an echo puts no answer to one
use Rattle.law_order.proofs.Vocabulary.{◌≡◌, ℕ, ◌+◌, ◌&&◌, Bool, true, false, true≢false, if◌then◌else◌, List, [], ◌∷◌, length, Some, None, Ok, Err, refl, sym, ap, ◌∙◌, subst, and_parts, AllByRecursion, nat_le, IfSome, Option, Result}
use Rattle.rh_outproxy.specs.declared.state.Answer.TheVariants as answers
use Rattle.rh_outproxy.specs.declared.state.Channel.TheVariants as channels
use Rattle.law_moves.proofs.Vocabulary.{may_send, Ack, by_test, Cookie, Named, HttpFault, greatest_echo, response_text, Asked, request_verdict, Leg, is_empty, HeadRefused, HeadTaken, Due, is_whole_head, Message, Pdu, Packet, same_leg, OnLeg, Move, Up, HeadCame, PduCame, PacketCame, Puts, IsDrawn, Marks, Pings, Passage, started, moved, all_moved, taken_by, put_by, IsWholeText, Stages, none_up, stages_after, IsInTurn, AreInTurn, AreInTurnFrom}
use Rattle.law_moves.proofs.Lemmas.{all_append, itself}
use Rattle.law_role_outproxy.proofs.Vocabulary.{Answer, Channel, OutProxyConfig, OutProxy, is_due, is_echo_put, is_ping_due, is_server_first, joined, new_proxy, Done, is_co, is_os, up, head_by, first_packet, ack_due, drawn, Pick, ping_room, or_else, answer_by, behind_response, put_answer, waiting_by, put_waiting, pdu_by, put_pdu, put_end, put_handover, put_mark, put_ping, next_co, first_by, put_first, ack_by, put_ack, next_os, put as put_of, pdu, packet, rules as proxy_rules}
use Rattle.law_role_outproxy.proofs.Vocabulary.{co_leg}
use Rattle.law_peers_expects.proofs.Asked.EchoTexts.{IsNoEcho, other_message}
use Rattle.law_peers_expects.proofs.Asked.Standing.{Seen, seen, same_pdu, same_packet, same_mark, Stands, starts, move_stands}
use Rattle.law_peers_expects.specs.Asked.Asking.{AsksNoEcho}

abbrev is_echo : Answer → Bool
is_echo answers.EchoDue = true
is_echo answers.EchoPut = true
is_echo answers.EchoDrawn = true
is_echo answer = false

no_put : (a : Answer) → is_echo a ≡ false → is_echo_put a ≡ true → ⊥
no_put answers.Awaited e f = absurd cc
no_put answers.EchoDue e f = absurd cc
no_put answers.EchoPut e f = absurd cc
no_put answers.EchoDrawn e f = absurd cc
no_put answers.ResponseDue e f = absurd cc
no_put answers.TimeoutDue e f = absurd cc
no_put answers.Put e f = absurd cc

abbrev pub NoEchoes : List OnLeg → Type 0
NoEchoes put = AllByRecursion (λ (one : OnLeg). IsNoEcho one.1) put

record Serves (s : OutProxy) (put : List OnLeg) : Type 0 where
  answer : is_echo s.answer ≡ false
  none : NoEchoes put

-- ---- what is put

-- no packet is the answer, nor an RPC PDU
no_packet : (m : Named) → IsNoEcho (Packet m)
no_packet m e = absurd cc

no_pdu : (bytes : List ℕ) → IsNoEcho (Pdu bytes)
no_pdu bytes e = absurd cc

abbrev Fine : Pick → Type 0
Fine pick =
    IfSome pick (λ (one : OutProxy × Message).
    (is_echo one.0.answer ≡ false) × IsNoEcho one.1)

or_fine : (a b : Pick) → Fine a → Fine b → Fine (or_else a b)
or_fine None b g k = k
or_fine (Some pick) b g k = g

behind_fine : (c : Channel) → is_echo (behind_response c) ≡ false
behind_fine channels.Unknown = refl
behind_fine (channels.New connection cookie) = refl
behind_fine (channels.Joined connection cookie) = refl
behind_fine (channels.Successor connection predecessor cookie) = refl

module _ (whole : (n : ℕ) → IsWholeText is_whole_head (response_text n)) (s : OutProxy)
    (fine : is_echo s.answer ≡ false) where
  answer_fine : (a : Answer) → is_echo a ≡ false → Fine (answer_by a s)
  answer_fine answers.Awaited e = tt
  answer_fine answers.EchoDue e = absurd cc
  answer_fine answers.EchoPut e = tt
  answer_fine answers.EchoDrawn e = tt
  answer_fine answers.ResponseDue e =
      (behind_fine s.channel, other_message whole (s.config.lifetime + ping_room))
  answer_fine answers.TimeoutDue e = (refl, no_packet _)
  answer_fine answers.Put e = tt

  waiting_fine : (dues : List Due) → Fine (waiting_by s dues)
  waiting_fine [] = tt
  waiting_fine (due ∷ dues) = (fine, no_packet due.packet)

  pdu_fine : (pdus : List (List ℕ)) → Fine (pdu_by s pdus)
  pdu_fine [] = tt
  pdu_fine (bytes ∷ pdus) =
      by_test Fine (may_send s.window (length bytes)) _ None (λ e. (fine, no_pdu bytes)) (λ e. tt)

  end_fine : Fine (put_end s)
  end_fine =
      by_test Fine (is_empty s.line.current.pdus && is_due s.end) _ None
      (λ e. (fine, no_packet _)) (λ e. tt)

  handover_fine : Fine (put_handover s)
  handover_fine =
      by_test Fine (is_empty s.line.current.pdus && is_due s.handover) _ None
      (λ e. (fine, no_packet _)) (λ e. tt)

  ping_fine : Fine (put_ping s)
  ping_fine =
      by_test Fine (is_ping_due s.ping && nat_le (s.pinged + 20) ping_room) _ None
      (λ e. (fine, no_packet _)) (λ e. tt)

  first_fine : (o : Option Named) → Fine (first_by s o)
  first_fine None = tt
  first_fine (Some m) = (fine, no_packet m)

  ack_fine : (o : Option Cookie) (a : Option Ack) → Fine (ack_by s o a)
  ack_fine None a = tt
  ack_fine (Some cookie) None = tt
  ack_fine (Some cookie) (Some ack) = (fine, no_packet _)

  co_fine : Fine (next_co s)
  co_fine =
      or_fine (put_answer s) _ (answer_fine s.answer fine)
      (or_fine (put_waiting s) _ (waiting_fine s.waiting.due)
      (or_fine (put_pdu s) _ (pdu_fine s.line.current.pdus)
      (or_fine (put_mark s) (put_ping s)
      (or_fine (put_end s) (put_handover s) end_fine handover_fine) ping_fine)))

  os_fine : Fine (next_os s)
  os_fine =
      or_fine (put_first s) (put_ack s)
      (by_test Fine (is_server_first s.server) (first_by s (first_packet s s.channel)) None
      (λ e. first_fine (first_packet s s.channel)) (λ e. tt))
      (ack_fine (joined s.channel) (ack_due s))

  put_fine : (leg : Leg) → Fine (put_of s leg)
  put_fine leg =
      by_test Fine (is_co s leg) (next_co s) (if is_os s leg then next_os s else None)
      (λ e. co_fine)
      (λ e. by_test Fine (is_os s leg) (next_os s) None (λ f. os_fine) (λ f. tt))

-- ---- each move

up_fine : (s : OutProxy) (leg : Leg) (cookie : Cookie) → is_echo s.answer ≡ false
    → is_echo (up s leg cookie).answer ≡ false
up_fine s leg cookie fine =
    by_test (λ (t : OutProxy). is_echo t.answer ≡ false) (is_co s leg) _ _ (λ e. fine) (λ e. refl)

head_fine : (s : OutProxy) (verdict : Result Asked HttpFault)
    → ((asked : Asked) → verdict ≡ Ok asked → nat_le asked.length greatest_echo ≡ false)
    → is_echo s.answer ≡ false → is_echo (head_by s verdict).0.answer ≡ false
head_fine s (Err fault) asks fine = fine
head_fine s (Ok request) asks fine =
    by_test (λ (r : OutProxy × Result HeadTaken HeadRefused). is_echo r.0.answer ≡ false)
    (nat_le request.length greatest_echo) _ _
    (λ e. absurd (true≢false (sym e ∙ asks request refl))) (λ e. fine)

drawn_fine : (s : OutProxy) (leg : Leg) → is_echo s.answer ≡ false
    → is_echo (drawn s leg).answer ≡ false
drawn_fine s leg fine =
    by_test (λ (t : OutProxy). is_echo t.answer ≡ false) (is_co s leg && is_echo_put s.answer) _ s
    (λ e. absurd (no_put s.answer fine (and_parts (is_co s leg) (is_echo_put s.answer) e).1))
    (λ e. fine)

row_serves : (p : Passage OutProxy) (leg : Leg) (m : Message) (x : Done)
    → seen x.0 ≡ seen p.role → Serves p.role p.put
    → Serves (taken_by p leg m x).role (taken_by p leg m x).put
row_serves p leg m (t, Ok taken) same h = record {
  answer = ap (λ (k : Seen). is_echo k.answer) same ∙ h.answer;
  none = h.none;
}
row_serves p leg m (t, Err why) same h = record {
  answer = ap (λ (k : Seen). is_echo k.answer) same ∙ h.answer;
  none = h.none;
}

put_serves : (p : Passage OutProxy) (leg : Leg) (pick : Pick) → Fine pick → Serves p.role p.put
    → Serves (put_by p leg pick).role (put_by p leg pick).put
put_serves p leg None fine h = h
put_serves p leg (Some one) fine h = record {
  answer = fine.0;
  none = all_append (λ (x : OnLeg). IsNoEcho x.1) p.put ((leg, one.1) ∷ []) h.none (fine.1, tt);
}

module _ (whole : (n : ℕ) → IsWholeText is_whole_head (response_text n)) (config : OutProxyConfig)
  where
    abbrev co : Leg
    co = co_leg config.number

    move_serves : (g : Stages) (p : Passage OutProxy) (move : Move)
        → IsInTurn proxy_rules p.role g move → AsksNoEcho co move → Stands config g p.role
        → Serves p.role p.put
        → Serves (moved proxy_rules p move).role (moved proxy_rules p move).put
    move_serves g p (Up leg cookie) turn asks stands h = record {
      answer = up_fine p.role leg cookie h.answer;
      none = h.none;
    }
    move_serves g p (HeadCame leg text) turn asks stands h = record {
      answer = head_fine p.role (request_verdict false text)
          (asks (subst (λ (l : Leg). same_leg l co ≡ true) (sym (stands.heads leg turn))
          (itself co))) h.answer;
      none = h.none;
    }
    move_serves g p (PduCame leg count bytes) turn asks stands h =
        row_serves p leg (Pdu bytes) (pdu p.role leg count bytes)
        (same_pdu p.role leg count bytes) h
    move_serves g p (PacketCame leg count m) turn asks stands h =
        row_serves p leg (Packet m) (packet p.role leg count m) (same_packet p.role leg count m) h
    move_serves g p (Puts leg) turn asks stands h =
        put_serves p leg (put_of p.role leg) (put_fine whole p.role h.answer leg) h
    move_serves g p (IsDrawn leg) turn asks stands h = record {
      answer = drawn_fine p.role leg h.answer;
      none = h.none;
    }
    move_serves g p (Marks leg) turn asks stands h = record {
      answer = ap (λ (k : Seen). is_echo k.answer) (same_mark p.role leg) ∙ h.answer;
      none = h.none;
    }
    move_serves g p (Pings leg) turn asks stands h = record { answer = h.answer; none = h.none }

    all_serve : (g : Stages) (p : Passage OutProxy) (moves : List Move)
        → AreInTurnFrom proxy_rules p g moves → AllByRecursion (AsksNoEcho co) moves
        → Stands config g p.role → Serves p.role p.put
        → NoEchoes (all_moved proxy_rules p moves).put
    all_serve g p [] turn asks stands h = h.none
    all_serve g p (move ∷ moves) turn asks stands h =
        all_serve (stages_after proxy_rules p.role g move) (moved proxy_rules p move) moves turn.1
        asks.1 (move_stands config g p move stands) (move_serves g p move turn.0 asks.0 stands h)

    pub puts_no_echo : (moves : List Move) → AreInTurn proxy_rules (new_proxy config) moves
        → AllByRecursion (AsksNoEcho co) moves
        → NoEchoes (all_moved proxy_rules (started (new_proxy config)) moves).put
    puts_no_echo moves turn asks =
        all_serve none_up (started (new_proxy config)) moves turn asks (starts config)
        (record { answer = refl; none = tt })
