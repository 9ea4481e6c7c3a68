-- an out proxy that did not lose its leg to the server is over behind OUT_R1/A10
use Rattle.law_order.proofs.Vocabulary.{◌≡◌, ◌&&◌, ◌||◌, ◌∙◌, ℕ, Bool, true, false, true≢false, not, List, [], ◌∷◌, Some, None, Ok, Err, nat_le, refl, rules, sym, ap, subst, and_parts, AllByRecursion, if◌then◌else◌, IfSome, Option, Result, has_handover}
use Rattle.rh_sig.specs.declared.named.Named.TheVariants as named
use Rattle.rh_shell.specs.declared.answers.Phase.TheVariants as phases
use Rattle.rh_outproxy.specs.declared.state.Answer.TheVariants as answers
use Rattle.rh_outproxy.specs.declared.state.Channel.TheVariants as channels
use Rattle.rh_outproxy.specs.declared.state.ServerLeg.TheVariants as servers
use Rattle.rh_outproxy.specs.declared.state.ClientLeg.TheVariants as clients
use Rattle.law_moves.proofs.Vocabulary.{by_test, Cookie, Named, HttpFault, greatest_echo, Asked, request_verdict, Leg, Count, HeadRefused, Due, HeadTaken, is_ended, Message, Pdu, Packet, Rules, AreAllowed, MayMove, Move, Up, HeadCame, PduCame, PacketCame, Puts, IsDrawn, Marks, Pings, Passage, started, moved, all_moved, is_at_work}
use Rattle.law_role_outproxy.proofs.Vocabulary.{Answer, Channel, OutProxyConfig, ServerLeg, OutProxy, is_echo_drawn, is_echo_put, is_over, is_put, is_server_down, is_server_first, is_server_marked, new_proxy, Done, is_co, is_os, passed_on, unexpected, up, on_ack_to, on_conn_c1, on_end_b1, on_out_r1_a9, pdu_by, waiting_by, head_by, first_packet, drawn, mark, Pick, or_else, answer_by, behind_response, put_answer, put_end, put_handover, put_waiting, put_pdu, put_mark, put_ping, next_co, first_by, put_first, put_ack, next_os, put as put_of, on_co, on_os, pdu, packet, ping, rules as proxy_rules}
use Rattle.law_role_outproxy.proofs.Vocabulary.{KeepsOrder, came_log, put_items}
use Rattle.law_node_ends.specs.Passed.{AsksNoEcho, HeadsAre}
use Rattle.law_node_marks.specs.Losing.{marking}
use Rattle.law_role_marks.specs.Marks.{marks_client}
use Rattle.law_node_marks.proofs.ByMoves.{all_moved_same, are_allowed, put_keeps, row_keeps}

-- what the fact is about
pub record Seen : Type 0 where
  pub number : ℕ
  pub answer : Answer
  pub server : ServerLeg

abbrev pub seen : OutProxy → Seen
seen s = record { number = s.config.number; answer = s.answer; server = s.server }

abbrev Same : OutProxy → OutProxy → Type 0
Same s t = seen t ≡ seen s

-- no answer to an echo request is due, was put or was drawn
abbrev pub is_echo : Answer → Bool
is_echo answers.EchoDue = true
is_echo answers.EchoPut = true
is_echo answers.EchoDrawn = true
is_echo answer = false

-- if this is asked for; nor is the leg to the server lost, if that is
pub record SeenFine (A B : Type 0) (n : ℕ) (x : Seen) : Type 0 where
  pub made : x.number ≡ n
  pub answer : A → is_echo x.answer ≡ false
  pub server : B → is_server_marked x.server ≡ false

abbrev kept_rules : Rules OutProxy
kept_rules = marking proxy_rules marks_client

module _ (A B : Type 0) (n : ℕ) where
  abbrev pub Fine : OutProxy → Type 0
  Fine s = SeenFine A B n (seen s)

  same_fine : (s t : OutProxy) → Same s t → Fine s → Fine t
  same_fine s t same h = subst (SeenFine A B n) (sym same) h

  -- ---- what comes

  pub up_fine : (s : OutProxy) (leg : Leg) (cookie : Cookie) → Fine s → Fine (up s leg cookie)
  up_fine s leg cookie h =
      by_test Fine (is_co s leg) _ _
      (λ t. record { made = h.made; answer = h.answer; server = h.server })
      (λ t. record { made = h.made; answer = λ a. refl; server = λ b. refl })

  head_fine : (s : OutProxy) (verdict : Result Asked HttpFault)
      → (A → (request : Asked) → verdict ≡ Ok request
      → nat_le request.length greatest_echo ≡ false)
      → Fine s → Fine (head_by s verdict).0
  head_fine s (Err fault) none h = h
  head_fine s (Ok request) none h =
      by_test (λ (x : OutProxy × Result HeadTaken HeadRefused). Fine x.0)
      (nat_le request.length greatest_echo) _ _
      (λ t. record {
        made = h.made;
        answer = λ a. absurd (true≢false (sym t ∙ none a request refl));
        server = h.server;
      })
      (λ t. record { made = h.made; answer = h.answer; server = h.server })

  same_pdu : (s : OutProxy) (leg : Leg) (count : Count) (bytes : List ℕ)
      → Same s (pdu s leg count bytes).0
  same_pdu s leg count bytes = search rules

  same_co : (s : OutProxy) (count : Count) (named : Named) → Same s (on_co s count named).0
  same_co s count named = search rules

  same_passed_on : (s : OutProxy) (to : ℕ) (named : Named) → Same s (passed_on s to named).0
  same_passed_on s to named = search rules

  same_conn_c1 : (s : OutProxy) (version size timeout : ℕ)
      → Same s (on_conn_c1 s version size timeout).0
  same_conn_c1 s version size timeout = search rules

  same_ack_to : (s : OutProxy) (to received available : ℕ) (channel : Cookie)
      → Same s (on_ack_to s to received available channel).0
  same_ack_to s to received available channel = search rules

  same_a9 : (s : OutProxy) → Same s (on_out_r1_a9 s).0
  same_a9 s = search rules

  same_b1 : (s : OutProxy) → Same s (on_end_b1 s).0
  same_b1 s = search rules

  same_os : (s : OutProxy) (m : Named) → Same s (on_os s m).0
  same_os s (named.ConnC1 version size timeout) = same_conn_c1 s version size timeout
  same_os s (named.AckTo to received available channel) =
      same_ack_to s to received available channel
  same_os s (named.InR1A3 to version size timeout) =
      same_passed_on s to (named.InR1A4 0 version size timeout)
  same_os s (named.InR2A3 to) = same_passed_on s to (named.InR2A4 0)
  same_os s (named.OutR1A1 to) = same_passed_on s to (named.OutR1A2 0)
  same_os s (named.OutR1A5 to version timeout) =
      same_passed_on s to (named.OutR1A6 0 version timeout)
  same_os s named.OutR1A9 = same_a9 s
  same_os s named.EndB1 = same_b1 s
  same_os s m = refl

  packet_fine : (s : OutProxy) (leg : Leg) (count : Count) (m : Named) → Fine s
      → Fine (packet s leg count m).0
  packet_fine s leg count m h =
      by_test (λ (x : Done). Fine x.0) (is_co s leg) (on_co s count m)
      (if is_os s leg then on_os s m else unexpected s)
      (λ t. same_fine s (on_co s count m).0 (same_co s count m) h)
      (λ t. by_test (λ (x : Done). Fine x.0) (is_os s leg) (on_os s m) (unexpected s)
      (λ u. same_fine s (on_os s m).0 (same_os s m) h) (λ u. h))

  -- ---- what is put

  abbrev PutFine : Pick → Type 0
  PutFine pick = IfSome pick (λ (one : OutProxy × Message). Fine one.0)

  abbrev PutSame : OutProxy → Pick → Type 0
  PutSame s pick = IfSome pick (λ (one : OutProxy × Message). Same s one.0)

  put_fine : (s : OutProxy) (pick : Pick) → PutSame s pick → Fine s → PutFine pick
  put_fine s None same h = tt
  put_fine s (Some one) same h = same_fine s one.0 same h

  or_fine : (a b : Pick) → PutFine a → PutFine b → PutFine (or_else a b)
  or_fine None b h k = k
  or_fine (Some pick) b h k = h

  answer_fine : (s : OutProxy) → (a : Answer) → (A → is_echo a ≡ false) → Fine s
      → PutFine (answer_by a s)
  answer_fine s answers.Awaited e h = tt
  answer_fine s answers.EchoDue e h = record {
    made = h.made;
    answer = λ a. absurd (true≢false (e a));
    server = h.server;
  }
  answer_fine s answers.EchoPut e h = tt
  answer_fine s answers.EchoDrawn e h = tt
  answer_fine s answers.ResponseDue e h =
      record { made = h.made; answer = λ a. behind s.channel; server = h.server }
    where
      behind : (c : Channel) → is_echo (behind_response c) ≡ false
      behind channels.Unknown = refl
      behind (channels.New connection cookie) = refl
      behind (channels.Joined connection cookie) = refl
      behind (channels.Successor connection predecessor cookie) = refl
  answer_fine s answers.TimeoutDue e h =
      record { made = h.made; answer = λ a. refl; server = h.server }
  answer_fine s answers.Put e h = tt

  same_waiting : (s : OutProxy) (dues : List Due) → PutSame s (waiting_by s dues)
  same_waiting s dues = search rules

  same_put_pdu : (s : OutProxy) (pdus : List (List ℕ)) → PutSame s (pdu_by s pdus)
  same_put_pdu s pdus = search rules

  same_end : (s : OutProxy) → PutSame s (put_end s)
  same_end s = search rules

  same_handover : (s : OutProxy) → PutSame s (put_handover s)
  same_handover s = search rules

  same_ping : (s : OutProxy) → PutSame s (put_ping s)
  same_ping s = search rules

  first_fine : (s : OutProxy) (o : Option Named) → Fine s → PutFine (first_by s o)
  first_fine s None h = tt
  first_fine s (Some packet) h =
      record { made = h.made; answer = h.answer; server = λ b. refl }

  same_ack : (s : OutProxy) → PutSame s (put_ack s)
  same_ack s = search rules

  co_fine : (s : OutProxy) → Fine s → PutFine (next_co s)
  co_fine s h =
      or_fine (put_answer s) _ (answer_fine s s.answer h.answer h)
      (or_fine (put_waiting s) _ (put_fine s (put_waiting s) (same_waiting s s.waiting.due) h)
      (or_fine (put_pdu s) _ (put_fine s (put_pdu s) (same_put_pdu s s.line.current.pdus) h)
      (or_fine (put_mark s) (put_ping s)
      (or_fine (put_end s) (put_handover s) (put_fine s (put_end s) (same_end s) h)
      (put_fine s (put_handover s) (same_handover s) h))
      (put_fine s (put_ping s) (same_ping s) h))))

  server_fine : (s : OutProxy) → Fine s → PutFine (next_os s)
  server_fine s h =
      or_fine (put_first s) (put_ack s)
      (by_test PutFine (is_server_first s.server) (first_by s (first_packet s s.channel)) None
      (λ t. first_fine s (first_packet s s.channel) h) (λ t. tt))
      (put_fine s (put_ack s) (same_ack s) h)

  puts_fine : (s : OutProxy) (leg : Leg) → Fine s → PutFine (put_of s leg)
  puts_fine s leg h =
      by_test PutFine (is_co s leg) (next_co s) (if is_os s leg then next_os s else None)
      (λ t. co_fine s h)
      (λ t. by_test PutFine (is_os s leg) (next_os s) None (λ u. server_fine s h) (λ u. tt))

  drawn_fine : (s : OutProxy) (leg : Leg) → Fine s → Fine (drawn s leg)
  drawn_fine s leg h =
      by_test Fine (is_co s leg && is_echo_put s.answer) (record s { answer = answers.EchoDrawn }) s
      (λ t. record {
        made = h.made;
        answer = λ a.
            absurd (put_not s.answer (h.answer a)
            (and_parts (is_co s leg) (is_echo_put s.answer) t).1);
        server = h.server;
      })
      (λ t. h)
    where
      put_not : (a : Answer) → is_echo a ≡ false → is_echo_put a ≡ true → ⊥
      put_not answers.EchoPut e f = true≢false e
      put_not answers.Awaited e f = true≢false (sym f)
      put_not answers.EchoDue e f = true≢false (sym f)
      put_not answers.EchoDrawn e f = true≢false (sym f)
      put_not answers.ResponseDue e f = true≢false (sym f)
      put_not answers.TimeoutDue e f = true≢false (sym f)
      put_not answers.Put e f = true≢false (sym f)

  -- a leg is lost: that to the client, if it may be no other
  pub mark_fine : (s : OutProxy) (leg : Leg) → (B → is_co s leg ≡ true) → Fine s
      → Fine (mark s leg)
  mark_fine s leg is h =
      by_test Fine (is_co s leg) (record s { client = clients.Marked })
      (record s { server = servers.Marked })
      (λ t. record { made = h.made; answer = h.answer; server = h.server })
      (λ t. record {
        made = h.made;
        answer = h.answer;
        server = λ b. absurd (true≢false (sym (is b) ∙ t));
      })

  pub ping_fine : (s : OutProxy) (leg : Leg) → Fine s → Fine (ping s leg)
  ping_fine s leg h = same_fine s (ping s leg) (pinged s leg) h
    where
      pinged : (s : OutProxy) (leg : Leg) → Same s (ping s leg)
      pinged s leg = search rules

  -- ---- by moves

  module _ (marks : OutProxy → Leg → Bool)
      (client : (s : OutProxy) (leg : Leg) → marks s leg ≡ true → B → is_co s leg ≡ true) where
    pub step_fine : (p : Passage OutProxy) (move : Move)
        → MayMove (marking proxy_rules marks) p.role move
        → (A → HeadsAre (AsksNoEcho false) move) → Fine p.role
        → Fine (moved (marking proxy_rules marks) p move).role
    step_fine p (Up leg cookie) may asks h = up_fine p.role leg cookie h
    step_fine p (HeadCame leg text) may asks h = head_fine p.role (request_verdict false text) asks h
    step_fine p (PduCame leg count bytes) may asks h =
        row_keeps Fine p leg (Pdu bytes) (pdu p.role leg count bytes)
        (same_fine p.role (pdu p.role leg count bytes).0 (same_pdu p.role leg count bytes) h)
    step_fine p (PacketCame leg count named) may asks h =
        row_keeps Fine p leg (Packet named) (packet p.role leg count named)
        (packet_fine p.role leg count named h)
    step_fine p (Puts leg) may asks h =
        put_keeps Fine p leg (put_of p.role leg) h (puts_fine p.role leg h)
    step_fine p (IsDrawn leg) may asks h = drawn_fine p.role leg h
    step_fine p (Marks leg) may asks h =
        mark_fine p.role leg (client p.role leg may.1) h
    step_fine p (Pings leg) may asks h = ping_fine p.role leg h

    pub moves_fine : (p : Passage OutProxy) (moves : List Move)
        → AreAllowed (marking proxy_rules marks) p moves
        → (A → AllByRecursion (HeadsAre (AsksNoEcho false)) moves) → Fine p.role
        → Fine (all_moved (marking proxy_rules marks) p moves).role
    moves_fine p [] may asks h = h
    moves_fine p (move ∷ moves) may asks h =
        moves_fine (moved (marking proxy_rules marks) p move) moves may.1 (λ a. (asks a).1)
        (step_fine p move may.0 (λ a. (asks a).0) h)

-- its work is done behind the mark
pub over : (s : OutProxy) → is_echo s.answer ≡ false → is_server_marked s.server ≡ false
    → is_at_work proxy_rules s ≡ false → is_put s.handover ≡ true
over s answer server e =
    by (is_echo_drawn s.answer) (is_server_marked s.server) (is_put s.handover)
    (drawn_not s.answer answer) server (is_over_now (is_over s) e)
  where
    drawn_not : (a : Answer) → is_echo a ≡ false → is_echo_drawn a ≡ false
    drawn_not answers.EchoDrawn e = absurd (true≢false e)
    drawn_not answers.Awaited e = refl
    drawn_not answers.EchoDue e = refl
    drawn_not answers.EchoPut e = refl
    drawn_not answers.ResponseDue e = refl
    drawn_not answers.TimeoutDue e = refl
    drawn_not answers.Put e = refl

    by : (a b c : Bool) → a ≡ false → b ≡ false → (a || (b || c)) ≡ true → c ≡ true
    by true b c e f g = absurd (true≢false e)
    by false true c e f g = absurd (true≢false f)
    by false false c e f g = g

    is_over_now : (b : Bool)
        → not (is_ended (if b then phases.Ended
        else (if is_server_down s.server then phases.Opening else phases.Open))) ≡ false
        → b ≡ true
    is_over_now true e = refl
    is_over_now false e = other (is_server_down s.server) e
      where
        other : (d : Bool)
            → not (is_ended (if d then phases.Opening else phases.Open)) ≡ false → false ≡ true
        other true e = absurd (true≢false e)
        other false e = absurd (true≢false e)

module _ (config : OutProxyConfig) (moves : List Move)
    (may : AreAllowed kept_rules (started (new_proxy config)) moves)
    (asks : AllByRecursion (HeadsAre (AsksNoEcho false)) moves)
    (law : (moves : List Move) → AreAllowed proxy_rules (started (new_proxy config)) moves
    → KeepsOrder config.number (all_moved proxy_rules (started (new_proxy config)) moves)) where
  abbrev p : Passage OutProxy
  p = all_moved kept_rules (started (new_proxy config)) moves

  order : KeepsOrder config.number p
  order =
      subst (KeepsOrder config.number)
      (sym (all_moved_same proxy_rules marks_client (started (new_proxy config)) moves))
      (law moves (are_allowed proxy_rules marks_client
      (λ s leg e. (and_parts (proxy_rules.only_marks s leg) (is_co s leg) e).0)
      (started (new_proxy config)) moves may))

  start : Fine (Unit {0}) (Unit {0}) config.number (new_proxy config)
  start = record { made = refl; answer = λ a. refl; server = λ b. refl }

  fine : Fine (Unit {0}) (Unit {0}) config.number p.role
  fine =
      moves_fine (Unit {0}) (Unit {0}) config.number marks_client
      (λ s leg e b. (and_parts (proxy_rules.only_marks s leg) (is_co s leg) e).1)
      (started (new_proxy config)) moves may (λ a. asks) start

  put_over : is_at_work proxy_rules p.role ≡ false → is_put p.role.handover ≡ true
  put_over done = over p.role (fine.answer tt) (fine.server tt) done

  pub over_behind_mark : is_at_work proxy_rules p.role ≡ false
      → (has_handover (put_items config.number p.put) ≡ true)
      × (has_handover (came_log p.came config.number) ≡ true)
  over_behind_mark done = (
    sym order.handover_put ∙ put_over done,
    ap (λ (k : ℕ). has_handover (came_log p.came k)) (sym fine.made)
        ∙ sym order.shelved.holds.finished ∙ (order.handover_came (put_over done)).0,
  )
