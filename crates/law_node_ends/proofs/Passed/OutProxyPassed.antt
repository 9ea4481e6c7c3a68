-- on the os leg of an out proxy that has no more use for it, OUT_R1/A9 or END/B1 came
use Rattle.law_order.proofs.Vocabulary.{◌≡◌, ◌⊎◌, inl, inr, ap, ℕ, Bool, true, false, true≢false, ◌&&◌, ◌||◌, not, List, Some, None, Ok, Err, nat_le, refl, sym, ◌∙◌, subst, rules, and_parts, AllByRecursion, if◌then◌else◌, IfSome, Option, Result, Item, has_end, has_handover}
use Rattle.rh_sig.specs.declared.named.Named.TheVariants as named
use Rattle.rh_shell.specs.declared.answers.Phase.TheVariants as phases
use Rattle.rh_outproxy.specs.declared.state.Answer.TheVariants as answers
use Rattle.rh_outproxy.specs.declared.state.Channel.TheVariants as channels
use Rattle.rh_outproxy.specs.declared.state.Mark.TheVariants as marks
use Rattle.rh_outproxy.specs.declared.state.ServerLeg.TheVariants as servers
use Rattle.rh_outproxy.specs.declared.state.ClientLeg.TheVariants as clients
use Rattle.law_moves.proofs.Vocabulary.{by_test, Cookie, Named, HttpFault, greatest_echo, Asked, request_verdict, Leg, is_empty, Count, HeadRefused, Due, HeadTaken, is_ended, Message, Pdu, Packet, AreAllowed, Move, Passage, started, all_moved, is_in_use}
use Rattle.law_role_outproxy.proofs.Vocabulary.{Answer, Channel, Mark, OutProxyConfig, ServerLeg, OutProxy, is_echo_drawn, has_come, is_due, is_echo_put, is_over, is_put, is_server_down, is_server_first, is_server_marked, new_proxy, Done, is_carrying, is_co, is_os, passed_on, taken, takes_pdus, unexpected, up, head_by, on_conn_c1, first_packet, on_ack_to, on_out_r1_a9, drawn, mark, on_end_b1, only_marks, Pick, or_else, answer_by, behind_response, pdu_by, put_answer, put_end}
use Rattle.law_role_outproxy.proofs.Vocabulary.{put_handover, put_waiting, put_pdu, put_mark, put_ping, waiting_by, next_co, first_by, put_first, put_ack, next_os, put as put_of, on_co, on_os, pdu, packet, rules as proxy_rules, KeepsOrder, came_log, put_items, server_leg}
use Rattle.law_node_ends.proofs.Passed.Allowed.{StepsKeep, moves_keep, of_role, role_row}
use Rattle.law_node_ends.specs.Passed.{AsksNoEcho, HeadsAre, IsDoneBehindEnd}

-- what the fact is about
record Seen : Type 0 where
  config : OutProxyConfig
  answer : Answer
  server : ServerLeg
  end : Mark

abbrev seen : OutProxy → Seen
seen s = record { config = s.config; answer = s.answer; server = s.server; end = s.end }

abbrev Same : OutProxy → OutProxy → Type 0
Same s t = seen t ≡ seen s

-- no answer to an echo request is due, was put or was drawn
abbrev is_echo : Answer → Bool
is_echo answers.EchoDue = true
is_echo answers.EchoPut = true
is_echo answers.EchoDrawn = true
is_echo answer = false

record SeenFine (config : OutProxyConfig) (x : Seen) : Type 0 where
  made : x.config ≡ config
  answer : is_echo x.answer ≡ false
  server : is_server_marked x.server ≡ true → is_put x.end ≡ true

module _ (config : OutProxyConfig) where
  abbrev Fine : OutProxy → Type 0
  Fine s = SeenFine config (seen s)

  same_fine : (s t : OutProxy) → Same s t → Fine s → Fine t
  same_fine s t same h = subst (SeenFine config) (sym same) h

  -- ---- what comes

  up_fine : (s : OutProxy) (leg : Leg) (cookie : Cookie) → Fine s → Fine (up s leg cookie)
  up_fine s leg cookie h =
      by_test Fine (is_co s leg) _ _
      (λ t. record { made = h.made; answer = h.answer; server = h.server })
      (λ t. record { made = h.made; answer = refl; server = λ e. absurd (true≢false (sym e)) })

  head_fine : (s : OutProxy) (verdict : Result Asked HttpFault)
      → ((request : Asked) → verdict ≡ Ok request → nat_le request.length greatest_echo ≡ false)
      → Fine s → Fine (head_by s verdict).0
  head_fine s (Err fault) none h = h
  head_fine s (Ok request) none h =
      by_test (λ (x : OutProxy × Result HeadTaken HeadRefused). Fine x.0)
      (nat_le request.length greatest_echo) _ _
      (λ t. absurd (true≢false (sym t ∙ none request refl)))
      (λ t. record { made = h.made; answer = h.answer; server = h.server })

  same_pdu : (s : OutProxy) (leg : Leg) (count : Count) (bytes : List ℕ)
      → Same s (pdu s leg count bytes).0
  same_pdu s leg count bytes = search rules

  same_co : (s : OutProxy) (count : Count) (named : Named) → Same s (on_co s count named).0
  same_co s count named = search rules

  same_passed_on : (s : OutProxy) (to : ℕ) (named : Named) → Same s (passed_on s to named).0
  same_passed_on s to named = search rules

  same_conn_c1 : (s : OutProxy) (version size timeout : ℕ)
      → Same s (on_conn_c1 s version size timeout).0
  same_conn_c1 s version size timeout = search rules

  same_ack_to : (s : OutProxy) (to received available : ℕ) (channel : Cookie)
      → Same s (on_ack_to s to received available channel).0
  same_ack_to s to received available channel = search rules

  same_a9 : (s : OutProxy) → Same s (on_out_r1_a9 s).0
  same_a9 s = search rules

  -- END/B1 came, and END/B2 was not put before
  end_fine : (s : OutProxy) → Fine s → Fine (on_end_b1 s).0
  end_fine s h =
      by_test (λ (x : Done). Fine x.0) (takes_pdus s) (taken (record s { end = marks.Came }))
      (unexpected s)
      (λ t. record {
        made = h.made;
        answer = h.answer;
        server = λ e. absurd (unput s.end
            (and_parts (is_carrying s) (not (has_come s.end)) t).1 (h.server e));
      })
      (λ t. h)
    where
      unput : (m : Mark) → not (has_come m) ≡ true → is_put m ≡ true → ⊥
      unput marks.Awaited e f = true≢false (sym f)
      unput marks.Came e f = true≢false (sym f)
      unput marks.Put e f = true≢false (sym e)

  os_fine : (s : OutProxy) (m : Named) → Fine s → Fine (on_os s m).0
  os_fine s (named.ConnC1 version size timeout) h =
      same_fine s (on_conn_c1 s version size timeout).0 (same_conn_c1 s version size timeout) h
  os_fine s (named.AckTo to received available channel) h =
      same_fine s (on_ack_to s to received available channel).0
      (same_ack_to s to received available channel) h
  os_fine s (named.InR1A3 to version size timeout) h =
      same_fine s (passed_on s to (named.InR1A4 0 version size timeout)).0
      (same_passed_on s to (named.InR1A4 0 version size timeout)) h
  os_fine s (named.InR2A3 to) h =
      same_fine s (passed_on s to (named.InR2A4 0)).0 (same_passed_on s to (named.InR2A4 0)) h
  os_fine s (named.OutR1A1 to) h =
      same_fine s (passed_on s to (named.OutR1A2 0)).0 (same_passed_on s to (named.OutR1A2 0)) h
  os_fine s (named.OutR1A5 to version timeout) h =
      same_fine s (passed_on s to (named.OutR1A6 0 version timeout)).0
      (same_passed_on s to (named.OutR1A6 0 version timeout)) h
  os_fine s named.OutR1A9 h = same_fine s (on_out_r1_a9 s).0 (same_a9 s) h
  os_fine s named.EndB1 h = end_fine s h
  os_fine s m h = h

  packet_fine : (s : OutProxy) (leg : Leg) (count : Count) (m : Named) → Fine s
      → Fine (packet s leg count m).0
  packet_fine s leg count m h =
      by_test (λ (x : Done). Fine x.0) (is_co s leg) (on_co s count m)
      (if is_os s leg then on_os s m else unexpected s)
      (λ t. same_fine s (on_co s count m).0 (same_co s count m) h)
      (λ t. by_test (λ (x : Done). Fine x.0) (is_os s leg) (on_os s m) (unexpected s)
      (λ u. os_fine s m h) (λ u. h))

  -- ---- what is put

  abbrev PutFine : Pick → Type 0
  PutFine pick = IfSome pick (λ (one : OutProxy × Message). Fine one.0)

  abbrev PutSame : OutProxy → Pick → Type 0
  PutSame s pick = IfSome pick (λ (one : OutProxy × Message). Same s one.0)

  put_fine : (s : OutProxy) (pick : Pick) → PutSame s pick → Fine s → PutFine pick
  put_fine s None same h = tt
  put_fine s (Some one) same h = same_fine s one.0 same h

  or_fine : (a b : Pick) → PutFine a → PutFine b → PutFine (or_else a b)
  or_fine None b h k = k
  or_fine (Some pick) b h k = h

  answer_fine : (s : OutProxy) → (a : Answer) → is_echo a ≡ false → Fine s
      → PutFine (answer_by a s)
  answer_fine s answers.Awaited e h = tt
  answer_fine s answers.EchoDue e h = absurd (true≢false e)
  answer_fine s answers.EchoPut e h = tt
  answer_fine s answers.EchoDrawn e h = tt
  answer_fine s answers.ResponseDue e h =
      record { made = h.made; answer = behind s.channel; server = h.server }
    where
      behind : (c : Channel) → is_echo (behind_response c) ≡ false
      behind channels.Unknown = refl
      behind (channels.New connection cookie) = refl
      behind (channels.Joined connection cookie) = refl
      behind (channels.Successor connection predecessor cookie) = refl
  answer_fine s answers.TimeoutDue e h =
      record { made = h.made; answer = refl; server = h.server }
  answer_fine s answers.Put e h = tt

  same_waiting : (s : OutProxy) (dues : List Due) → PutSame s (waiting_by s dues)
  same_waiting s dues = search rules

  same_put_pdu : (s : OutProxy) (pdus : List (List ℕ)) → PutSame s (pdu_by s pdus)
  same_put_pdu s pdus = search rules

  same_handover : (s : OutProxy) → PutSame s (put_handover s)
  same_handover s = search rules

  same_ping : (s : OutProxy) → PutSame s (put_ping s)
  same_ping s = search rules

  put_end_fine : (s : OutProxy) → Fine s → PutFine (put_end s)
  put_end_fine s h =
      by_test PutFine (is_empty s.line.current.pdus && is_due s.end) _ None
      (λ t. record { made = h.made; answer = h.answer; server = λ e. refl }) (λ t. tt)

  first_fine : (s : OutProxy) (o : Option Named) → Fine s → PutFine (first_by s o)
  first_fine s None h = tt
  first_fine s (Some packet) h = record {
    made = h.made;
    answer = h.answer;
    server = λ e. absurd (true≢false (sym e));
  }

  same_ack : (s : OutProxy) → PutSame s (put_ack s)
  same_ack s = search rules

  co_fine : (s : OutProxy) → Fine s → PutFine (next_co s)
  co_fine s h =
      or_fine (put_answer s) _ (answer_fine s s.answer h.answer h)
      (or_fine (put_waiting s) _
      (put_fine s (put_waiting s) (same_waiting s s.waiting.due) h)
      (or_fine (put_pdu s) _ (put_fine s (put_pdu s) (same_put_pdu s s.line.current.pdus) h)
      (or_fine (put_mark s) (put_ping s)
      (or_fine (put_end s) (put_handover s) (put_end_fine s h)
      (put_fine s (put_handover s) (same_handover s) h))
      (put_fine s (put_ping s) (same_ping s) h))))

  server_fine : (s : OutProxy) → Fine s → PutFine (next_os s)
  server_fine s h =
      or_fine (put_first s) (put_ack s)
      (by_test PutFine (is_server_first s.server) (first_by s (first_packet s s.channel)) None
      (λ t. first_fine s (first_packet s s.channel) h) (λ t. tt))
      (put_fine s (put_ack s) (same_ack s) h)

  puts_fine : (s : OutProxy) (leg : Leg) → Fine s → PutFine (put_of s leg)
  puts_fine s leg h =
      by_test PutFine (is_co s leg) (next_co s) (if is_os s leg then next_os s else None)
      (λ t. co_fine s h)
      (λ t. by_test PutFine (is_os s leg) (next_os s) None (λ u. server_fine s h) (λ u. tt))

  drawn_fine : (s : OutProxy) (leg : Leg) → Fine s → Fine (drawn s leg)
  drawn_fine s leg h =
      by_test Fine (is_co s leg && is_echo_put s.answer) _ s
      (λ t. absurd (none s.answer h.answer (and_parts (is_co s leg) (is_echo_put s.answer) t).1))
      (λ t. h)
    where
      none : (a : Answer) → is_echo a ≡ false → is_echo_put a ≡ true → ⊥
      none answers.EchoPut e t = true≢false e
      none answers.Awaited e t = true≢false (sym t)
      none answers.EchoDue e t = true≢false (sym t)
      none answers.EchoDrawn e t = true≢false (sym t)
      none answers.ResponseDue e t = true≢false (sym t)
      none answers.TimeoutDue e t = true≢false (sym t)
      none answers.Put e t = true≢false (sym t)

  -- the client's leg is marked; that of the server only where END/B2 was put
  mark_fine : (s : OutProxy) (leg : Leg) → only_marks s leg ≡ true → Fine s → Fine (mark s leg)
  mark_fine s leg only h =
      by_test Fine (is_co s leg) (record s { client = clients.Marked })
      (record s { server = servers.Marked })
      (λ t. record { made = h.made; answer = h.answer; server = h.server })
      (λ t. record {
        made = h.made;
        answer = h.answer;
        server = λ e. by (is_put s.end) (is_co s leg) t only;
      })
    where
      by : (a b : Bool) → b ≡ false → (a || (b && is_put s.handover)) ≡ true → a ≡ true
      by true b e f = refl
      by false false e f = f
      by false true e f = absurd (true≢false e)

  -- ---- the role

  keeps : StepsKeep proxy_rules (HeadsAre (AsksNoEcho false)) (λ s came put. Unit {0})
      (of_role Fine)
  keeps = record {
    up = λ s leg cookie came put works. up_fine s leg cookie;
    head = λ s leg text came put works none. head_fine s (request_verdict false text) none;
    pdu = λ s leg count bytes came put works h.
        role_row Fine (leg, Pdu bytes) came put (pdu s leg count bytes)
        (same_fine s (pdu s leg count bytes).0 (same_pdu s leg count bytes) h);
    packet = λ s leg count m came put works h.
        role_row Fine (leg, Packet m) came put (packet s leg count m)
        (packet_fine s leg count m h);
    put = λ s leg came put works. puts_fine s leg;
    mark = λ s leg came put works only asks known. mark_fine s leg only;
    drawn = λ s leg came put. drawn_fine s leg;
    ping = λ s leg came put h. record { made = h.made; answer = h.answer; server = h.server };
  }

  -- ---- a leg that is done

  over : (s : OutProxy) → Fine s → is_over s ≡ true
      → (is_put s.handover ≡ true) ⊎ (is_put s.end ≡ true)
  over s h e =
      by (is_echo_drawn s.answer) (is_server_marked s.server) (drawn_not s.answer h.answer)
      h.server e
    where
      drawn_not : (a : Answer) → is_echo a ≡ false → is_echo_drawn a ≡ false
      drawn_not answers.EchoDrawn e = absurd (true≢false e)
      drawn_not answers.Awaited e = refl
      drawn_not answers.EchoDue e = refl
      drawn_not answers.EchoPut e = refl
      drawn_not answers.ResponseDue e = refl
      drawn_not answers.TimeoutDue e = refl
      drawn_not answers.Put e = refl

      by : (a b : Bool) → a ≡ false → (b ≡ true → is_put s.end ≡ true)
          → (a || (b || is_put s.handover)) ≡ true
          → (is_put s.handover ≡ true) ⊎ (is_put s.end ≡ true)
      by false false e f g = inl g
      by true b e f g = absurd (true≢false e)
      by false true e f g = inr (f refl)

  -- it is in use until the work is done
  useless : (s : OutProxy) (leg : Leg) → is_in_use proxy_rules s leg ≡ false → is_over s ≡ true
  useless s leg e = by (is_over s) e
    where
      by : (b : Bool)
          → (not (is_ended (if b then phases.Ended
          else (if is_server_down s.server then phases.Opening else phases.Open))) && not b)
          ≡ false → b ≡ true
      by true e = refl
      by false e = other (is_server_down s.server) e
        where
          other : (d : Bool)
              → (not (is_ended (if d then phases.Opening else phases.Open)) && true) ≡ false
              → false ≡ true
          other true e = absurd (true≢false e)
          other false e = absurd (true≢false e)

pub out_proxy_done : (config : OutProxyConfig) (moves : List Move)
    → (let p = all_moved proxy_rules (started (new_proxy config)) moves in
    KeepsOrder config.number p → AreAllowed proxy_rules (started (new_proxy config)) moves
    → AllByRecursion (HeadsAre (AsksNoEcho false)) moves
    → IsDoneBehindEnd proxy_rules p.role (server_leg config.number)
    (came_log p.came config.number))
out_proxy_done config moves order may heads e =
    subst (λ (c : OutProxyConfig).
    (has_handover (came_log p.came c.number) || has_end (came_log p.came c.number)) ≡ true) h.made
    (by (over config p.role h (useless config p.role (server_leg config.number) e)))
  where
    p : Passage OutProxy
    p = all_moved proxy_rules (started (new_proxy config)) moves

    h : Fine config p.role
    h = moves_keep proxy_rules (HeadsAre (AsksNoEcho false)) (λ s came put. Unit {0})
        (of_role (Fine config)) (keeps config) (started (new_proxy config)) moves may heads
        (λ front allowed. tt)
        (record { made = refl; answer = refl; server = λ f. absurd (true≢false (sym f)) })

    came : List Item
    came = came_log p.came p.role.config.number

    by : (is_put p.role.handover ≡ true) ⊎ (is_put p.role.end ≡ true)
        → (has_handover came || has_end came) ≡ true
    by (inl put) =
        ap (λ (b : Bool). b || has_end came)
        (sym order.shelved.holds.finished ∙ (order.handover_came put).0)
    by (inr put) =
        ap (λ (b : Bool). has_handover came || b)
        (sym order.shelved.holds.ended ∙ (order.end_came put).0)
        ∙ last (has_handover came)
      where
        last : (b : Bool) → (b || true) ≡ true
        last true = refl
        last false = refl

-- and it put its own there
pub out_proxy_put : (config : OutProxyConfig) (moves : List Move)
    → (let p = all_moved proxy_rules (started (new_proxy config)) moves in
    KeepsOrder config.number p → AreAllowed proxy_rules (started (new_proxy config)) moves
    → AllByRecursion (HeadsAre (AsksNoEcho false)) moves
    → (leg : Leg)
    → IsDoneBehindEnd proxy_rules p.role leg (put_items config.number p.put))
out_proxy_put config moves order may heads leg e =
    by (over config p.role h (useless config p.role leg e))
  where
    p : Passage OutProxy
    p = all_moved proxy_rules (started (new_proxy config)) moves

    h : Fine config p.role
    h = moves_keep proxy_rules (HeadsAre (AsksNoEcho false)) (λ s came put. Unit {0})
        (of_role (Fine config)) (keeps config) (started (new_proxy config)) moves may heads
        (λ front allowed. tt)
        (record { made = refl; answer = refl; server = λ f. absurd (true≢false (sym f)) })

    by : (is_put p.role.handover ≡ true) ⊎ (is_put p.role.end ≡ true)
        → (has_handover (put_items config.number p.put)
        || has_end (put_items config.number p.put)) ≡ true
    by (inl put) =
        ap (λ (b : Bool). b || has_end (put_items config.number p.put))
        (sym order.handover_put ∙ put)
    by (inr put) =
        ap (λ (b : Bool). has_handover (put_items config.number p.put) || b)
        (sym order.end_put ∙ put)
        ∙ last (has_handover (put_items config.number p.put))
      where
        last : (b : Bool) → (b || true) ≡ true
        last true = refl
        last false = refl
