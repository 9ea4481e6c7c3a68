-- an out proxy puts what came to be passed on, or has it waiting
use Rattle.law_order.proofs.Vocabulary.{◌≡◌, ℕ, ◌==◌, ◌+◌, Bool, true, false, true≢false, ◌&&◌, List, [], ◌∷◌, length, Some, None, Ok, Err, arith, refl, sym, ap, ◌∙◌, subst, if◌then◌else◌, IfSome, nat_le}
use Rattle.rh_sig.specs.declared.named.Named.TheVariants as named
use Rattle.rh_shell.specs.Waiting as waits
use Rattle.rh_outproxy.specs.declared.state.Answer.TheVariants as answers
use Rattle.rh_outproxy.specs.declared.state.Channel.TheVariants as channels
use Rattle.rh_outproxy.specs.declared.state.ClientLeg.TheVariants as clients
use Rattle.rh_outproxy.specs.declared.state.ServerLeg.TheVariants as servers
use Rattle.law_moves.proofs.Vocabulary.{may_send, by_test, Cookie, Named, is_empty, Leg, Count, Due, Message, Pdu, Packet, one_if, OnLeg, Move, Waiting, started, all_moved, AreAllowed, is_conn_c1, is_conn_c2, is_in_r1_a3, is_in_r1_a4, is_in_r2_a3, is_in_r2_a4, is_out_r1_a1, is_out_r1_a2, is_out_r1_a5, is_out_r1_a6}
use Rattle.law_moves.proofs.Lemmas.{IsNoAck, PutKeeps, RowKeeps, allowed_rise}
use Rattle.law_role_outproxy.proofs.Vocabulary.{Answer, Channel, OutProxyConfig, OutProxy, is_client_marked, is_due, is_ping_due, new_proxy, Done, taken, is_carrying, is_co, is_os, unexpected, forwarded, forwarded_by, passed_on, head, conn_c1_by, on_ack, on_ack_to, on_out_r1_a9, drawn, mark, on_end_b1, Pick, or_else, answer_by, put_answer, waiting_by, put_waiting, pdu_by, put_pdu, put_end, put_handover, put_mark, put_ping, ping_room, next_co, next_os, put as put_of, pdu, packet, on_co, on_os, rules as proxy_rules}
use Rattle.law_role_outproxy.specs.Sending.{co_leg, os_leg}
use Rattle.law_role_edges.proofs.Beside.{KeepBeside, moves_keep_beside}
use Rattle.law_role_edges.proofs.Dues.{WaitsBy, forwarded_by as waits_by}
use Rattle.law_role_edges.proofs.OutKnows.{Holds as Knows, is_client, knows_always, knows_first}
use Rattle.law_role_edges.proofs.OutLegs.{MayUp, up_has_client}
use Rattle.law_role_edges.proofs.OutTells.{is_server}
use Rattle.law_role_edges.proofs.OutViews.{Seen, Same, seen, quiet_os, same_a9, same_co, same_drawn, same_end, same_head, same_on_ack, same_pdu, same_ping}
use Rattle.law_role_edges.proofs.Sums.{at, leg_counts, sum_more, sum_on, worth_here, worth_none, worth_of, worth_on}
use Rattle.law_role_edges.specs.Forwarding.{ArePassed, ForwardsAll, HasClient, waiting_of}

-- each packet from the server that passes a test is passed on as one that passes another
pub record Leads (test put : Named → Bool) : Type 0 where
  pub opens : (version size timeout : ℕ)
      → put (named.ConnC2 version size timeout) ≡ test (named.ConnC1 version size timeout)
  pub in_r1 : (to version size timeout : ℕ)
      → put (named.InR1A4 0 version size timeout) ≡ test (named.InR1A3 to version size timeout)
  pub in_r2 : (to : ℕ) → put (named.InR2A4 0) ≡ test (named.InR2A3 to)
  pub wishes : (to : ℕ) → put (named.OutR1A2 0) ≡ test (named.OutR1A1 to)
  pub answers : (to version timeout : ℕ)
      → put (named.OutR1A6 0 version timeout) ≡ test (named.OutR1A5 to version timeout)
  -- nothing else passes
  pub acks : IsNoAck test
  pub out_r1_a9 : test named.OutR1A9 ≡ false
  pub end_b1 : test named.EndB1 ≡ false
  pub no_acks : IsNoAck put
  pub conn_a3 : (timeout : ℕ) → put (named.ConnA3 timeout) ≡ false
  pub end_b2 : put named.EndB2 ≡ false
  pub out_r1_a10 : put named.OutR1A10 ≡ false
  pub pings : put named.Ping ≡ false

module _ (config : OutProxyConfig) (test put : Named → Bool) (leads : Leads test put) where
  abbrev co : Leg
  co = co_leg config.number

  abbrev os : Leg
  os = os_leg config.number

  abbrev came_of : List OnLeg → ℕ
  came_of came = sum_on (at os) test came

  abbrev put_of_kind : List OnLeg → ℕ
  put_of_kind sent = sum_on (at co) put sent

  abbrev HoldsOf : Seen → List OnLeg → List OnLeg → Type 0
  HoldsOf x came sent =
      is_client_marked x.client ≡ false
      → came_of came ≡ put_of_kind sent + waiting_of put x.waiting.due

  abbrev Holds : OutProxy → List OnLeg → List OnLeg → Type 0
  Holds s came sent = HoldsOf (seen s) came sent

  same_holds : (s t : OutProxy) (came sent : List OnLeg) → Same s t → Holds s came sent
      → Holds t came sent
  same_holds s t came sent same h = subst (λ (x : Seen). HoldsOf x came sent) (sym same) h

  module _ (s : OutProxy) (came sent : List OnLeg) (h : Holds s came sent) where
    abbrev Row : Leg → Message → Done → Type 0
    Row leg m x = RowKeeps Holds (leg, m) came sent x

    -- a row that leaves these alone takes what isn't passed on
    same_row : (leg : Leg) (m : Message) (x : Done) → worth_on (at os) test (leg, m) ≡ 0
        → Same s x.0 → Row leg m x
    same_row leg m (t, Ok taken) none same = λ free.
        let was = same_holds s t came sent same h free in
        let all = sum_more (at os) test came (leg, m) in omega (arith, was, all, none)
    same_row leg m (t, Err why) none same = same_holds s t came sent same h

    -- ---- from the server

    forwarded_row : (t : OutProxy) (m other : Named) → Same s t → put other ≡ test m
        → Row os (Packet m) (forwarded t other)
    forwarded_row t m other same leads' =
        by_test (Row os (Packet m)) (is_client_marked t.client) (taken t)
        (forwarded_by t (waits.forwarded t.waiting other))
        (λ e free. absurd (true≢false (sym e ∙ free)))
        (λ e. by (waits.forwarded t.waiting other) (waits_by put leads.no_acks t.waiting other))
      where
        k : Holds t came sent
        k = same_holds s t came sent same h

        by : (x : Waiting × Bool) → WaitsBy put leads.no_acks t.waiting other x
            → Row os (Packet m) (forwarded_by t x)
        by (w, true) more = λ free.
            let was = k free in
            let all = sum_more (at os) test came (os, Packet m) in
            let here = worth_here os test (Packet m) in
            let one = ap one_if leads' in omega (arith, was, all, here, one, more)
        by (w, false) less = λ free. let was = k free in omega (arith, was, less)

    passed_row : (m other : Named) (to : ℕ) → put other ≡ test m
        → Row os (Packet m) (passed_on s to other)
    passed_row m other to is =
        by_test (Row os (Packet m)) (is_carrying s && (to == 0)) (forwarded s other) (unexpected s)
        (λ e. forwarded_row s m other refl is) (λ e. h)

    quiet_row : (m : Named) (x : Done) → test m ≡ false → Same s x.0 → Row os (Packet m) x
    quiet_row m x none same =
        same_row os (Packet m) x (worth_none (at os) test os (Packet m) (ap one_if none)) same

    ack_row : (to received available : ℕ) (cookie : Cookie)
        → Row os (Packet (named.AckTo to received available cookie))
        (on_ack_to s to received available cookie)
    ack_row to received available cookie =
        by_test (Row os (Packet (named.AckTo to received available cookie))) (to == 3)
        (on_ack s received available cookie)
        (passed_on s to (named.AckTo 0 received available cookie))
        (λ e. quiet_row (named.AckTo to received available cookie)
        (on_ack s received available cookie) (leads.acks to received available cookie)
        (same_on_ack s received available cookie))
        (λ e. passed_row (named.AckTo to received available cookie)
        (named.AckTo 0 received available cookie) to
        (leads.no_acks 0 received available cookie
        ∙ sym (leads.acks to received available cookie)))

    c1_row : (version size timeout : ℕ) (c : Channel)
        → Row os (Packet (named.ConnC1 version size timeout))
        (conn_c1_by c s version size timeout)
    c1_row version size timeout channels.Unknown = h
    c1_row version size timeout (channels.New connection cookie) =
        forwarded_row (record s { channel = channels.Joined connection cookie })
        (named.ConnC1 version size timeout) (named.ConnC2 version size timeout) refl
        (leads.opens version size timeout)
    c1_row version size timeout (channels.Joined connection cookie) = h
    c1_row version size timeout (channels.Successor connection predecessor cookie) = h

    os_row : (m : Named) → Row os (Packet m) (on_os s m)
    os_row (named.ConnC1 version size timeout) = c1_row version size timeout s.channel
    os_row (named.AckTo to received available cookie) = ack_row to received available cookie
    os_row (named.InR1A3 to version size timeout) =
        passed_row (named.InR1A3 to version size timeout) (named.InR1A4 0 version size timeout) to
        (leads.in_r1 to version size timeout)
    os_row (named.InR2A3 to) =
        passed_row (named.InR2A3 to) (named.InR2A4 0) to (leads.in_r2 to)
    os_row (named.OutR1A1 to) =
        passed_row (named.OutR1A1 to) (named.OutR1A2 0) to (leads.wishes to)
    os_row (named.OutR1A5 to version timeout) =
        passed_row (named.OutR1A5 to version timeout) (named.OutR1A6 0 version timeout) to
        (leads.answers to version timeout)
    os_row named.OutR1A9 =
        quiet_row named.OutR1A9 (on_out_r1_a9 s) leads.out_r1_a9 (same_a9 s)
    os_row named.EndB1 = quiet_row named.EndB1 (on_end_b1 s) leads.end_b1 (same_end s)
    os_row m = h

    packet_row : (leg : Leg) (count : Count) (m : Named) → Knows config s came sent
        → Row leg (Packet m) (packet s leg count m)
    packet_row leg count m a =
        by_test (Row leg (Packet m)) (is_co s leg) (on_co s count m)
        (if is_os s leg then on_os s m else unexpected s)
        (λ e. subst (λ (l : Leg). Row l (Packet m) (on_co s count m))
        (is_client config s leg a.is e)
        (same_row co (Packet m) (on_co s count m) refl (same_co s count m)))
        (λ e. by_test (Row leg (Packet m)) (is_os s leg) (on_os s m) (unexpected s)
        (λ f. subst (λ (l : Leg). Row l (Packet m) (on_os s m)) (is_server config s leg a.is f)
        (os_row m)) (λ f. h))

    -- ---- what is put to the client

    -- the message pays for what waits no more
    abbrev Pays : OutProxy × Message → Type 0
    Pays one =
        (one.0.client ≡ s.client)
        × (waiting_of put one.0.waiting.due + worth_of put one.1
        ≡ waiting_of put s.waiting.due)

    abbrev Spends : Pick → Type 0
    Spends pick = IfSome pick Pays

    or_spends : (a b : Pick) → Spends a → Spends b → Spends (or_else a b)
    or_spends None b g k = k
    or_spends (Some pick) b g k = g

    answer_spends : (a : Answer) → Spends (answer_by a s)
    answer_spends answers.Awaited = tt
    answer_spends answers.EchoDue = (refl, omega arith)
    answer_spends answers.EchoPut = tt
    answer_spends answers.EchoDrawn = tt
    answer_spends answers.ResponseDue = (refl, omega arith)
    answer_spends answers.TimeoutDue =
        let nought = ap one_if (leads.conn_a3 s.config.timeout) in (refl, omega (arith, nought))
    answer_spends answers.Put = tt

    waiting_spends : (dues : List Due) → s.waiting.due ≡ dues → Spends (waiting_by s dues)
    waiting_spends [] e = tt
    waiting_spends (due ∷ dues) e =
        let all = ap (waiting_of put) e in (refl, omega (arith, all))

    pdu_spends : (pdus : List (List ℕ)) → Spends (pdu_by s pdus)
    pdu_spends [] = tt
    pdu_spends (one ∷ pdus) =
        by_test Spends (may_send s.window (length one)) _ None (λ e. (refl, omega arith)) (λ e. tt)

    end_spends : Spends (put_end s)
    end_spends =
        by_test Spends (is_empty s.line.current.pdus && is_due s.end) _ None
        (λ e. let nought = ap one_if leads.end_b2 in (refl, omega (arith, nought))) (λ e. tt)

    handover_spends : Spends (put_handover s)
    handover_spends =
        by_test Spends (is_empty s.line.current.pdus && is_due s.handover) _ None
        (λ e. let nought = ap one_if leads.out_r1_a10 in (refl, omega (arith, nought))) (λ e. tt)

    ping_spends : Spends (put_ping s)
    ping_spends =
        by_test Spends (is_ping_due s.ping && nat_le (s.pinged + 20) ping_room) _ None
        (λ e. let nought = ap one_if leads.pings in (refl, omega (arith, nought))) (λ e. tt)

    co_spends : Spends (next_co s)
    co_spends =
        or_spends (put_answer s) _ (answer_spends s.answer)
        (or_spends (put_waiting s) _ (waiting_spends s.waiting.due refl)
        (or_spends (put_pdu s) _ (pdu_spends s.line.current.pdus)
        (or_spends (put_mark s) (put_ping s)
        (or_spends (put_end s) (put_handover s) end_spends handover_spends) ping_spends)))

    co_put : (pick : Pick) → Spends pick → PutKeeps Holds co came sent pick
    co_put None k = tt
    co_put (Some one) k = λ free.
        let was = h (ap is_client_marked (sym k.0) ∙ free) in
        let paid = k.1 in
        let here = worth_here co put one.1 in
        let all = sum_more (at co) put sent (co, one.1) in
        omega (arith, was, paid, here, all)

    os_put : (pick : Pick) → IfSome pick (λ (one : OutProxy × Message). Same s one.0)
        → PutKeeps Holds os came sent pick
    os_put None same = tt
    os_put (Some one) same = λ free.
        let was = same_holds s one.0 came sent same h free in
        let all = sum_more (at co) put sent (os, one.1) in omega (arith, was, all)

    puts : (leg : Leg) → Knows config s came sent
        → PutKeeps Holds leg came sent (put_of s leg)
    puts leg a =
        by_test (PutKeeps Holds leg came sent) (is_co s leg) (next_co s)
        (if is_os s leg then next_os s else None)
        (λ e. subst (λ (l : Leg). PutKeeps Holds l came sent (next_co s))
        (is_client config s leg a.is e) (co_put (next_co s) co_spends))
        (λ e. by_test (PutKeeps Holds leg came sent) (is_os s leg) (next_os s) None
        (λ f. subst (λ (l : Leg). PutKeeps Holds l came sent (next_os s))
        (is_server config s leg a.is f) (os_put (next_os s) (quiet_os s))) (λ f. tt))

  -- ---- the role

  mark_row : (s : OutProxy) (leg : Leg) (came sent : List OnLeg) → Holds s came sent
      → Holds (mark s leg) came sent
  mark_row s leg came sent h =
      by_test (λ (t : OutProxy). Holds t came sent) (is_co s leg)
      (record s { client = clients.Marked }) (record s { server = servers.Marked })
      (λ e free. absurd cc)
      (λ e. h)

  keeps : KeepBeside proxy_rules MayUp (Knows config) Holds
  keeps = record {
    up = λ s leg cookie came sent may a h free.
        by_test (λ (t : OutProxy).
        came_of came ≡ put_of_kind sent + waiting_of put t.waiting.due) (is_co s leg)
        (record s { client = clients.Up })
        (record s { server = servers.FirstDue; answer = answers.ResponseDue })
        (λ e. h (up_has_client s leg cookie may free))
        (λ e. h (up_has_client s leg cookie may free));
    head = λ s leg text came sent a.
        same_holds s (head s leg text).0 came sent (same_head s leg text);
    pdu = λ s leg count bytes came sent a h.
        same_row s came sent h leg (Pdu bytes) (pdu s leg count bytes)
        (worth_none (at os) test leg (Pdu bytes) refl) (same_pdu s leg count bytes);
    packet = λ s leg count m came sent a h. packet_row s came sent h leg count m a;
    put = λ s leg came sent a h. puts s came sent h leg a;
    drawn = λ s leg came sent a. same_holds s (drawn s leg) came sent (same_drawn s leg);
    mark = λ s leg came sent a h. mark_row s leg came sent h;
    ping = λ s leg came sent a. same_holds s (proxy_rules.ping s leg) came sent (same_ping s leg);
  }

  passes : (moves : List Move) → AreAllowed proxy_rules (started (new_proxy config)) moves
      → (let p = all_moved proxy_rules (started (new_proxy config)) moves in
      HasClient p → ArePassed test put config.number p)
  passes moves allowed free =
      let p = all_moved proxy_rules (started (new_proxy config)) moves in
      let all = moves_keep_beside proxy_rules MayUp (Knows config) Holds keeps
      (knows_always config) (started (new_proxy config)) moves
      (allowed_rise proxy_rules MayUp (λ s leg may. may) (started (new_proxy config)) moves allowed)
      (knows_first config) (λ e. refl) free in
      let came = leg_counts os test p.came in
      let sent = leg_counts co put p.put in omega (arith, all, came, sent)

-- ---- kinds

c1_leads : Leads is_conn_c1 is_conn_c2
c1_leads = grind arith

in_r1_leads : Leads is_in_r1_a3 is_in_r1_a4
in_r1_leads = grind arith

in_r2_leads : Leads is_in_r2_a3 is_in_r2_a4
in_r2_leads = grind arith

a1_leads : Leads is_out_r1_a1 is_out_r1_a2
a1_leads = grind arith

a5_leads : Leads is_out_r1_a5 is_out_r1_a6
a5_leads = grind arith

pub out_forwards : (config : OutProxyConfig) (moves : List Move)
    → AreAllowed proxy_rules (started (new_proxy config)) moves
    → ForwardsAll config.number (all_moved proxy_rules (started (new_proxy config)) moves)
out_forwards config moves allowed free = record {
  connection = passes config is_conn_c1 is_conn_c2 c1_leads moves allowed free;
  in_r1 = passes config is_in_r1_a3 is_in_r1_a4 in_r1_leads moves allowed free;
  in_r2 = passes config is_in_r2_a3 is_in_r2_a4 in_r2_leads moves allowed free;
  wishes = passes config is_out_r1_a1 is_out_r1_a2 a1_leads moves allowed free;
  answers = passes config is_out_r1_a5 is_out_r1_a6 a5_leads moves allowed free;
}
