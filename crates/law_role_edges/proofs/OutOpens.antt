-- an out proxy tells the server of its channel, or is to
use Rattle.law_order.proofs.Vocabulary.{◌≡◌, ℕ, ◌==◌, ◌+◌, Bool, true, false, true≢false, ◌&&◌, List, [], ◌∷◌, ◌++◌, Some, None, Ok, Err, arith, refl, sym, ap, ◌∙◌, subst, if◌then◌else◌, IfSome, Option}
use Rattle.rh_sig.specs.declared.named.Named.TheVariants as named
use Rattle.rh_outproxy.specs.declared.state.Answer.TheVariants as answers
use Rattle.rh_outproxy.specs.declared.state.Channel.TheVariants as channels
use Rattle.rh_outproxy.specs.declared.state.ClientLeg.TheVariants as clients
use Rattle.rh_outproxy.specs.declared.state.ServerLeg.TheVariants as servers
use Rattle.law_moves.proofs.Vocabulary.{Sender, unsent, by_test, Cookie, Named, Leg, Count, Message, Pdu, Packet, one_if, OnLeg, Move, Ack, started, all_moved, AreAllowed, of_leg, count_of}
use Rattle.law_moves.proofs.Lemmas.{PutKeeps, RowKeeps, allowed_rise, leg_here, leg_rises}
use Rattle.law_role_outproxy.proofs.Vocabulary.{Channel, OutProxyConfig, OutProxy, is_known, is_server_down, is_server_first, is_server_marked, joined, new_proxy, Done, is_co, is_os, unexpected, told_length, new_length, successor_length, is_first as comes_first, passed_on, up, head, conn_c1_by, first_packet, on_ack, on_ack_to, on_end_b1, on_out_r1_a9, on_out_r2_c1, forwarded, ack_due, drawn, mark, Pick, or_else, first_by, put_first, ack_by, put_ack, next_co, next_os, put as put_of, pdu, packet, on_co, on_os, rules as proxy_rules}
use Rattle.law_role_outproxy.specs.Sending.{OpensOnce, co_leg, opens, os_leg}
use Rattle.law_role_edges.proofs.Beside.{KeepBeside, moves_keep_beside}
use Rattle.law_role_edges.proofs.OutKnows.{Holds as Knows, is_client, knows_always, knows_first, opened_by}
use Rattle.law_role_edges.proofs.OutLegs.{MayUp, up_is_wanted}
use Rattle.law_role_edges.proofs.OutOwing.{IsQuiet, Leads, Same, Seen, channel_owes, down_is, first_is, owed, owed_by, quiet_ack, quiet_co, same_a9, same_c1, same_drawn, same_end, same_forwarded, same_head, same_on_ack, same_passed, same_pdu, same_ping, seen, unknown_owes}
use Rattle.law_role_edges.proofs.OutTells.{is_server}
use Rattle.law_role_edges.proofs.Sums.{at, leg_counts, sum_more, sum_on, worth_here, worth_none, worth_on}
use Rattle.law_role_edges.specs.Openings.{is_unbegun}

module _ (config : OutProxyConfig) (test put : Named → Bool) (leads : Leads test put) where
  abbrev co : Leg
  co = co_leg config.number

  abbrev os : Leg
  os = os_leg config.number

  -- while nothing opened the channel nothing goes to the server; and where one packet opened it,
  -- what came was put or is due, as long as the server's leg was not lost
  record Opens (x : Seen) (came sent : List OnLeg) : Type 0 where
    idle : opened_by config came ≡ 0 → is_server_marked x.server ≡ false
        → is_server_down x.server ≡ true
    even : OpensOnce config.number came → is_server_marked x.server ≡ false
        → sum_on (at co) test came ≡ sum_on (at os) put sent + owed put x

  abbrev Holds : OutProxy → List OnLeg → List OnLeg → Type 0
  Holds s came sent = Opens (seen s) came sent

  same_holds : (s t : OutProxy) (came sent : List OnLeg) → Same s t → Holds s came sent
      → Holds t came sent
  same_holds s t came sent same h = subst (λ (x : Seen). Opens x came sent) (sym same) h

  module _ (s : OutProxy) (came sent : List OnLeg) (a : Knows config s came sent)
      (h : Holds s came sent) where
    -- ---- legs that come up

    server_up : (is_known s.channel ≡ true) × (is_server_down s.server ≡ true)
        → Holds (record s { server = servers.FirstDue; answer = answers.ResponseDue }) came sent
    server_up both = record {
      idle = λ fresh free. absurd (true≢false (sym both.0 ∙ (a.none fresh).0));
      even = λ once free.
          let down = down_is s.server both.1 in
          let was = h.even once down.1 in
          let owes = ap (λ (t : Bool). owed_by put t s.config s.channel) down.0 in
          omega (arith, was, owes);
    }

    up_row : (leg : Leg) (cookie : Cookie) → MayUp s leg → Holds (up s leg cookie) came sent
    up_row leg cookie may =
        by_test (λ (t : OutProxy). Holds t came sent) (is_co s leg)
        (record s { client = clients.Up })
        (record s { server = servers.FirstDue; answer = answers.ResponseDue })
        (λ e. same_holds s (record s { client = clients.Up }) came sent refl h)
        (λ e. server_up (up_is_wanted s leg may e))

    -- ---- what comes

    abbrev Row : Leg → Named → Done → Type 0
    Row leg m x = RowKeeps Holds (leg, Packet m) came sent x

    before : (leg : Leg) (m : Message) → opened_by config (came ++ (leg, m) ∷ []) ≡ 0
        → opened_by config came ≡ 0
    before leg m fresh =
        let rise = leg_rises opens co came (leg, m) in omega (arith, fresh, rise)

    before_once : (leg : Leg) (m : Message) → OpensOnce config.number (came ++ (leg, m) ∷ [])
        → OpensOnce config.number came
    before_once leg m once =
        let rise = leg_rises opens co came (leg, m) in omega (arith, once, rise)

    -- what leaves alone what is owed
    like : (t : OutProxy) → t.server ≡ s.server → owed put (seen t) ≡ owed put (seen s)
        → Holds t came sent
    like t server owes = record {
      idle = λ fresh free.
          ap is_server_down server ∙ h.idle fresh (ap is_server_marked (sym server) ∙ free);
      even = λ once free.
          let was = h.even once (ap is_server_marked (sym server) ∙ free) in
          omega (arith, was, owes);
    }

    like_more : (leg : Leg) (m : Message) (t : OutProxy) → t.server ≡ s.server
        → owed put (seen t) ≡ owed put (seen s) → worth_on (at co) test (leg, m) ≡ 0
        → Holds t (came ++ (leg, m) ∷ []) sent
    like_more leg m t server owes none = record {
      idle = λ fresh free.
          ap is_server_down server
          ∙ h.idle (before leg m fresh) (ap is_server_marked (sym server) ∙ free);
      even = λ once free.
          let was = h.even (before_once leg m once) (ap is_server_marked (sym server) ∙ free) in
          let all = sum_more (at co) test came (leg, m) in omega (arith, was, all, none, owes);
    }

    like_row : (leg : Leg) (m : Message) (x : Done) → worth_on (at co) test (leg, m) ≡ 0
        → x.0.server ≡ s.server → owed put (seen x.0) ≡ owed put (seen s)
        → RowKeeps Holds (leg, m) came sent x
    like_row leg m (t, Ok taken) none server owes = like_more leg m t server owes none
    like_row leg m (t, Err why) none server owes = like t server owes

    same_row : (leg : Leg) (m : Message) (x : Done) → worth_on (at co) test (leg, m) ≡ 0
        → Same s x.0 → RowKeeps Holds (leg, m) came sent x
    same_row leg m x none same =
        like_row leg m x none (ap (λ (y : Seen). y.server) same) (ap (owed put) same)

    -- a packet that opens the channel
    opened_row : (m : Named) (c : Channel) (w : Sender) → opens m ≡ true
        → channel_owes put s.config c ≡ one_if (test m)
        → Holds (record s { channel = c; window = w }) (came ++ (co, Packet m) ∷ []) sent
    opened_row m c w opening owes = record {
      idle = λ fresh free. absurd (omega (arith, here, one, fresh));
      even = λ once free.
          let none : opened_by config came ≡ 0 = omega (arith, here, one, once) in
          let down = h.idle none free in
          let was = h.even (omega (arith, none)) free in
          let nothing = unknown_owes put (is_unbegun s.server) s.config s.channel
          (a.none none).0 in
          let now = ap (λ (t : Bool). owed_by put t s.config c) (down_is s.server down).0 in
          let all = sum_more (at co) test came (co, Packet m) in
          let worth = worth_here co test (Packet m) in
          omega (arith, was, nothing, now, all, worth, owes);
    }
      where
        here : opened_by config (came ++ (co, Packet m) ∷ [])
            ≡ opened_by config came + one_if (opens m)
        here = leg_here opens co came m

        one : one_if (opens m) ≡ 1
        one = ap one_if opening

    co_row : (count : Count) (m : Named) → Row co m (on_co s count m)
    co_row count (named.ConnA1 version connection cookie size) =
        by_test (Row co (named.ConnA1 version connection cookie size))
        (comes_first count && told_length s.request new_length) _ (unexpected s)
        (λ e. opened_row (named.ConnA1 version connection cookie size)
        (channels.New connection cookie) (unsent size) refl
        (ap one_if (leads.connects version size s.config.lifetime s.config.window connection
        cookie)))
        (λ e. h)
    co_row count (named.OutR1A3 version connection predecessor cookie size) =
        by_test (Row co (named.OutR1A3 version connection predecessor cookie size))
        (comes_first count && told_length s.request successor_length) _ (unexpected s)
        (λ e. opened_row (named.OutR1A3 version connection predecessor cookie size)
        (channels.Successor connection predecessor cookie) (unsent size) refl
        (ap one_if (leads.replaces version size s.config.lifetime s.config.window
        s.config.timeout connection predecessor cookie)))
        (λ e. h)
    co_row count named.OutR2C1 =
        same_row co (Packet named.OutR2C1) (on_out_r2_c1 s count)
        (worth_none (at co) test co (Packet named.OutR2C1) (ap one_if leads.second))
        (same_c1 s count)
    co_row count m = h

    -- ---- from the server

    c1_row : (version size timeout : ℕ) (c : Channel) → s.channel ≡ c
        → Row os (named.ConnC1 version size timeout) (conn_c1_by c s version size timeout)
    c1_row version size timeout channels.Unknown e = h
    c1_row version size timeout (channels.Joined connection cookie) e = h
    c1_row version size timeout (channels.Successor connection predecessor cookie) e = h
    c1_row version size timeout (channels.New connection cookie) e =
        let t : OutProxy = record s { channel = channels.Joined connection cookie } in
        let m : Named = named.ConnC2 version size timeout in
        let same = same_forwarded t m in
        like_row os (Packet (named.ConnC1 version size timeout)) (forwarded t m) refl
        (ap (λ (y : Seen). y.server) same)
        (ap (owed put) same
        ∙ ap (λ (c : Channel). owed_by put (is_unbegun s.server) s.config c) (sym e))

    ack_to_row : (to received available : ℕ) (cookie : Cookie)
        → Row os (named.AckTo to received available cookie)
        (on_ack_to s to received available cookie)
    ack_to_row to received available cookie =
        by_test (Row os (named.AckTo to received available cookie)) (to == 3)
        (on_ack s received available cookie)
        (passed_on s to (named.AckTo 0 received available cookie))
        (λ e. same_row os (Packet (named.AckTo to received available cookie))
        (on_ack s received available cookie) refl (same_on_ack s received available cookie))
        (λ e. same_row os (Packet (named.AckTo to received available cookie))
        (passed_on s to (named.AckTo 0 received available cookie)) refl
        (same_passed s to (named.AckTo 0 received available cookie)))

    passed_row : (m other : Named) (to : ℕ) → Row os m (passed_on s to other)
    passed_row m other to =
        same_row os (Packet m) (passed_on s to other) refl (same_passed s to other)

    os_row : (m : Named) → Row os m (on_os s m)
    os_row (named.ConnC1 version size timeout) = c1_row version size timeout s.channel refl
    os_row (named.AckTo to received available cookie) =
        ack_to_row to received available cookie
    os_row (named.InR1A3 to version size timeout) =
        passed_row (named.InR1A3 to version size timeout) (named.InR1A4 0 version size timeout) to
    os_row (named.InR2A3 to) = passed_row (named.InR2A3 to) (named.InR2A4 0) to
    os_row (named.OutR1A1 to) = passed_row (named.OutR1A1 to) (named.OutR1A2 0) to
    os_row (named.OutR1A5 to version timeout) =
        passed_row (named.OutR1A5 to version timeout) (named.OutR1A6 0 version timeout) to
    os_row named.OutR1A9 =
        same_row os (Packet named.OutR1A9) (on_out_r1_a9 s) refl (same_a9 s)
    os_row named.EndB1 = same_row os (Packet named.EndB1) (on_end_b1 s) refl (same_end s)
    os_row m = h

    packet_row : (leg : Leg) (count : Count) (m : Named) → Row leg m (packet s leg count m)
    packet_row leg count m =
        by_test (Row leg m) (is_co s leg) (on_co s count m)
        (if is_os s leg then on_os s m else unexpected s)
        (λ e. subst (λ (l : Leg). Row l m (on_co s count m)) (is_client config s leg a.is e)
        (co_row count m))
        (λ e. by_test (Row leg m) (is_os s leg) (on_os s m) (unexpected s)
        (λ f. subst (λ (l : Leg). Row l m (on_os s m)) (is_server config s leg a.is f)
        (os_row m)) (λ f. h))

    -- ---- what is put

    quiet_put : (leg : Leg) (pick : Pick) → IsQuiet s pick
        → IfSome pick (λ (one : OutProxy × Message). worth_on (at os) put (leg, one.1) ≡ 0)
        → PutKeeps Holds leg came sent pick
    quiet_put leg None same none = tt
    quiet_put leg (Some one) same none =
        let k = same_holds s one.0 came sent same h in
        let all = sum_more (at os) put sent (leg, one.1) in
        record {
          idle = k.idle;
          even = λ once free. let was = k.even once free in omega (arith, was, all, none);
        }

    beside : (pick : Pick)
        → IfSome pick (λ (one : OutProxy × Message). worth_on (at os) put (co, one.1) ≡ 0)
    beside None = tt
    beside (Some one) = refl

    first_put : (c : Channel) (m : Named) → s.channel ≡ c → is_server_first s.server ≡ true
        → channel_owes put s.config c ≡ one_if (put m)
        → PutKeeps Holds os came sent (Some (record s { server = servers.Up }, Packet m))
    first_put c m e first owes =
        let stage = first_is s.server first in
        record {
          idle = λ fresh free.
              absurd (true≢false (sym (h.idle fresh stage.1) ∙ stage.2));
          even = λ once free.
              let was = h.even once stage.1 in
              let early = ap (λ (t : Bool). owed_by put t s.config s.channel) stage.0 in
              let channel = ap (channel_owes put s.config) e in
              let here = worth_here os put (Packet m) in
              let all = sum_more (at os) put sent (os, Packet m) in
              omega (arith, was, early, channel, here, all, owes);
        }

    first_row : (c : Channel) → s.channel ≡ c → is_server_first s.server ≡ true
        → PutKeeps Holds os came sent (first_by s (first_packet s c))
    first_row channels.Unknown e first = tt
    first_row (channels.New connection cookie) e first =
        first_put (channels.New connection cookie)
        (named.ConnA2 1 connection cookie s.config.lifetime s.config.window) e first refl
    first_row (channels.Joined connection cookie) e first =
        first_put (channels.Joined connection cookie)
        (named.ConnA2 1 connection cookie s.config.lifetime s.config.window) e first refl
    first_row (channels.Successor connection predecessor cookie) e first =
        first_put (channels.Successor connection predecessor cookie)
        (named.OutR1A4 1 connection predecessor cookie s.config.lifetime s.config.window
        s.config.timeout) e first refl

    no_worth : (o : Option Cookie) (ack : Option Ack) → IfSome (ack_by s o ack)
        (λ (one : OutProxy × Message). worth_on (at os) put (os, one.1) ≡ 0)
    no_worth None ack = tt
    no_worth (Some cookie) None = tt
    no_worth (Some cookie) (Some ack) =
        worth_none (at os) put os (Packet (named.Ack ack.received ack.available cookie))
        (ap one_if (leads.acks ack.received ack.available cookie))

    or_put : (leg : Leg) (one other : Pick) → PutKeeps Holds leg came sent one
        → PutKeeps Holds leg came sent other → PutKeeps Holds leg came sent (or_else one other)
    or_put leg None other g k = k
    or_put leg (Some pick) other g k = g

    os_put : PutKeeps Holds os came sent (next_os s)
    os_put =
        or_put os (put_first s) (put_ack s)
        (by_test (PutKeeps Holds os came sent) (is_server_first s.server)
        (first_by s (first_packet s s.channel)) None (λ e. first_row s.channel refl e) (λ e. tt))
        (quiet_put os (put_ack s) (quiet_ack s (joined s.channel) (ack_due s))
        (no_worth (joined s.channel) (ack_due s)))

    puts : (leg : Leg) → PutKeeps Holds leg came sent (put_of s leg)
    puts leg =
        by_test (PutKeeps Holds leg came sent) (is_co s leg) (next_co s)
        (if is_os s leg then next_os s else None)
        (λ e. subst (λ (l : Leg). PutKeeps Holds l came sent (next_co s))
        (is_client config s leg a.is e)
        (quiet_put co (next_co s) (quiet_co s) (beside (next_co s))))
        (λ e. by_test (PutKeeps Holds leg came sent) (is_os s leg) (next_os s) None
        (λ f. subst (λ (l : Leg). PutKeeps Holds l came sent (next_os s))
        (is_server config s leg a.is f) os_put) (λ f. tt))

  -- ---- the role

  mark_row : (s : OutProxy) (leg : Leg) (came sent : List OnLeg) → Holds s came sent
      → Holds (mark s leg) came sent
  mark_row s leg came sent h =
      by_test (λ (t : OutProxy). Holds t came sent) (is_co s leg)
      (record s { client = clients.Marked }) (record s { server = servers.Marked })
      (λ e. same_holds s (record s { client = clients.Marked }) came sent refl h)
      (λ e. record { idle = λ fresh free. absurd cc; even = λ once free. absurd cc })

  keeps : KeepBeside proxy_rules MayUp (Knows config) Holds
  keeps = record {
    up = λ s leg cookie came sent may a h. up_row s came sent a h leg cookie may;
    head = λ s leg text came sent a.
        same_holds s (head s leg text).0 came sent (same_head s leg text);
    pdu = λ s leg count bytes came sent a h.
        same_row s came sent a h leg (Pdu bytes) (pdu s leg count bytes)
        (worth_none (at co) test leg (Pdu bytes) refl) (same_pdu s leg count bytes);
    packet = λ s leg count m came sent a h. packet_row s came sent a h leg count m;
    put = λ s leg came sent a h. puts s came sent a h leg;
    drawn = λ s leg came sent a. same_holds s (drawn s leg) came sent (same_drawn s leg);
    mark = λ s leg came sent a h. mark_row s leg came sent h;
    ping = λ s leg came sent a. same_holds s (proxy_rules.ping s leg) came sent (same_ping s leg);
  }

  pub opened : (moves : List Move) → AreAllowed proxy_rules (started (new_proxy config)) moves
      → (let p = all_moved proxy_rules (started (new_proxy config)) moves in
      OpensOnce config.number p.came → is_server_marked p.role.server ≡ false
      → count_of test (of_leg co p.came) ≡ count_of put (of_leg os p.put) + owed put (seen p.role))
  opened moves allowed once free =
      let p = all_moved proxy_rules (started (new_proxy config)) moves in
      let all = (moves_keep_beside proxy_rules MayUp (Knows config) Holds keeps
      (knows_always config) (started (new_proxy config)) moves
      (allowed_rise proxy_rules MayUp (λ s leg may. may) (started (new_proxy config)) moves allowed)
      (knows_first config) (record { idle = λ fresh free. refl; even = λ once free. refl })).even once
      free in
      let came = leg_counts co test p.came in
      let sent = leg_counts os put p.put in omega (arith, all, came, sent)
