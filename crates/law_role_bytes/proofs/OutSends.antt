-- the window of an out proxy counts what it put on its co leg
use Rattle.law_order.proofs.Vocabulary.{◌≡◌, ℕ, ◌≤◌, ◌==◌, Bool, true, false, true≢false, ◌&&◌, List, [], ◌∷◌, ◌++◌, length, Some, None, Ok, Err, arith, refl, sym, ap, ◌∙◌, subst, rules, nat_tests, if◌then◌else◌, IfSome, Option}
use Rattle.rh_sig.specs.declared.named.Named.TheVariants as named
use Rattle.rh_shell.specs.declared.answers.Refused.TheVariants as refused
use Rattle.rh_outproxy.specs.declared.state.Channel.TheVariants as channels
use Rattle.rh_outproxy.specs.Acknowledging as acks
use Rattle.rh_outproxy.specs.Opening as opening
use Rattle.law_moves.proofs.Vocabulary.{Sender, may_send, after_acked, Ack, by_test, Cookie, TO_OUT_PROXY, Named, Leg, Count, Due, Message, Pdu, Packet, OnLeg, Move, started, all_moved, of_leg, pdu_bytes, count_of, one_if}
use Rattle.law_moves.proofs.Lemmas.{RowKeeps, PutKeeps, StepsKeep, leg_here, leg_is, leg_rises, moves_keep}
use Rattle.law_role_outproxy.proofs.Vocabulary.{Answer, Channel, OutProxyConfig, OutProxy, is_server_first, is_known, joined, new_proxy, opens, Done, is_co, is_os, is_first, same_cookie, unexpected, refuse, forwarded, passed_on, up, head, told_length, new_length, successor_length, on_out_r2_c1, conn_c1_by, first_packet, acked, on_ack, on_ack_to, ack_due, on_out_r1_a9, drawn, mark, on_end_b1, Pick, or_else, answer_by, put_answer, waiting_by, put_waiting, pdu_by, put_pdu}
use Rattle.law_role_outproxy.proofs.Vocabulary.{put_end, put_handover, put_mark, put_ping, next_co, first_by, put_first, ack_by, put_ack, next_os, put as put_of, pdu, packet, on_co, on_os, co_leg, rules as proxy_rules, OpensOnce}
use Rattle.law_role_outproxy.proofs.Sending.Legs.{bytes_here, bytes_still}
use Rattle.law_role_bytes.specs.Bytes.{CountsPut}

-- what the facts are about
record Seen : Type 0 where
  config : OutProxyConfig
  channel : Channel
  window : Sender

abbrev seen : OutProxy → Seen
seen s = record { config = s.config; channel = s.channel; window = s.window }

abbrev Same : OutProxy → OutProxy → Type 0
Same s t = seen t ≡ seen s

-- ---- what leaves these alone

same_up : (s : OutProxy) (leg : Leg) (cookie : Cookie) → Same s (up s leg cookie)
same_up s leg cookie = search rules

same_head : (s : OutProxy) (leg : Leg) (text : List ℕ) → Same s (head s leg text).0
same_head s leg text = search rules

same_pdu : (s : OutProxy) (leg : Leg) (count : Count) (bytes : List ℕ)
    → Same s (pdu s leg count bytes).0
same_pdu s leg count bytes = search rules

same_c1 : (s : OutProxy) (count : Count) → Same s (on_out_r2_c1 s count).0
same_c1 s count = search rules

same_forwarded : (s : OutProxy) (m : Named) → Same s (forwarded s m).0
same_forwarded s m = search rules

same_passed : (s : OutProxy) (to : ℕ) (m : Named) → Same s (passed_on s to m).0
same_passed s to m = search rules

same_a9 : (s : OutProxy) → Same s (on_out_r1_a9 s).0
same_a9 s = search rules

same_end : (s : OutProxy) → Same s (on_end_b1 s).0
same_end s = search rules

same_drawn : (s : OutProxy) (leg : Leg) → Same s (drawn s leg)
same_drawn s leg = search rules

same_mark : (s : OutProxy) (leg : Leg) → Same s (mark s leg)
same_mark s leg = search rules

acked_sent : (w : Sender) (received available : ℕ)
    → (after_acked w received available).sent ≡ w.sent
acked_sent w received available = search rules

acked_rises : (w : Sender) (received available : ℕ)
    → w.edge ≤ (after_acked w received available).edge
acked_rises w received available = search rules

-- a channel that the proxy joined is known
joined_known : (c : Channel) → IfSome (joined c) (λ (cookie : Cookie). is_known c ≡ true)
joined_known channels.Unknown = tt
joined_known (channels.New connection cookie) = tt
joined_known (channels.Joined connection cookie) = refl
joined_known (channels.Successor connection predecessor cookie) = refl

module _ (config : OutProxyConfig) where
  abbrev co : Leg
  co = co_leg config.number

  -- it sends within the edge; none is known before a packet opened the channel
  record Sends (x : Seen) (came put : List OnLeg) : Type 0 where
    made : x.config ≡ config
    within : x.window.sent ≤ x.window.edge
    counted : OpensOnce config.number came → x.window.sent ≡ pdu_bytes (of_leg co put)
    shut : is_known x.channel ≡ false → x.window.edge ≡ 0
    begun : is_known x.channel ≡ true → 1 ≤ count_of opens (of_leg co came)

  abbrev Holds : OutProxy → List OnLeg → List OnLeg → Type 0
  Holds s came put = Sends (seen s) came put

  same_holds : (s t : OutProxy) (came put : List OnLeg) → Same s t → Holds s came put
      → Holds t came put
  same_holds s t came put same h = subst (λ (x : Seen). Sends x came put) (sym same) h

  is_client : (s : OutProxy) (leg : Leg) → s.config ≡ config → is_co s leg ≡ true → co ≡ leg
  is_client s leg made e =
      ap (λ (c : OutProxyConfig). co_leg c.number) (sym made)
      ∙ leg_is (co_leg s.config.number) leg e

  -- ---- rows

  came_more : (x : Seen) (came put : List OnLeg) (one : OnLeg) → Sends x came put
      → Sends x (came ++ one ∷ []) put
  came_more x came put one h =
      let rise = leg_rises opens co came one in record {
        made = h.made;
        within = h.within;
        counted = λ once. h.counted (omega (arith, rise, once));
        shut = h.shut;
        begun = λ e. let before = h.begun e in omega (arith, before, rise);
      }

  row_on : (one : OnLeg) (came put : List OnLeg) (x : Done) → Holds x.0 came put
      → RowKeeps Holds one came put x
  row_on one came put (t, Ok taken) h = came_more (seen t) came put one h
  row_on one came put (t, Err why) h = h

  -- a packet opens the channel
  opened : (s t : OutProxy) (came put : List OnLeg) (m : Named) → opens m ≡ true
      → t.config ≡ s.config → t.window.sent ≡ 0 → is_known t.channel ≡ true → Holds s came put
      → Holds t (came ++ (co, Packet m) ∷ []) put
  opened s t came put m opens_now same none known h =
      let all = leg_here opens co came m in
      let one : one_if (opens m) ≡ 1 = ap one_if opens_now in record {
        made = same ∙ h.made;
        within = omega (arith, none);
        counted = λ once. none ∙ nothing (omega (arith, all, one, once));
        shut = λ e. absurd (true≢false (sym known ∙ e));
        begun = λ e. omega (arith, all, one);
      }
    where
      unknown : count_of opens (of_leg co came) ≡ 0 → is_known s.channel ≡ false
      unknown zero = by (is_known s.channel) refl
        where
          by : (b : Bool) → is_known s.channel ≡ b → b ≡ false
          by true e = absurd (let some = h.begun e in omega (arith, some, zero))
          by false e = refl

      nothing : count_of opens (of_leg co came) ≡ 0 → 0 ≡ pdu_bytes (of_leg co put)
      nothing zero =
          let counted = h.counted (omega (arith, zero)) in
          let within = h.within in
          let shut = h.shut (unknown zero) in omega (arith, counted, within, shut)

  module _ (s : OutProxy) (came put : List OnLeg) (h : Holds s came put) where
    abbrev Row : Leg → Named → Done → Type 0
    Row leg m x = RowKeeps Holds (leg, Packet m) came put x

    co_row : (count : Count) (m : Named) → Row co m (on_co s count m)
    co_row count (named.ConnA1 version connection cookie size) =
        by_test (Row co (named.ConnA1 version connection cookie size))
        (is_first count && told_length s.request new_length) _ (unexpected s)
        (λ e. opened s (opening.opened s (channels.New connection cookie) size) came put
        (named.ConnA1 version connection cookie size) refl refl refl refl h)
        (λ e. h)
    co_row count (named.OutR1A3 version connection predecessor cookie size) =
        by_test (Row co (named.OutR1A3 version connection predecessor cookie size))
        (is_first count && told_length s.request successor_length) _ (unexpected s)
        (λ e. opened s
        (opening.opened s (channels.Successor connection predecessor cookie) size) came put
        (named.OutR1A3 version connection predecessor cookie size) refl refl refl refl h)
        (λ e. h)
    co_row count named.OutR2C1 =
        row_on (co, Packet named.OutR2C1) came put (on_out_r2_c1 s count)
        (same_holds s (on_out_r2_c1 s count).0 came put (same_c1 s count) h)
    co_row count m = h

    -- ---- on the server's leg

    c1_kept : (c : Channel) → s.channel ≡ c → (version size timeout : ℕ)
        → Holds (conn_c1_by c s version size timeout).0 came put
    c1_kept channels.Unknown is version size timeout = h
    c1_kept (channels.New connection cookie) is version size timeout =
        same_holds t (forwarded t (named.ConnC2 version size timeout)).0 came put
        (same_forwarded t (named.ConnC2 version size timeout)) (record {
          made = h.made;
          within = h.within;
          counted = h.counted;
          shut = λ e. absurd cc;
          begun = λ e. h.begun (ap is_known is);
        })
      where
        t : OutProxy
        t = record s { channel = channels.Joined connection cookie }
    c1_kept (channels.Joined connection cookie) is version size timeout = h
    c1_kept (channels.Successor connection predecessor cookie) is version size timeout = h

    acked_kept : (received available : ℕ) → is_known s.channel ≡ true
        → Holds (acked s received available).0 came put
    acked_kept received available known = record {
      made = h.made;
      within =
          let sent = acked_sent s.window received available in
          let rises = acked_rises s.window received available in
          let within = h.within in omega (arith, sent, rises, within);
      counted = λ once. acked_sent s.window received available ∙ h.counted once;
      shut = λ e. absurd (true≢false (sym known ∙ e));
      begun = h.begun;
    }

    -- of the channel that the proxy joined
    ack_kept : (o : Option Cookie) → IfSome o (λ (cookie : Cookie). is_known s.channel ≡ true)
        → (received available : ℕ) (other : Cookie)
        → Holds (acks.ack_by o s received available other).0 came put
    ack_kept None known received available other = h
    ack_kept (Some cookie) known received available other =
        by_test (λ (x : Done). Holds x.0 came put) (same_cookie cookie other)
        (acked s received available) (refuse s (refused.Cookie cookie other))
        (λ e. acked_kept received available known) (λ e. h)

    passed_kept : (to : ℕ) (other : Named) → Holds (passed_on s to other).0 came put
    passed_kept to other =
        same_holds s (passed_on s to other).0 came put (same_passed s to other) h

    ack_to_kept : (to received available : ℕ) (cookie : Cookie)
        → Holds (on_ack_to s to received available cookie).0 came put
    ack_to_kept to received available cookie =
        by_test (λ (x : Done). Holds x.0 came put) (to == TO_OUT_PROXY)
        (on_ack s received available cookie)
        (passed_on s to (named.AckTo 0 received available cookie))
        (λ e. ack_kept (joined s.channel) (joined_known s.channel) received available cookie)
        (λ e. passed_kept to (named.AckTo 0 received available cookie))

    os_kept : (m : Named) → Holds (on_os s m).0 came put
    os_kept (named.ConnC1 version size timeout) = c1_kept s.channel refl version size timeout
    os_kept (named.AckTo to received available cookie) = ack_to_kept to received available cookie
    os_kept (named.InR1A3 to version size timeout) =
        passed_kept to (named.InR1A4 0 version size timeout)
    os_kept (named.InR2A3 to) = passed_kept to (named.InR2A4 0)
    os_kept (named.OutR1A1 to) = passed_kept to (named.OutR1A2 0)
    os_kept (named.OutR1A5 to version timeout) = passed_kept to (named.OutR1A6 0 version timeout)
    os_kept named.OutR1A9 = same_holds s (on_out_r1_a9 s).0 came put (same_a9 s) h
    os_kept named.EndB1 = same_holds s (on_end_b1 s).0 came put (same_end s) h
    os_kept m = h

    packet_row : (leg : Leg) (count : Count) (m : Named) → Row leg m (packet s leg count m)
    packet_row leg count m =
        by_test (Row leg m) (is_co s leg) (on_co s count m)
        (if is_os s leg then on_os s m else unexpected s)
        (λ e. subst (λ (l : Leg). Row l m (on_co s count m)) (is_client s leg h.made e)
        (co_row count m))
        (λ e. by_test (Row leg m) (is_os s leg) (on_os s m) (unexpected s)
        (λ f. row_on (leg, Packet m) came put (on_os s m) (os_kept m)) (λ f. h))

  -- ---- what is put

  or_put : (leg : Leg) (came put : List OnLeg) (a b : Pick) → PutKeeps Holds leg came put a
      → PutKeeps Holds leg came put b → PutKeeps Holds leg came put (or_else a b)
  or_put leg came put None b h k = k
  or_put leg came put (Some pick) b h k = h

  -- no PDU
  abbrev IsQuiet : OutProxy → Pick → Type 0
  IsQuiet s pick =
      IfSome pick (λ (one : OutProxy × Message). Same s one.0 × (pdu_bytes (one.1 ∷ []) ≡ 0))

  quiet_answer : (s : OutProxy) (a : Answer) → IsQuiet s (answer_by a s)
  quiet_answer s a = search rules

  quiet_waiting : (s : OutProxy) (dues : List Due) → IsQuiet s (waiting_by s dues)
  quiet_waiting s dues = search rules

  quiet_end : (s : OutProxy) → IsQuiet s (put_end s)
  quiet_end s = search rules

  quiet_handover : (s : OutProxy) → IsQuiet s (put_handover s)
  quiet_handover s = search rules

  quiet_ping : (s : OutProxy) → IsQuiet s (put_ping s)
  quiet_ping s = search rules

  quiet_first : (s : OutProxy) (c : Channel) → IsQuiet s (first_by s (first_packet s c))
  quiet_first s c = search rules

  quiet_ack : (s : OutProxy) (o : Option Cookie) (a : Option Ack) → IsQuiet s (ack_by s o a)
  quiet_ack s o a = search rules

  module _ (s : OutProxy) (came put : List OnLeg) (h : Holds s came put) where
    quiet_put : (leg : Leg) (pick : Pick) → IsQuiet s pick → PutKeeps Holds leg came put pick
    quiet_put leg None quiet = tt
    quiet_put leg (Some one) quiet =
        let k = same_holds s one.0 came put quiet.0 h in record {
          made = k.made;
          within = k.within;
          counted = λ once. k.counted once ∙ sym (bytes_still co put (leg, one.1) quiet.1);
          shut = k.shut;
          begun = k.begun;
        }

    front_put : (pdus : List (List ℕ)) → PutKeeps Holds co came put (pdu_by s pdus)
    front_put [] = tt
    front_put (pdu ∷ pdus) =
        by_test (PutKeeps Holds co came put) (may_send s.window (length pdu)) _ None
        (λ may. record {
          made = h.made;
          within = grind (arith, nat_tests, may);
          counted = λ once.
              let before = h.counted once in
              let all = bytes_here co put (Pdu pdu) in omega (arith, before, all);
          shut = h.shut;
          begun = h.begun;
        })
        (λ e. tt)

    co_put : PutKeeps Holds co came put (next_co s)
    co_put =
        or_put co came put (put_answer s) _ (quiet_put co (put_answer s) (quiet_answer s s.answer))
        (or_put co came put (put_waiting s) _
        (quiet_put co (put_waiting s) (quiet_waiting s s.waiting.due))
        (or_put co came put (put_pdu s) _ (front_put s.line.current.pdus)
        (or_put co came put (put_mark s) (put_ping s)
        (or_put co came put (put_end s) (put_handover s)
        (quiet_put co (put_end s) (quiet_end s))
        (quiet_put co (put_handover s) (quiet_handover s)))
        (quiet_put co (put_ping s) (quiet_ping s)))))

    os_put : (leg : Leg) → PutKeeps Holds leg came put (next_os s)
    os_put leg =
        or_put leg came put (put_first s) (put_ack s)
        (by_test (PutKeeps Holds leg came put) (is_server_first s.server)
        (first_by s (first_packet s s.channel)) None
        (λ e. quiet_put leg (first_by s (first_packet s s.channel)) (quiet_first s s.channel))
        (λ e. tt))
        (quiet_put leg (put_ack s) (quiet_ack s (joined s.channel) (ack_due s)))

    puts : (leg : Leg) → PutKeeps Holds leg came put (put_of s leg)
    puts leg =
        by_test (PutKeeps Holds leg came put) (is_co s leg) (next_co s)
        (if is_os s leg then next_os s else None)
        (λ e. subst (λ (l : Leg). PutKeeps Holds l came put (next_co s))
        (is_client s leg h.made e) co_put)
        (λ e. by_test (PutKeeps Holds leg came put) (is_os s leg) (next_os s) None
        (λ f. os_put leg) (λ f. tt))

  -- ---- the role

  keeps : StepsKeep proxy_rules Holds
  keeps = record {
    up = λ s leg cookie came put.
        same_holds s (up s leg cookie) came put (same_up s leg cookie);
    head = λ s leg text came put. same_holds s (head s leg text).0 came put (same_head s leg text);
    pdu = λ s leg count bytes came put h.
        row_on (leg, Pdu bytes) came put (pdu s leg count bytes)
        (same_holds s (pdu s leg count bytes).0 came put (same_pdu s leg count bytes) h);
    packet = λ s leg count m came put h. packet_row s came put h leg count m;
    put = λ s leg came put h. puts s came put h leg;
    drawn = λ s leg came put. same_holds s (drawn s leg) came put (same_drawn s leg);
    mark = λ s leg came put. same_holds s (mark s leg) came put (same_mark s leg);
    ping = λ s leg came put h. h;
  }

pub out_proxy_sent : (config : OutProxyConfig) (moves : List Move)
    → (let p = all_moved proxy_rules (started (new_proxy config)) moves in
    OpensOnce config.number p.came → CountsPut (co_leg config.number) p.put p.role.window)
out_proxy_sent config moves =
    (moves_keep proxy_rules (Holds config) (keeps config) (started (new_proxy config)) moves
    (record {
      made = refl;
      within = omega arith;
      counted = λ once. refl;
      shut = λ e. refl;
      begun = λ e. absurd cc;
    })).counted
