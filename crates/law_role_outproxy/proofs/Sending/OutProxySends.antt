-- an out proxy sends to its client within the window there
use Rattle.law_order.proofs.Vocabulary.{◌≡◌, ℕ, ◌==◌, Bool, true, false, ◌&&◌, List, [], ◌∷◌, length, Some, None, Ok, Err, inl, ◌<◌, ◌⊎◌, arith, refl, sym, ◌∙◌, ap, subst, rules, eqb-true, bytes_eq-Decides, if◌then◌else◌, IfSome, Option, Result}
use Rattle.rh_sig.specs.declared.named.Named.TheVariants as named
use Rattle.rh_shell.specs.declared.answers.Refused.TheVariants as refused
use Rattle.rh_outproxy.specs.declared.state.Channel.TheVariants as channels
use Rattle.rh_outproxy.specs.Acknowledging as acks
use Rattle.law_moves.proofs.Vocabulary.{Sender, may_send, after_acked, ack_verdict, BadAck, GREATEST_WINDOW, Ack, by_test, Cookie, TO_OUT_PROXY, Named, Leg, Count, Due, Message, Pdu, Packet, OnLeg, Move, started, all_moved, of_leg, pdu_bytes, HasBegunOut}
use Rattle.law_moves.proofs.Lemmas.{RowKeeps, PutKeeps, StepsKeep, moves_keep, leg_is}
use Rattle.law_role_outproxy.proofs.Vocabulary.{Answer, Channel, OutProxyConfig, OutProxy, is_server_first, is_known, joined, new_proxy, Done, is_co, is_os, is_first, same_cookie, unexpected, refuse, forwarded, passed_on, up, head, told_length, new_length, successor_length, on_out_r2_c1, conn_c1_by, first_packet, acked, on_ack, on_ack_to, ack_due, ack_row, on_out_r1_a9, drawn, mark, on_end_b1, Pick, or_else, answer_by, put_answer, waiting_by, put_waiting, pdu_by, put_pdu}
use Rattle.law_role_outproxy.proofs.Vocabulary.{put_end, put_handover, put_mark, put_ping, next_co, first_by, put_first, ack_by, put_ack, next_os, put as put_of, pdu, packet, on_co, on_os, rules as proxy_rules, OpensOnce, RefusesFalseAcks, IsInRange, IsNoWindow, SendsWithin}
use Rattle.law_role_outproxy.proofs.Sending.Windows.{refused_same, IsFalse, verdict_false}
use Rattle.law_role_outproxy.proofs.Sending.Sent.{Seen, Sends, IsBegun, joined_begun, told_less, came_one, opened_one, acked_one, still_put, pdu_put}
use Rattle.law_role_outproxy.specs.Sending.{co_leg, os_leg}

abbrev seen : OutProxy → Seen
seen s = record { config = s.config; channel = s.channel; window = s.window }

abbrev Same : OutProxy → OutProxy → Type 0
Same s t = seen t ≡ seen s

-- ---- what leaves these alone

same_up : (s : OutProxy) (leg : Leg) (cookie : Cookie) → Same s (up s leg cookie)
same_up s leg cookie = search rules

same_head : (s : OutProxy) (leg : Leg) (text : List ℕ) → Same s (head s leg text).0
same_head s leg text = search rules

same_pdu : (s : OutProxy) (leg : Leg) (count : Count) (bytes : List ℕ)
    → Same s (pdu s leg count bytes).0
same_pdu s leg count bytes = search rules

same_c1 : (s : OutProxy) (count : Count) → Same s (on_out_r2_c1 s count).0
same_c1 s count = search rules

same_forwarded : (s : OutProxy) (m : Named) → Same s (forwarded s m).0
same_forwarded s m = search rules

same_passed : (s : OutProxy) (to : ℕ) (m : Named) → Same s (passed_on s to m).0
same_passed s to m = search rules

same_a9 : (s : OutProxy) → Same s (on_out_r1_a9 s).0
same_a9 s = search rules

same_end : (s : OutProxy) → Same s (on_end_b1 s).0
same_end s = search rules

same_drawn : (s : OutProxy) (leg : Leg) → Same s (drawn s leg)
same_drawn s leg = search rules

same_mark : (s : OutProxy) (leg : Leg) → Same s (mark s leg)
same_mark s leg = search rules

cookie_is : (one other : Cookie) → same_cookie one other ≡ true → one ≡ other
cookie_is one other e =
    ap (λ (bytes : List ℕ). record { 0 = bytes }) ((bytes_eq-Decides one.0 other.0).0 e)

-- ---- what is refused neither as out of range nor for a window

abbrev IsPlain : Done → Type 0
IsPlain x = IsInRange x.1 × IsNoWindow x.1

co_plain : (s : OutProxy) (count : Count) (m : Named) → IsPlain (on_co s count m)
co_plain s count m = search rules

pdu_range : (s : OutProxy) (leg : Leg) (count : Count) (bytes : List ℕ)
    → IsInRange (pdu s leg count bytes).1
pdu_range s leg count bytes = search rules

passed_plain : (s : OutProxy) (to : ℕ) (m : Named) → IsPlain (passed_on s to m)
passed_plain s to m = search rules

c1_plain : (s : OutProxy) (c : Channel) (version size timeout : ℕ)
    → IsPlain (conn_c1_by c s version size timeout)
c1_plain s c version size timeout = search rules

a9_plain : (s : OutProxy) → IsPlain (on_out_r1_a9 s)
a9_plain s = search rules

end_plain : (s : OutProxy) → IsPlain (on_end_b1 s)
end_plain s = search rules

abbrev is_ack : Named → Bool
is_ack (named.AckTo to received available cookie) = true
is_ack m = false

os_plain : (s : OutProxy) (m : Named) → is_ack m ≡ false → IsPlain (on_os s m)
os_plain s (named.AckTo to received available cookie) e = absurd cc
os_plain s (named.ConnC1 version size timeout) e = c1_plain s s.channel version size timeout
os_plain s (named.InR1A3 to version size timeout) e =
    passed_plain s to (named.InR1A4 0 version size timeout)
os_plain s (named.InR2A3 to) e = passed_plain s to (named.InR2A4 0)
os_plain s (named.OutR1A1 to) e = passed_plain s to (named.OutR1A2 0)
os_plain s (named.OutR1A5 to version timeout) e =
    passed_plain s to (named.OutR1A6 0 version timeout)
os_plain s named.OutR1A9 e = a9_plain s
os_plain s named.EndB1 e = end_plain s
os_plain s m e = (tt, tt)

ack_window : (s : OutProxy) (received available : ℕ) (cookie : Cookie)
    → IsNoWindow (on_ack s received available cookie).1
ack_window s received available cookie = search rules

pub os_window : (s : OutProxy) (m : Named) → IsNoWindow (on_os s m).1
os_window s (named.AckTo to received available cookie) =
    by_test (λ (x : Done). IsNoWindow x.1) (to == TO_OUT_PROXY) (on_ack s received available cookie)
    (passed_on s to (named.AckTo 0 received available cookie))
    (λ e. ack_window s received available cookie)
    (λ e. (passed_plain s to (named.AckTo 0 received available cookie)).1)
os_window s m = (os_plain s m refl).1

pub no_window : (s : OutProxy) (leg : Leg) (count : Count) (m : Named)
    → IsNoWindow (packet s leg count m).1
no_window s leg count m =
    by_test (λ (x : Done). IsNoWindow x.1) (is_co s leg) (on_co s count m)
    (if is_os s leg then on_os s m else unexpected s) (λ e. (co_plain s count m).1)
    (λ e. by_test (λ (x : Done). IsNoWindow x.1) (is_os s leg) (on_os s m) (unexpected s)
    (λ f. os_window s m) (λ f. tt))

module _ (config : OutProxyConfig) where
  abbrev Holds : OutProxy → List OnLeg → List OnLeg → Type 0
  Holds s came put = Sends config (seen s) came put

  abbrev co : Leg
  co = co_leg config.number

  abbrev os : Leg
  os = os_leg config.number

  same_holds : (s t : OutProxy) (came put : List OnLeg) → Same s t → Holds s came put
      → Holds t came put
  same_holds s t came put same h = subst (λ (x : Seen). Sends config x came put) (sym same) h

  is_client : (s : OutProxy) (leg : Leg) → s.config ≡ config → is_co s leg ≡ true → co ≡ leg
  is_client s leg is e =
      ap (λ (c : OutProxyConfig). co_leg c.number) (sym is) ∙ leg_is (co_leg s.config.number) leg e

  is_server : (s : OutProxy) (leg : Leg) → s.config ≡ config → is_os s leg ≡ true → os ≡ leg
  is_server s leg is e =
      ap (λ (c : OutProxyConfig). os_leg c.number) (sym is) ∙ leg_is (os_leg s.config.number) leg e

  -- ---- rows

  -- a row that leaves these alone
  same_row : (one : OnLeg) (s : OutProxy) (came put : List OnLeg) → Holds s came put → (x : Done)
      → Same s x.0 → RowKeeps Holds one came put x
  same_row one s came put h (t, Ok taken) same =
      came_one config (seen t) came put one (same_holds s t came put same h)
  same_row one s came put h (t, Err why) same = same_holds s t came put same h

  module _ (s : OutProxy) (came put : List OnLeg) (h : Holds s came put) where
    abbrev Row : Leg → Named → Done → Type 0
    Row leg m x = RowKeeps Holds (leg, Packet m) came put x

    passed_row : (m : Named) (to : ℕ) (other : Named) → Row os m (passed_on s to other)
    passed_row m to other =
        same_row (os, Packet m) s came put h (passed_on s to other) (same_passed s to other)

    -- ---- on the client's leg

    co_row : (count : Count) (m : Named) → Row co m (on_co s count m)
    co_row count (named.ConnA1 version connection cookie size) =
        by_test (Row co (named.ConnA1 version connection cookie size))
        (is_first count && told_length s.request new_length) _ (unexpected s)
        (λ e. opened_one config (seen s) came put (named.ConnA1 version connection cookie size)
        (channels.New connection cookie) cookie size refl refl refl (λ ms begun. begun) refl h)
        (λ e. h)
    co_row count (named.OutR1A3 version connection predecessor cookie size) =
        by_test (Row co (named.OutR1A3 version connection predecessor cookie size))
        (is_first count && told_length s.request successor_length) _ (unexpected s)
        (λ e. opened_one config (seen s) came put
        (named.OutR1A3 version connection predecessor cookie size)
        (channels.Successor connection predecessor cookie) cookie size refl refl refl
        (λ ms begun. begun) refl h)
        (λ e. h)
    co_row count named.OutR2C1 =
        same_row (co, Packet named.OutR2C1) s came put h (on_out_r2_c1 s count) (same_c1 s count)
    co_row count m = h

    -- ---- on the server's leg

    c1_row : (m : Named) (c : Channel) → IsBegun c (of_leg co came) → (version size timeout : ℕ)
        → Row os m (conn_c1_by c s version size timeout)
    c1_row m channels.Unknown begun version size timeout = h
    c1_row m (channels.New connection cookie) begun version size timeout =
        same_row (os, Packet m) t came put k (forwarded t (named.ConnC2 version size timeout))
        (same_forwarded t (named.ConnC2 version size timeout))
      where
        t : OutProxy
        t = record s { channel = channels.Joined connection cookie }

        k : Holds t came put
        k = record {
          is = h.is;
          within = h.within;
          counted = h.counted;
          begun = begun;
          shut = λ e. absurd cc;
          told = h.told;
          elsewhere = h.elsewhere;
        }
    c1_row m (channels.Joined connection cookie) begun version size timeout = h
    c1_row m (channels.Successor connection predecessor cookie) begun version size timeout = h

    acked_row : (received available : ℕ) (cookie : Cookie) → HasBegunOut cookie (of_leg co came)
        → is_known s.channel ≡ true
        → Row os (named.AckTo TO_OUT_PROXY received available cookie) (acked s received available)
    acked_row received available cookie begun known =
        by (ack_verdict s.window received available) refl
      where
        by : (v : Result (Unit {0}) BadAck) → ack_verdict s.window received available ≡ v
            → Row os (named.AckTo TO_OUT_PROXY received available cookie)
            (record s { window = after_acked s.window received available }, ack_row v)
        by (Ok applied) e =
            acked_one config (seen s) came put received available cookie begun known h
        by (Err bad) e =
            subst (λ (w : Sender).
            Sends config (record { config = s.config; channel = s.channel; window = w }) came put)
            (sym (refused_same s.window received available bad e)) h

    -- of the channel that the proxy joined
    ack_row_by : (o : Option Cookie) → IfSome o (λ (cookie : Cookie).
        HasBegunOut cookie (of_leg co came) × (is_known s.channel ≡ true))
        → (received available : ℕ) (other : Cookie)
        → Row os (named.AckTo TO_OUT_PROXY received available other)
        (acks.ack_by o s received available other)
    ack_row_by None begun received available other = h
    ack_row_by (Some cookie) begun received available other =
        by_test (Row os (named.AckTo TO_OUT_PROXY received available other))
        (same_cookie cookie other) (acked s received available)
        (refuse s (refused.Cookie cookie other))
        (λ e. acked_row received available other
        (subst (λ (x : Cookie). HasBegunOut x (of_leg co came)) (cookie_is cookie other e) begun.0)
        begun.1)
        (λ e. h)

    ack_to_row : (to received available : ℕ) (cookie : Cookie)
        → Row os (named.AckTo to received available cookie)
        (on_ack_to s to received available cookie)
    ack_to_row to received available cookie =
        by_test (Row os (named.AckTo to received available cookie)) (to == TO_OUT_PROXY)
        (on_ack s received available cookie)
        (passed_on s to (named.AckTo 0 received available cookie))
        (λ e. subst (λ (n : ℕ). Row os (named.AckTo n received available cookie)
        (on_ack s received available cookie)) (sym (eqb-true to TO_OUT_PROXY e))
        (ack_row_by (joined s.channel)
        (joined_begun s.channel (of_leg co came) h.begun) received available cookie))
        (λ e. passed_row (named.AckTo to received available cookie) to
        (named.AckTo 0 received available cookie))

    os_row : (m : Named) → Row os m (on_os s m)
    os_row (named.ConnC1 version size timeout) =
        c1_row (named.ConnC1 version size timeout) s.channel h.begun version size timeout
    os_row (named.AckTo to received available cookie) = ack_to_row to received available cookie
    os_row (named.InR1A3 to version size timeout) =
        passed_row (named.InR1A3 to version size timeout) to (named.InR1A4 0 version size timeout)
    os_row (named.InR2A3 to) = passed_row (named.InR2A3 to) to (named.InR2A4 0)
    os_row (named.OutR1A1 to) = passed_row (named.OutR1A1 to) to (named.OutR1A2 0)
    os_row (named.OutR1A5 to version timeout) =
        passed_row (named.OutR1A5 to version timeout) to (named.OutR1A6 0 version timeout)
    os_row named.OutR1A9 =
        same_row (os, Packet named.OutR1A9) s came put h (on_out_r1_a9 s) (same_a9 s)
    os_row named.EndB1 =
        same_row (os, Packet named.EndB1) s came put h (on_end_b1 s) (same_end s)
    os_row m = h

    packet_row : (leg : Leg) (count : Count) (m : Named) → Row leg m (packet s leg count m)
    packet_row leg count m =
        by_test (Row leg m) (is_co s leg) (on_co s count m)
        (if is_os s leg then on_os s m else unexpected s)
        (λ e. subst (λ (l : Leg). Row l m (on_co s count m)) (is_client s leg h.is e)
        (co_row count m))
        (λ e. by_test (Row leg m) (is_os s leg) (on_os s m) (unexpected s)
        (λ f. subst (λ (l : Leg). Row l m (on_os s m)) (is_server s leg h.is f) (os_row m))
        (λ f. h))

  -- ---- what is put

  or_put : (leg : Leg) (came put : List OnLeg) (a b : Pick) → PutKeeps Holds leg came put a
      → PutKeeps Holds leg came put b → PutKeeps Holds leg came put (or_else a b)
  or_put leg came put None b h k = k
  or_put leg came put (Some pick) b h k = h

  -- no PDU
  abbrev IsQuiet : OutProxy → Pick → Type 0
  IsQuiet s pick =
      IfSome pick (λ (one : OutProxy × Message). Same s one.0 × (pdu_bytes (one.1 ∷ []) ≡ 0))

  quiet_answer : (s : OutProxy) (a : Answer) → IsQuiet s (answer_by a s)
  quiet_answer s a = search rules

  quiet_waiting : (s : OutProxy) (dues : List Due) → IsQuiet s (waiting_by s dues)
  quiet_waiting s dues = search rules

  quiet_end : (s : OutProxy) → IsQuiet s (put_end s)
  quiet_end s = search rules

  quiet_handover : (s : OutProxy) → IsQuiet s (put_handover s)
  quiet_handover s = search rules

  quiet_ping : (s : OutProxy) → IsQuiet s (put_ping s)
  quiet_ping s = search rules

  quiet_first : (s : OutProxy) (c : Channel) → IsQuiet s (first_by s (first_packet s c))
  quiet_first s c = search rules

  quiet_ack : (s : OutProxy) (o : Option Cookie) (a : Option Ack) → IsQuiet s (ack_by s o a)
  quiet_ack s o a = search rules

  module _ (s : OutProxy) (came put : List OnLeg) (h : Holds s came put) where
    quiet_put : (leg : Leg) (pick : Pick) → IsQuiet s pick → PutKeeps Holds leg came put pick
    quiet_put leg None quiet = tt
    quiet_put leg (Some one) quiet =
        still_put config (seen one.0) came put (leg, one.1) quiet.1
        (same_holds s one.0 came put quiet.0 h)

    front_put : (pdus : List (List ℕ)) → PutKeeps Holds co came put (pdu_by s pdus)
    front_put [] = tt
    front_put (pdu ∷ pdus) =
        by_test (PutKeeps Holds co came put) (may_send s.window (length pdu)) _ None
        (λ may. pdu_put config (seen s) came put pdu may h) (λ e. tt)

    co_put : PutKeeps Holds co came put (next_co s)
    co_put =
        or_put co came put (put_answer s) _ (quiet_put co (put_answer s) (quiet_answer s s.answer))
        (or_put co came put (put_waiting s) _
        (quiet_put co (put_waiting s) (quiet_waiting s s.waiting.due))
        (or_put co came put (put_pdu s) _ (front_put s.line.current.pdus)
        (or_put co came put (put_mark s) (put_ping s)
        (or_put co came put (put_end s) (put_handover s)
        (quiet_put co (put_end s) (quiet_end s))
        (quiet_put co (put_handover s) (quiet_handover s)))
        (quiet_put co (put_ping s) (quiet_ping s)))))

    os_put : (leg : Leg) → PutKeeps Holds leg came put (next_os s)
    os_put leg =
        or_put leg came put (put_first s) (put_ack s)
        (by_test (PutKeeps Holds leg came put) (is_server_first s.server)
        (first_by s (first_packet s s.channel)) None
        (λ e. quiet_put leg (first_by s (first_packet s s.channel)) (quiet_first s s.channel))
        (λ e. tt))
        (quiet_put leg (put_ack s) (quiet_ack s (joined s.channel) (ack_due s)))

    puts : (leg : Leg) → PutKeeps Holds leg came put (put_of s leg)
    puts leg =
        by_test (PutKeeps Holds leg came put) (is_co s leg) (next_co s)
        (if is_os s leg then next_os s else None)
        (λ e. subst (λ (l : Leg). PutKeeps Holds l came put (next_co s)) (is_client s leg h.is e)
        co_put)
        (λ e. by_test (PutKeeps Holds leg came put) (is_os s leg) (next_os s) None
        (λ f. os_put leg) (λ f. tt))

  -- ---- the role

  keeps : StepsKeep proxy_rules Holds
  keeps = record {
    up = λ s leg cookie came put.
        same_holds s (up s leg cookie) came put (same_up s leg cookie);
    head = λ s leg text came put. same_holds s (head s leg text).0 came put (same_head s leg text);
    pdu = λ s leg count bytes came put h.
        same_row (leg, Pdu bytes) s came put h (pdu s leg count bytes) (same_pdu s leg count bytes);
    packet = λ s leg count m came put h. packet_row s came put h leg count m;
    put = λ s leg came put h. puts s came put h leg;
    drawn = λ s leg came put. same_holds s (drawn s leg) came put (same_drawn s leg);
    mark = λ s leg came put. same_holds s (mark s leg) came put (same_mark s leg);
    ping = λ s leg came put h. h;
  }

  starts : Holds (new_proxy config) [] []
  starts = record {
    is = refl;
    within = omega arith;
    counted = λ once. refl;
    begun = tt;
    shut = λ e. refl;
    told = inl refl;
    elsewhere = λ leg other. refl;
  }

  -- ---- what is refused

  module _ (s : OutProxy) (came put : List OnLeg) (h : Holds s came put)
      (once : OpensOnce config.number came) where
    abbrev Refuses : Leg → Named → Done → Type 0
    Refuses leg m x =
        RefusesFalseAcks config.number came (pdu_bytes (of_leg co put)) leg m x.1

    in_range : (leg : Leg) (m : Named) (x : Done) → IsInRange x.1 → Refuses leg m x
    in_range leg m (t, Ok taken) is = tt
    in_range leg m (t, Err refused.Unexpected) is = tt
    in_range leg m (t, Err (refused.Cookie expected got)) is = tt
    in_range leg m (t, Err (refused.Window exceeded)) is = tt
    in_range leg m (t, Err (refused.OutOfRange command value)) is = absurd is
    in_range leg m (t, Err (refused.Full full)) is = tt

    refused_ack : (o : Option Cookie) → IfSome o (λ (cookie : Cookie).
        HasBegunOut cookie (of_leg co came) × (is_known s.channel ≡ true))
        → (received available : ℕ) (other : Cookie)
        → Refuses os (named.AckTo TO_OUT_PROXY received available other)
        (acks.ack_by o s received available other)
    refused_ack None begun received available other = tt
    refused_ack (Some cookie) begun received available other =
        by_test (Refuses os (named.AckTo TO_OUT_PROXY received available other))
        (same_cookie cookie other) (acked s received available)
        (refuse s (refused.Cookie cookie other))
        (λ e. verdict e (ack_verdict s.window received available)
        (verdict_false s.window received available))
        (λ e. tt)
      where
        verdict : same_cookie cookie other ≡ true → (v : Result (Unit {0}) BadAck)
            → IsFalse s.window received available v
            → Refuses os (named.AckTo TO_OUT_PROXY received available other)
            (record s { window = after_acked s.window received available }, ack_row v)
        verdict e (Ok applied) is = tt
        verdict e (Err bad) is = (
          refl,
          refl,
          subst (λ (x : Cookie). HasBegunOut x (of_leg co came)) (cookie_is cookie other e) begun.0,
          subst (λ (sent : ℕ). (sent < received) ⊎ (GREATEST_WINDOW < available)) (h.counted once)
              is,
        )

    refused_os : (m : Named) → Refuses os m (on_os s m)
    refused_os (named.AckTo to received available cookie) =
        by_test (Refuses os (named.AckTo to received available cookie)) (to == TO_OUT_PROXY)
        (on_ack s received available cookie)
        (passed_on s to (named.AckTo 0 received available cookie))
        (λ e. subst (λ (n : ℕ). Refuses os (named.AckTo n received available cookie)
        (on_ack s received available cookie)) (sym (eqb-true to TO_OUT_PROXY e))
        (refused_ack (joined s.channel)
        (joined_begun s.channel (of_leg co came) h.begun) received available cookie))
        (λ e. in_range os (named.AckTo to received available cookie)
        (passed_on s to (named.AckTo 0 received available cookie))
        (passed_plain s to (named.AckTo 0 received available cookie)).0)
    refused_os m = in_range os m (on_os s m) (os_plain s m refl).0

    refused_packet : (leg : Leg) (count : Count) (m : Named) → Refuses leg m (packet s leg count m)
    refused_packet leg count m =
        by_test (Refuses leg m) (is_co s leg) (on_co s count m)
        (if is_os s leg then on_os s m else unexpected s)
        (λ e. in_range leg m (on_co s count m) (co_plain s count m).0)
        (λ e. by_test (Refuses leg m) (is_os s leg) (on_os s m) (unexpected s)
        (λ f. subst (λ (l : Leg). Refuses l m (on_os s m)) (is_server s leg h.is f) (refused_os m))
        (λ f. tt))

pub out_proxy_sends : (config : OutProxyConfig) (moves : List Move)
    → SendsWithin config.number (all_moved proxy_rules (started (new_proxy config)) moves)
out_proxy_sends config moves =
    let p = all_moved proxy_rules (started (new_proxy config)) moves in
    let h = moves_keep proxy_rules (Holds config) (keeps config) (started (new_proxy config)) moves
    (starts config) in
    record {
      within = λ once.
          let counted = h.counted once in
          let within = h.within in
          told_less config.number p.came (pdu_bytes (of_leg (co_leg config.number) p.put))
          p.role.window.edge (omega (arith, counted, within)) h.told;
      elsewhere = h.elsewhere;
      refuses = λ once leg count m. refused_packet config p.role p.came p.put h once leg count m;
      ranges = λ leg count bytes. pdu_range p.role leg count bytes;
      windows = λ leg count m. no_window p.role leg count m;
      pdus = λ count bytes. refl;
    }
