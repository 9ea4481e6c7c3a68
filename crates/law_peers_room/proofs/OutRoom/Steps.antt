-- each step of an out proxy keeps what waits there in order
use Rattle.law_order.proofs.Vocabulary.{◌≡◌, ℕ, ◌≤◌, ◌==◌, ◌&&◌, Bool, true, false, if◌then◌else◌, List, [], ◌∷◌, ◌++◌, Some, None, Ok, Err, refl, sym, ap, ◌∙◌, subst, arith, rules, and_parts, eqb-true, append-nil, IfSome, Option}
use Rattle.rh_sig.specs.declared.named.Named.TheVariants as named
use Rattle.rh_shell.specs.Waiting as waits
use Rattle.rh_outproxy.specs.declared.state.Channel.TheVariants as channels
use Rattle.law_moves.proofs.Vocabulary.{Ack, by_test, Cookie, TO_OUT_PROXY, Named, Leg, Count, Due, FORWARDED_ROOM, Message, Pdu, Packet, same_leg, one_if, Waiting, OnLeg, Move, all_moved, started, of_leg, is_conn_c1, is_conn_c2, is_out_r1_a1, is_out_r1_a2, is_out_r1_a5, is_out_r1_a6}
use Rattle.law_moves.proofs.Lemmas.{PutKeeps, RowKeeps, StepsKeep, moves_keep, leg_more, here_more, leg_is, IsNoAck, IsSame, refused_waits}
use Rattle.law_role_client.proofs.Vocabulary.{is_in_a4}
use Rattle.law_role_outproxy.proofs.Vocabulary.{Answer, Channel, OutProxyConfig, OutProxy, is_client_marked, joined, new_proxy, Done, is_co, is_os, is_carrying, taken, unexpected, forwarded, forwarded_by, passed_on, up, head, conn_c1_by, ack_due, on_ack, on_ack_to, drawn, mark, on_end_b1, on_out_r1_a9, Pick, or_else, answer_by, put_answer, waiting_by, put_waiting, pdu_by, put_pdu, put_mark, put_ping, next_co, put_first, ack_by, put_ack, next_os, put as put_of, pdu, packet}
use Rattle.law_role_outproxy.proofs.Vocabulary.{on_co, on_os, rules as proxy_rules, co_leg, os_leg}
use Rattle.law_peers_room.proofs.OutRoom.Held.{SameAck, CountsNone, InOrder, IsForwardedAs, first_put, more_came, nothing_waits, one_more_waits, other_put}
use Rattle.law_peers_room.proofs.OutRoom.Merging.{forwarded_so}
use Rattle.law_peers_room.specs.OutRoom.Waits.{IsForwarded, is_in_a3}

pub record Seen : Type 0 where
  pub number : ℕ
  pub waiting : Waiting

abbrev pub seen : OutProxy → Seen
seen s = record { number = s.config.number; waiting = s.waiting }

pub record Held (n : ℕ) (x : Seen) (came put : List OnLeg) : Type 0 where
  pub is : x.number ≡ n
  pub room : x.waiting.room ≡ FORWARDED_ROOM
  pub order : InOrder x.waiting.due (of_leg (os_leg n) came) (of_leg (co_leg n) put)

-- ---- what leaves these alone

same_up : (s : OutProxy) (leg : Leg) (cookie : Cookie) → seen (up s leg cookie) ≡ seen s
same_up s leg cookie = search rules

same_head : (s : OutProxy) (leg : Leg) (text : List ℕ) → seen (head s leg text).0 ≡ seen s
same_head s leg text = search rules

same_drawn : (s : OutProxy) (leg : Leg) → seen (drawn s leg) ≡ seen s
same_drawn s leg = search rules

same_mark : (s : OutProxy) (leg : Leg) → seen (mark s leg) ≡ seen s
same_mark s leg = search rules

same_pdu : (s : OutProxy) (leg : Leg) (number : Count) (bytes : List ℕ)
    → seen (pdu s leg number bytes).0 ≡ seen s
same_pdu s leg number bytes = search rules

same_co : (s : OutProxy) (number : Count) (m : Named) → seen (on_co s number m).0 ≡ seen s
same_co s number m = search rules

same_ack : (s : OutProxy) (received available : ℕ) (cookie : Cookie)
    → seen (on_ack s received available cookie).0 ≡ seen s
same_ack s received available cookie = search rules

same_a9 : (s : OutProxy) → seen (on_out_r1_a9 s).0 ≡ seen s
same_a9 s = search rules

same_end : (s : OutProxy) → seen (on_end_b1 s).0 ≡ seen s
same_end s = search rules

-- puts that leave them alone, of what is not forwarded
abbrev IsQuiet : OutProxy → Pick → Type 0
IsQuiet s pick =
    IfSome pick (λ (one : OutProxy × Message). (seen one.0 ≡ seen s) × CountsNone one.1)

quiet_answer : (s : OutProxy) (a : Answer) → IsQuiet s (answer_by a s)
quiet_answer s a = search rules

quiet_pdu : (s : OutProxy) (pdus : List (List ℕ)) → IsQuiet s (pdu_by s pdus)
quiet_pdu s pdus = search rules

quiet_mark : (s : OutProxy) → IsQuiet s (put_mark s)
quiet_mark s = search rules

quiet_ping : (s : OutProxy) → IsQuiet s (put_ping s)
quiet_ping s = search rules

quiet_first : (s : OutProxy) → IsQuiet s (put_first s)
quiet_first s = search rules

quiet_ack : (s : OutProxy) (o : Option Cookie) (a : Option Ack) → IsQuiet s (ack_by s o a)
quiet_ack s o a = search rules

module _ (n : ℕ) where
  abbrev pub Holds : OutProxy → List OnLeg → List OnLeg → Type 0
  Holds s came put = Held n (seen s) came put

  same_holds : (s t : OutProxy) (came put : List OnLeg) → seen t ≡ seen s → Holds s came put
      → Holds t came put
  same_holds s t came put same h = subst (λ (x : Seen). Held n x came put) (sym same) h

  -- a message more came, or was put
  came_holds : (x : Seen) (came put : List OnLeg) (one : OnLeg) → Held n x came put
      → Held n x (came ++ one ∷ []) put
  came_holds x came put one h = record {
    is = h.is;
    room = h.room;
    order = subst (λ (ms : List Message). InOrder x.waiting.due ms (of_leg (co_leg n) put))
        (sym (leg_more (os_leg n) came one))
        (more_came x.waiting.due (of_leg (os_leg n) came) (of_leg (co_leg n) put)
        (of_leg (os_leg n) (one ∷ [])) h.order);
  }

  put_holds : (x : Seen) (came put : List OnLeg) (one : OnLeg) → CountsNone one.1
      → Held n x came put → Held n x came (put ++ one ∷ [])
  put_holds x came put one none h = record {
    is = h.is;
    room = h.room;
    order = subst (InOrder x.waiting.due (of_leg (os_leg n) came))
        (sym (leg_more (co_leg n) put one)) (by (same_leg one.0 (co_leg n)));
  }
    where
      by : (b : Bool) → InOrder x.waiting.due (of_leg (os_leg n) came)
          (of_leg (co_leg n) put ++ (if b then one.1 ∷ [] else []))
      by true =
          other_put (of_leg (os_leg n) came) (of_leg (co_leg n) put) x.waiting.due one.1 none
          h.order
      by false =
          subst (InOrder x.waiting.due (of_leg (os_leg n) came))
          (sym (append-nil (of_leg (co_leg n) put))) h.order

  is_client : (s : OutProxy) (leg : Leg) → s.config.number ≡ n → is_co s leg ≡ true
      → co_leg n ≡ leg
  is_client s leg is e = ap co_leg (sym is) ∙ leg_is (co_leg s.config.number) leg e

  is_server : (s : OutProxy) (leg : Leg) → s.config.number ≡ n → is_os s leg ≡ true
      → os_leg n ≡ leg
  is_server s leg is e = ap os_leg (sym is) ∙ leg_is (os_leg s.config.number) leg e

  module _ (s : OutProxy) (came put : List OnLeg) (h : Holds s came put) where
    abbrev Row : OnLeg → Done → Type 0
    Row one x = RowKeeps Holds one came put x

    same_row : (one : OnLeg) (x : Done) → seen x.0 ≡ seen s → Row one x
    same_row one (t, Ok taken) same =
        came_holds (seen t) came put one (same_holds s t came put same h)
    same_row one (t, Err why) same = same_holds s t came put same h

  module _ (s : OutProxy) (came put : List OnLeg) (h : Holds s came put) where
    -- ---- rows of the server's leg

    abbrev on_server : Named → OnLeg
    on_server m = (os_leg n, Packet m)

    forwarded_row : (m other : Named) → IsForwardedAs m other
        → Row s came put h (on_server m) (forwarded s other)
    forwarded_row m other as_other =
        by_test (Row s came put h (on_server m)) (is_client_marked s.client) (taken s)
        (forwarded_by s (waits.forwarded s.waiting other))
        (λ e. came_holds (seen s) came put (on_server m) h)
        (λ e. by (waits.forwarded s.waiting other) next
        (refused_waits is_in_a4 no_acks s.waiting other))
      where
        no_acks : IsNoAck is_in_a4
        no_acks to received available of = refl

        Next : Waiting → Type 0
        Next w = Held n (record { number = s.config.number; waiting = w })
            (came ++ on_server m ∷ []) put

        next : Next (waits.forwarded s.waiting other).0
        next = record {
          is = h.is;
          room = forwarded_so (λ (v : Waiting). v.room ≡ FORWARDED_ROOM) s.waiting other h.room
              (λ e. h.room) h.room;
          order = subst (λ (ms : List Message).
              InOrder (waits.forwarded s.waiting other).0.due ms (of_leg (co_leg n) put))
              (sym (here_more (os_leg n) came (Packet m)))
              (one_more_waits s.waiting (of_leg (os_leg n) came) (of_leg (co_leg n) put) m other
              as_other h.order);
        }

        by : (r : Waiting × Bool) → Next r.0 → IsSame is_in_a4 no_acks s.waiting r
            → Row s came put h (on_server m) (forwarded_by s r)
        by (w, true) all same = all
        by (w, false) all same =
            subst (λ (v : Waiting). Held n (record { number = s.config.number; waiting = v })
            came put) (sym same) h

    passed_row : (m other : Named) (to : ℕ) → (to ≡ 0 → IsForwardedAs m other)
        → Row s came put h (on_server m) (passed_on s to other)
    passed_row m other to as_other =
        by_test (Row s came put h (on_server m)) (is_carrying s && (to == 0))
        (forwarded s other) (unexpected s)
        (λ e. forwarded_row m other
        (as_other (eqb-true to 0 (and_parts (is_carrying s) (to == 0) e).1)))
        (λ e. h)

    ack_row : (to received available : ℕ) (cookie : Cookie)
        → Row s came put h (on_server (named.AckTo to received available cookie))
        (on_ack_to s to received available cookie)
    ack_row to received available cookie =
        by_test (Row s came put h (on_server (named.AckTo to received available cookie)))
        (to == TO_OUT_PROXY) (on_ack s received available cookie)
        (passed_on s to (named.AckTo 0 received available cookie))
        (λ e. same_row s came put h (on_server (named.AckTo to received available cookie))
        (on_ack s received available cookie) (same_ack s received available cookie))
        (λ e. passed_row (named.AckTo to received available cookie)
        (named.AckTo 0 received available cookie) to (λ is. record {
          is = refl;
          connection = omega arith;
          ins = omega arith;
          wishes = omega arith;
          answers = omega arith;
          ack = (is, refl);
        }))

  -- CONN/C1 is forwarded where the channel then is joined
  c1_row : (s : OutProxy) (came put : List OnLeg) (h : Holds s came put)
      (version size timeout : ℕ) (c : Channel)
      → Row s came put h (on_server s came put h (named.ConnC1 version size timeout))
      (conn_c1_by c s version size timeout)
  c1_row s came put h version size timeout channels.Unknown = h
  c1_row s came put h version size timeout (channels.New connection cookie) =
      forwarded_row (record s { channel = channels.Joined connection cookie }) came put h
      (named.ConnC1 version size timeout) (named.ConnC2 version size timeout) (record {
        is = tt;
        connection = omega arith;
        ins = omega arith;
        wishes = omega arith;
        answers = omega arith;
        ack = tt;
      })
  c1_row s came put h version size timeout (channels.Joined connection cookie) = h
  c1_row s came put h version size timeout
      (channels.Successor connection predecessor cookie) = h

  module _ (s : OutProxy) (came put : List OnLeg) (h : Holds s came put) where
    as_other : (m other : Named) → IsForwarded other
        → one_if (is_conn_c2 other) ≤ one_if (is_conn_c1 m)
        → one_if (is_in_a4 other) ≤ one_if (is_in_a3 m)
        → one_if (is_out_r1_a2 other) ≤ one_if (is_out_r1_a1 m)
        → one_if (is_out_r1_a6 other) ≤ one_if (is_out_r1_a5 m) → SameAck m other
        → IsForwardedAs m other
    as_other m other is connection ins wishes answers ack = record {
      is = is;
      connection = connection;
      ins = ins;
      wishes = wishes;
      answers = answers;
      ack = ack;
    }

    os_row : (m : Named) → Row s came put h (on_server s came put h m) (on_os s m)
    os_row (named.ConnC1 version size timeout) =
        c1_row s came put h version size timeout s.channel
    os_row (named.AckTo to received available cookie) =
        ack_row s came put h to received available cookie
    os_row (named.InR1A3 to version size timeout) =
        passed_row s came put h (named.InR1A3 to version size timeout)
        (named.InR1A4 0 version size timeout) to
        (λ is. as_other (named.InR1A3 to version size timeout)
        (named.InR1A4 0 version size timeout) tt (omega arith) (omega arith) (omega arith)
        (omega arith) tt)
    os_row (named.InR2A3 to) =
        passed_row s came put h (named.InR2A3 to) (named.InR2A4 0) to
        (λ is. as_other (named.InR2A3 to) (named.InR2A4 0) tt (omega arith) (omega arith)
        (omega arith) (omega arith) tt)
    os_row (named.OutR1A1 to) =
        passed_row s came put h (named.OutR1A1 to) (named.OutR1A2 0) to
        (λ is. as_other (named.OutR1A1 to) (named.OutR1A2 0) tt (omega arith) (omega arith)
        (omega arith) (omega arith) tt)
    os_row (named.OutR1A5 to version timeout) =
        passed_row s came put h (named.OutR1A5 to version timeout)
        (named.OutR1A6 0 version timeout) to
        (λ is. as_other (named.OutR1A5 to version timeout) (named.OutR1A6 0 version timeout) tt
        (omega arith) (omega arith) (omega arith) (omega arith) tt)
    os_row named.OutR1A9 =
        same_row s came put h (on_server s came put h named.OutR1A9) (on_out_r1_a9 s) (same_a9 s)
    os_row named.EndB1 =
        same_row s came put h (on_server s came put h named.EndB1) (on_end_b1 s) (same_end s)
    os_row m = h

    packet_row : (leg : Leg) (number : Count) (m : Named)
        → Row s came put h (leg, Packet m) (packet s leg number m)
    packet_row leg number m =
        by_test (Row s came put h (leg, Packet m)) (is_co s leg) (on_co s number m)
        (if is_os s leg then on_os s m else unexpected s)
        (λ e. same_row s came put h (leg, Packet m) (on_co s number m) (same_co s number m))
        (λ e. by_test (Row s came put h (leg, Packet m)) (is_os s leg) (on_os s m)
        (unexpected s)
        (λ f. subst (λ (l : Leg). Row s came put h (l, Packet m) (on_os s m))
        (is_server s leg h.is f) (os_row m))
        (λ f. h))

    -- ---- puts

    abbrev Put : Leg → Pick → Type 0
    Put leg pick = PutKeeps Holds leg came put pick

    or_put : (leg : Leg) (a b : Pick) → Put leg a → Put leg b → Put leg (or_else a b)
    or_put leg None b g k = k
    or_put leg (Some pick) b g k = g

    quiet_put : (leg : Leg) (pick : Pick) → IsQuiet s pick → Put leg pick
    quiet_put leg None same = tt
    quiet_put leg (Some one) same =
        put_holds (seen one.0) came put (leg, one.1) same.1
        (same_holds s one.0 came put same.0 h)

    -- what waits first goes first
    waiting_goes : (dues : List Due) → s.waiting.due ≡ dues
        → Put (co_leg n) (waiting_by s dues)
    waiting_goes [] e = tt
    waiting_goes (due ∷ dues) e = record {
      is = h.is;
      room = h.room;
      order = subst (InOrder dues (of_leg (os_leg n) came))
          (sym (here_more (co_leg n) put (Packet due.packet)))
          (first_put (of_leg (os_leg n) came) (of_leg (co_leg n) put) due dues
          (subst (λ (ds : List Due). InOrder ds (of_leg (os_leg n) came) (of_leg (co_leg n) put))
          e h.order));
    }

    client_put : Put (co_leg n) (next_co s)
    client_put =
        or_put (co_leg n) (put_answer s) _
        (quiet_put (co_leg n) (put_answer s) (quiet_answer s s.answer))
        (or_put (co_leg n) (put_waiting s) _ (waiting_goes s.waiting.due refl)
        (or_put (co_leg n) (put_pdu s) _
        (quiet_put (co_leg n) (put_pdu s) (quiet_pdu s s.line.current.pdus))
        (or_put (co_leg n) (put_mark s) (put_ping s)
        (quiet_put (co_leg n) (put_mark s) (quiet_mark s))
        (quiet_put (co_leg n) (put_ping s) (quiet_ping s)))))

    any_put : (leg : Leg) → Put leg (put_of s leg)
    any_put leg =
        by_test (Put leg) (is_co s leg) (next_co s) (if is_os s leg then next_os s else None)
        (λ e. subst (λ (l : Leg). Put l (next_co s)) (is_client s leg h.is e) client_put)
        (λ e. by_test (Put leg) (is_os s leg) (next_os s) None
        (λ f. or_put leg (put_first s) (put_ack s)
        (quiet_put leg (put_first s) (quiet_first s))
        (quiet_put leg (put_ack s) (quiet_ack s (joined s.channel) (ack_due s))))
        (λ f. tt))

  steps : StepsKeep proxy_rules Holds
  steps = record {
    up = λ s leg cookie came put h.
        same_holds s (up s leg cookie) came put (same_up s leg cookie) h;
    head = λ s leg text came put h.
        same_holds s (head s leg text).0 came put (same_head s leg text) h;
    pdu = λ s leg number bytes came put h.
        same_row s came put h (leg, Pdu bytes) (pdu s leg number bytes)
        (same_pdu s leg number bytes);
    packet = λ s leg number m came put h. packet_row s came put h leg number m;
    put = λ s leg came put h. any_put s came put h leg;
    drawn = λ s leg came put h. same_holds s (drawn s leg) came put (same_drawn s leg) h;
    mark = λ s leg came put h. same_holds s (mark s leg) came put (same_mark s leg) h;
    ping = λ s leg came put h. h;
  }

pub proxy_holds : (config : OutProxyConfig) (moves : List Move)
    → (let p = all_moved proxy_rules (started (new_proxy config)) moves in
    Holds config.number p.role p.came p.put)
proxy_holds config moves =
    moves_keep proxy_rules (Holds config.number) (steps config.number)
    (started (new_proxy config)) moves
    (record { is = refl; room = refl; order = nothing_waits })
