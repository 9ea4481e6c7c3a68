-- each move of an out proxy that is counted keeps what its state tells of what came
use Rattle.law_order.proofs.Vocabulary.{◌≡◌, ℕ, ◌&&◌, true, false, true≢false, if◌then◌else◌, List, [], ◌∷◌, length, Some, None, Ok, Err, refl, sym, ap, ◌∙◌, subst, and_parts}
use Rattle.rh_line.specs.Lines as lines
use Rattle.law_moves.proofs.Vocabulary.{may_send, after_sent, by_test, Named, Leg, Line, is_empty, Count, Due, Message, Pdu, Packet, Waiting, OnLeg, Move, Up, HeadCame, PduCame, PacketCame, Puts, IsDrawn, Marks, Pings, Passage, started, moved, all_moved, taken_by, put_by, of_leg, packets, Tells, IsCounted, AreCounted}
use Rattle.law_moves.proofs.Lemmas.{leg_is}
use Rattle.law_role_outproxy.proofs.Vocabulary.{OutProxyConfig, OutProxy, new_proxy, joined, is_due, Done, is_co, is_os, unexpected, up, head, on_pdu, ack_due, drawn, mark, Pick, or_else, put_answer, waiting_by, put_waiting, pdu_by, put_pdu, put_end, put_handover, put_mark, put_ping, next_co, put_first, put_ack, next_os, put as put_of, pdu, packet, on_co, on_os, rules as proxy_rules, co_leg, os_leg}
use Rattle.law_role_outproxy.proofs.Refusing.Told.{IsQuiet, quiet_answer, quiet_ping, quiet_first, quiet_ack, same_up, same_head, same_drawn, same_mark}
use Rattle.law_role_outproxy.proofs.Conditions.{due_came}
use Rattle.law_role_outproxy.proofs.Refusing.Told as told
use Rattle.law_role_outproxy.proofs.Refusing.RowsKeep as rows

-- the line stays as it is but for what is held
abbrev IsOneChannel : Line → Type 0
IsOneChannel line = (line.finished ≡ false) × (line.current.ended ≡ false)

one_channel : (pdus : List (List ℕ)) (line : Line) → IsOneChannel line
    → IsOneChannel (lines.taken pdus line)
one_channel [] line h = h
one_channel (pdu ∷ pdus) line h =
    let t : Line = record line { current = lines.released (pdu ∷ pdus) line.current } in
    by_test IsOneChannel (t.finished && is_empty t.current.pdus) (lines.moved_on t) t
    (λ e. absurd (true≢false (sym (and_parts t.finished _ e).0 ∙ h.0))) (λ e. h)

module _ (n : ℕ) where
  abbrev co : Leg
  co = co_leg n

  abbrev os : Leg
  os = os_leg n

  abbrev Holds : OutProxy → List OnLeg → Type 0
  Holds = told.Holds n

  abbrev Row : OnLeg → List OnLeg → Done → Type 0
  Row = told.Row n

  abbrev Put : List OnLeg → Pick → Type 0
  Put = told.Put n

  pub is_client : (s : OutProxy) (leg : Leg) → s.config.number ≡ n → is_co s leg ≡ true
      → co ≡ leg
  is_client s leg is e = ap co_leg (sym is) ∙ leg_is (co_leg s.config.number) leg e

  pub is_server : (s : OutProxy) (leg : Leg) → s.config.number ≡ n → is_os s leg ≡ true
      → os ≡ leg
  is_server s leg is e = ap os_leg (sym is) ∙ leg_is (os_leg s.config.number) leg e

  module _ (s : OutProxy) (came : List OnLeg) (h : Holds s came) where
    -- ---- rows

    packet_row : (leg : Leg) (number : Count) (m : Named)
        → Tells number (packets (of_leg leg came))
        → Row (leg, Packet m) came (packet s leg number m)
    packet_row leg number m tells =
        by_test (Row (leg, Packet m) came) (is_co s leg) (on_co s number m)
        (if is_os s leg then on_os s m else unexpected s)
        (λ e. subst (λ (l : Leg). Tells number (packets (of_leg l came))
        → Row (l, Packet m) came (on_co s number m)) (is_client s leg h.is e)
        (rows.co_row n s came h number m) tells)
        (λ e. by_test (Row (leg, Packet m) came) (is_os s leg) (on_os s m) (unexpected s)
        (λ f. subst (λ (l : Leg). Row (l, Packet m) came (on_os s m)) (is_server s leg h.is f)
        (rows.os_row n s came h m))
        (λ f. h))

    pdu_row : (leg : Leg) (number : Count) (bytes : List ℕ)
        → Row (leg, Pdu bytes) came (pdu s leg number bytes)
    pdu_row leg number bytes =
        by_test (Row (leg, Pdu bytes) came) (is_os s leg) (on_pdu s bytes) (unexpected s)
        (λ e. subst (λ (l : Leg). Row (l, Pdu bytes) came (on_pdu s bytes))
        (is_server s leg h.is e) (rows.pdu_row n s came h bytes))
        (λ e. h)

    -- ---- what is put

    or_put : (a b : Pick) → Put came a → Put came b → Put came (or_else a b)
    or_put None b g k = k
    or_put (Some pick) b g k = g

    quiet_put : (pick : Pick) → IsQuiet s pick → Put came pick
    quiet_put None same = tt
    quiet_put (Some one) same = told.same_holds n s one.0 came same h

    -- nothing waits before the opening came to its end
    waiting_put : (dues : List Due) → s.waiting.due ≡ dues → Put came (waiting_by s dues)
    waiting_put [] e = tt
    waiting_put (due ∷ dues) e = record {
      is = h.is;
      channel = h.channel;
      begun = h.begun;
      idle = λ f. absurd (some (sym e ∙ ap (λ (w : Waiting). w.due) (h.idle f)));
      end = h.end;
      handover = h.handover;
      finished = h.finished;
      ended = h.ended;
    }
      where
        some : due ∷ dues ≡ [] → ⊥
        some f = absurd cc

    pdu_put : (pdus : List (List ℕ)) → Put came (pdu_by s pdus)
    pdu_put [] = tt
    pdu_put (bytes ∷ pdus) =
        by_test (Put came) (may_send s.window (length bytes)) (Some (t, Pdu bytes)) None
        (λ e. let line = one_channel s.line.current.pdus s.line (h.finished, h.ended) in record {
          is = h.is;
          channel = h.channel;
          begun = h.begun;
          idle = h.idle;
          end = h.end;
          handover = h.handover;
          finished = line.0;
          ended = line.1;
        })
        (λ e. tt)
      where
        t : OutProxy
        t = record s {
          line = lines.after_take s.line;
          window = after_sent s.window (length bytes);
        }

    end_put : Put came (put_end s)
    end_put =
        by_test (Put came) (is_empty s.line.current.pdus && is_due s.end) _ None
        (λ e. record {
          is = h.is;
          channel = h.channel;
          begun = h.begun;
          idle = h.idle;
          end = λ f. h.end (due_came s.end (and_parts (is_empty s.line.current.pdus) _ e).1);
          handover = h.handover;
          finished = h.finished;
          ended = h.ended;
        })
        (λ e. tt)

    handover_put : Put came (put_handover s)
    handover_put =
        by_test (Put came) (is_empty s.line.current.pdus && is_due s.handover) _ None
        (λ e. record {
          is = h.is;
          channel = h.channel;
          begun = h.begun;
          idle = h.idle;
          end = h.end;
          handover = λ f.
              h.handover (due_came s.handover (and_parts (is_empty s.line.current.pdus) _ e).1);
          finished = h.finished;
          ended = h.ended;
        })
        (λ e. tt)

    client_put : Put came (next_co s)
    client_put =
        or_put (put_answer s) _ (quiet_put (put_answer s) (quiet_answer s s.answer))
        (or_put (put_waiting s) _ (waiting_put s.waiting.due refl)
        (or_put (put_pdu s) _ (pdu_put s.line.current.pdus)
        (or_put (put_mark s) (put_ping s)
        (or_put (put_end s) (put_handover s) end_put handover_put)
        (quiet_put (put_ping s) (quiet_ping s)))))

    server_put : Put came (next_os s)
    server_put =
        or_put (put_first s) (put_ack s) (quiet_put (put_first s) (quiet_first s))
        (quiet_put (put_ack s) (quiet_ack s (joined s.channel) (ack_due s)))

    puts : (leg : Leg) → Put came (put_of s leg)
    puts leg =
        by_test (Put came) (is_co s leg) (next_co s) (if is_os s leg then next_os s else None)
        (λ e. client_put)
        (λ e. by_test (Put came) (is_os s leg) (next_os s) None (λ f. server_put) (λ f. tt))

  -- ---- moves

  abbrev pub HoldsAt : Passage OutProxy → Type 0
  HoldsAt p = Holds p.role p.came

  by_row : (p : Passage OutProxy) (leg : Leg) (m : Message) (x : Done) → Row (leg, m) p.came x
      → HoldsAt (taken_by p leg m x)
  by_row p leg m (t, Ok taken) k = k
  by_row p leg m (t, Err why) k = k

  by_put : (p : Passage OutProxy) (leg : Leg) (pick : Pick) → HoldsAt p → Put p.came pick
      → HoldsAt (put_by p leg pick)
  by_put p leg None h k = h
  by_put p leg (Some one) h k = k

  move_keeps : (p : Passage OutProxy) (move : Move) → IsCounted p move → HoldsAt p
      → HoldsAt (moved proxy_rules p move)
  move_keeps p (Up leg cookie) counted h =
      told.same_holds n p.role (up p.role leg cookie) p.came (same_up p.role leg cookie) h
  move_keeps p (HeadCame leg text) counted h =
      told.same_holds n p.role (head p.role leg text).0 p.came (same_head p.role leg text) h
  move_keeps p (PduCame leg number bytes) counted h =
      by_row p leg (Pdu bytes) (pdu p.role leg number bytes)
      (pdu_row p.role p.came h leg number bytes)
  move_keeps p (PacketCame leg number m) counted h =
      by_row p leg (Packet m) (packet p.role leg number m)
      (packet_row p.role p.came h leg number m counted)
  move_keeps p (Puts leg) counted h = by_put p leg (put_of p.role leg) h (puts p.role p.came h leg)
  move_keeps p (IsDrawn leg) counted h =
      told.same_holds n p.role (drawn p.role leg) p.came (same_drawn p.role leg) h
  move_keeps p (Marks leg) counted h =
      told.same_holds n p.role (mark p.role leg) p.came (same_mark p.role leg) h
  move_keeps p (Pings leg) counted h = h

  moves_keep : (p : Passage OutProxy) (moves : List Move) → AreCounted proxy_rules p moves
      → HoldsAt p → HoldsAt (all_moved proxy_rules p moves)
  moves_keep p [] counted h = h
  moves_keep p (move ∷ moves) counted h =
      moves_keep (moved proxy_rules p move) moves counted.1 (move_keeps p move counted.0 h)

pub proxy_told : (config : OutProxyConfig) (moves : List Move)
    → AreCounted proxy_rules (started (new_proxy config)) moves
    → HoldsAt config.number (all_moved proxy_rules (started (new_proxy config)) moves)
proxy_told config moves counted =
    moves_keep config.number (started (new_proxy config)) moves counted
    (record {
      is = refl;
      channel = (refl, refl, refl, refl);
      begun = tt;
      idle = λ e. refl;
      end = λ e. absurd cc;
      handover = λ e. absurd cc;
      finished = refl;
      ended = refl;
    })
