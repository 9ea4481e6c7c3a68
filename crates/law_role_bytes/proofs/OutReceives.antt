-- the window of an out proxy counts what came on its os leg
use Rattle.law_order.proofs.Vocabulary.{◌≡◌, ℕ, List, [], ◌∷◌, length, Bool, true, false, true≢false, if◌then◌else◌, ◌&&◌, Some, None, Ok, Err, arith, refl, sym, ap, ◌∙◌, subst, rules, and_parts, IfSome, Option, Result}
use Rattle.rh_line.specs.Lines.{taken as taken_line}
use Rattle.rh_line.specs.Lines as lines
use Rattle.rh_line.specs.declared.line_fault.LineFault.TheVariants as line_fault
use Rattle.law_moves.proofs.Vocabulary.{may_send, Ack, by_test, Cookie, Named, Incoming, Line, channel_verdict, is_empty, moved_on, released, settled, LineFault, Leg, Current, Count, Due, Message, Pdu, Packet, OnLeg, Move, started, all_moved, of_leg, pdu_bytes}
use Rattle.law_moves.proofs.Lemmas.{PutKeeps, RowKeeps, StepsKeep, leg_is, moves_keep}
use Rattle.law_role_outproxy.proofs.Vocabulary.{Answer, Channel, OutProxyConfig, OutProxy, new_proxy, joined, is_server_first, Done, is_co, is_os, unexpected, takes_pdus, up, head, first_packet, admitted, line_row, on_pdu, ack_due, drawn, mark, Pick, or_else, answer_by, put_answer, waiting_by, put_waiting, pdu_by, put_pdu, put_end, put_handover, put_mark, put_ping, next_co, first_by, put_first, ack_by, put_ack, next_os, put as put_of}
use Rattle.law_role_outproxy.proofs.Vocabulary.{packet, pdu, on_co, on_os, os_leg, rules as proxy_rules}
use Rattle.law_role_outproxy.proofs.Sending.Legs.{bytes_here, bytes_still}
use Rattle.law_role_bytes.proofs.Windows.{admitted_same, admitted_more}
use Rattle.law_role_bytes.specs.Bytes.{CountsCame}

-- what the facts are about
record Seen : Type 0 where
  config : OutProxyConfig
  received : ℕ
  finished : Bool

abbrev seen : OutProxy → Seen
seen s = record {
  config = s.config;
  received = s.line.current.window.received;
  finished = s.line.finished;
}

abbrev Same : OutProxy → OutProxy → Type 0
Same s t = seen t ≡ seen s

-- ---- what leaves these alone

same_co : (s : OutProxy) (count : Count) (named : Named) → Same s (on_co s count named).0
same_co s count named = search rules

same_os : (s : OutProxy) (named : Named) → Same s (on_os s named).0
same_os s named = search rules

same_packet : (s : OutProxy) (leg : Leg) (count : Count) (named : Named)
    → Same s (packet s leg count named).0
same_packet s leg count named =
    by_test (λ (d : Done). Same s d.0) (is_co s leg) (on_co s count named)
    (if is_os s leg then on_os s named else unexpected s) (λ e. same_co s count named)
    (λ e. by_test (λ (d : Done). Same s d.0) (is_os s leg) (on_os s named) (unexpected s)
    (λ f. same_os s named) (λ f. refl))

same_head : (s : OutProxy) (leg : Leg) (text : List ℕ) → Same s (head s leg text).0
same_head s leg text = search rules

same_up : (s : OutProxy) (leg : Leg) (cookie : Cookie) → Same s (up s leg cookie)
same_up s leg cookie = search rules

same_drawn : (s : OutProxy) (leg : Leg) → Same s (drawn s leg)
same_drawn s leg = search rules

same_mark : (s : OutProxy) (leg : Leg) → Same s (mark s leg)
same_mark s leg = search rules

module _ (config : OutProxyConfig) where
  abbrev os : Leg
  os = os_leg config.number

  -- its one channel is never finished
  record Receives (x : Seen) (came : List OnLeg) : Type 0 where
    made : x.config ≡ config
    counted : x.received ≡ pdu_bytes (of_leg os came)
    unfinished : x.finished ≡ false

  abbrev Holds : OutProxy → List OnLeg → List OnLeg → Type 0
  Holds s came put = Receives (seen s) came

  same_holds : (s t : OutProxy) (came put : List OnLeg) → Same s t → Holds s came put
      → Holds t came put
  same_holds s t came put same h = subst (λ (x : Seen). Receives x came) (sym same) h

  -- ---- what comes

  -- what is no PDU
  quiet_row : (one : OnLeg) (came put : List OnLeg) (x : Done) → pdu_bytes (one.1 ∷ []) ≡ 0
      → Receives (seen x.0) came → RowKeeps Holds one came put x
  quiet_row one came put (t, Ok taken) none h = record {
    made = h.made;
    counted = h.counted ∙ sym (bytes_still os came one none);
    unfinished = h.unfinished;
  }
  quiet_row one came put (t, Err why) none h = h

  pdu_here : (s : OutProxy) (bytes : List ℕ) (came put : List OnLeg) → Holds s came put
      → RowKeeps Holds (os, Pdu bytes) came put (admitted s bytes)
  pdu_here s bytes came put h = by (channel_verdict c bytes) refl
    where
      c : Incoming
      c = s.line.current

      t : OutProxy
      t = record s { line = lines.after_admit s.line Current bytes }

      unchanged : (fault : LineFault) → channel_verdict c bytes ≡ Err fault
          → Receives (seen t) came
      unchanged fault e = record {
        made = h.made;
        counted = ap (λ (d : Incoming). d.window.received) (admitted_same c bytes fault e)
            ∙ h.counted;
        unfinished = h.unfinished;
      }

      by : (v : Result (Unit {0}) LineFault) → channel_verdict c bytes ≡ v
          → RowKeeps Holds (os, Pdu bytes) came put (t, line_row v)
      by (Ok taken) e = record {
        made = h.made;
        counted =
            let one = admitted_more c bytes e in
            let before = h.counted in
            let all = bytes_here os came (Pdu bytes) in omega (arith, one, before, all);
        unfinished = h.unfinished;
      }
      by (Err (line_fault.Window exceeded)) e = unchanged (line_fault.Window exceeded) e
      by (Err line_fault.Over) e = unchanged line_fault.Over e

  is_server : (s : OutProxy) (leg : Leg) → s.config ≡ config → is_os s leg ≡ true → os ≡ leg
  is_server s leg made e =
      ap (λ (c : OutProxyConfig). os_leg c.number) (sym made)
      ∙ leg_is (os_leg s.config.number) leg e

  pdu_row : (s : OutProxy) (leg : Leg) (count : Count) (bytes : List ℕ) (came put : List OnLeg)
      → Holds s came put → RowKeeps Holds (leg, Pdu bytes) came put (pdu s leg count bytes)
  pdu_row s leg count bytes came put h =
      by_test (RowKeeps Holds (leg, Pdu bytes) came put) (is_os s leg) (on_pdu s bytes)
      (unexpected s)
      (λ e. subst (λ (l : Leg). RowKeeps Holds (l, Pdu bytes) came put (on_pdu s bytes))
      (is_server s leg h.made e)
      (by_test (RowKeeps Holds (os, Pdu bytes) came put) (takes_pdus s) (admitted s bytes)
      (unexpected s) (λ f. pdu_here s bytes came put h) (λ f. h)))
      (λ e. h)

  -- ---- what is put

  or_put : (leg : Leg) (came put : List OnLeg) (a b : Pick) → PutKeeps Holds leg came put a
      → PutKeeps Holds leg came put b → PutKeeps Holds leg came put (or_else a b)
  or_put leg came put None b h k = k
  or_put leg came put (Some pick) b h k = h

  abbrev IsQuiet : OutProxy → Pick → Type 0
  IsQuiet s pick = IfSome pick (λ (one : OutProxy × Message). Same s one.0)

  quiet_answer : (s : OutProxy) (a : Answer) → IsQuiet s (answer_by a s)
  quiet_answer s a = search rules

  quiet_waiting : (s : OutProxy) (dues : List Due) → IsQuiet s (waiting_by s dues)
  quiet_waiting s dues = search rules

  quiet_end : (s : OutProxy) → IsQuiet s (put_end s)
  quiet_end s = search rules

  quiet_handover : (s : OutProxy) → IsQuiet s (put_handover s)
  quiet_handover s = search rules

  quiet_ping : (s : OutProxy) → IsQuiet s (put_ping s)
  quiet_ping s = search rules

  quiet_first : (s : OutProxy) (c : Channel) → IsQuiet s (first_by s (first_packet s c))
  quiet_first s c = search rules

  quiet_ack : (s : OutProxy) (o : Option Cookie) (a : Option Ack) → IsQuiet s (ack_by s o a)
  quiet_ack s o a = search rules

  module _ (s : OutProxy) (leg : Leg) (came put : List OnLeg) (h : Holds s came put) where
    quiet_put : (pick : Pick) → IsQuiet s pick → PutKeeps Holds leg came put pick
    quiet_put None quiet = tt
    quiet_put (Some one) quiet = same_holds s one.0 came put quiet h

    -- a PDU is taken from the line
    taken_holds : Receives (seen (record s { line = lines.after_take s.line })) came
    taken_holds = by s.line.current.pdus
      where
        OfLine : Line → Type 0
        OfLine l = Receives (record {
          config = s.config;
          received = l.current.window.received;
          finished = l.finished;
        }) came

        goes : (l : Line) → l.finished ≡ false → OfLine l → OfLine (settled l)
        goes l more of_line =
            by_test OfLine (l.finished && is_empty l.current.pdus) (moved_on l) l
            (λ e. absurd (true≢false
            (sym (and_parts l.finished (is_empty l.current.pdus) e).0 ∙ more)))
            (λ e. of_line)

        by : (pdus : List (List ℕ)) → OfLine (taken_line pdus s.line)
        by [] = h
        by (pdu ∷ pdus) =
            goes (record s.line { current = released (pdu ∷ pdus) s.line.current }) h.unfinished
            (record { made = h.made; counted = h.counted; unfinished = h.unfinished })

    front_put : (pdus : List (List ℕ)) → PutKeeps Holds leg came put (pdu_by s pdus)
    front_put [] = tt
    front_put (pdu ∷ pdus) =
        by_test (PutKeeps Holds leg came put) (may_send s.window (length pdu)) _ None
        (λ may. taken_holds) (λ e. tt)

    co_put : PutKeeps Holds leg came put (next_co s)
    co_put =
        or_put leg came put (put_answer s) _ (quiet_put (put_answer s) (quiet_answer s s.answer))
        (or_put leg came put (put_waiting s) _
        (quiet_put (put_waiting s) (quiet_waiting s s.waiting.due))
        (or_put leg came put (put_pdu s) _ (front_put s.line.current.pdus)
        (or_put leg came put (put_mark s) (put_ping s)
        (or_put leg came put (put_end s) (put_handover s)
        (quiet_put (put_end s) (quiet_end s)) (quiet_put (put_handover s) (quiet_handover s)))
        (quiet_put (put_ping s) (quiet_ping s)))))

    os_put : PutKeeps Holds leg came put (next_os s)
    os_put =
        or_put leg came put (put_first s) (put_ack s)
        (by_test (PutKeeps Holds leg came put) (is_server_first s.server)
        (first_by s (first_packet s s.channel)) None
        (λ e. quiet_put (first_by s (first_packet s s.channel)) (quiet_first s s.channel))
        (λ e. tt))
        (quiet_put (put_ack s) (quiet_ack s (joined s.channel) (ack_due s)))

    puts : PutKeeps Holds leg came put (put_of s leg)
    puts =
        by_test (PutKeeps Holds leg came put) (is_co s leg) (next_co s)
        (if is_os s leg then next_os s else None) (λ e. co_put)
        (λ e. by_test (PutKeeps Holds leg came put) (is_os s leg) (next_os s) None
        (λ f. os_put) (λ f. tt))

  -- ---- the role

  keeps : StepsKeep proxy_rules Holds
  keeps = record {
    up = λ s leg cookie came put.
        same_holds s (up s leg cookie) came put (same_up s leg cookie);
    head = λ s leg text came put. same_holds s (head s leg text).0 came put (same_head s leg text);
    pdu = pdu_row;
    packet = λ s leg count named came put h.
        quiet_row (leg, Packet named) came put (packet s leg count named) refl
        (same_holds s (packet s leg count named).0 came put (same_packet s leg count named) h);
    put = puts;
    drawn = λ s leg came put. same_holds s (drawn s leg) came put (same_drawn s leg);
    mark = λ s leg came put. same_holds s (mark s leg) came put (same_mark s leg);
    ping = λ s leg came put h. h;
  }

pub out_proxy_received : (config : OutProxyConfig) (moves : List Move)
    → (let p = all_moved proxy_rules (started (new_proxy config)) moves in
    CountsCame (os_leg config.number) p.came p.role.line.current.window)
out_proxy_received config moves =
    (moves_keep proxy_rules (Holds config) (keeps config) (started (new_proxy config)) moves
    (record { made = refl; counted = refl; unfinished = refl })).counted
