-- a server greets first on its os legs
use Rattle.law_order.proofs.Vocabulary.{◌≡◌, ℕ, ◌==◌, ◌&&◌, ◌+◌, true, false, not, List, ◌++◌, [], ◌∷◌, Some, None, Ok, Err, refl, rules, sym, ap, ◌∙◌, subst, false≢true, and_parts, append-nil, IfSome, slice_get, find, Option}
use Rattle.rh_sig.specs.declared.named.Named.TheVariants as named
use Rattle.rh_server.specs.declared.state.EndMark.TheVariants as end_mark
use Rattle.rh_server.specs.declared.state.Greeting.TheVariants as greeting
use Rattle.rh_server.specs.declared.state.Stage.TheVariants as stage
use Rattle.law_moves.proofs.Vocabulary.{by_test, same_number, Cookie, Named, front_length, Leg, LegKind, ClientOut, OutServer, ClientIn, InServer, greeting as greeting_text, Count, Due, first_of, Message, Text, Pdu, Packet, Waiting, taken, OnLeg, EndMove, end_started, all_end_moved, of_leg}
use Rattle.law_moves.proofs.Lemmas.{leg_more, RowKeeps, PutKeeps, StepsKeep, ActsKeep, end_moves_keep}
use Rattle.law_role_server.proofs.Vocabulary.{Greeting, InLeg, OutLeg, Stage, lets, length_of, Server, is_open, is_due, same_cookie, in_leg, out_at, out_place, out_cookie, without_in, without_out, removed_at, Done, took, unexpected, is_first, has_room, may_up_by, up_by, out_leg_up, opens, first_out_at, with_first_out, conn_a2_at, on_conn_a2, acked_at, acked_in, acked_cookie, on_ack, on_ping_traffic, take, recycle, answered_by, answered_on, out_r1_a4_by, out_r1_a4_at}
use Rattle.law_role_server.proofs.Vocabulary.{may_answer, on_out_r1_a4, give, settled, in_is_drawn, drawn_by, with_ack_dropped, lost_in, mark_by, Pick, or_else, put_in, with_out, out_greeting_at, gate, gate_at, counts, counts_at, was_put, went_at, goes, waiting_by, waiting_at, put_waiting, may_go_at, pdu_by, put_pdu, may_end_at, is_end_due, put_end, put_pdu_or_end, next_out, settled_pick, put_open, put_out_at, put_by, acts, first, on_is, on_os, packet_by, pdu}
use Rattle.law_role_server.proofs.Vocabulary.{rules as server_rules}
use Rattle.law_role_server.proofs.Counted.Replacing.{found_number}
use Rattle.law_role_server_rows.proofs.Putting.Greets.{Greets, greets_start, greets_set, greets_removed, greets_up, greets_frame, greets_text, greets_other}
use Rattle.law_role_server_rows.proofs.Refusing.Begun.{View as Seen, number_of, view as seen, traffic_same as ping_same}
use Rattle.law_role_server_rows.proofs.Refusing.BegunSteps.{settled_same, recycle_same}
use Rattle.law_role_server_rows.specs.Putting.Puts.{os}
use Rattle.law_role_server_rows.specs.Putting.Copying.{leg_at}
use Rattle.law_role_server_rows.specs.Putting.Greeting.{IsFrame, MayGreet}

-- ---- what the facts are about

abbrev greets_of : OutLeg → Greeting
greets_of leg = leg.greeting

-- ---- what leaves these alone

is_same : (s : Server) (n : ℕ) (count : Count) (m : Named) → seen (on_is s n count m).0 ≡ seen s
is_same s n count (named.ConnB2 v a b c d e f g) = search rules
is_same s n count (named.InR1A2 v a b c d e) = search rules
is_same s n count (named.InR1A6 a) = search rules
is_same s n count (named.InR2A2 a) = search rules
is_same s n count (named.AckTo a b c d) = search rules
is_same s n count (named.OutR1A8 a b) = search rules
is_same s n count named.EndA2 = search rules
is_same s n count m = refl

pdu_same : (s : Server) (leg : Leg) (count : Count) (bytes : List ℕ)
    → seen (pdu s leg count bytes).0 ≡ seen s
pdu_same s leg count bytes = search rules

lost_same : (s : Server) (n : ℕ) (o : Option InLeg) → seen (lost_in s n o) ≡ seen s
lost_same s n o = search rules

take_same : (s : Server) → seen (take s) ≡ seen s
take_same s = search rules

give_same : (s : Server) (bytes : List ℕ) → seen (give s bytes).0 ≡ seen s
give_same s bytes = search rules

in_same : (s : Server) (n : ℕ)
    → IfSome (put_in s n) (λ (one : Server × Message). seen one.0 ≡ seen s)
in_same s n = search rules

pub is_when_due : (g : Greeting) → is_due g ≡ true → g ≡ greeting.Due
is_when_due greeting.Due e = refl
is_when_due greeting.Put e = absurd (false≢true e)

pub is_when_put : (g : Greeting) → is_due g ≡ false → g ≡ greeting.Put
is_when_put greeting.Due e = absurd (false≢true (sym e))
is_when_put greeting.Put e = refl

module _ (n : ℕ) where
  abbrev Of : Seen → List Message → Type 0
  Of x log = Greets number_of greets_of n x.newest x.outs log

  -- the leg's log is as before
  abbrev Keeps : Server → Server → Type 0
  Keeps s t = (log : List Message) → Of (seen s) log → Of (seen t) log

  same_keeps : (s t : Server) → seen t ≡ seen s → Keeps s t
  same_keeps s t same log h = subst (λ (x : Seen). Of x log) (sym same) h

  abbrev RowAlone : Server → Done → Type 0
  RowAlone s x = Keeps s x.0

  -- ---- rows

  first_keeps : (s : Server) (b : Cookie) (c d : ℕ) (place : Option ℕ) (o : Option OutLeg)
      → out_at s.outs place ≡ o → Keeps s (first_out_at s b c d place o)
  first_keeps s b c d (Some place) (Some x) at log h =
      greets_set number_of greets_of n s.newest_out s.outs place x _ log at refl refl h
  first_keeps s b c d (Some place) None at log h = h
  first_keeps s b c d None o at log h = h

  conn_a2_keeps : (s : Server) (m : ℕ) (count : Count) (a b : Cookie) (c d : ℕ)
      → RowAlone s (on_conn_a2 s m count a b c d)
  conn_a2_keeps s m count a b c d =
      by_test (RowAlone s) _ (conn_a2_at s s.stage a b c d) (unexpected s) (λ e. by s.stage)
      (λ e log h. h)
    where
      first_so : Keeps s (with_first_out s b c d)
      first_so = first_keeps s b c d (out_place 1 s.outs) (out_at s.outs (out_place 1 s.outs)) refl

      by : (x : Stage) → RowAlone s (conn_a2_at s x a b c d)
      by stage.Waits = first_so
      by (stage.InCame known in_window timeout) =
          by_test (RowAlone s) (same_cookie known a)
          (took (opens (with_first_out s b c d) known in_window timeout)) _ (λ e. first_so)
          (λ e log h. h)
      by (stage.OutCame known) = λ log h. h
      by (stage.Open known) = λ log h. h
      by stage.Ended = λ log h. h

  a4_keeps : (s : Server) (m : ℕ) (count : Count) (a b c : Cookie) (d e f : ℕ)
      → RowAlone s (on_out_r1_a4 s m count a b c d e f)
  a4_keeps s m count a b c d e f =
      by_test (RowAlone s) (may_answer s m count) (out_r1_a4_at s s.stage m a b c d e f)
      (unexpected s) (λ g. by_stage s.stage) (λ g log h. h)
    where
      answers : (place : Option ℕ) (o : Option OutLeg) → out_at s.outs place ≡ o
          → RowAlone s (answered_by s c d e f place o)
      answers (Some place) (Some x) at = λ log h.
          greets_set number_of greets_of n s.newest_out s.outs place x _ log at refl refl h
      answers (Some place) None at = λ log h. h
      answers None o at = λ log h. h

      by_writing : (known : Cookie) (o : Option Cookie)
          → RowAlone s (out_r1_a4_by s m known a b c d e f o)
      by_writing known None = λ log h. h
      by_writing known (Some writing) =
          by_test (RowAlone s) (not (same_cookie known a)) _ _ (λ g log h. h)
          (λ g. by_test (RowAlone s) (not (same_cookie writing b)) _ (answered_on s m c d e f)
          (λ i log h. h)
          (λ i. answers (out_place m s.outs) (out_at s.outs (out_place m s.outs)) refl))

      by_stage : (x : Stage) → RowAlone s (out_r1_a4_at s x m a b c d e f)
      by_stage (stage.Open known) = by_writing known (out_cookie s.writing s.outs)
      by_stage stage.Waits = λ log h. h
      by_stage (stage.OutCame connection) = λ log h. h
      by_stage (stage.InCame connection in_window timeout) = λ log h. h
      by_stage stage.Ended = λ log h. h

  ack_keeps : (s : Server) (m : ℕ) (count : Count) (received window : ℕ) (cookie : Cookie)
      → RowAlone s (on_ack s m count received window cookie)
  ack_keeps s m count received window cookie =
      by_test (RowAlone s) (is_first count) (unexpected s) _ (λ e log h. h)
      (λ e. by_cookie (out_cookie m s.outs))
    where
      by_leg : (place : ℕ) (o : Option OutLeg) → slice_get s.outs place ≡ o
          → RowAlone s (acked_at s place received window o)
      by_leg place None at = λ log h. h
      by_leg place (Some x) at = λ log h.
          greets_set number_of greets_of n s.newest_out s.outs place x _ log at refl refl h

      by_place : (place : Option ℕ) → RowAlone s (acked_in s received window place)
      by_place None = λ log h. h
      by_place (Some place) = by_leg place (slice_get s.outs place) refl

      by_cookie : (o : Option Cookie) → RowAlone s (acked_cookie s m received window cookie o)
      by_cookie None = λ log h. h
      by_cookie (Some channel) =
          by_test (RowAlone s) (same_cookie channel cookie)
          (acked_in s received window (out_place m s.outs)) _ (λ e. by_place (out_place m s.outs))
          (λ e log h. h)

  os_keeps : (s : Server) (m : ℕ) (count : Count) (packet : Named)
      → RowAlone s (on_os s m count packet)
  os_keeps s m count (named.ConnA2 v a b c d) = conn_a2_keeps s m count a b c d
  os_keeps s m count (named.OutR1A4 v a b c d e f) = a4_keeps s m count a b c d e f
  os_keeps s m count (named.Ack a b c) = ack_keeps s m count a b c
  os_keeps s m count (named.PingTraffic a) =
      same_keeps s (on_ping_traffic s count).0 (ping_same s count)
  os_keeps s m count packet = λ log h. h

  packet_keeps : (s : Server) (m : ℕ) (count : Count) (packet : Named) (k : LegKind)
      → RowAlone s (packet_by s m count packet k)
  packet_keeps s m count packet InServer =
      same_keeps s (on_is s m count packet).0 (is_same s m count packet)
  packet_keeps s m count packet OutServer = os_keeps s m count packet
  packet_keeps s m count packet ClientIn = λ log h. h
  packet_keeps s m count packet ClientOut = λ log h. h

  -- ---- legs come up, are drawn, and lost

  up_keeps : (s : Server) (m : ℕ) (k : LegKind) → may_up_by s m k ≡ true → Keeps s (up_by s m k)
  up_keeps s m InServer e log h = h
  up_keeps s m OutServer e log h =
      greets_up number_of greets_of n s.newest_out s.outs (out_leg_up m) log
      (same_number m (s.newest_out + 1) (and_parts (m == s.newest_out + 1) (has_room s.outs) e).0)
      refl h
  up_keeps s m ClientIn e log h = h
  up_keeps s m ClientOut e log h = h

  drawn_keeps : (s : Server) (m : ℕ) (k : LegKind) → Keeps s (drawn_by s m k)
  drawn_keeps s m InServer =
      by_test (Keeps s) (in_is_drawn (in_leg m s.ins)) (settled (without_in s m)) s
      (λ e. same_keeps s (settled (without_in s m)) (settled_same (without_in s m)))
      (λ e log h. h)
  drawn_keeps s m OutServer = λ log h. h
  drawn_keeps s m ClientIn = λ log h. h
  drawn_keeps s m ClientOut = λ log h. h

  without_keeps : (s : Server) (m : ℕ) → Keeps s (without_out (with_ack_dropped s m) m)
  without_keeps s m = by (out_place m s.outs)
    where
      by : (place : Option ℕ) (log : List Message) → Of (seen s) log
          → Greets number_of greets_of n s.newest_out (removed_at s.outs place) log
      by None log h = h
      by (Some place) log h =
          greets_removed number_of greets_of n s.newest_out s.outs place log h

  mark_keeps : (s : Server) (m : ℕ) (k : LegKind) → Keeps s (mark_by s m k)
  mark_keeps s m InServer =
      same_keeps s (settled (lost_in s m (in_leg m s.ins)))
      (settled_same (lost_in s m (in_leg m s.ins)) ∙ lost_same s m (in_leg m s.ins))
  mark_keeps s m OutServer = λ log h.
      same_keeps (without_out (with_ack_dropped s m) m)
      (settled (without_out (with_ack_dropped s m) m))
      (settled_same (without_out (with_ack_dropped s m) m)) log (without_keeps s m log h)
  mark_keeps s m ClientIn = λ log h. h
  mark_keeps s m ClientOut = λ log h. h

  -- ---- what is put

  abbrev Holds : Server → List OnLeg → List OnLeg → Type 0
  Holds s came put = Of (seen s) (of_leg (os n) put)

  row_holds : (s : Server) (one : OnLeg) (came put : List OnLeg) (x : Done) → RowAlone s x
      → Holds s came put → RowKeeps Holds one came put x
  row_holds s one came put (t, Ok taken) keeps h = keeps (of_leg (os n) put) h
  row_holds s one came put (t, Err why) keeps h = keeps (of_leg (os n) put) h

  -- one message more, on the leg or on another
  log_more : (m : ℕ) (put : List OnLeg) (one : Message) (t : Server)
      → (m ≡ n → Of (seen t) (of_leg (os n) put ++ one ∷ []))
      → ((m == n) ≡ false → Of (seen t) (of_leg (os n) put))
      → Of (seen t) (of_leg (os n) (put ++ (os m, one) ∷ []))
  log_more m put one t here other =
      subst (λ (ms : List Message). Of (seen t) ms) (sym (leg_more (os n) put (os m, one)))
      (by_test (λ (ms : List Message). Of (seen t) (of_leg (os n) put ++ ms)) (m == n)
      (one ∷ []) [] (λ e. here (same_number m n e))
      (λ e. subst (λ (ms : List Message). Of (seen t) ms)
      (sym (append-nil (of_leg (os n) put))) (other e)))

  module _ (m : ℕ) (came put : List OnLeg) where
    abbrev OutPuts : Pick → Type 0
    OutPuts pick = PutKeeps Holds (os m) came put pick

    or_put : (a b : Pick) → OutPuts a → OutPuts b → OutPuts (or_else a b)
    or_put None b h k = k
    or_put (Some pick) b h k = h

    -- a frame is put on a leg that was greeted
    module _ (s : Server) (place : ℕ) (x : OutLeg) (at : slice_get s.outs place ≡ Some x)
        (is : x.number ≡ m) (greeted : x.greeting ≡ greeting.Put) (h : Holds s came put) where
      frame_put : (t : Server) (one : Message) → Keeps s t → IsFrame one
          → Of (seen t) (of_leg (os n) (put ++ (os m, one) ∷ []))
      frame_put t one keeps frame =
          log_more m put one t
          (λ e. keeps (of_leg (os n) put ++ one ∷ [])
          (greets_frame number_of greets_of n s.newest_out s.outs place x (of_leg (os n) put) one
          at (is ∙ e) greeted frame h))
          (λ e. keeps (of_leg (os n) put) h)

      counts_keeps : (w : Waiting) (len : ℕ)
          → Keeps s (counts (record s { waiting = w }) place len)
      counts_keeps w len = by (slice_get s.outs place) at
        where
          by : (o : Option OutLeg) → o ≡ Some x
              → Keeps s (counts_at (record s { waiting = w }) place len o)
          by None e = λ log k. k
          by (Some z) e = λ log k.
              greets_set number_of greets_of n s.newest_out s.outs place z _ log (at ∙ sym e) refl
              refl k

      was_put_keeps : (w : Waiting) (packet : Named)
          → Keeps s (was_put (record s { waiting = w }) place packet)
      was_put_keeps w (named.AckTo to received window cookie) =
          by_test (Keeps s) (to == 3) (record s { waiting = w })
          (counts (record s { waiting = w }) place 56) (λ e log k. k) (λ e. counts_keeps w 56)
      was_put_keeps w named.OutR1A9 = counts_keeps w 24
      was_put_keeps w packet = counts_keeps w (length_of packet)

      waiting_puts : OutPuts (waiting_at s place (gate_at s (Some x)))
      waiting_puts = by (find (lets (gate s x)) s.waiting.due)
        where
          left : Waiting
          left = (taken (lets (gate s x)) s.waiting).0

          by : (o : Option Due)
              → OutPuts (waiting_by s place ((taken (lets (gate s x)) s.waiting).0, o))
          by None = tt
          by (Some due) =
              frame_put (was_put (record s { waiting = left }) place due.packet)
              (Packet due.packet) (was_put_keeps left due.packet) tt

      went_keeps : (len : ℕ) → Keeps s (goes s place len)
      went_keeps len log k = by (slice_get s.outs place) at
        where
          by : (o : Option OutLeg) → o ≡ Some x
              → Greets number_of greets_of n s.newest_out (went_at s place len o) log
          by None e = k
          by (Some z) e =
              greets_set number_of greets_of n s.newest_out s.outs place z _ log (at ∙ sym e) refl
              refl k

      pdu_puts : OutPuts (put_pdu s place)
      pdu_puts = by (front_length s.queue)
        where
          by : (l : Option ℕ) → OutPuts (pdu_by s place l)
          by None = tt
          by (Some len) =
              by_test OutPuts (may_go_at s len (slice_get s.outs place))
              (Some (goes s place len, Pdu (first_of s.queue))) None
              (λ e. frame_put (goes s place len) (Pdu (first_of s.queue)) (went_keeps len) tt)
              (λ e. tt)

      end_puts : OutPuts (put_end s place)
      end_puts =
          by_test OutPuts (is_end_due s && may_end_at s (slice_get s.outs place))
          (Some (record (counts s place 24) { end_mark = end_mark.Put }, Packet named.EndB1)) None
          (λ e. frame_put (record (counts s place 24) { end_mark = end_mark.Put })
          (Packet named.EndB1) (counts_keeps s.waiting 24) tt)
          (λ e. tt)

      frames_put : OutPuts (next_out s place)
      frames_put =
          or_put (put_waiting s place) (put_pdu_or_end s place)
          (subst (λ (o : Option OutLeg). OutPuts (waiting_at s place (gate_at s o))) (sym at)
          waiting_puts)
          (or_put (put_pdu s place) (put_end s place) pdu_puts end_puts)

    -- nothing is put where there is no leg
    none_put : (s : Server) (place : ℕ) → slice_get s.outs place ≡ None
        → OutPuts (next_out s place)
    none_put s place at =
        or_put (put_waiting s place) (put_pdu_or_end s place)
        (subst (λ (o : Option OutLeg). OutPuts (waiting_at s place (gate_at s o))) (sym at) tt)
        (or_put (put_pdu s place) (put_end s place) (by (front_length s.queue))
        (by_test OutPuts (is_end_due s && may_end_at s (slice_get s.outs place)) _ None
        (λ e. absurd (false≢true (subst (λ (o : Option OutLeg). may_end_at s o ≡ true) at
        (and_parts (is_end_due s) (may_end_at s (slice_get s.outs place)) e).1)))
        (λ e. tt)))
      where
        by : (l : Option ℕ) → OutPuts (pdu_by s place l)
        by None = tt
        by (Some len) =
            by_test OutPuts (may_go_at s len (slice_get s.outs place)) _ None
            (λ e. absurd (false≢true
            (subst (λ (o : Option OutLeg). may_go_at s len o ≡ true) at e)))
            (λ e. tt)

    settled_puts : (pick : Pick) → OutPuts pick → OutPuts (settled_pick pick)
    settled_puts None h = tt
    settled_puts (Some pick) h =
        same_keeps pick.0 (settled pick.0) (settled_same pick.0)
        (of_leg (os n) (put ++ (os m, pick.1) ∷ [])) h

    open_puts : (s : Server) (place : ℕ) → OutPuts (next_out s place)
        → OutPuts (put_open s place)
    open_puts s place h =
        by_test OutPuts (is_open s.stage) (settled_pick (next_out s place)) None
        (λ e. settled_puts (next_out s place) h) (λ e. tt)

    out_puts : (s : Server) (place : Option ℕ) → out_place m s.outs ≡ place → Holds s came put
        → OutPuts (put_out_at s place)
    out_puts s None placed h = tt
    out_puts s (Some place) placed h = by (slice_get s.outs place) refl
      where
        by : (o : Option OutLeg) → slice_get s.outs place ≡ o
            → OutPuts (or_else (out_greeting_at s place o) (put_open s place))
        by None at = open_puts s place (none_put s place at)
        by (Some x) at =
            let y : OutLeg = record x { greeting = greeting.Put } in
            let is = found_number m place s.outs x placed at in
            by_test (λ (pick : Pick). OutPuts (or_else pick (put_open s place)))
            (is_due x.greeting) (Some (with_out s place y, Text greeting_text)) None
            (λ e. log_more m put (Text greeting_text) (with_out s place y)
            (λ f. greets_text number_of greets_of n s.newest_out s.outs place x y
            (of_leg (os n) put) at (is ∙ f) refl (is_when_due x.greeting e) refl h)
            (λ f. greets_other number_of greets_of n s.newest_out s.outs place x y
            (of_leg (os n) put) at refl (ap (λ (k : ℕ). k == n) is ∙ f) h))
            (λ e. open_puts s place
            (frames_put s place x at is (is_when_put x.greeting e) h))

    in_puts : (s : Server) (pick : Pick)
        → IfSome pick (λ (one : Server × Message). seen one.0 ≡ seen s) → Holds s came put
        → PutKeeps Holds (leg_at InServer m) came put pick
    in_puts s None same h = tt
    in_puts s (Some one) same h =
        subst (λ (ms : List Message). Of (seen one.0) ms)
        (sym (leg_more (os n) put (leg_at InServer m, one.1) ∙ append-nil (of_leg (os n) put)))
        (same_keeps s one.0 same (of_leg (os n) put) h)

    puts : (s : Server) (k : LegKind) → Holds s came put
        → PutKeeps Holds (leg_at k m) came put (put_by s m k)
    puts s InServer h = in_puts s (put_in s m) (in_same s m) h
    puts s OutServer h = out_puts s (out_place m s.outs) refl h
    puts s ClientIn h = tt
    puts s ClientOut h = tt

  -- ---- the role

  steps : StepsKeep server_rules Holds
  steps = record {
    up = λ s leg cookie came put h.
        by_test (λ (t : Server). Holds t came put) (may_up_by s leg.number leg.kind)
        (up_by s leg.number leg.kind) s
        (λ e. up_keeps s leg.number leg.kind e (of_leg (os n) put) h) (λ e. h);
    head = λ s leg text came put h. h;
    pdu = λ s leg count bytes came put.
        row_holds s (leg, Pdu bytes) came put (pdu s leg count bytes)
        (same_keeps s (pdu s leg count bytes).0 (pdu_same s leg count bytes));
    packet = λ s leg count m came put.
        row_holds s (leg, Packet m) came put (packet_by s leg.number count m leg.kind)
        (packet_keeps s leg.number count m leg.kind);
    put = λ s leg came put. puts leg.number came put s leg.kind;
    drawn = λ s leg came put. drawn_keeps s leg.number leg.kind (of_leg (os n) put);
    mark = λ s leg came put. mark_keeps s leg.number leg.kind (of_leg (os n) put);
    ping = λ s leg came put h. h;
  }

  calls : ActsKeep acts Holds
  calls = record {
    give = λ s bytes came put.
        same_keeps s (give s bytes).0 (give_same s bytes) (of_leg (os n) put);
    take = λ s came put. same_keeps s (take s) (take_same s) (of_leg (os n) put);
    close = λ s came put h. h;
    recycle = λ s came put. same_keeps s (recycle s).0 (recycle_same s) (of_leg (os n) put);
  }

pub greets_out : (window : ℕ) (moves : List EndMove) (n : ℕ)
    → MayGreet (of_leg (os n)
    (all_end_moved server_rules acts (end_started (first window)) moves).passage.put)
greets_out window moves n =
    (end_moves_keep server_rules (Holds n) (steps n) acts (calls n) (end_started (first window))
    moves (greets_start number_of greets_of n)).may
