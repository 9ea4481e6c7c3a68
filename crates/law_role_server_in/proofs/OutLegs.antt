-- a server keeps at most four os legs
use Rattle.law_order.proofs.Vocabulary.{◌≡◌, ℕ, zero, suc, ◌+◌, ◌≤◌, ◌==◌, ◌&&◌, nat_lt, true, not, List, [], ◌∷◌, length, Some, None, Ok, Err, arith, refl, rules, ap, ◌∙◌, and_parts, nat_tests, length-append, length-set, IfSome, remove, slice_get, Option, Result}
use Rattle.rh_sig.specs.declared.named.Named.TheVariants as named
use Rattle.rh_server.specs.Servers.{pdu_by}
use Rattle.rh_server.specs.declared.state.EndMark.TheVariants as end_mark
use Rattle.rh_server.specs.declared.state.Leaving.TheVariants as leaving
use Rattle.rh_server.specs.declared.state.Stage.TheVariants as stage
use Rattle.rh_server.specs.declared.state.Tells.TheVariants as tells
use Rattle.rh_server.specs.declared.out_line.Kind.TheVariants as kinds
use Rattle.law_moves.proofs.Vocabulary.{Ack, by_test, Cookie, Named, Leg, LegKind, ClientOut, OutServer, ClientIn, InServer, after_tell, Current, front_length, Count, GiveRefused, Message, Pdu, Packet, Due, Waiting, taken, Move, Up, HeadCame, PduCame, PacketCame, Puts, IsDrawn, Marks, Pings, Passage, EndMove, Moves, Gives, Takes, Closes, Recycles, EndPassage, moved, taken_by, put_by, end_moved, end_now_at, given_by, with_first, all_end_moved}
use Rattle.law_role_server.proofs.Vocabulary.{OutLeg, Told, InLeg, Leaving, Stage, Tells, Gate, length_of, lets, waits, Server, in_leg, is_due, is_open, is_shut, is_waiting, out_at, out_cookie, out_place, removed_at, same_cookie, stays, with_in, without_in, without_out, Done, conn_a2_at, first_out_at, is_first, may_up_by, on_conn_a2, opens, out_leg_up, took, unexpected, up, up_by, with_first_out, acked_at, acked_cookie, acked_in, on_ack, answered_by, answered_on, may_answer}
use Rattle.law_role_server.proofs.Vocabulary.{on_out_r1_a4, out_r1_a4_at, out_r1_a4_by, recycle, Pick, ack_due, counts, counts_at, gate_at, is_end_due, may_end_at, may_go_at, next_out, or_else, out_greeting_at, put_ack, put_ack_by, put_b1, put_b1_by, put_end, put_in_by, put_in_greeting, put_open, put_out_at, put_out_greeting, put_out_place, put_pdu, put_pdu_or_end, put_tells, put_tells_by, put_waiting, settled_pick, waiting_at, waiting_by, was_current, was_put, went_at}
use Rattle.law_role_server.proofs.Vocabulary.{pdu_by as pdu_by_length, put_by as put_by_kind, drawn_by, give, in_is_drawn, lost_in, mark_by, on_end_a2, settled, with_ack_dropped, take, on_in_r1_a2, on_in_r1_a6, acts, on_is, on_os, packet_by, rules as server_rules}

-- ---- what leaves the legs alone

settled_same : (s : Server) → (settled s).outs ≡ s.outs
settled_same s = search rules

give_same : (s : Server) (bytes : List ℕ) → (give s bytes).0.outs ≡ s.outs
give_same s bytes = search rules

recycle_same : (s : Server) → (recycle s).0.outs ≡ s.outs
recycle_same s = search rules

take_same : (s : Server) → (take s).outs ≡ s.outs
take_same s = search rules

in_r1_a2_same : (s : Server) (m : ℕ) (count : Count) (a b c : Cookie) (d e : ℕ)
    → (on_in_r1_a2 s m count a b c d e).0.outs ≡ s.outs
in_r1_a2_same s m count a b c d e = search rules

in_r1_a6_same : (s : Server) (m : ℕ) (a : Cookie) → (on_in_r1_a6 s m a).0.outs ≡ s.outs
in_r1_a6_same s m a = search rules

end_a2_same : (s : Server) (m : ℕ) (count : Count) → (on_end_a2 s m count).0.outs ≡ s.outs
end_a2_same s m count = search rules

is_same : (s : Server) (m : ℕ) (count : Count) (packet : Named)
    → (on_is s m count packet).0.outs ≡ s.outs
is_same s m count (named.ConnB2 v a b c d e f g) = search rules
is_same s m count (named.InR1A2 v a b c d e) = in_r1_a2_same s m count a b c d e
is_same s m count (named.InR1A6 a) = in_r1_a6_same s m a
is_same s m count (named.InR2A2 a) = search rules
is_same s m count named.EndA2 = end_a2_same s m count
is_same s m count (named.AckTo a b c d) = search rules
is_same s m count (named.OutR1A8 a b) = search rules
is_same s m count packet = search rules

pdu_same : (s : Server) (m : ℕ) (bytes : List ℕ) (k : LegKind)
    → (pdu_by s m bytes k).0.outs ≡ s.outs
pdu_same s m bytes InServer = search rules
pdu_same s m bytes OutServer = refl
pdu_same s m bytes ClientIn = refl
pdu_same s m bytes ClientOut = refl

-- ---- as many legs

abbrev AsMany : Server → Server → Type 0
AsMany s t = length t.outs ≡ length s.outs

same_many : (s t : Server) → t.outs ≡ s.outs → AsMany s t
same_many s t same = ap (λ (legs : List OutLeg). length legs) same

first_many : (s : Server) (cookie : Cookie) (lifetime window : ℕ) (place : Option ℕ)
    (o : Option OutLeg) → AsMany s (first_out_at s cookie lifetime window place o)
first_many s cookie lifetime window None o = refl
first_many s cookie lifetime window (Some place) None = refl
first_many s cookie lifetime window (Some place) (Some leg) = length-set s.outs place _

module _ (s : Server) where
  abbrev Row : Done → Type 0
  Row x = AsMany s x.0

  conn_a2_many : (m : ℕ) (count : Count) (a b : Cookie) (c d : ℕ)
      → Row (on_conn_a2 s m count a b c d)
  conn_a2_many m count a b c d =
      by_test Row (is_first count && ((m == 1) && not (waits kinds.ConnC1 s.waiting)))
      (conn_a2_at s s.stage a b c d) (unexpected s) (λ e. by s.stage) (λ e. refl)
    where
      begins : AsMany s (with_first_out s b c d)
      begins = first_many s b c d (out_place 1 s.outs) (out_at s.outs (out_place 1 s.outs))

      by : (x : Stage) → Row (conn_a2_at s x a b c d)
      by stage.Waits = begins
      by (stage.InCame known window timeout) =
          by_test Row (same_cookie known a)
          (took (opens (with_first_out s b c d) known window timeout)) _ (λ e. begins) (λ e. refl)
      by (stage.OutCame known) = refl
      by (stage.Open known) = refl
      by stage.Ended = refl

  out_r1_a4_many : (m : ℕ) (count : Count) (a b c : Cookie) (d e f : ℕ)
      → Row (on_out_r1_a4 s m count a b c d e f)
  out_r1_a4_many m count a b c d e f =
      by_test Row (may_answer s m count) (out_r1_a4_at s s.stage m a b c d e f) (unexpected s)
      (λ t. by s.stage) (λ t. refl)
    where
      answers : (place : Option ℕ) (o : Option OutLeg) → Row (answered_by s c d e f place o)
      answers None o = refl
      answers (Some place) None = refl
      answers (Some place) (Some leg) = length-set s.outs place _

      on : (known : Cookie) (o : Option Cookie) → Row (out_r1_a4_by s m known a b c d e f o)
      on known None = refl
      on known (Some writing) =
          by_test Row (not (same_cookie known a)) _ _ (λ t. refl)
          (λ t. by_test Row (not (same_cookie writing b)) _ (answered_on s m c d e f) (λ u. refl)
          (λ u. answers (out_place m s.outs) (out_at s.outs (out_place m s.outs))))

      by : (x : Stage) → Row (out_r1_a4_at s x m a b c d e f)
      by (stage.Open known) = on known (out_cookie s.writing s.outs)
      by stage.Waits = refl
      by (stage.OutCame known) = refl
      by (stage.InCame known window timeout) = refl
      by stage.Ended = refl

  ack_many : (m : ℕ) (count : Count) (received window : ℕ) (cookie : Cookie)
      → Row (on_ack s m count received window cookie)
  ack_many m count received window cookie =
      by_test Row (is_first count) (unexpected s) _ (λ e. refl)
      (λ e. by (out_cookie m s.outs))
    where
      at : (place : ℕ) (o : Option OutLeg) → Row (acked_at s place received window o)
      at place None = refl
      at place (Some leg) = length-set s.outs place _

      on : (o : Option ℕ) → Row (acked_in s received window o)
      on None = refl
      on (Some place) = at place (slice_get s.outs place)

      by : (o : Option Cookie) → Row (acked_cookie s m received window cookie o)
      by None = refl
      by (Some channel) =
          by_test Row (same_cookie channel cookie)
          (acked_in s received window (out_place m s.outs)) _ (λ f. on (out_place m s.outs))
          (λ f. refl)

  os_many : (m : ℕ) (count : Count) (packet : Named) → Row (on_os s m count packet)
  os_many m count (named.ConnA2 v a b c d) = conn_a2_many m count a b c d
  os_many m count (named.OutR1A4 v a b c d e f) = out_r1_a4_many m count a b c d e f
  os_many m count (named.Ack received window cookie) = ack_many m count received window cookie
  os_many m count (named.PingTraffic bytes) =
      by_test Row (is_first count) (unexpected s) (took s) (λ e. refl) (λ e. refl)
  os_many m count packet = same_many s (on_os s m count packet).0 (search rules)

  packet_many : (m : ℕ) (count : Count) (packet : Named) (k : LegKind)
      → Row (packet_by s m count packet k)
  packet_many m count packet InServer =
      same_many s (on_is s m count packet).0 (is_same s m count packet)
  packet_many m count packet OutServer = os_many m count packet
  packet_many m count packet ClientIn = refl
  packet_many m count packet ClientOut = refl

  -- ---- what is put

  abbrev Put : Pick → Type 0
  Put pick = IfSome pick (λ (one : Server × Message). AsMany s one.0)

  or_many : (a b : Pick) → Put a → Put b → Put (or_else a b)
  or_many None b h k = k
  or_many (Some one) b h k = h

  in_puts : (o : Option InLeg) → Put (put_in_by s o)
  in_puts None = tt
  in_puts (Some leg) =
      or_many (put_in_greeting s leg) _
      (by_test Put (is_due leg.greeting) _ None (λ e. refl) (λ e. tt))
      (or_many (put_tells s leg) _ (told leg.tells)
      (or_many (put_b1 s leg) (put_ack s leg) (left leg.leaving) (ack (ack_due s leg))))
    where
      told : (t : Tells) → Put (put_tells_by s leg t)
      told tells.Nothing = tt
      told tells.ConnB3 = by_test Put (is_open s.stage) _ None (λ e. refl) (λ e. tt)
      told tells.InR1B2 =
          by_test Put (was_current s leg) _ None
          (λ e. by_test (λ (u : Server).
          AsMany s (with_in u (record leg { tells = tells.Nothing })))
          ((leg.number == s.current.leg) && is_shut s.edge)
          (record s { line = after_tell s.line Current; edge = Told }) s (λ f. refl) (λ f. refl))
          (λ e. tt)

      left : (x : Leaving) → Put (put_b1_by s leg x)
      left leaving.Stays = tt
      left leaving.InR1B1 = refl
      left leaving.Left = tt
      left leaving.Lost = tt

      ack : (o : Option Ack) → Put (put_ack_by s o)
      ack None = tt
      ack (Some a) = refl

  module _ (place : ℕ) where
    counts_many : (t : Server) (len : ℕ) → AsMany t (counts t place len)
    counts_many t len = by (slice_get t.outs place)
      where
        by : (o : Option OutLeg) → AsMany t (counts_at t place len o)
        by None = refl
        by (Some leg) = length-set t.outs place _

    was_put_many : (t : Server) (packet : Named) → AsMany t (was_put t place packet)
    was_put_many t named.OutR1A9 = counts_many t 24
    was_put_many t (named.AckTo to received window cookie) =
        by_test (AsMany t) (to == 3) t (counts t place 56) (λ e. refl)
        (λ e. counts_many t 56)
    was_put_many t packet = counts_many t (length_of packet)

    next_puts : Put (next_out s place)
    next_puts =
        or_many (put_waiting s place) (put_pdu_or_end s place)
        (waiting (gate_at s (slice_get s.outs place)))
        (or_many (put_pdu s place) (put_end s place) (sends (front_length s.queue)) ends)
      where
        goes_out : (w : Waiting) (o : Option Due) → Put (waiting_by s place (w, o))
        goes_out w None = tt
        goes_out w (Some due) = was_put_many (record s { waiting = w }) due.packet

        waiting : (o : Option Gate) → Put (waiting_at s place o)
        waiting None = tt
        waiting (Some gate) =
            goes_out (taken (lets gate) s.waiting).0 (taken (lets gate) s.waiting).1

        went_many : (len : ℕ) (o : Option OutLeg)
            → length (went_at s place len o) ≡ length s.outs
        went_many len None = refl
        went_many len (Some leg) = length-set s.outs place _

        sends : (len : Option ℕ) → Put (pdu_by_length s place len)
        sends None = tt
        sends (Some len) =
            by_test Put (may_go_at s len (slice_get s.outs place)) _ None
            (λ e. went_many len (slice_get s.outs place)) (λ e. tt)

        ends : Put (put_end s place)
        ends =
            by_test Put (is_end_due s && may_end_at s (slice_get s.outs place))
            (Some (record (counts s place 24) { end_mark = end_mark.Put }, Packet named.EndB1)) None
            (λ e. counts_many s 24) (λ e. tt)

    place_puts : Put (put_out_place s place)
    place_puts =
        or_many (put_out_greeting s place) (put_open s place) (greets (slice_get s.outs place))
        (by_test Put (is_open s.stage) (settled_pick (next_out s place)) None
        (λ e. settles (next_out s place) next_puts) (λ e. tt))
      where
        greets : (o : Option OutLeg) → Put (out_greeting_at s place o)
        greets None = tt
        greets (Some leg) =
            by_test Put (is_due leg.greeting) _ None (λ e. length-set s.outs place _) (λ e. tt)

        settles : (pick : Pick) → Put pick → Put (settled_pick pick)
        settles None h = tt
        settles (Some one) h = same_many one.0 (settled one.0) (settled_same one.0) ∙ h

  out_puts : (place : Option ℕ) → Put (put_out_at s place)
  out_puts None = tt
  out_puts (Some place) = place_puts place

  puts_many : (m : ℕ) (k : LegKind) → Put (put_by_kind s m k)
  puts_many m InServer = in_puts (in_leg m s.ins)
  puts_many m OutServer = out_puts (out_place m s.outs)
  puts_many m ClientIn = tt
  puts_many m ClientOut = tt

-- ---- at most four

abbrev Few : Server → Type 0
Few s = length s.outs ≤ 4

few_same : (s t : Server) → AsMany s t → Few s → Few t
few_same s t same h = omega (arith, same, h)

up_few : (s : Server) (leg : Leg) (cookie : Cookie) → Few s → Few (up s leg cookie)
up_few s leg cookie h =
    by_test Few (may_up_by s leg.number leg.kind) (up_by s leg.number leg.kind) s
    (λ e. by leg.kind e) (λ e. h)
  where
    room : (n : ℕ) → nat_lt n 4 ≡ true → n + 1 ≤ 4
    room n e = grind (arith, nat_tests)

    by : (k : LegKind) → may_up_by s leg.number k ≡ true → Few (up_by s leg.number k)
    by InServer e = h
    by OutServer e =
        let fits = room (length s.outs) (and_parts (leg.number == s.newest_out + 1) _ e).1 in
        let more = length-append s.outs (out_leg_up leg.number ∷ []) in
        omega (arith, fits, more)
    by ClientIn e = h
    by ClientOut e = h

off : (legs : List OutLeg) (place : ℕ) → length (remove legs place) ≤ length legs
off [] zero = omega arith
off [] (suc place) = omega arith
off (leg ∷ legs) zero = omega arith
off (leg ∷ legs) (suc place) = let rest = off legs place in omega (arith, rest)

mark_few : (s : Server) (m : ℕ) (k : LegKind) → Few s → Few (mark_by s m k)
mark_few s m InServer h =
    few_same s (mark_by s m InServer)
    (same_many gone (mark_by s m InServer) (settled_same gone) ∙ lost (in_leg m s.ins)) h
  where
    gone : Server
    gone = lost_in s m (in_leg m s.ins)

    lost : (o : Option InLeg) → AsMany s (lost_in s m o)
    lost None = refl
    lost (Some leg) =
        by_test (AsMany s) (is_waiting leg.stage && stays leg.leaving)
        (with_in s (record leg { leaving = leaving.Lost })) (without_in s m) (λ e. refl) (λ e. refl)
mark_few s m OutServer h =
    few_same gone (mark_by s m OutServer)
    (same_many gone (mark_by s m OutServer) (settled_same gone)) (removed (out_place m s.outs))
  where
    gone : Server
    gone = without_out (with_ack_dropped s m) m

    removed : (place : Option ℕ) → length (removed_at s.outs place) ≤ 4
    removed None = h
    removed (Some place) = let fewer = off s.outs place in omega (arith, fewer, h)
mark_few s m ClientIn h = h
mark_few s m ClientOut h = h

drawn_few : (s : Server) (m : ℕ) (k : LegKind) → Few s → Few (drawn_by s m k)
drawn_few s m InServer h =
    by_test Few (in_is_drawn (in_leg m s.ins)) (settled (without_in s m)) s
    (λ e. few_same s (settled (without_in s m))
    (same_many s (settled (without_in s m)) (settled_same (without_in s m))) h) (λ e. h)
drawn_few s m OutServer h = h
drawn_few s m ClientIn h = h
drawn_few s m ClientOut h = h

-- ---- moves

by_row : (p : Passage Server) (leg : Leg) (m : Message) (row : Done) → Few row.0
    → Few (taken_by p leg m row).role
by_row p leg m (s, Ok taken) h = h
by_row p leg m (s, Err why) h = h

by_put : (p : Passage Server) (leg : Leg) (pick : Pick) → Put p.role pick → Few p.role
    → Few (put_by p leg pick).role
by_put p leg None same h = h
by_put p leg (Some one) same h = few_same p.role one.0 same h

move_few : (p : Passage Server) (move : Move) → Few p.role → Few (moved server_rules p move).role
move_few p (Up leg cookie) h = up_few p.role leg cookie h
move_few p (HeadCame leg text) h = h
move_few p (PduCame leg count bytes) h =
    by_row p leg (Pdu bytes) (server_rules.pdu p.role leg count bytes)
    (few_same p.role (pdu_by p.role leg.number bytes leg.kind).0
    (same_many p.role (pdu_by p.role leg.number bytes leg.kind).0
    (pdu_same p.role leg.number bytes leg.kind)) h)
move_few p (PacketCame leg count packet) h =
    by_row p leg (Packet packet) (server_rules.packet p.role leg count packet)
    (few_same p.role (packet_by p.role leg.number count packet leg.kind).0
    (packet_many p.role leg.number count packet leg.kind) h)
move_few p (Puts leg) h =
    by_put p leg (server_rules.put p.role leg) (puts_many p.role leg.number leg.kind) h
move_few p (IsDrawn leg) h = drawn_few p.role leg.number leg.kind h
move_few p (Marks leg) h = mark_few p.role leg.number leg.kind h
move_few p (Pings leg) h = h

end_move_few : (p : EndPassage Server) (move : EndMove) → Few p.passage.role
    → Few (end_moved server_rules acts p move).passage.role
end_move_few p (Moves move) h = move_few p.passage move h
end_move_few p (Gives bytes) h =
    by (acts.give p.passage.role bytes)
    (few_same p.passage.role (give p.passage.role bytes).0
    (same_many p.passage.role (give p.passage.role bytes).0
    (give_same p.passage.role bytes)) h)
  where
    by : (x : Server × Result (Unit {0}) GiveRefused) → Few x.0
        → Few (given_by p bytes x).passage.role
    by (t, Ok accepted) k = k
    by (t, Err why) k = k
end_move_few p Takes h =
    by (acts.line p.passage.role).current.pdus
    (few_same p.passage.role (take p.passage.role)
    (same_many p.passage.role (take p.passage.role) (take_same p.passage.role)) h)
  where
    by : (pdus : List (List ℕ)) → Few (take p.passage.role)
        → Few (with_first (end_now_at p (acts.take p.passage.role)) pdus).passage.role
    by [] k = k
    by (pdu ∷ pdus) k = k
end_move_few p Closes h = h
end_move_few p Recycles h =
    few_same p.passage.role (recycle p.passage.role).0
    (same_many p.passage.role (recycle p.passage.role).0 (recycle_same p.passage.role)) h

pub moves_few : (p : EndPassage Server) (moves : List EndMove) → Few p.passage.role
    → Few (all_end_moved server_rules acts p moves).passage.role
moves_few p [] h = h
moves_few p (move ∷ moves) h =
    moves_few (end_moved server_rules acts p move) moves (end_move_few p move h)
