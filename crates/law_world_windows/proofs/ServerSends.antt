-- a server sends to an out proxy within its window
use Rattle.rh_keep.specs.Meters.{started}
use Rattle.law_order.proofs.Vocabulary.{◌≡◌, ℕ, ◌+◌, ◌≤◌, ◌<◌, ◌==◌, List, [], ◌∷◌, ◌++◌, length, Bool, true, false, true≢false, if◌then◌else◌, ◌&&◌, not, Some, None, Ok, Err, arith, refl, sym, ap, ◌∙◌, subst, rules, false≢true, and_parts, append-nil, slice_get, slice_set, IfSome, Option, Result}
use Rattle.rh_sig.specs.declared.named.Named.TheVariants as named
use Rattle.rh_shell.specs.declared.answers.Refused.TheVariants as refused
use Rattle.rh_server.specs.Servers.{pdu_by}
use Rattle.rh_server.specs.declared.state.Greeting.TheVariants as greetings
use Rattle.rh_server.specs.declared.state.Leaving.TheVariants as leaving
use Rattle.rh_server.specs.declared.state.Tells.TheVariants as tells
use Rattle.rh_server.specs.declared.state.Stage.TheVariants as stages
use Rattle.rh_server.specs.declared.out_line.Kind.TheVariants as kind
use Rattle.law_moves.proofs.Vocabulary.{Sender, unsent, may_send, ack_verdict, after_acked, BadAck, Ack, may_put, by_test, same_number, test_other, test_same, Cookie, Named, behind, front_length, Leg, LegKind, ClientOut, OutServer, ClientIn, InServer, Count, Due, Message, Text, Pdu, Packet, greeting as greeting_text, first_of, same_leg, Waiting, taken as taken_out, EndMove, AreAllowedAtEnd, end_started, all_end_moved, of_leg}
use Rattle.law_moves.proofs.Lemmas.{bytes_append}
use Rattle.law_role_server.proofs.Vocabulary.{InLeg, Leaving, Tells, OutLeg, Stage, Server, is_open, is_due, same_cookie, in_leg, out_place, out_at, out_cookie, removed_at, without_in, without_out, Gate, lets, length_of, waits, counted, may_go, went, acked_by, Done, took, refuse, unexpected, is_first, may_up_by, has_room, out_leg_up, up, up_by, opens, first_out_at, with_first_out, conn_a2_at, on_conn_a2, on_conn_b2, acked_at, acked_in, acked_cookie, on_ack, on_ack_to}
use Rattle.law_role_server.proofs.Vocabulary.{on_ping_traffic, take, on_in_r1_a2, on_in_r1_a6, on_in_r2_a2, recycle, answered, answered_by, answered_on, handed, out_r1_a4_by, out_r1_a4_at, may_answer, on_out_r1_a4, on_out_r1_a8, give, on_end_a2, settled, in_is_drawn, drawn_by, with_ack_dropped, lost_in, mark_by, Pick, or_else, put_in_greeting, was_current, put_tells_by, put_tells, put_b1_by, put_b1, ack_due, put_ack_by, put_ack, put_in_by, put_in, out_greeting_at}
use Rattle.law_role_server.proofs.Vocabulary.{put_out_greeting, gate_at, counts, counts_at, was_put, waiting_by, waiting_at, put_waiting, may_go_at, went_at, pdu_by as put_pdu_by, put_pdu, is_end_due, may_end_at, put_end, put_pdu_or_end, next_out, settled_pick, put_open, put_out_at, put_by as put_by_kind, on_is, on_os, packet_by, first, acts as server_acts, rules as server_rules}
use Rattle.law_role_server.proofs.Numbered.{Absent, Once, absent_at, absent_push, absent_removed, absent_set, once_at, once_first, once_map, once_push, once_removed, once_set}
use Rattle.law_node_history.proofs.Lemmas.{same_itself}
use Rattle.law_role_server_rows.proofs.InTurn.Quiet.{is_opening}
use Rattle.law_role_server_rows.proofs.Refusing.Places.{found_passes}
use Rattle.law_world_windows.proofs.Legs.{on}
use Rattle.law_world_windows.proofs.Counts.{edges_rise}
use Rattle.law_world_windows.proofs.Sending.{Sends, unsent_sends, heard_more, put_more, opens_sends, acked_sends, refused_sends, sent_sends, sends_within, IsFalse, verdict_false}
use Rattle.law_world_windows.proofs.Steps.{RowKeeps, PutKeeps, StepsKeep, ActsKeep, end_moves_keep}
use Rattle.law_world_windows.specs.Hops.{os_leg, pdu_bytes, edge_told, greatest_edge, RefusesFalseAcks, SendsWithin}

-- ---- what the facts are about

record Seen : Type 0 where
  outs : List OutLeg
  writing : ℕ
  newest : ℕ

abbrev seen : Server → Seen
seen s = record { outs = s.outs; writing = s.writing; newest = s.newest_out }

abbrev number_of : OutLeg → ℕ
number_of leg = leg.number

-- of os leg n: its window counts what was put, and nothing was before its channel wrote
record SendsOf (n : ℕ) (x : Seen) (came put : List Message) : Type 0 where
  within : pdu_bytes put ≤ greatest_edge came
  later : x.writing < n → pdu_bytes put ≡ 0
  unborn : x.newest < n → (pdu_bytes put ≡ 0) × Absent number_of n x.outs
  window : Once number_of n (λ (leg : OutLeg). Sends leg.window came put) x.outs

record Kept (n : ℕ) (s : Server) (came put : List Message) : Type 0 where
  of_leg_n : SendsOf n (seen s) came put
  opening : is_opening s.stage ≡ true → pdu_bytes put ≡ 0

record Same (s t : Server) : Type 0 where
  same : seen t ≡ seen s
  stage : is_opening t.stage ≡ true → is_opening s.stage ≡ true

quiet : (s t : Server) → seen t ≡ seen s → t.stage ≡ s.stage → Same s t
quiet s t same stage = record {
  same = same;
  stage = λ e. ap is_opening (sym stage) ∙ e;
}

-- ---- what leaves these alone

conn_b2_same : (s : Server) (n : ℕ) (count : Count) (a b : Cookie) (c d : ℕ)
    → Same s (on_conn_b2 s n count a b c d).0
conn_b2_same s n count a b c d = record { same = search rules; stage = search rules }

in_r1_a2_same : (s : Server) (n : ℕ) (count : Count) (a b c : Cookie) (d e : ℕ)
    → Same s (on_in_r1_a2 s n count a b c d e).0
in_r1_a2_same s n count a b c d e = quiet s _ (search rules) (search rules)

in_r1_a6_same : (s : Server) (n : ℕ) (a : Cookie) → Same s (on_in_r1_a6 s n a).0
in_r1_a6_same s n a = quiet s _ (search rules) (search rules)

in_r2_a2_same : (s : Server) (n : ℕ) (count : Count) (a : Cookie)
    → Same s (on_in_r2_a2 s n count a).0
in_r2_a2_same s n count a = quiet s _ (search rules) (search rules)

ack_to_same : (s : Server) (count : Count) (a b c : ℕ) (d : Cookie)
    → Same s (on_ack_to s count a b c d).0
ack_to_same s count a b c d = quiet s _ (search rules) (search rules)

out_r1_a8_same : (s : Server) (count : Count) (a : ℕ) (b : Cookie)
    → Same s (on_out_r1_a8 s count a b).0
out_r1_a8_same s count a b = quiet s _ (search rules) (search rules)

end_a2_same : (s : Server) (n : ℕ) (count : Count) → Same s (on_end_a2 s n count).0
end_a2_same s n count = quiet s _ (search rules) (search rules)

ping_same : (s : Server) (count : Count) → Same s (on_ping_traffic s count).0
ping_same s count = quiet s _ (search rules) (search rules)

pdu_same : (s : Server) (n : ℕ) (bytes : List ℕ) (kind : LegKind)
    → Same s (pdu_by s n bytes kind).0
pdu_same s n bytes kind = quiet s _ (search rules) (search rules)

settled_same : (s : Server) → Same s (settled s)
settled_same s = record { same = search rules; stage = search rules }

give_same : (s : Server) (bytes : List ℕ) → Same s (give s bytes).0
give_same s bytes = quiet s _ (search rules) (search rules)

recycle_same : (s : Server) → Same s (recycle s).0
recycle_same s = quiet s _ (search rules) (search rules)

take_same : (s : Server) → Same s (take s)
take_same s = quiet s _ (search rules) (search rules)

lost_same : (s : Server) (n : ℕ) (o : Option InLeg) → Same s (lost_in s n o)
lost_same s n o = quiet s _ (search rules) (search rules)

abbrev PickSame : Server → Pick → Type 0
PickSame s pick = IfSome pick (λ (one : Server × Message). Same s one.0)

or_same : (s : Server) (a b : Pick) → PickSame s a → PickSame s b → PickSame s (or_else a b)
or_same s None b p q = q
or_same s (Some pick) b p q = p

-- what is put on an is leg
tells_same : (s : Server) (leg : InLeg) (what : Tells) → PickSame s (put_tells_by s leg what)
tells_same s leg tells.Nothing = tt
tells_same s leg tells.ConnB3 =
    by_test (PickSame s) (is_open s.stage) _ None (λ e. quiet s _ refl refl) (λ e. tt)
tells_same s leg tells.InR1B2 =
    by_test (PickSame s) (was_current s leg) _ None
    (λ e. quiet s _ (search rules) (search rules)) (λ e. tt)

b1_same : (s : Server) (leg : InLeg) (how : Leaving) → PickSame s (put_b1_by s leg how)
b1_same s leg leaving.Stays = tt
b1_same s leg leaving.InR1B1 = quiet s _ refl refl
b1_same s leg leaving.Left = tt
b1_same s leg leaving.Lost = tt

put_ack_same : (s : Server) (o : Option Ack) → PickSame s (put_ack_by s o)
put_ack_same s None = tt
put_ack_same s (Some ack) = quiet s _ refl refl

in_same : (s : Server) (n : ℕ) → PickSame s (put_in s n)
in_same s n = by (in_leg n s.ins)
  where
    by : (o : Option InLeg) → PickSame s (put_in_by s o)
    by None = tt
    by (Some leg) =
        or_same s (put_in_greeting s leg) _
        (by_test (PickSame s) (is_due leg.greeting) _ None (λ e. quiet s _ refl refl) (λ e. tt))
        (or_same s (put_tells s leg) _ (tells_same s leg leg.tells)
        (or_same s (put_b1 s leg) (put_ack s leg) (b1_same s leg leg.leaving)
        (put_ack_same s (ack_due s leg))))

-- ---- the leg of a place

-- the leg that is found by a number, and its place
record IsAt (s : Server) (number place : ℕ) (leg : OutLeg) : Type 0 where
  at : slice_get s.outs place ≡ Some leg
  is : leg.number ≡ number

at_place : (s : Server) (number place : ℕ) (leg : OutLeg)
    → out_place number s.outs ≡ Some place → slice_get s.outs place ≡ Some leg
    → IsAt s number place leg
at_place s number place leg e at = record {
  at = at;
  is = same_number leg.number number
      (found_passes (λ (one : OutLeg). one.number == number) s.outs place leg e at);
}

module _ (n : ℕ) where
  abbrev leg : Leg
  leg = os_leg n

  abbrev Of : Seen → List Message → List Message → Type 0
  Of x came put = SendsOf n x came put

  abbrev Fine : Server → List Message → List Message → Type 0
  Fine s came put = Kept n s came put

  abbrev Window : List Message → List Message → OutLeg → Type 0
  Window came put one = Sends one.window came put

  same_kept : (s t : Server) (came put : List Message) → Same s t → Fine s came put
      → Fine t came put
  same_kept s t came put same h = record {
    of_leg_n = subst (λ (x : Seen). Of x came put) (sym same.same) h.of_leg_n;
    opening = λ e. h.opening (same.stage e);
  }

  came_on : (s : Server) (came put more : List Message) → Fine s came put
      → Fine s (came ++ more) put
  came_on s came put more h =
      let w = h.of_leg_n in record {
        of_leg_n = record {
          within =
              let rise = edges_rise came more in let before = w.within in
              omega (arith, rise, before);
          later = w.later;
          unborn = w.unborn;
          window = once_map number_of n (Window came put) (Window (came ++ more) put) s.outs
              (λ one. heard_more one.window came put more) w.window;
        };
        opening = h.opening;
      }

  -- what is no PDU
  put_on : (s : Server) (came put more : List Message) → pdu_bytes more ≡ 0 → Fine s came put
      → Fine s came (put ++ more)
  put_on s came put more none h =
      let all = bytes_append put more in
      let w = h.of_leg_n in record {
        of_leg_n = record {
          within = let before = w.within in omega (arith, all, none, before);
          later = λ e. let before = w.later e in omega (arith, all, none, before);
          unborn = λ e.
              (let before = (w.unborn e).0 in omega (arith, all, none, before), (w.unborn e).1);
          window = once_map number_of n (Window came put) (Window came (put ++ more)) s.outs
              (λ one. put_more one.window came put more none) w.window;
        };
        opening = λ e. let before = h.opening e in omega (arith, all, none, before);
      }

  -- another leg is at the place, with the same number and the same window
  set_same : (s : Server) (place : ℕ) (x y : OutLeg) (came put : List Message)
      → slice_get s.outs place ≡ Some x → y.number ≡ x.number → y.window ≡ x.window
      → Fine s came put → Fine (record s { outs = slice_set s.outs place y }) came put
  set_same s place x y came put at same window h =
      let w = h.of_leg_n in record {
        of_leg_n = record {
          within = w.within;
          later = w.later;
          unborn = λ e. (
            (w.unborn e).0,
            absent_set number_of n s.outs place x y at same (w.unborn e).1,
          );
          window = once_set number_of n (Window came put) (Window came put) s.outs place x y at same
              (λ e is. subst (λ (v : Sender). Sends v came put) (sym window) is) (λ e z is. is)
              w.window;
        };
        opening = h.opening;
      }

  on_leg_n : (number : ℕ) (m : Message) → number ≡ n → on leg (os_leg number) m ≡ m ∷ []
  on_leg_n number m e =
      ap (λ (t : Bool). if t then m ∷ [] else [])
      (subst (λ (k : ℕ). same_leg (os_leg k) leg ≡ true) (sym e) (same_itself leg))

  -- ---- a channel opens

  -- on the leg of that number, on which nothing was put, a packet tells the window
  opened : (s t : Server) (number place : ℕ) (x y : OutLeg) (packet : Named) (size : ℕ)
      (came put : List Message) → IsAt s number place x → y.number ≡ x.number
      → y.window ≡ unsent size → edge_told packet ≡ size
      → seen t ≡ record (seen s) { outs = slice_set s.outs place y }
      → (is_opening t.stage ≡ true → is_opening s.stage ≡ true)
      → (number ≡ n → pdu_bytes put ≡ 0) → Fine s came put
      → Fine t (came ++ on leg (os_leg number) (Packet packet)) put
  opened s t number place x y packet size came put at same window told after stage none h =
      record {
        of_leg_n = subst (λ (v : Seen). Of v more put) (sym after) (record {
          within =
              let rise = edges_rise came (on leg (os_leg number) (Packet packet)) in
              let before = w.within in omega (arith, rise, before);
          later = w.later;
          unborn = λ e. (
            (w.unborn e).0,
            absent_set number_of n s.outs place x y at.at same (w.unborn e).1,
          );
          window = once_set number_of n (Window came put) (Window more put) s.outs place x y at.at
              same (λ e is. here (same_number x.number n e))
              (λ e z is. heard_more z.window came put (on leg (os_leg number) (Packet packet)) is)
              w.window;
        });
        opening = λ e. h.opening (stage e);
      }
    where
      w : Of (seen s) came put
      w = h.of_leg_n

      more : List Message
      more = came ++ on leg (os_leg number) (Packet packet)

      here : x.number ≡ n → Window more put y
      here e =
          subst (λ (v : Sender). Sends v more put) (sym window)
          (subst (λ (l : List Message). Sends (unsent size) (came ++ l) put)
          (sym (on_leg_n number (Packet packet) (sym at.is ∙ e)))
          (opens_sends came put packet size told (none (sym at.is ∙ e))))

  -- ---- CONN/A2

  first_out_kept : (s t : Server) (version : ℕ) (a b : Cookie) (c d : ℕ) (place : Option ℕ)
      (o : Option OutLeg) (came put : List Message) → out_place 1 s.outs ≡ place
      → out_at s.outs place ≡ o → seen t ≡ seen (first_out_at s b c d place o)
      → (is_opening t.stage ≡ true → is_opening s.stage ≡ true) → pdu_bytes put ≡ 0
      → Fine s came put
      → Fine t (came ++ on leg (os_leg 1) (Packet (named.ConnA2 version a b c d))) put
  first_out_kept s t version a b c d (Some place) (Some x) came put at is after stage none h =
      opened s t 1 place x (record x {
        cookie = Some b;
        window = unsent d;
        meter = started c 28;
      }) (named.ConnA2 version a b c d) d came put (at_place s 1 place x at is) refl refl refl after
      stage (λ e. none) h
  first_out_kept s t version a b c d (Some place) None came put at is after stage none h =
      came_on t came put _ (same_kept s t came put (record { same = after; stage = stage }) h)
  first_out_kept s t version a b c d None o came put at is after stage none h =
      came_on t came put _ (same_kept s t came put (record { same = after; stage = stage }) h)

  conn_a2_first : (s : Server) (version : ℕ) (a b : Cookie) (c d : ℕ) (came put : List Message)
      → Fine s came put
      → RowKeeps Fine leg (os_leg 1) (Packet (named.ConnA2 version a b c d)) came put
      (conn_a2_at s s.stage a b c d)
  conn_a2_first s version a b c d came put h = by s.stage refl
    where
      Row : Done → Type 0
      Row x = RowKeeps Fine leg (os_leg 1) (Packet (named.ConnA2 version a b c d)) came put x

      opens_leg : (t : Server) → seen t ≡ seen (with_first_out s b c d)
          → (is_opening t.stage ≡ true → is_opening s.stage ≡ true) → is_opening s.stage ≡ true
          → Fine t (came ++ on leg (os_leg 1) (Packet (named.ConnA2 version a b c d))) put
      opens_leg t after stage opening =
          first_out_kept s t version a b c d (out_place 1 s.outs)
          (out_at s.outs (out_place 1 s.outs)) came put refl refl after stage (h.opening opening) h

      by : (stage : Stage) → s.stage ≡ stage → Row (conn_a2_at s stage a b c d)
      by stages.Waits e =
          opens_leg (record (with_first_out s b c d) { stage = stages.OutCame a }) refl
          (λ f. ap is_opening e) (ap is_opening e)
      by (stages.InCame known in_window timeout) e =
          by_test Row (same_cookie known a)
          (took (opens (with_first_out s b c d) known in_window timeout)) _
          (λ f. opens_leg (opens (with_first_out s b c d) known in_window timeout) refl
          (λ g. absurd (false≢true g)) (ap is_opening e))
          (λ f. h)
      by (stages.OutCame known) e = h
      by (stages.Open known) e = h
      by stages.Ended e = h

  conn_a2_row : (s : Server) (number : ℕ) (count : Count) (version : ℕ) (a b : Cookie) (c d : ℕ)
      (came put : List Message) → Fine s came put
      → RowKeeps Fine leg (os_leg number) (Packet (named.ConnA2 version a b c d)) came put
      (on_conn_a2 s number count a b c d)
  conn_a2_row s number count version a b c d came put h =
      by_test (Row number) (is_first count && ((number == 1) && not (waits kind.ConnC1 s.waiting)))
      (conn_a2_at s s.stage a b c d) (unexpected s)
      (λ e. subst (λ (k : ℕ). Row k (conn_a2_at s s.stage a b c d)) (sym (same_number number 1
      (and_parts (number == 1) _ (and_parts (is_first count) _ e).1).0))
      (conn_a2_first s version a b c d came put h))
      (λ e. h)
    where
      Row : ℕ → Done → Type 0
      Row k x = RowKeeps Fine leg (os_leg k) (Packet (named.ConnA2 version a b c d)) came put x

  -- ---- OUT_R1/A4

  a4_row : (s : Server) (number : ℕ) (count : Count) (version : ℕ) (a b c : Cookie) (d e f : ℕ)
      (came put : List Message) → Fine s came put
      → RowKeeps Fine leg (os_leg number) (Packet (named.OutR1A4 version a b c d e f)) came put
      (on_out_r1_a4 s number count a b c d e f)
  a4_row s number count version a b c d e f came put h =
      by_test Row (may_answer s number count) (out_r1_a4_at s s.stage number a b c d e f)
      (unexpected s)
      (λ g. by_stage (same_number number (s.writing + 1)
      (and_parts (number == s.writing + 1) _ (and_parts (is_first count) _ g).1).0) s.stage)
      (λ g. h)
    where
      m : Message
      m = Packet (named.OutR1A4 version a b c d e f)

      Row : Done → Type 0
      Row x = RowKeeps Fine leg (os_leg number) m came put x

      answers : number ≡ s.writing + 1 → (place : Option ℕ) (o : Option OutLeg)
          → out_place number s.outs ≡ place → out_at s.outs place ≡ o
          → Row (answered_by s c d e f place o)
      answers next None o at is = h
      answers next (Some place) None at is = h
      answers next (Some place) (Some x) at is =
          opened s (answered s place x c d e f) number place x (record x {
            cookie = Some c;
            window = unsent e;
            meter = started d 0;
          }) (named.OutR1A4 version a b c d e f) e came put (at_place s number place x at is) refl
          refl refl refl (λ g. g)
          (λ g. h.of_leg_n.later (omega (arith, next, g))) h

      by_writing : number ≡ s.writing + 1 → (first : Cookie) (o : Option Cookie)
          → Row (out_r1_a4_by s number first a b c d e f o)
      by_writing next first None = h
      by_writing next first (Some writing) =
          by_test Row (not (same_cookie first a)) (refuse s (refused.Cookie first a)) _ (λ g. h)
          (λ g. by_test Row (not (same_cookie writing b)) (refuse s (refused.Cookie writing b))
          (answered_on s number c d e f) (λ i. h)
          (λ i. answers next (out_place number s.outs) (out_at s.outs (out_place number s.outs))
          refl refl))

      by_stage : number ≡ s.writing + 1 → (stage : Stage)
          → Row (out_r1_a4_at s stage number a b c d e f)
      by_stage next (stages.Open first) = by_writing next first (out_cookie s.writing s.outs)
      by_stage next stages.Waits = h
      by_stage next (stages.OutCame connection) = h
      by_stage next (stages.InCame connection in_window timeout) = h
      by_stage next stages.Ended = h

  -- ---- acknowledgements

  acked_leg : (s : Server) (number place : ℕ) (x : OutLeg) (received available : ℕ)
      (cookie : Cookie) (came put : List Message) → IsAt s number place x → Fine s came put
      → RowKeeps Fine leg (os_leg number) (Packet (named.Ack received available cookie)) came put
      (acked_at s place received available (Some x))
  acked_leg s number place x received available cookie came put at h =
      by (ack_verdict x.window received available) refl
    where
      m : Message
      m = Packet (named.Ack received available cookie)

      more : List Message
      more = came ++ on leg (os_leg number) m

      y : OutLeg
      y = record x { window = after_acked x.window received available }

      t : Server
      t = record s { outs = slice_set s.outs place y }

      w : Of (seen s) came put
      w = h.of_leg_n

      here : x.number ≡ n → Window came put x → Window more put y
      here e is =
          subst (λ (l : List Message). Sends (after_acked x.window received available)
          (came ++ l) put) (sym (on_leg_n number m (sym at.is ∙ e)))
          (acked_sends x.window came put received available cookie is)

      kept : (new : List Message) → greatest_edge came ≤ greatest_edge new
          → (x.number ≡ n → Window came put x → Window new put y)
          → ((z : OutLeg) → Window came put z → Window new put z) → Fine t new put
      kept new rise set other = record {
        of_leg_n = record {
          within = let before = w.within in omega (arith, rise, before);
          later = w.later;
          unborn = λ e. (
            (w.unborn e).0,
            absent_set number_of n s.outs place x y at.at refl (w.unborn e).1,
          );
          window = once_set number_of n (Window came put) (Window new put) s.outs place x y at.at
              refl (λ e is. set (same_number x.number n e) is) (λ e. other) w.window;
        };
        opening = h.opening;
      }

      by : (v : Result (Unit {0}) BadAck) → ack_verdict x.window received available ≡ v
          → RowKeeps Fine leg (os_leg number) m came put (t, acked_by v)
      by (Ok applied) e =
          kept more (edges_rise came (on leg (os_leg number) m)) here
          (λ z is. heard_more z.window came put (on leg (os_leg number) m) is)
      by (Err bad) e =
          kept came (omega arith)
          (λ f is. refused_sends x.window came put received available bad e is) (λ z is. is)

  ack_row : (s : Server) (number : ℕ) (count : Count) (received available : ℕ) (cookie : Cookie)
      (came put : List Message) → Fine s came put
      → RowKeeps Fine leg (os_leg number) (Packet (named.Ack received available cookie)) came put
      (on_ack s number count received available cookie)
  ack_row s number count received available cookie came put h =
      by_test Row (is_first count) (unexpected s) _ (λ e. h)
      (λ e. by_cookie (out_cookie number s.outs))
    where
      Row : Done → Type 0
      Row x =
          RowKeeps Fine leg (os_leg number) (Packet (named.Ack received available cookie)) came put
          x

      by_leg : (place : ℕ) (o : Option OutLeg) → out_place number s.outs ≡ Some place
          → slice_get s.outs place ≡ o → Row (acked_at s place received available o)
      by_leg place None at is = h
      by_leg place (Some x) at is =
          acked_leg s number place x received available cookie came put
          (at_place s number place x at is) h

      by_place : (place : Option ℕ) → out_place number s.outs ≡ place
          → Row (acked_in s received available place)
      by_place None at = h
      by_place (Some place) at = by_leg place (slice_get s.outs place) at refl

      by_cookie : (o : Option Cookie) → Row (acked_cookie s number received available cookie o)
      by_cookie None = h
      by_cookie (Some channel) =
          by_test Row (same_cookie channel cookie) _ (refuse s (refused.Cookie channel cookie))
          (λ e. by_place (out_place number s.outs) refl) (λ e. h)

  -- ---- all packets

  -- a row that leaves these alone
  same_row : (other : Leg) (m : Message) (s : Server) (came put : List Message) (x : Done)
      → Same s x.0 → Fine s came put → RowKeeps Fine leg other m came put x
  same_row other m s came put (t, Ok taken) same h =
      came_on t came put (on leg other m) (same_kept s t came put same h)
  same_row other m s came put (t, Err why) same h = same_kept s t came put same h

  is_row : (s : Server) (number : ℕ) (count : Count) (packet : Named) (came put : List Message)
      → Fine s came put
      → RowKeeps Fine leg (record { kind = InServer; number = number }) (Packet packet) came put
      (on_is s number count packet)
  is_row s number count packet came put h =
      same_row (record { kind = InServer; number = number }) (Packet packet) s came put
      (on_is s number count packet) (by packet) h
    where
      by : (p : Named) → Same s (on_is s number count p).0
      by (named.ConnB2 v1 v2 v3 v4 v5 v6 v7 v8) = conn_b2_same s number count v2 v3 v4 v5
      by (named.InR1A2 v1 v2 v3 v4 v5 v6) = in_r1_a2_same s number count v2 v3 v4 v5 v6
      by (named.InR1A6 v1) = in_r1_a6_same s number v1
      by (named.InR2A2 v1) = in_r2_a2_same s number count v1
      by (named.AckTo v1 v2 v3 v4) = ack_to_same s count v1 v2 v3 v4
      by (named.OutR1A8 v1 v2) = out_r1_a8_same s count v1 v2
      by named.EndA2 = end_a2_same s number count
      by p = quiet s s refl refl

  os_row : (s : Server) (number : ℕ) (count : Count) (packet : Named) (came put : List Message)
      → Fine s came put
      → RowKeeps Fine leg (os_leg number) (Packet packet) came put (on_os s number count packet)
  os_row s number count (named.ConnA2 v1 v2 v3 v4 v5) came put h =
      conn_a2_row s number count v1 v2 v3 v4 v5 came put h
  os_row s number count (named.OutR1A4 v1 v2 v3 v4 v5 v6 v7) came put h =
      a4_row s number count v1 v2 v3 v4 v5 v6 v7 came put h
  os_row s number count (named.Ack v1 v2 v3) came put h =
      ack_row s number count v1 v2 v3 came put h
  os_row s number count (named.PingTraffic v1) came put h =
      same_row (os_leg number) (Packet (named.PingTraffic v1)) s came put (on_ping_traffic s count)
      (ping_same s count) h
  os_row s number count packet came put h = h

  packet_row : (s : Server) (number : ℕ) (count : Count) (packet : Named) (kind : LegKind)
      (came put : List Message) → Fine s came put
      → RowKeeps Fine leg (record { kind = kind; number = number }) (Packet packet) came put
      (packet_by s number count packet kind)
  packet_row s number count packet InServer came put h =
      is_row s number count packet came put h
  packet_row s number count packet OutServer came put h =
      os_row s number count packet came put h
  packet_row s number count packet ClientIn came put h = h
  packet_row s number count packet ClientOut came put h = h

  -- ---- legs come up, and are lost

  up_kept : (s : Server) (other : Leg) (cookie : Cookie) (came put : List Message)
      → Fine s came put → Fine (up s other cookie) came put
  up_kept s other cookie came put h =
      by_test (λ (t : Server). Fine t came put) (may_up_by s other.number other.kind)
      (up_by s other.number other.kind) s (λ e. by other.kind e) (λ e. h)
    where
      w : Of (seen s) came put
      w = h.of_leg_n

      number : ℕ
      number = other.number

      here : number ≡ s.newest_out + 1 → (b : Bool) → number == n ≡ b
          → Once number_of n (Window came put) (s.outs ++ out_leg_up number ∷ [])
      here next true e =
          let same = same_number number n e in
          let none = w.unborn (omega (arith, same, next)) in
          once_first number_of n (Window came put) s.outs (out_leg_up number) none.1
          (unsent_sends came put none.0)
      here next false e =
          once_push number_of n (Window came put) s.outs (out_leg_up number) e w.window

      by : (kind : LegKind) → may_up_by s number kind ≡ true → Fine (up_by s number kind) came put
      by InServer e = record { of_leg_n = w; opening = h.opening }
      by OutServer e =
          let next = same_number number (s.newest_out + 1)
          (and_parts (number == s.newest_out + 1) (has_room s.outs) e).0 in record {
            of_leg_n = record {
              within = w.within;
              later = w.later;
              unborn = λ f.
                  let none = w.unborn (omega (arith, f, next)) in (
                    none.0,
                    absent_push number_of n s.outs (out_leg_up number)
                        (test_other number n (λ g. absurd (omega (arith, f, g)))) none.1,
                  );
              window = here next (number == n) refl;
            };
            opening = h.opening;
          }
      by ClientIn e = h
      by ClientOut e = h

  settles : (s : Server) (came put : List Message) → Fine s came put
      → Fine (settled s) came put
  settles s came put h = same_kept s (settled s) came put (settled_same s) h

  drawn_kept : (s : Server) (number : ℕ) (kind : LegKind) (came put : List Message)
      → Fine s came put → Fine (drawn_by s number kind) came put
  drawn_kept s number InServer came put h =
      by_test (λ (t : Server). Fine t came put) (in_is_drawn (in_leg number s.ins))
      (settled (without_in s number)) s
      (λ e. settles (without_in s number) came put
      (record { of_leg_n = h.of_leg_n; opening = h.opening })) (λ e. h)
  drawn_kept s number OutServer came put h = h
  drawn_kept s number ClientIn came put h = h
  drawn_kept s number ClientOut came put h = h

  gone_kept : (s : Server) (place : Option ℕ) (came put : List Message) → Fine s came put
      → Fine (record s { outs = removed_at s.outs place }) came put
  gone_kept s None came put h = h
  gone_kept s (Some place) came put h =
      let w = h.of_leg_n in record {
        of_leg_n = record {
          within = w.within;
          later = w.later;
          unborn = λ e.
              ((w.unborn e).0, absent_removed number_of n s.outs place (w.unborn e).1);
          window = once_removed number_of n (Window came put) s.outs place w.window;
        };
        opening = h.opening;
      }

  mark_kept : (s : Server) (number : ℕ) (kind : LegKind) (came put : List Message)
      → Fine s came put → Fine (mark_by s number kind) came put
  mark_kept s number InServer came put h =
      settles (lost_in s number (in_leg number s.ins)) came put
      (same_kept s (lost_in s number (in_leg number s.ins)) came put
      (lost_same s number (in_leg number s.ins)) h)
  mark_kept s number OutServer came put h =
      let t : Server = with_ack_dropped s number in
      settles (without_out t number) came put
      (gone_kept t (out_place number t.outs) came put
      (record { of_leg_n = h.of_leg_n; opening = h.opening }))
  mark_kept s number ClientIn came put h = h
  mark_kept s number ClientOut came put h = h

  -- ---- what is put on an os leg

  abbrev Puts : ℕ → List Message → List Message → Pick → Type 0
  Puts number came put pick = PutKeeps Fine leg (os_leg number) came put pick

  or_put : (number : ℕ) (came put : List Message) (a b : Pick) → Puts number came put a
      → Puts number came put b → Puts number came put (or_else a b)
  or_put number came put None b h k = k
  or_put number came put (Some pick) b h k = h

  -- what is no PDU
  no_pdu : (other : Leg) (m : Message) → pdu_bytes (m ∷ []) ≡ 0 → pdu_bytes (on leg other m) ≡ 0
  no_pdu other m none = by (same_leg other leg)
    where
      by : (t : Bool) → pdu_bytes (if t then m ∷ [] else []) ≡ 0
      by true = none
      by false = refl

  greeting_put : (s : Server) (number place : ℕ) (o : Option OutLeg) (came put : List Message)
      → slice_get s.outs place ≡ o → Fine s came put
      → Puts number came put (out_greeting_at s place o)
  greeting_put s number place None came put at h = tt
  greeting_put s number place (Some x) came put at h =
      by_test (Puts number came put) (is_due x.greeting) _ None
      (λ e. set_same s place x (record x { greeting = greetings.Put }) came
      (put ++ on leg (os_leg number) (Text greeting_text)) at refl refl
      (put_on s came put (on leg (os_leg number) (Text greeting_text))
      (no_pdu (os_leg number) (Text greeting_text) refl) h)) (λ e. tt)

  counts_kept : (s : Server) (place len : ℕ) (came put : List Message) → Fine s came put
      → Fine (counts s place len) came put
  counts_kept s place len came put h = by (slice_get s.outs place) refl
    where
      by : (o : Option OutLeg) → slice_get s.outs place ≡ o
          → Fine (counts_at s place len o) came put
      by None at = h
      by (Some x) at = set_same s place x (counted x len) came put at refl refl h

  -- behind OUT_R1/A9 the next channel writes
  handed_kept : (s : Server) (came put : List Message) → Fine s came put
      → Fine (handed s) came put
  handed_kept s came put h =
      let w = h.of_leg_n in record {
        of_leg_n = record {
          within = w.within;
          later = λ e. w.later (omega (arith, e));
          unborn = w.unborn;
          window = w.window;
        };
        opening = h.opening;
      }

  was_put_kept : (s : Server) (place : ℕ) (packet : Named) (came put : List Message)
      → Fine s came put → Fine (was_put s place packet) came put
  was_put_kept s place (named.AckTo to received available cookie) came put h =
      by_test (λ (t : Server). Fine t came put) (to == 3) s (counts s place 56) (λ e. h)
      (λ e. counts_kept s place 56 came put h)
  was_put_kept s place named.OutR1A9 came put h =
      handed_kept (counts s place 24) came put (counts_kept s place 24 came put h)
  was_put_kept s place packet came put h = counts_kept s place (length_of packet) came put h

  waiting_put : (s : Server) (number place : ℕ) (x : Waiting × Option Due)
      (came put : List Message) → Fine s came put → Puts number came put (waiting_by s place x)
  waiting_put s number place (w, None) came put h = tt
  waiting_put s number place (w, Some due) came put h =
      let m : Message = Packet due.packet in
      was_put_kept (record s { waiting = w }) place due.packet came
      (put ++ on leg (os_leg number) m)
      (put_on (record s { waiting = w }) came put (on leg (os_leg number) m)
      (no_pdu (os_leg number) m refl) (record { of_leg_n = h.of_leg_n; opening = h.opening }))

  gate_put : (s : Server) (number place : ℕ) (o : Option Gate) (came put : List Message)
      → Fine s came put → Puts number came put (waiting_at s place o)
  gate_put s number place None came put h = tt
  gate_put s number place (Some gate) came put h =
      waiting_put s number place (taken_out (lets gate) s.waiting) came put h

  end_put : (s : Server) (number place : ℕ) (came put : List Message) → Fine s came put
      → Puts number came put (put_end s place)
  end_put s number place came put h =
      by_test (Puts number came put) (is_end_due s && may_end_at s (slice_get s.outs place)) _ None
      (λ e.
      let m : Message = Packet named.EndB1 in
      let k = counts_kept s place 24 came (put ++ on leg (os_leg number) m)
      (put_on s came put (on leg (os_leg number) m) (no_pdu (os_leg number) m refl) h) in
      record { of_leg_n = k.of_leg_n; opening = k.opening })
      (λ e. tt)

  -- ---- a PDU goes

  pdu_kept : (s : Server) (number place : ℕ) (x : OutLeg) (pdu : List ℕ) (came put : List Message)
      → IsAt s number place x → is_open s.stage ≡ true → may_go x s.writing (length pdu) ≡ true
      → Fine s came put
      → Fine (record s { outs = slice_set s.outs place (went x (length pdu)) }) came
      (put ++ on leg (os_leg number) (Pdu pdu))
  pdu_kept s number place x pdu came put at opened may h =
      by (number == n) refl
    where
      w : Of (seen s) came put
      w = h.of_leg_n

      y : OutLeg
      y = went x (length pdu)

      t : Server
      t = record s { outs = slice_set s.outs place y }

      writing : x.number ≡ s.writing
      writing = same_number x.number s.writing (and_parts (x.number == s.writing) _ may).0

      sends : may_send x.window (length pdu) ≡ true
      sends = (and_parts (may_send x.window (length pdu)) (may_put x.meter (length pdu))
          (and_parts (x.number == s.writing) _ may).1).0

      not_opening : is_opening s.stage ≡ true → false ≡ true
      not_opening = open_is s.stage opened
        where
          open_is : (stage : Stage) → is_open stage ≡ true → is_opening stage ≡ true
              → false ≡ true
          open_is stages.Waits a b = absurd (false≢true a)
          open_is (stages.OutCame connection) a b = absurd (false≢true a)
          open_is (stages.InCame connection window timeout) a b = absurd (false≢true a)
          open_is (stages.Open connection) a b = b
          open_is stages.Ended a b = b

      by : (b : Bool) → number == n ≡ b
          → Fine t came (put ++ (if b then Pdu pdu ∷ [] else []))
      by true e =
          let same = same_number number n e in
          let is = at.is in
          let sent = once_at number_of n (Window came put) s.outs place x at.at
          (ap (λ (k : ℕ). k == n) is ∙ e) w.window in
          let after = sent_sends x.window came put pdu sends sent in record {
            of_leg_n = record {
              within = sends_within (went x (length pdu)).window came (put ++ Pdu pdu ∷ []) after;
              later = λ f. absurd (omega (arith, f, same, is, writing));
              unborn = λ f. absurd (true≢false
                  (sym (ap (λ (k : ℕ). k == n) is ∙ e)
                  ∙ absent_at number_of n s.outs place x at.at (w.unborn f).1));
              window = once_set number_of n (Window came put) (Window came (put ++ Pdu pdu ∷ []))
                  s.outs place x y at.at refl (λ g before. after)
                  (λ g. absurd (true≢false (sym (ap (λ (k : ℕ). k == n) is ∙ e) ∙ g))) w.window;
            };
            opening = λ f. absurd (false≢true (not_opening f));
          }
      by false e =
          let is = at.is in
          subst (λ (all : List Message). Fine t came all) (sym (append-nil put)) (record {
            of_leg_n = record {
              within = w.within;
              later = w.later;
              unborn = λ f. (
                (w.unborn f).0,
                absent_set number_of n s.outs place x y at.at refl (w.unborn f).1,
              );
              window = once_set number_of n (Window came put) (Window came put) s.outs place x y
                  at.at
                  refl
                  (λ g before. absurd (true≢false (sym g ∙ ap (λ (k : ℕ). k == n) is ∙ e)))
                  (λ g z before. before) w.window;
            };
            opening = h.opening;
          })

  pdu_put : (s : Server) (number place : ℕ) (queue : List (List ℕ)) (came put : List Message)
      → s.queue ≡ queue → out_place number s.outs ≡ Some place → is_open s.stage ≡ true
      → Fine s came put → Puts number came put (put_pdu_by s place (front_length queue))
  pdu_put s number place [] came put is at opened h = tt
  pdu_put s number place (pdu ∷ pdus) came put is at opened h =
      by (slice_get s.outs place) refl
    where
      front : first_of s.queue ≡ pdu
      front = ap first_of is

      by : (o : Option OutLeg) → slice_get s.outs place ≡ o
          → Puts number came put (if may_go_at s (length pdu) o then
          Some (
            record (record s { outs = went_at s place (length pdu) o }) {
              queue = behind s.queue;
            },
            Pdu (first_of s.queue),
          ) else None)
      by None there = tt
      by (Some x) there =
          by_test (Puts number came put) (may_go x s.writing (length pdu)) _ None
          (λ may.
          subst (λ (bytes : List ℕ). Fine (record s {
            outs = slice_set s.outs place (went x (length pdu));
            queue = behind s.queue;
          }) came (put ++ on leg (os_leg number) (Pdu bytes))) (sym front)
          (let k = pdu_kept s number place x pdu came put (at_place s number place x at there)
          opened may h in record { of_leg_n = k.of_leg_n; opening = k.opening }))
          (λ e. tt)

  next_put : (s : Server) (number place : ℕ) (came put : List Message)
      → out_place number s.outs ≡ Some place → is_open s.stage ≡ true → Fine s came put
      → Puts number came put (next_out s place)
  next_put s number place came put at opened h =
      or_put number came put (put_waiting s place) (put_pdu_or_end s place)
      (gate_put s number place (gate_at s (slice_get s.outs place)) came put h)
      (or_put number came put (put_pdu s place) (put_end s place)
      (pdu_put s number place s.queue came put refl at opened h)
      (end_put s number place came put h))

  settled_put : (number : ℕ) (came put : List Message) (pick : Pick) → Puts number came put pick
      → Puts number came put (settled_pick pick)
  settled_put number came put None h = tt
  settled_put number came put (Some pick) h =
      settles pick.0 came (put ++ on leg (os_leg number) pick.1) h

  out_put : (s : Server) (number : ℕ) (place : Option ℕ) (came put : List Message)
      → out_place number s.outs ≡ place → Fine s came put
      → Puts number came put (put_out_at s place)
  out_put s number None came put at h = tt
  out_put s number (Some place) came put at h =
      or_put number came put (put_out_greeting s place) (put_open s place)
      (greeting_put s number place (slice_get s.outs place) came put refl h)
      (by_test (Puts number came put) (is_open s.stage) (settled_pick (next_out s place)) None
      (λ e. settled_put number came put (next_out s place)
      (next_put s number place came put at e h))
      (λ e. tt))

  put_kept : (s : Server) (number : ℕ) (kind : LegKind) (came put : List Message)
      → Fine s came put
      → PutKeeps Fine leg (record { kind = kind; number = number }) came put
      (put_by_kind s number kind)
  put_kept s number InServer came put h = by (put_in s number) (in_same s number)
    where
      by : (pick : Pick) → PickSame s pick
          → PutKeeps Fine leg (record { kind = InServer; number = number }) came put pick
      by None same = tt
      by (Some one) same =
          subst (λ (all : List Message). Fine one.0 came all) (sym (append-nil put))
          (same_kept s one.0 came put same h)
  put_kept s number OutServer came put h =
      out_put s number (out_place number s.outs) came put refl h
  put_kept s number ClientIn came put h = tt
  put_kept s number ClientOut came put h = tt

  -- ---- the server

  steps : StepsKeep server_rules leg (λ s. Unit {0}) Fine
  steps = record {
    up = λ s other cookie came put k. up_kept s other cookie came put;
    head = λ s other text came put k h. h;
    pdu = λ s other count bytes came put k.
        same_row other (Pdu bytes) s came put (pdu_by s other.number bytes other.kind)
        (pdu_same s other.number bytes other.kind);
    packet = λ s other count packet came put k.
        packet_row s other.number count packet other.kind came put;
    put = λ s other came put k. put_kept s other.number other.kind came put;
    drawn = λ s other came put k. drawn_kept s other.number other.kind came put;
    mark = λ s other came put k. mark_kept s other.number other.kind came put;
    ping = λ s other came put k h. h;
  }

  calls : ActsKeep server_acts (λ s. Unit {0}) Fine
  calls = record {
    give = λ s bytes came put k. same_kept s (give s bytes).0 came put (give_same s bytes);
    take = λ s came put k. same_kept s (take s) came put (take_same s);
    close = λ s came put k h. record { of_leg_n = h.of_leg_n; opening = h.opening };
    recycle = λ s came put k. same_kept s (recycle s).0 came put (recycle_same s);
  }

  starts : (window : ℕ) → Fine (first window) [] []
  starts window = record {
    of_leg_n = record {
      within = omega arith;
      later = λ e. refl;
      unborn = λ e. (refl, tt);
      window = tt;
    };
    opening = λ e. refl;
  }

  -- ---- what is refused

  refused_ack : (s : Server) (count : Count) (received available : ℕ) (cookie : Cookie)
      (came put : List Message) → Fine s came put
      → RefusesFalseAcks (pdu_bytes put) (named.Ack received available cookie)
      (on_ack s n count received available cookie).1
  refused_ack s count received available cookie came put h =
      by_test Row (is_first count) (unexpected s) _ (λ e. tt)
      (λ e. by_cookie (out_cookie n s.outs))
    where
      Row : Done → Type 0
      Row x = RefusesFalseAcks (pdu_bytes put) (named.Ack received available cookie) x.1

      verdict : (v : Result (Unit {0}) BadAck) → IsFalse (pdu_bytes put) received available v
          → RefusesFalseAcks (pdu_bytes put) (named.Ack received available cookie) (acked_by v)
      verdict (Ok applied) is = tt
      verdict (Err bad) is = is

      by_leg : (place : ℕ) (o : Option OutLeg) → out_place n s.outs ≡ Some place
          → slice_get s.outs place ≡ o → Row (acked_at s place received available o)
      by_leg place None at is = tt
      by_leg place (Some x) at is =
          let here = at_place s n place x at is in
          verdict (ack_verdict x.window received available)
          (verdict_false x.window came put received available
          (once_at number_of n (Window came put) s.outs place x is
          (subst (λ (k : ℕ). k == n ≡ true) (sym here.is) (test_same n)) h.of_leg_n.window))

      by_place : (place : Option ℕ) → out_place n s.outs ≡ place
          → Row (acked_in s received available place)
      by_place None at = tt
      by_place (Some place) at = by_leg place (slice_get s.outs place) at refl

      by_cookie : (o : Option Cookie) → Row (acked_cookie s n received available cookie o)
      by_cookie None = tt
      by_cookie (Some channel) =
          by_test Row (same_cookie channel cookie) _ (refuse s (refused.Cookie channel cookie))
          (λ e. by_place (out_place n s.outs) refl) (λ e. tt)

  refused_packet : (s : Server) (count : Count) (packet : Named) (came put : List Message)
      → Fine s came put
      → RefusesFalseAcks (pdu_bytes put) packet (on_os s n count packet).1
  refused_packet s count (named.ConnA2 v1 v2 v3 v4 v5) came put h = search rules
  refused_packet s count (named.OutR1A4 v1 v2 v3 v4 v5 v6 v7) came put h = search rules
  refused_packet s count (named.Ack v1 v2 v3) came put h =
      refused_ack s count v1 v2 v3 came put h
  refused_packet s count (named.PingTraffic v1) came put h = search rules
  refused_packet s count packet came put h = tt

pub server_sends : (window n : ℕ) (moves : List EndMove)
    → AreAllowedAtEnd server_rules server_acts (end_started (first window)) moves
    → SendsWithin server_rules (os_leg n)
    (all_end_moved server_rules server_acts (end_started (first window)) moves).passage
server_sends window n moves allowed =
    let start = end_started (first window) in
    let p = (all_end_moved server_rules server_acts start moves).passage in
    let leg = os_leg n in
    let h = end_moves_keep server_rules leg (λ s. Unit {0}) (Kept n) (steps n) server_acts (calls n)
    start moves allowed (λ front may. tt) (starts n window) in
    record {
      within = h.of_leg_n.within;
      refuses = λ count packet.
          refused_packet n p.role count packet (of_leg leg p.came) (of_leg leg p.put) h;
      pdus = λ count pdu. refl;
    }
