-- the window of each os leg that a server keeps counts what it put there
use Rattle.rh_keep.specs.Meters.{started}
use Rattle.law_order.proofs.Vocabulary.{◌≡◌, ℕ, ◌+◌, ◌<◌, ◌==◌, List, [], ◌∷◌, ◌++◌, length, Bool, true, false, true≢false, if◌then◌else◌, ◌&&◌, not, Some, None, Ok, Err, arith, refl, sym, ap, ◌∙◌, subst, rules, false≢true, and_parts, slice_get, slice_set, IfSome, Option}
use Rattle.rh_sig.specs.declared.named.Named.TheVariants as named
use Rattle.rh_shell.specs.declared.answers.Refused.TheVariants as refused
use Rattle.rh_server.specs.Servers.{pdu_by}
use Rattle.rh_server.specs.declared.state.Greeting.TheVariants as greetings
use Rattle.rh_server.specs.declared.state.Leaving.TheVariants as leaving
use Rattle.rh_server.specs.declared.state.Tells.TheVariants as tells
use Rattle.rh_server.specs.declared.state.Stage.TheVariants as stages
use Rattle.rh_server.specs.declared.out_line.Kind.TheVariants as kind
use Rattle.law_moves.proofs.Vocabulary.{Sender, unsent, after_acked, Ack, by_test, same_number, test_other, Cookie, Named, behind, front_length, Leg, LegKind, ClientOut, OutServer, ClientIn, InServer, Count, Due, Message, Text, Pdu, Packet, greeting as greeting_text, first_of, Waiting, taken as taken_out, EndMove, OnLeg, end_started, all_end_moved, of_leg, pdu_bytes}
use Rattle.law_moves.proofs.Lemmas.{ActsKeep, PutKeeps, RowKeeps, StepsKeep, end_moves_keep, other_more}
use Rattle.law_role_server.proofs.Vocabulary.{InLeg, Leaving, Tells, OutLeg, Stage, Server, is_open, is_due, same_cookie, in_leg, out_leg, out_place, out_at, out_cookie, removed_at, without_in, without_out, Gate, lets, length_of, waits, counted, may_go, went, Done, took, refuse, unexpected, is_first, may_up_by, has_room, out_leg_up, up, up_by, opens, first_out_at, with_first_out, conn_a2_at, on_conn_a2, on_conn_b2, acked_at, acked_in, acked_cookie, on_ack, on_ack_to}
use Rattle.law_role_server.proofs.Vocabulary.{on_ping_traffic, take, on_in_r1_a2, on_in_r1_a6, on_in_r2_a2, recycle, answered, answered_by, answered_on, handed, out_r1_a4_by, out_r1_a4_at, may_answer, on_out_r1_a4, on_out_r1_a8, give, on_end_a2, settled, in_is_drawn, drawn_by, with_ack_dropped, lost_in, mark_by, Pick, or_else, put_in_greeting, was_current, put_tells_by, put_tells, put_b1_by, put_b1, ack_due, put_ack_by, put_ack, put_in_by, put_in, out_greeting_at}
use Rattle.law_role_server.proofs.Vocabulary.{put_out_greeting, gate_at, counts, counts_at, was_put, waiting_by, waiting_at, put_waiting, may_go_at, went_at, pdu_by as put_pdu_by, put_pdu, is_end_due, may_end_at, put_end, put_pdu_or_end, next_out, settled_pick, put_open, put_out_at, put_by as put_by_kind, on_is, on_os, packet_by, first, acts as server_acts, rules as server_rules}
use Rattle.law_role_server.proofs.Numbered.{Absent, Once, absent_at, absent_push, absent_removed, absent_set, once_at, once_first, once_push, once_removed, once_set}
use Rattle.law_role_server_rows.proofs.InTurn.Quiet.{is_opening}
use Rattle.law_role_server_rows.proofs.Refusing.Places.{found_passes}
use Rattle.law_role_outproxy.proofs.Vocabulary.{os_leg}
use Rattle.law_role_outproxy.proofs.Sending.Legs.{bytes_here, bytes_still}
use Rattle.law_role_bytes.specs.Bytes.{CountsPut}

-- ---- what the facts are about

record Seen : Type 0 where
  outs : List OutLeg
  writing : ℕ
  newest : ℕ

abbrev seen : Server → Seen
seen s = record { outs = s.outs; writing = s.writing; newest = s.newest_out }

abbrev number_of : OutLeg → ℕ
number_of leg = leg.number

record Same (s t : Server) : Type 0 where
  same : seen t ≡ seen s
  stage : is_opening t.stage ≡ true → is_opening s.stage ≡ true

quiet : (s t : Server) → seen t ≡ seen s → t.stage ≡ s.stage → Same s t
quiet s t same stage = record {
  same = same;
  stage = λ e. ap is_opening (sym stage) ∙ e;
}

-- ---- what leaves these alone

conn_b2_same : (s : Server) (n : ℕ) (count : Count) (a b : Cookie) (c d : ℕ)
    → Same s (on_conn_b2 s n count a b c d).0
conn_b2_same s n count a b c d = record { same = search rules; stage = search rules }

in_r1_a2_same : (s : Server) (n : ℕ) (count : Count) (a b c : Cookie) (d e : ℕ)
    → Same s (on_in_r1_a2 s n count a b c d e).0
in_r1_a2_same s n count a b c d e = quiet s _ (search rules) (search rules)

in_r1_a6_same : (s : Server) (n : ℕ) (a : Cookie) → Same s (on_in_r1_a6 s n a).0
in_r1_a6_same s n a = quiet s _ (search rules) (search rules)

in_r2_a2_same : (s : Server) (n : ℕ) (count : Count) (a : Cookie)
    → Same s (on_in_r2_a2 s n count a).0
in_r2_a2_same s n count a = quiet s _ (search rules) (search rules)

ack_to_same : (s : Server) (count : Count) (a b c : ℕ) (d : Cookie)
    → Same s (on_ack_to s count a b c d).0
ack_to_same s count a b c d = quiet s _ (search rules) (search rules)

out_r1_a8_same : (s : Server) (count : Count) (a : ℕ) (b : Cookie)
    → Same s (on_out_r1_a8 s count a b).0
out_r1_a8_same s count a b = quiet s _ (search rules) (search rules)

end_a2_same : (s : Server) (n : ℕ) (count : Count) → Same s (on_end_a2 s n count).0
end_a2_same s n count = quiet s _ (search rules) (search rules)

ping_same : (s : Server) (count : Count) → Same s (on_ping_traffic s count).0
ping_same s count = quiet s _ (search rules) (search rules)

pdu_same : (s : Server) (n : ℕ) (bytes : List ℕ) (kind : LegKind)
    → Same s (pdu_by s n bytes kind).0
pdu_same s n bytes kind = quiet s _ (search rules) (search rules)

settled_same : (s : Server) → Same s (settled s)
settled_same s = record { same = search rules; stage = search rules }

give_same : (s : Server) (bytes : List ℕ) → Same s (give s bytes).0
give_same s bytes = quiet s _ (search rules) (search rules)

recycle_same : (s : Server) → Same s (recycle s).0
recycle_same s = quiet s _ (search rules) (search rules)

take_same : (s : Server) → Same s (take s)
take_same s = quiet s _ (search rules) (search rules)

lost_same : (s : Server) (n : ℕ) (o : Option InLeg) → Same s (lost_in s n o)
lost_same s n o = quiet s _ (search rules) (search rules)

abbrev PickSame : Server → Pick → Type 0
PickSame s pick = IfSome pick (λ (one : Server × Message). Same s one.0)

or_same : (s : Server) (a b : Pick) → PickSame s a → PickSame s b → PickSame s (or_else a b)
or_same s None b p q = q
or_same s (Some pick) b p q = p

-- what is put on an is leg
tells_same : (s : Server) (leg : InLeg) (what : Tells) → PickSame s (put_tells_by s leg what)
tells_same s leg tells.Nothing = tt
tells_same s leg tells.ConnB3 =
    by_test (PickSame s) (is_open s.stage) _ None (λ e. quiet s _ refl refl) (λ e. tt)
tells_same s leg tells.InR1B2 =
    by_test (PickSame s) (was_current s leg) _ None
    (λ e. quiet s _ (search rules) (search rules)) (λ e. tt)

b1_same : (s : Server) (leg : InLeg) (how : Leaving) → PickSame s (put_b1_by s leg how)
b1_same s leg leaving.Stays = tt
b1_same s leg leaving.InR1B1 = quiet s _ refl refl
b1_same s leg leaving.Left = tt
b1_same s leg leaving.Lost = tt

put_ack_same : (s : Server) (o : Option Ack) → PickSame s (put_ack_by s o)
put_ack_same s None = tt
put_ack_same s (Some ack) = quiet s _ refl refl

in_same : (s : Server) (n : ℕ) → PickSame s (put_in s n)
in_same s n = by (in_leg n s.ins)
  where
    by : (o : Option InLeg) → PickSame s (put_in_by s o)
    by None = tt
    by (Some leg) =
        or_same s (put_in_greeting s leg) _
        (by_test (PickSame s) (is_due leg.greeting) _ None (λ e. quiet s _ refl refl) (λ e. tt))
        (or_same s (put_tells s leg) _ (tells_same s leg leg.tells)
        (or_same s (put_b1 s leg) (put_ack s leg) (b1_same s leg leg.leaving)
        (put_ack_same s (ack_due s leg))))

acked_sent : (w : Sender) (received available : ℕ)
    → (after_acked w received available).sent ≡ w.sent
acked_sent w received available = search rules

-- ---- the leg of a place

-- the leg that is found by a number, and its place
record IsAt (s : Server) (number place : ℕ) (leg : OutLeg) : Type 0 where
  at : slice_get s.outs place ≡ Some leg
  is : leg.number ≡ number

at_place : (s : Server) (number place : ℕ) (leg : OutLeg)
    → out_place number s.outs ≡ Some place → slice_get s.outs place ≡ Some leg
    → IsAt s number place leg
at_place s number place leg e at = record {
  at = at;
  is = same_number leg.number number
      (found_passes (λ (one : OutLeg). one.number == number) s.outs place leg e at);
}

module _ (n : ℕ) where
  -- so many bytes were put on os leg n: none before its channel wrote
  record SendsOf (x : Seen) (bytes : ℕ) : Type 0 where
    later : x.writing < n → bytes ≡ 0
    unborn : x.newest < n → (bytes ≡ 0) × Absent number_of n x.outs
    window : Once number_of n (λ (one : OutLeg). one.window.sent ≡ bytes) x.outs

  record Kept (s : Server) (bytes : ℕ) : Type 0 where
    of_leg_n : SendsOf (seen s) bytes
    opening : is_opening s.stage ≡ true → bytes ≡ 0

  abbrev Window : ℕ → OutLeg → Type 0
  Window bytes one = one.window.sent ≡ bytes

  same_kept : (s t : Server) (bytes : ℕ) → Same s t → Kept s bytes → Kept t bytes
  same_kept s t bytes same h = record {
    of_leg_n = subst (λ (x : Seen). SendsOf x bytes) (sym same.same) h.of_leg_n;
    opening = λ e. h.opening (same.stage e);
  }

  -- another leg is at the place, with the same number, and as much was sent
  set_same : (s : Server) (place : ℕ) (x y : OutLeg) (bytes : ℕ)
      → slice_get s.outs place ≡ Some x → y.number ≡ x.number → y.window.sent ≡ x.window.sent
      → Kept s bytes → Kept (record s { outs = slice_set s.outs place y }) bytes
  set_same s place x y bytes at same sent h =
      let w = h.of_leg_n in record {
        of_leg_n = record {
          later = w.later;
          unborn = λ e. (
            (w.unborn e).0,
            absent_set number_of n s.outs place x y at same (w.unborn e).1,
          );
          window = once_set number_of n (Window bytes) (Window bytes) s.outs place x y at same
              (λ e is. sent ∙ is) (λ e z is. is) w.window;
        };
        opening = h.opening;
      }

  -- ---- a channel opens

  -- on the leg of that number, on which nothing was put
  opened : (s t : Server) (number place : ℕ) (x y : OutLeg) (bytes : ℕ) → IsAt s number place x
      → y.number ≡ x.number → y.window.sent ≡ 0
      → seen t ≡ record (seen s) { outs = slice_set s.outs place y }
      → (is_opening t.stage ≡ true → is_opening s.stage ≡ true) → (number ≡ n → bytes ≡ 0)
      → Kept s bytes → Kept t bytes
  opened s t number place x y bytes at same sent after stage none h =
      let w = h.of_leg_n in record {
        of_leg_n = subst (λ (v : Seen). SendsOf v bytes) (sym after) (record {
          later = w.later;
          unborn = λ e. (
            (w.unborn e).0,
            absent_set number_of n s.outs place x y at.at same (w.unborn e).1,
          );
          window = once_set number_of n (Window bytes) (Window bytes) s.outs place x y at.at same
              (λ e is. sent ∙ sym (none (sym at.is ∙ same_number x.number n e))) (λ e z is. is)
              w.window;
        });
        opening = λ e. h.opening (stage e);
      }

  -- ---- CONN/A2

  first_out_kept : (s t : Server) (b : Cookie) (c d : ℕ) (place : Option ℕ) (o : Option OutLeg)
      (bytes : ℕ) → out_place 1 s.outs ≡ place → out_at s.outs place ≡ o
      → seen t ≡ seen (first_out_at s b c d place o)
      → (is_opening t.stage ≡ true → is_opening s.stage ≡ true) → bytes ≡ 0 → Kept s bytes
      → Kept t bytes
  first_out_kept s t b c d (Some place) (Some x) bytes at is after stage none h =
      opened s t 1 place x (record x {
        cookie = Some b;
        window = unsent d;
        meter = started c 28;
      }) bytes (at_place s 1 place x at is) refl refl after stage (λ e. none) h
  first_out_kept s t b c d (Some place) None bytes at is after stage none h =
      same_kept s t bytes (record { same = after; stage = stage }) h
  first_out_kept s t b c d None o bytes at is after stage none h =
      same_kept s t bytes (record { same = after; stage = stage }) h

  conn_a2_row : (s : Server) (number : ℕ) (count : Count) (a b : Cookie) (c d bytes : ℕ)
      → Kept s bytes → Kept (on_conn_a2 s number count a b c d).0 bytes
  conn_a2_row s number count a b c d bytes h =
      by_test Row (is_first count && ((number == 1) && not (waits kind.ConnC1 s.waiting)))
      (conn_a2_at s s.stage a b c d) (unexpected s) (λ e. by s.stage refl) (λ e. h)
    where
      Row : Done → Type 0
      Row x = Kept x.0 bytes

      opens_leg : (t : Server) → seen t ≡ seen (with_first_out s b c d)
          → (is_opening t.stage ≡ true → is_opening s.stage ≡ true) → is_opening s.stage ≡ true
          → Kept t bytes
      opens_leg t after stage opening =
          first_out_kept s t b c d (out_place 1 s.outs) (out_at s.outs (out_place 1 s.outs)) bytes
          refl refl after stage (h.opening opening) h

      by : (stage : Stage) → s.stage ≡ stage → Row (conn_a2_at s stage a b c d)
      by stages.Waits e =
          opens_leg (record (with_first_out s b c d) { stage = stages.OutCame a }) refl
          (λ f. ap is_opening e) (ap is_opening e)
      by (stages.InCame known in_window timeout) e =
          by_test Row (same_cookie known a)
          (took (opens (with_first_out s b c d) known in_window timeout)) _
          (λ f. opens_leg (opens (with_first_out s b c d) known in_window timeout) refl
          (λ g. absurd (false≢true g)) (ap is_opening e))
          (λ f. h)
      by (stages.OutCame known) e = h
      by (stages.Open known) e = h
      by stages.Ended e = h

  -- ---- OUT_R1/A4

  a4_row : (s : Server) (number : ℕ) (count : Count) (a b c : Cookie) (d e f bytes : ℕ)
      → Kept s bytes → Kept (on_out_r1_a4 s number count a b c d e f).0 bytes
  a4_row s number count a b c d e f bytes h =
      by_test Row (may_answer s number count) (out_r1_a4_at s s.stage number a b c d e f)
      (unexpected s)
      (λ g. by_stage (same_number number (s.writing + 1)
      (and_parts (number == s.writing + 1) _ (and_parts (is_first count) _ g).1).0) s.stage)
      (λ g. h)
    where
      Row : Done → Type 0
      Row x = Kept x.0 bytes

      answers : number ≡ s.writing + 1 → (place : Option ℕ) (o : Option OutLeg)
          → out_place number s.outs ≡ place → out_at s.outs place ≡ o
          → Row (answered_by s c d e f place o)
      answers next None o at is = h
      answers next (Some place) None at is = h
      answers next (Some place) (Some x) at is =
          opened s (answered s place x c d e f) number place x (record x {
            cookie = Some c;
            window = unsent e;
            meter = started d 0;
          }) bytes (at_place s number place x at is) refl refl refl (λ g. g)
          (λ g. h.of_leg_n.later (omega (arith, next, g))) h

      by_writing : number ≡ s.writing + 1 → (first : Cookie) (o : Option Cookie)
          → Row (out_r1_a4_by s number first a b c d e f o)
      by_writing next first None = h
      by_writing next first (Some writing) =
          by_test Row (not (same_cookie first a)) (refuse s (refused.Cookie first a)) _ (λ g. h)
          (λ g. by_test Row (not (same_cookie writing b)) (refuse s (refused.Cookie writing b))
          (answered_on s number c d e f) (λ i. h)
          (λ i. answers next (out_place number s.outs) (out_at s.outs (out_place number s.outs))
          refl refl))

      by_stage : number ≡ s.writing + 1 → (stage : Stage)
          → Row (out_r1_a4_at s stage number a b c d e f)
      by_stage next (stages.Open first) = by_writing next first (out_cookie s.writing s.outs)
      by_stage next stages.Waits = h
      by_stage next (stages.OutCame connection) = h
      by_stage next (stages.InCame connection in_window timeout) = h
      by_stage next stages.Ended = h

  -- ---- acknowledgements

  ack_row : (s : Server) (number : ℕ) (count : Count) (received available : ℕ) (cookie : Cookie)
      (bytes : ℕ) → Kept s bytes → Kept (on_ack s number count received available cookie).0 bytes
  ack_row s number count received available cookie bytes h =
      by_test Row (is_first count) (unexpected s) _ (λ e. h)
      (λ e. by_cookie (out_cookie number s.outs))
    where
      Row : Done → Type 0
      Row x = Kept x.0 bytes

      by_leg : (place : ℕ) (o : Option OutLeg) → slice_get s.outs place ≡ o
          → Row (acked_at s place received available o)
      by_leg place None is = h
      by_leg place (Some x) is =
          set_same s place x (record x { window = after_acked x.window received available }) bytes
          is refl (acked_sent x.window received available) h

      by_place : (place : Option ℕ) → Row (acked_in s received available place)
      by_place None = h
      by_place (Some place) = by_leg place (slice_get s.outs place) refl

      by_cookie : (o : Option Cookie) → Row (acked_cookie s number received available cookie o)
      by_cookie None = h
      by_cookie (Some channel) =
          by_test Row (same_cookie channel cookie) _ (refuse s (refused.Cookie channel cookie))
          (λ e. by_place (out_place number s.outs)) (λ e. h)

  -- ---- all packets

  is_row : (s : Server) (number : ℕ) (count : Count) (packet : Named)
      → Same s (on_is s number count packet).0
  is_row s number count (named.ConnB2 v1 v2 v3 v4 v5 v6 v7 v8) =
      conn_b2_same s number count v2 v3 v4 v5
  is_row s number count (named.InR1A2 v1 v2 v3 v4 v5 v6) =
      in_r1_a2_same s number count v2 v3 v4 v5 v6
  is_row s number count (named.InR1A6 v1) = in_r1_a6_same s number v1
  is_row s number count (named.InR2A2 v1) = in_r2_a2_same s number count v1
  is_row s number count (named.AckTo v1 v2 v3 v4) = ack_to_same s count v1 v2 v3 v4
  is_row s number count (named.OutR1A8 v1 v2) = out_r1_a8_same s count v1 v2
  is_row s number count named.EndA2 = end_a2_same s number count
  is_row s number count packet = quiet s s refl refl

  os_row : (s : Server) (number : ℕ) (count : Count) (packet : Named) (bytes : ℕ)
      → Kept s bytes → Kept (on_os s number count packet).0 bytes
  os_row s number count (named.ConnA2 v1 v2 v3 v4 v5) bytes h =
      conn_a2_row s number count v2 v3 v4 v5 bytes h
  os_row s number count (named.OutR1A4 v1 v2 v3 v4 v5 v6 v7) bytes h =
      a4_row s number count v2 v3 v4 v5 v6 v7 bytes h
  os_row s number count (named.Ack v1 v2 v3) bytes h = ack_row s number count v1 v2 v3 bytes h
  os_row s number count (named.PingTraffic v1) bytes h =
      same_kept s (on_ping_traffic s count).0 bytes (ping_same s count) h
  os_row s number count packet bytes h = h

  packet_row : (s : Server) (number : ℕ) (count : Count) (packet : Named) (kind : LegKind)
      (bytes : ℕ) → Kept s bytes → Kept (packet_by s number count packet kind).0 bytes
  packet_row s number count packet InServer bytes h =
      same_kept s (on_is s number count packet).0 bytes (is_row s number count packet) h
  packet_row s number count packet OutServer bytes h = os_row s number count packet bytes h
  packet_row s number count packet ClientIn bytes h = h
  packet_row s number count packet ClientOut bytes h = h

  -- ---- legs come up, and are lost

  up_kept : (s : Server) (other : Leg) (cookie : Cookie) (bytes : ℕ) → Kept s bytes
      → Kept (up s other cookie) bytes
  up_kept s other cookie bytes h =
      by_test (λ (t : Server). Kept t bytes) (may_up_by s other.number other.kind)
      (up_by s other.number other.kind) s (λ e. by other.kind e) (λ e. h)
    where
      w : SendsOf (seen s) bytes
      w = h.of_leg_n

      number : ℕ
      number = other.number

      here : number ≡ s.newest_out + 1 → (b : Bool) → number == n ≡ b
          → Once number_of n (Window bytes) (s.outs ++ out_leg_up number ∷ [])
      here next true e =
          let same = same_number number n e in
          let none = w.unborn (omega (arith, same, next)) in
          once_first number_of n (Window bytes) s.outs (out_leg_up number) none.1 (sym none.0)
      here next false e =
          once_push number_of n (Window bytes) s.outs (out_leg_up number) e w.window

      by : (kind : LegKind) → may_up_by s number kind ≡ true → Kept (up_by s number kind) bytes
      by InServer e = record { of_leg_n = w; opening = h.opening }
      by OutServer e =
          let next = same_number number (s.newest_out + 1)
          (and_parts (number == s.newest_out + 1) (has_room s.outs) e).0 in record {
            of_leg_n = record {
              later = w.later;
              unborn = λ f.
                  let none = w.unborn (omega (arith, f, next)) in (
                    none.0,
                    absent_push number_of n s.outs (out_leg_up number)
                        (test_other number n (λ g. absurd (omega (arith, f, g)))) none.1,
                  );
              window = here next (number == n) refl;
            };
            opening = h.opening;
          }
      by ClientIn e = h
      by ClientOut e = h

  settles : (s : Server) (bytes : ℕ) → Kept s bytes → Kept (settled s) bytes
  settles s bytes h = same_kept s (settled s) bytes (settled_same s) h

  drawn_kept : (s : Server) (number : ℕ) (kind : LegKind) (bytes : ℕ) → Kept s bytes
      → Kept (drawn_by s number kind) bytes
  drawn_kept s number InServer bytes h =
      by_test (λ (t : Server). Kept t bytes) (in_is_drawn (in_leg number s.ins))
      (settled (without_in s number)) s
      (λ e. settles (without_in s number) bytes
      (record { of_leg_n = h.of_leg_n; opening = h.opening })) (λ e. h)
  drawn_kept s number OutServer bytes h = h
  drawn_kept s number ClientIn bytes h = h
  drawn_kept s number ClientOut bytes h = h

  gone_kept : (s : Server) (place : Option ℕ) (bytes : ℕ) → Kept s bytes
      → Kept (record s { outs = removed_at s.outs place }) bytes
  gone_kept s None bytes h = h
  gone_kept s (Some place) bytes h =
      let w = h.of_leg_n in record {
        of_leg_n = record {
          later = w.later;
          unborn = λ e.
              ((w.unborn e).0, absent_removed number_of n s.outs place (w.unborn e).1);
          window = once_removed number_of n (Window bytes) s.outs place w.window;
        };
        opening = h.opening;
      }

  mark_kept : (s : Server) (number : ℕ) (kind : LegKind) (bytes : ℕ) → Kept s bytes
      → Kept (mark_by s number kind) bytes
  mark_kept s number InServer bytes h =
      settles (lost_in s number (in_leg number s.ins)) bytes
      (same_kept s (lost_in s number (in_leg number s.ins)) bytes
      (lost_same s number (in_leg number s.ins)) h)
  mark_kept s number OutServer bytes h =
      let t : Server = with_ack_dropped s number in
      settles (without_out t number) bytes
      (gone_kept t (out_place number t.outs) bytes
      (record { of_leg_n = h.of_leg_n; opening = h.opening }))
  mark_kept s number ClientIn bytes h = h
  mark_kept s number ClientOut bytes h = h

  -- ---- what is put

  abbrev leg : Leg
  leg = os_leg n

  abbrev Holds : Server → List OnLeg → List OnLeg → Type 0
  Holds s came put = Kept s (pdu_bytes (of_leg leg put))

  module _ (number : ℕ) (came put : List OnLeg) where
    abbrev Puts : Pick → Type 0
    Puts pick = PutKeeps Holds (os_leg number) came put pick

    or_put : (a b : Pick) → Puts a → Puts b → Puts (or_else a b)
    or_put None b h k = k
    or_put (Some pick) b h k = h

    -- what is no PDU
    put_on : (other : Leg) (s : Server) (m : Message) → pdu_bytes (m ∷ []) ≡ 0
        → Holds s came put → Holds s came (put ++ (other, m) ∷ [])
    put_on other s m none h = subst (Kept s) (sym (bytes_still leg put (other, m) none)) h

    greeting_put : (s : Server) (place : ℕ) (o : Option OutLeg) → slice_get s.outs place ≡ o
        → Holds s came put → Puts (out_greeting_at s place o)
    greeting_put s place None at h = tt
    greeting_put s place (Some x) at h =
        by_test Puts (is_due x.greeting) _ None
        (λ e. set_same s place x (record x { greeting = greetings.Put })
        (pdu_bytes (of_leg leg (put ++ (os_leg number, Text greeting_text) ∷ []))) at refl refl
        (put_on (os_leg number) s (Text greeting_text) refl h)) (λ e. tt)

    counts_kept : (s : Server) (place len bytes : ℕ) → Kept s bytes
        → Kept (counts s place len) bytes
    counts_kept s place len bytes h = by (slice_get s.outs place) refl
      where
        by : (o : Option OutLeg) → slice_get s.outs place ≡ o → Kept (counts_at s place len o) bytes
        by None at = h
        by (Some x) at = set_same s place x (counted x len) bytes at refl refl h

    -- behind OUT_R1/A9 the next channel writes
    handed_kept : (s : Server) (bytes : ℕ) → Kept s bytes → Kept (handed s) bytes
    handed_kept s bytes h =
        let w = h.of_leg_n in record {
          of_leg_n = record {
            later = λ e. w.later (omega (arith, e));
            unborn = w.unborn;
            window = w.window;
          };
          opening = h.opening;
        }

    was_put_kept : (s : Server) (place : ℕ) (packet : Named) (bytes : ℕ) → Kept s bytes
        → Kept (was_put s place packet) bytes
    was_put_kept s place (named.AckTo to received available cookie) bytes h =
        by_test (λ (t : Server). Kept t bytes) (to == 3) s (counts s place 56) (λ e. h)
        (λ e. counts_kept s place 56 bytes h)
    was_put_kept s place named.OutR1A9 bytes h =
        handed_kept (counts s place 24) bytes (counts_kept s place 24 bytes h)
    was_put_kept s place packet bytes h = counts_kept s place (length_of packet) bytes h

    waiting_put : (s : Server) (place : ℕ) (x : Waiting × Option Due) → Holds s came put
        → Puts (waiting_by s place x)
    waiting_put s place (w, None) h = tt
    waiting_put s place (w, Some due) h =
        was_put_kept (record s { waiting = w }) place due.packet
        (pdu_bytes (of_leg leg (put ++ (os_leg number, Packet due.packet) ∷ [])))
        (put_on (os_leg number) (record s { waiting = w }) (Packet due.packet) refl
        (record { of_leg_n = h.of_leg_n; opening = h.opening }))

    gate_put : (s : Server) (place : ℕ) (o : Option Gate) → Holds s came put
        → Puts (waiting_at s place o)
    gate_put s place None h = tt
    gate_put s place (Some gate) h = waiting_put s place (taken_out (lets gate) s.waiting) h

    end_put : (s : Server) (place : ℕ) → Holds s came put → Puts (put_end s place)
    end_put s place h =
        by_test Puts (is_end_due s && may_end_at s (slice_get s.outs place)) _ None
        (λ e.
        let k = counts_kept s place 24
        (pdu_bytes (of_leg leg (put ++ (os_leg number, Packet named.EndB1) ∷ [])))
        (put_on (os_leg number) s (Packet named.EndB1) refl h) in
        record { of_leg_n = k.of_leg_n; opening = k.opening })
        (λ e. tt)

    -- ---- a PDU goes

    pdu_kept : (s : Server) (place : ℕ) (x : OutLeg) (pdu : List ℕ) → IsAt s number place x
        → is_open s.stage ≡ true → may_go x s.writing (length pdu) ≡ true → Holds s came put
        → Holds (record s { outs = slice_set s.outs place (went x (length pdu)) }) came
        (put ++ (os_leg number, Pdu pdu) ∷ [])
    pdu_kept s place x pdu at opened may h = by (number == n) refl
      where
        before : ℕ
        before = pdu_bytes (of_leg leg put)

        w : SendsOf (seen s) before
        w = h.of_leg_n

        y : OutLeg
        y = went x (length pdu)

        t : Server
        t = record s { outs = slice_set s.outs place y }

        writing : x.number ≡ s.writing
        writing = same_number x.number s.writing (and_parts (x.number == s.writing) _ may).0

        not_opening : is_opening s.stage ≡ true → false ≡ true
        not_opening = open_is s.stage opened
          where
            open_is : (stage : Stage) → is_open stage ≡ true → is_opening stage ≡ true
                → false ≡ true
            open_is stages.Waits a b = absurd (false≢true a)
            open_is (stages.OutCame connection) a b = absurd (false≢true a)
            open_is (stages.InCame connection window timeout) a b = absurd (false≢true a)
            open_is (stages.Open connection) a b = b
            open_is stages.Ended a b = b

        by : (b : Bool) → number == n ≡ b
            → Kept t (pdu_bytes (of_leg leg (put ++ (os_leg number, Pdu pdu) ∷ [])))
        by true e =
            subst (Kept t) (sym (here (same_number number n e))) (record {
              of_leg_n = record {
                later = λ f. absurd (omega (arith, f, same, is, writing));
                unborn = λ f. absurd (true≢false
                    (sym (ap (λ (k : ℕ). k == n) is ∙ e)
                    ∙ absent_at number_of n s.outs place x at.at (w.unborn f).1));
                window = once_set number_of n (Window before) (Window (before + length pdu)) s.outs
                    place x y at.at refl (λ g sent. ap (λ (k : ℕ). k + length pdu) sent)
                    (λ g. absurd (true≢false (sym (ap (λ (k : ℕ). k == n) is ∙ e) ∙ g))) w.window;
              };
              opening = λ f. absurd (false≢true (not_opening f));
            })
          where
            same : number ≡ n
            same = same_number number n e

            is : x.number ≡ number
            is = at.is

            here : number ≡ n
                → pdu_bytes (of_leg leg (put ++ (os_leg number, Pdu pdu) ∷ []))
                ≡ before + length pdu
            here one =
                let all = subst (λ (k : ℕ). pdu_bytes (of_leg leg (put ++ (os_leg k, Pdu pdu) ∷ []))
                ≡ before + (length pdu + 0)) (sym one) (bytes_here leg put (Pdu pdu)) in
                omega (arith, all)
        by false e =
            subst (Kept t)
            (sym (ap pdu_bytes (other_more leg put (os_leg number, Pdu pdu) e))) (record {
              of_leg_n = record {
                later = w.later;
                unborn = λ f. (
                  (w.unborn f).0,
                  absent_set number_of n s.outs place x y at.at refl (w.unborn f).1,
                );
                window = once_set number_of n (Window before) (Window before) s.outs place x y
                    at.at refl
                    (λ g sent. absurd (true≢false (sym g ∙ ap (λ (k : ℕ). k == n) at.is ∙ e)))
                    (λ g z sent. sent) w.window;
              };
              opening = h.opening;
            })

    pdu_put : (s : Server) (place : ℕ) (queue : List (List ℕ)) → s.queue ≡ queue
        → out_place number s.outs ≡ Some place → is_open s.stage ≡ true → Holds s came put
        → Puts (put_pdu_by s place (front_length queue))
    pdu_put s place [] is at opened h = tt
    pdu_put s place (pdu ∷ pdus) is at opened h = by (slice_get s.outs place) refl
      where
        front : first_of s.queue ≡ pdu
        front = ap first_of is

        by : (o : Option OutLeg) → slice_get s.outs place ≡ o
            → Puts (if may_go_at s (length pdu) o then
            Some (
              record (record s { outs = went_at s place (length pdu) o }) {
                queue = behind s.queue;
              },
              Pdu (first_of s.queue),
            ) else None)
        by None there = tt
        by (Some x) there =
            by_test Puts (may_go x s.writing (length pdu)) _ None
            (λ may.
            subst (λ (bytes : List ℕ). Holds (record s {
              outs = slice_set s.outs place (went x (length pdu));
              queue = behind s.queue;
            }) came (put ++ (os_leg number, Pdu bytes) ∷ [])) (sym front)
            (let k = pdu_kept s place x pdu (at_place s number place x at there) opened may h in
            record { of_leg_n = k.of_leg_n; opening = k.opening }))
            (λ e. tt)

    next_put : (s : Server) (place : ℕ) → out_place number s.outs ≡ Some place
        → is_open s.stage ≡ true → Holds s came put → Puts (next_out s place)
    next_put s place at opened h =
        or_put (put_waiting s place) (put_pdu_or_end s place)
        (gate_put s place (gate_at s (slice_get s.outs place)) h)
        (or_put (put_pdu s place) (put_end s place)
        (pdu_put s place s.queue refl at opened h) (end_put s place h))

    settled_put : (pick : Pick) → Puts pick → Puts (settled_pick pick)
    settled_put None h = tt
    settled_put (Some pick) h =
        settles pick.0 (pdu_bytes (of_leg leg (put ++ (os_leg number, pick.1) ∷ []))) h

    out_put : (s : Server) (place : Option ℕ) → out_place number s.outs ≡ place
        → Holds s came put → Puts (put_out_at s place)
    out_put s None at h = tt
    out_put s (Some place) at h =
        or_put (put_out_greeting s place) (put_open s place)
        (greeting_put s place (slice_get s.outs place) refl h)
        (by_test Puts (is_open s.stage) (settled_pick (next_out s place)) None
        (λ e. settled_put (next_out s place) (next_put s place at e h)) (λ e. tt))

  -- on another leg goes no PDU
  abbrev IsQuiet : Server → Pick → Type 0
  IsQuiet s pick = IfSome pick (λ (one : Server × Message). pdu_bytes (one.1 ∷ []) ≡ 0)

  or_quiet : (s : Server) (a b : Pick) → IsQuiet s a → IsQuiet s b → IsQuiet s (or_else a b)
  or_quiet s None b p q = q
  or_quiet s (Some pick) b p q = p

  tells_quiet : (s : Server) (one : InLeg) (what : Tells) → IsQuiet s (put_tells_by s one what)
  tells_quiet s one tells.Nothing = tt
  tells_quiet s one tells.ConnB3 =
      by_test (IsQuiet s) (is_open s.stage) _ None (λ e. refl) (λ e. tt)
  tells_quiet s one tells.InR1B2 =
      by_test (IsQuiet s) (was_current s one) _ None (λ e. refl) (λ e. tt)

  b1_quiet : (s : Server) (one : InLeg) (how : Leaving) → IsQuiet s (put_b1_by s one how)
  b1_quiet s one leaving.Stays = tt
  b1_quiet s one leaving.InR1B1 = refl
  b1_quiet s one leaving.Left = tt
  b1_quiet s one leaving.Lost = tt

  ack_quiet : (s : Server) (o : Option Ack) → IsQuiet s (put_ack_by s o)
  ack_quiet s None = tt
  ack_quiet s (Some ack) = refl

  in_quiet : (s : Server) (number : ℕ) → IsQuiet s (put_in s number)
  in_quiet s number = by (in_leg number s.ins)
    where
      by : (o : Option InLeg) → IsQuiet s (put_in_by s o)
      by None = tt
      by (Some one) =
          or_quiet s (put_in_greeting s one) _
          (by_test (IsQuiet s) (is_due one.greeting) _ None (λ e. refl) (λ e. tt))
          (or_quiet s (put_tells s one) _ (tells_quiet s one one.tells)
          (or_quiet s (put_b1 s one) (put_ack s one) (b1_quiet s one one.leaving)
          (ack_quiet s (ack_due s one))))

  put_kept : (s : Server) (number : ℕ) (kind : LegKind) (came put : List OnLeg)
      → Holds s came put
      → PutKeeps Holds (record { kind = kind; number = number }) came put
      (put_by_kind s number kind)
  put_kept s number InServer came put h =
      by (put_in s number) (in_same s number) (in_quiet s number)
    where
      by : (pick : Pick) → PickSame s pick → IsQuiet s pick
          → PutKeeps Holds (record { kind = InServer; number = number }) came put pick
      by None same none = tt
      by (Some one) same none =
          put_on number came put (record { kind = InServer; number = number }) one.0 one.1 none
          (same_kept s one.0 (pdu_bytes (of_leg leg put)) same h)
  put_kept s number OutServer came put h =
      out_put number came put s (out_place number s.outs) refl h
  put_kept s number ClientIn came put h = tt
  put_kept s number ClientOut came put h = tt

  -- ---- the server

  row_on : (one : OnLeg) (came put : List OnLeg) (x : Done) → Holds x.0 came put
      → RowKeeps Holds one came put x
  row_on one came put (t, Ok taken) h = h
  row_on one came put (t, Err why) h = h

  steps : StepsKeep server_rules Holds
  steps = record {
    up = λ s other cookie came put. up_kept s other cookie (pdu_bytes (of_leg leg put));
    head = λ s other text came put h. h;
    pdu = λ s other count bytes came put h.
        row_on (other, Pdu bytes) came put (pdu_by s other.number bytes other.kind)
        (same_kept s (pdu_by s other.number bytes other.kind).0 (pdu_bytes (of_leg leg put))
        (pdu_same s other.number bytes other.kind) h);
    packet = λ s other count packet came put h.
        row_on (other, Packet packet) came put (packet_by s other.number count packet other.kind)
        (packet_row s other.number count packet other.kind (pdu_bytes (of_leg leg put)) h);
    put = λ s other came put. put_kept s other.number other.kind came put;
    drawn = λ s other came put.
        drawn_kept s other.number other.kind (pdu_bytes (of_leg leg put));
    mark = λ s other came put. mark_kept s other.number other.kind (pdu_bytes (of_leg leg put));
    ping = λ s other came put h. h;
  }

  calls : ActsKeep server_acts Holds
  calls = record {
    give = λ s bytes came put h.
        same_kept s (give s bytes).0 (pdu_bytes (of_leg leg put)) (give_same s bytes) h;
    take = λ s came put h. same_kept s (take s) (pdu_bytes (of_leg leg put)) (take_same s) h;
    close = λ s came put h. record { of_leg_n = h.of_leg_n; opening = h.opening };
    recycle = λ s came put h.
        same_kept s (recycle s).0 (pdu_bytes (of_leg leg put)) (recycle_same s) h;
  }

-- the leg that is found by its number is the one
found : (n : ℕ) (Q : OutLeg → Type 0) (outs : List OutLeg) (one : OutLeg)
    → out_leg n outs ≡ Some one → Once number_of n Q outs → Q one
found n Q outs one at once = by (out_place n outs) refl at
  where
    by : (place : Option ℕ) → out_place n outs ≡ place → out_at outs place ≡ Some one → Q one
    by None e is = absurd cc
    by (Some place) e is =
        once_at number_of n Q outs place one is
        (found_passes (λ (x : OutLeg). x.number == n) outs place one e is) once

pub server_sent : (window n : ℕ) (moves : List EndMove) (one : OutLeg)
    → let p = (all_end_moved server_rules server_acts (end_started (first window)) moves).passage
    in out_leg n p.role.outs ≡ Some one → CountsPut (os_leg n) p.put one.window
server_sent window n moves one at =
    let p = (all_end_moved server_rules server_acts (end_started (first window)) moves).passage in
    let h = end_moves_keep server_rules (Holds n) (steps n) server_acts (calls n)
    (end_started (first window)) moves (record {
      of_leg_n = record { later = λ e. refl; unborn = λ e. (refl, tt); window = tt };
      opening = λ e. refl;
    }) in
    found n (λ (x : OutLeg). x.window.sent ≡ pdu_bytes (of_leg (os_leg n) p.put)) p.role.outs one at
    h.of_leg_n.window
