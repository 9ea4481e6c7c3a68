-- all rows of a server before CONN/C1 is put
use Rattle.rh_keep.specs.Meters.{started}
use Rattle.law_order.proofs.Vocabulary.{◌≡◌, inl, ℕ, ◌==◌, ◌&&◌, not, Bool, true, false, if◌then◌else◌, List, [], ◌∷◌, ◌++◌, Some, None, Ok, Err, arith, refl, rules, sym, ap, ◌∙◌, subst, IfSome, slice_get, slice_set, Option}
use Rattle.rh_sig.specs.declared.named.Named.TheVariants as named
use Rattle.rh_shell.specs.declared.answers.Refused.TheVariants as refused
use Rattle.rh_server.specs.declared.state.Stage.TheVariants as stage
use Rattle.rh_server.specs.declared.out_line.Kind.TheVariants as kind
use Rattle.law_moves.proofs.Vocabulary.{after_acked, may_put, by_test, Cookie, Named, LegKind, ClientOut, OutServer, ClientIn, InServer, Count, Packet, Waiting, takes, forwarded, OnLeg}
use Rattle.law_moves.proofs.Lemmas.{RowKeeps}
use Rattle.law_role_server.proofs.Vocabulary.{Stage, OutLeg, has, is_ack, waits, packet_by, on_is, on_os, Server, same_cookie, out_place, out_at, out_cookie, Done, took, refuse, unexpected, is_first, opens, first_out_at, with_first_out, conn_a2_at, on_conn_a2, with_first_in, conn_b2_at, on_conn_b2, forward_by, forwards, forwards_writing, forwards_to, channel_leg, is_full, out_server, on_ack_to, acked_at, acked_in, acked_cookie, on_ack, on_ping_traffic, on_in_r1_a2}
use Rattle.law_role_server.proofs.Vocabulary.{on_in_r1_a6, on_in_r2_a2, on_out_r1_a4, on_out_r1_a8, on_end_a2, is_ack_to, is_in_r1_a3, is_in_r2_a3, often, leg_at, since_open}
use Rattle.law_role_server.proofs.Counted.Logs.{often_more}
use Rattle.law_role_server.proofs.Counted.Dues.{FirstIsC1, adds_forwarded}
use Rattle.law_role_server.proofs.Counted.Adding.{in_r1_a2_adds, in_r2_a2_adds}
use Rattle.law_role_server.proofs.Counted.BeforeC1.{AreAcks, acks_forwarded, c1_behind, LetsC1, legs_at, legs_set, Before, View, view, same_before, legs_before}
use Rattle.law_role_server.proofs.Counted.BeforeC1Open.{Applies, Holds, front_room, came_before, Keeps, keeps_same, row_keeps, parts, keeps_adds, in_r1_a2_early, in_r2_a2_early, in_r1_a6_keeps, a4_keeps, a8_keeps}

-- ---- acknowledgements

pub waits_before : (s : Server) (w : Waiting) (put : List OnLeg)
    → (AreAcks s.waiting.due → AreAcks w.due) → (FirstIsC1 s.waiting.due → FirstIsC1 w.due)
    → Before s put → Before (record s { waiting = w }) put
waits_before s w put acks firsts h = record {
  steady = h.steady;
  lone = h.lone;
  acks = λ e. acks (h.acks e);
  first = λ e. firsts (h.first e);
  writes = h.writes;
  legs = h.legs;
  puts = h.puts;
}

forwards_keeps : (s : Server) (n : ℕ) (packet : Named) → is_ack_to 3 packet ≡ true
    → is_ack packet ≡ true → Keeps s (forwards s n packet).0
forwards_keeps s n packet is ack put h =
    by (forwarded s.waiting packet) (acks_forwarded packet is s.waiting)
    (adds_forwarded packet ack s.waiting).firsts
  where
    by : (x : Waiting × Bool) → (AreAcks s.waiting.due → AreAcks x.0.due)
        → (FirstIsC1 s.waiting.due → FirstIsC1 x.0.due) → Before (forward_by s n x).0 put
    by (w, true) acks firsts = waits_before s w put acks firsts h
    by (w, false) acks firsts = h

either : (s : Server) (put : List OnLeg) (b : Bool) (x y : Done) → Before x.0 put
    → Before y.0 put → Before (if b then x else y).0 put
either s put b x y h k = by_test (λ (z : Done). Before z.0 put) b x y (λ e. h) (λ e. k)

writing_keeps : (s : Server) (packet : Named) → is_ack_to 3 packet ≡ true
    → is_ack packet ≡ true → Keeps s (forwards_writing s packet).0
writing_keeps s packet is ack put h =
    either s put (is_full s && not (has (takes packet) s.waiting))
    (refuse s (refused.Full (out_server s.writing))) (forwards s s.writing packet) h
    (forwards_keeps s s.writing packet is ack put h)

to_keeps : (s : Server) (packet : Named) (o : Option ℕ) → is_ack_to 3 packet ≡ true
    → is_ack packet ≡ true → Keeps s (forwards_to s packet o).0
to_keeps s packet None is ack put h = h
to_keeps s packet (Some n) is ack put h =
    either s put (n == s.writing) (forwards_writing s packet) (forwards s n packet)
    (writing_keeps s packet is ack put h) (forwards_keeps s n packet is ack put h)

-- where it is refused, the server stays
abbrev StaysRefused : Server → Done → Type 0
StaysRefused s (t, Ok took') = Unit {0}
StaysRefused s (t, Err why) = t ≡ s

ack_to_row : (s : Server) (n : ℕ) (count : Count) (to received window : ℕ) (cookie : Cookie)
    (came put : List OnLeg) → Holds s came put
    → RowKeeps Holds (leg_at InServer n, Packet (named.AckTo to received window cookie)) came put
    (on_ack_to s count to received window cookie)
ack_to_row s n count to received window cookie came put h =
    by_test Row (is_first count) (unexpected s) other (λ e. h)
    (λ e. by_test Row (to == 0) (forwards_writing s (named.AckTo 0 received window cookie)) third
    (λ f. none f (forwards_writing s (named.AckTo 0 received window cookie)) refuses)
    (λ f. by_test Row (to == 3)
    (forwards_to s (named.AckTo 3 received window cookie) (channel_leg cookie s.outs))
    (unexpected s)
    (λ g. row_keeps s one came put
    (forwards_to s (named.AckTo 3 received window cookie) (channel_leg cookie s.outs))
    (to_keeps s (named.AckTo 3 received window cookie) (channel_leg cookie s.outs) refl refl) h)
    (λ g. h)))
  where
    one : OnLeg
    one = (leg_at InServer n, Packet (named.AckTo to received window cookie))

    Row : Done → Type 0
    Row x =
        RowKeeps Holds (leg_at InServer n, Packet (named.AckTo to received window cookie)) came put
        x

    third : Done
    third =
        if to == 3
        then forwards_to s (named.AckTo 3 received window cookie) (channel_leg cookie s.outs)
        else unexpected s

    other : Done
    other =
        if to == 0 then forwards_writing s (named.AckTo 0 received window cookie) else third

    refuses : StaysRefused s (forwards_writing s (named.AckTo 0 received window cookie))
    refuses =
        by_test (StaysRefused s)
        (is_full s && not (has (takes (named.AckTo 0 received window cookie)) s.waiting))
        (refuse s (refused.Full (out_server s.writing)))
        (forwards s s.writing (named.AckTo 0 received window cookie)) (λ e. refl)
        (λ e. by (forwarded s.waiting (named.AckTo 0 received window cookie)))
      where
        by : (x : Waiting × Bool) → StaysRefused s (forward_by s s.writing x)
        by (w, true) = tt
        by (w, false) = refl

    -- one to the client came
    none : to == 0 ≡ true → (x : Done) → StaysRefused s x → Row x
    none f (t, Ok took') stays = λ a.
        let more = often_more (is_ack_to 0) InServer came
        (leg_at InServer n, Packet (named.AckTo to received window cookie)) in
        let is : often (is_ack_to 0) InServer
        ((leg_at InServer n, Packet (named.AckTo to received window cookie)) ∷ []) ≡ 1 =
        ap {B = ℕ} (λ (b : Bool). if b then 1 else 0) f in
        let no_ack = a.no_ack in absurd (omega (arith, more, is, no_ack))
    none f (t, Err why) stays =
        subst (λ (u : Server). Holds u came put) (sym stays) h

-- an acknowledgement of an out proxy changes a leg's window alone
ack_keeps : (s : Server) (n : ℕ) (count : Count) (received window : ℕ) (cookie : Cookie)
    → Keeps s (on_ack s n count received window cookie).0
ack_keeps s n count received window cookie put h =
    either s put (is_first count) (unexpected s) _ h (by_cookie (out_cookie n s.outs))
  where
    by_leg : (place : ℕ) (o : Option OutLeg) → IfSome o LetsC1
        → Before (acked_at s place received window o).0 put
    by_leg place None is = h
    by_leg place (Some leg) is =
        legs_before s (slice_set s.outs place
        (record leg { window = after_acked leg.window received window })) put
        (legs_set LetsC1 s.outs place
        (record leg { window = after_acked leg.window received window }) is h.legs) h

    by_place : (place : Option ℕ) → Before (acked_in s received window place).0 put
    by_place None = h
    by_place (Some place) =
        by_leg place (slice_get s.outs place) (legs_at LetsC1 s.outs place h.legs)

    by_cookie : (o : Option Cookie) → Before (acked_cookie s n received window cookie o).0 put
    by_cookie None = h
    by_cookie (Some channel) =
        either s put (same_cookie channel cookie) _ (refuse s (refused.Cookie channel cookie))
        (by_place (out_place n s.outs)) h

-- ---- CONN/A2 and CONN/B2

-- one of both came
began_before : (s : Server) (new : Stage) (put : List OnLeg) → since_open s.stage ≡ 0
    → since_open new ≡ 0 → Before s put → Before (record s { stage = new }) put
began_before s new put was is h = record {
  steady = λ e. h.steady was;
  lone = λ e. h.lone was;
  acks = λ e. h.acks was;
  first = λ e. absurd (omega (arith, e, is));
  writes = h.writes;
  legs = h.legs;
  puts = h.puts;
}

-- both came
opens_before : (s : Server) (connection : Cookie) (window timeout : ℕ) (put : List OnLeg)
    → since_open s.stage ≡ 0 → Before s put → Before (opens s connection window timeout) put
opens_before s connection window timeout put was h = record {
  steady = λ e. absurd (omega (arith, e));
  lone = λ e. absurd (omega (arith, e));
  acks = λ e. absurd (omega (arith, e));
  first = λ e. c1_behind s.waiting.due window timeout (h.acks was);
  writes = h.writes;
  legs = h.legs;
  puts = h.puts;
}

first_out_before : (s : Server) (cookie : Cookie) (lifetime window : ℕ) (put : List OnLeg)
    → may_put (started lifetime 28) 44 ≡ true → Before s put
    → Before (with_first_out s cookie lifetime window) put
first_out_before s cookie lifetime window put room h =
    by (out_place 1 s.outs) (out_at s.outs (out_place 1 s.outs))
  where
    by : (place : Option ℕ) (o : Option OutLeg)
        → Before (first_out_at s cookie lifetime window place o) put
    by (Some place) (Some leg) =
        legs_before s _ put (legs_set LetsC1 s.outs place _ (λ e. inl room) h.legs) h
    by (Some place) None = h
    by None o = h

first_out_stage : (s : Server) (cookie : Cookie) (lifetime window : ℕ)
    → (with_first_out s cookie lifetime window).stage ≡ s.stage
first_out_stage s cookie lifetime window = search rules

conn_a2_row : (s : Server) (n : ℕ) (count : Count) (v : ℕ) (a b : Cookie) (c d : ℕ)
    (came put : List OnLeg) → Holds s came put
    → RowKeeps Holds (leg_at OutServer n, Packet (named.ConnA2 v a b c d)) came put
    (on_conn_a2 s n count a b c d)
conn_a2_row s n count v a b c d came put h =
    by_test Row (is_first count && ((n == 1) && not (waits kind.ConnC1 s.waiting)))
    (conn_a2_at s s.stage a b c d) (unexpected s) (λ e. by s.stage refl) (λ e. h)
  where
    one : OnLeg
    one = (leg_at OutServer n, Packet (named.ConnA2 v a b c d))

    Row : Done → Type 0
    Row x = RowKeeps Holds (leg_at OutServer n, Packet (named.ConnA2 v a b c d)) came put x

    u : Server
    u = with_first_out s b c d

    -- behind it, where the server was not open
    told : Applies (came ++ one ∷ []) put → Before u put
    told applies =
        first_out_before s b c d put (front_room came one applies.room).1
        (h (came_before came put one applies))

    was : (at : Stage) → s.stage ≡ at → since_open at ≡ 0 → since_open u.stage ≡ 0
    was at e none = ap since_open (first_out_stage s b c d ∙ e) ∙ none

    by : (at : Stage) → s.stage ≡ at → Row (conn_a2_at s at a b c d)
    by stage.Waits e = λ applies.
        began_before u (stage.OutCame a) put (was stage.Waits e refl) refl (told applies)
    by (stage.InCame known window timeout) e =
        by_test Row (same_cookie known a) (took (opens u known window timeout))
        (refuse s (refused.Cookie known a))
        (λ f applies. opens_before u known window timeout put
        (was (stage.InCame known window timeout) e refl) (told applies))
        (λ f. h)
    by (stage.OutCame known) e = h
    by (stage.Open known) e = h
    by stage.Ended e = h

first_in_view : (s : Server) (cookie : Cookie) → view (with_first_in s cookie) ≡ view s
first_in_view s cookie = search rules

conn_b2_keeps : (s : Server) (n : ℕ) (count : Count) (a b : Cookie) (c d : ℕ)
    → Keeps s (on_conn_b2 s n count a b c d).0
conn_b2_keeps s n count a b c d put h =
    either s put (is_first count && ((n == 1) && not (waits kind.ConnC1 s.waiting)))
    (conn_b2_at s s.stage a b c d) (unexpected s) (by s.stage refl) h
  where
    u : Server
    u = with_first_in s b

    told : Before u put
    told = same_before s u put (first_in_view s b) h

    was : (at : Stage) → s.stage ≡ at → since_open at ≡ 0 → since_open u.stage ≡ 0
    was at e none =
        ap (λ (x : View). since_open x.at) (first_in_view s b) ∙ ap since_open e ∙ none

    by : (at : Stage) → s.stage ≡ at → Before (conn_b2_at s at a b c d).0 put
    by stage.Waits e =
        began_before u (stage.InCame a c d) put (was stage.Waits e refl) refl told
    by (stage.OutCame known) e =
        either s put (same_cookie known a) (took (opens u known c d))
        (refuse s (refused.Cookie known a))
        (opens_before u known c d put (was (stage.OutCame known) e refl) told) h
    by (stage.InCame known window timeout) e = h
    by (stage.Open known) e = h
    by stage.Ended e = h

-- ---- all packets

in_r1_a2_stage : (s : Server) (n : ℕ) (count : Count) (a b c : Cookie) (d e : ℕ)
    → (on_in_r1_a2 s n count a b c d e).0.stage ≡ s.stage
in_r1_a2_stage s n count a b c d e = search rules

in_r1_a2_parts : (s : Server) (n : ℕ) (count : Count) (a b c : Cookie) (d e : ℕ)
    → parts (on_in_r1_a2 s n count a b c d e).0 ≡ parts s
in_r1_a2_parts s n count a b c d e = search rules

in_r2_a2_stage : (s : Server) (n : ℕ) (count : Count) (a : Cookie)
    → (on_in_r2_a2 s n count a).0.stage ≡ s.stage
in_r2_a2_stage s n count a = search rules

in_r2_a2_parts : (s : Server) (n : ℕ) (count : Count) (a : Cookie)
    → parts (on_in_r2_a2 s n count a).0 ≡ parts s
in_r2_a2_parts s n count a = search rules

is_row : (s : Server) (n : ℕ) (count : Count) (m : Named) (came put : List OnLeg)
    → Holds s came put
    → RowKeeps Holds (leg_at InServer n, Packet m) came put (on_is s n count m)
is_row s n count (named.ConnB2 v a b c d e f g) came put =
    row_keeps s (leg_at InServer n, Packet (named.ConnB2 v a b c d e f g)) came put
    (on_conn_b2 s n count a b c d) (conn_b2_keeps s n count a b c d)
is_row s n count (named.InR1A2 v a b c d e) came put =
    row_keeps s (leg_at InServer n, Packet (named.InR1A2 v a b c d e)) came put
    (on_in_r1_a2 s n count a b c d e)
    (keeps_adds is_in_r1_a3 s (on_in_r1_a2 s n count a b c d e).0
    (in_r1_a2_early s n count a b c d e) (ap since_open (in_r1_a2_stage s n count a b c d e))
    (in_r1_a2_parts s n count a b c d e) (in_r1_a2_adds s n count a b c d e))
is_row s n count (named.InR1A6 a) came put =
    row_keeps s (leg_at InServer n, Packet (named.InR1A6 a)) came put (on_in_r1_a6 s n a)
    (in_r1_a6_keeps s n a)
is_row s n count (named.InR2A2 a) came put =
    row_keeps s (leg_at InServer n, Packet (named.InR2A2 a)) came put (on_in_r2_a2 s n count a)
    (keeps_adds is_in_r2_a3 s (on_in_r2_a2 s n count a).0 (in_r2_a2_early s n count a)
    (ap since_open (in_r2_a2_stage s n count a)) (in_r2_a2_parts s n count a)
    (in_r2_a2_adds s n count a))
is_row s n count (named.AckTo a b c d) came put = ack_to_row s n count a b c d came put
is_row s n count (named.OutR1A8 a b) came put =
    row_keeps s (leg_at InServer n, Packet (named.OutR1A8 a b)) came put
    (on_out_r1_a8 s count a b) (a8_keeps s count a b)
is_row s n count named.EndA2 came put =
    row_keeps s (leg_at InServer n, Packet named.EndA2) came put (on_end_a2 s n count)
    (keeps_same s (on_end_a2 s n count).0 (search rules))
is_row s n count m came put = λ h. h

os_row : (s : Server) (n : ℕ) (count : Count) (m : Named) (came put : List OnLeg)
    → Holds s came put
    → RowKeeps Holds (leg_at OutServer n, Packet m) came put (on_os s n count m)
os_row s n count (named.ConnA2 v a b c d) came put = conn_a2_row s n count v a b c d came put
os_row s n count (named.OutR1A4 v a b c d e f) came put =
    row_keeps s (leg_at OutServer n, Packet (named.OutR1A4 v a b c d e f)) came put
    (on_out_r1_a4 s n count a b c d e f) (a4_keeps s n count a b c d e f)
os_row s n count (named.Ack a b c) came put =
    row_keeps s (leg_at OutServer n, Packet (named.Ack a b c)) came put (on_ack s n count a b c)
    (ack_keeps s n count a b c)
os_row s n count (named.PingTraffic a) came put =
    row_keeps s (leg_at OutServer n, Packet (named.PingTraffic a)) came put
    (on_ping_traffic s count) (keeps_same s (on_ping_traffic s count).0 (search rules))
os_row s n count m came put = λ h. h

pub packet_row : (s : Server) (n : ℕ) (count : Count) (m : Named) (k : LegKind)
    (came put : List OnLeg) → Holds s came put
    → RowKeeps Holds (leg_at k n, Packet m) came put (packet_by s n count m k)
packet_row s n count m InServer came put = is_row s n count m came put
packet_row s n count m OutServer came put = os_row s n count m came put
packet_row s n count m ClientIn came put = λ h. h
packet_row s n count m ClientOut came put = λ h. h
