-- so it is where a server puts, and where a leg of it is drawn or lost
use Rattle.law_order.proofs.Vocabulary.{◌≡◌, ℕ, ◌==◌, ◌&&◌, Bool, Some, None, arith, rules, refl, IfSome, if◌then◌else◌, slice_get, Option}
use Rattle.rh_sig.specs.declared.named.Named.TheVariants as named
use Rattle.rh_server.specs.declared.state.EndMark.TheVariants as end_mark
use Rattle.rh_server.specs.declared.state.Greeting.TheVariants as greeting
use Rattle.rh_server.specs.declared.state.Leaving.TheVariants as leaving
use Rattle.rh_server.specs.declared.state.Tells.TheVariants as tells
use Rattle.law_moves.proofs.Vocabulary.{Ack, by_test, Named, LegKind, ClientOut, OutServer, ClientIn, InServer, Current, after_tell, front_length, Message, Text, Pdu, Packet, Due, greeting as greeting_text, first_of, Waiting, taken}
use Rattle.law_role_server.proofs.Vocabulary.{InLeg, OutLeg, Told, Leaving, Tells, Server, in_leg, in_place, with_in, out_place, is_open, is_due, is_shut, is_waiting, stays, removed_at, without_in, without_out, Gate, lets, length_of, counted, went, Pick, or_else, put_by, put_in_by, put_in_greeting, put_tells, put_tells_by, put_b1, put_b1_by, put_ack, put_ack_by, ack_due, was_current, told_by, put_out_at, put_open, next_in, next_out, out_greeting_at, put_out_greeting}
use Rattle.law_role_server.proofs.Vocabulary.{put_waiting, waiting_at, waiting_by, was_put, goes, went_at, with_out, counts, counts_at, may_go_at, may_end_at, is_end_due, gate_at, put_pdu, pdu_by, put_end, put_pdu_or_end, settled_pick, in_is_drawn, drawn_by, mark_by, lost_in, with_ack_dropped, settled}
use Rattle.law_node_ends.proofs.Unused.Places.{none_removed, has, distinct_removed}
use Rattle.law_node_ends.proofs.Unused.ServerLists.{in_number, out_number, is_used}
use Rattle.law_node_ends.proofs.Unused.ServerLegs.{said, Same, Goes, GoesOn, goes_self, goes_same, goes_then, IsAmong, in_among, out_among, in_goes, out_goes}

-- ---- puts

abbrev pub PickGoes : Server → Pick → Type 0
PickGoes s pick = IfSome pick (λ (put : Server × Message). GoesOn s put.0)

or_goes : (s : Server) (a b : Pick) → PickGoes s a → PickGoes s b → PickGoes s (or_else a b)
or_goes s None b first later = later
or_goes s (Some pick) b first later = first

-- what goes where a condition holds
if_goes : (s : Server) (b : Bool) (t : Server) (message : Message) → GoesOn s t
    → PickGoes s (if b then Some (t, message) else None)
if_goes s b t message goes =
    by_test (PickGoes s) b (Some (t, message)) None (λ e. goes) (λ e. tt)

-- on an is leg that is kept
module _ (s : Server) (leg : InLeg) (among : IsAmong s.ins leg) where
  greeting_goes : PickGoes s (put_in_greeting s leg)
  greeting_goes =
      let greeted : InLeg = record leg { greeting = greeting.Put } in
      if_goes s (is_due leg.greeting) (with_in s greeted) (Text greeting_text)
      (in_goes s leg greeted among refl (λ o. o))

  tells_goes : (told : Tells) → PickGoes s (put_tells_by s leg told)
  tells_goes tells.Nothing = tt
  tells_goes tells.ConnB3 =
      let later : InLeg = record leg { tells = tells.Nothing } in
      if_goes s (is_open s.stage) (with_in s later) (Packet (named.ConnB3 s.line.size 1))
      (in_goes s leg later among refl (λ o. o))
  tells_goes tells.InR1B2 =
      let later : InLeg = record leg { tells = tells.Nothing } in
      if_goes s (was_current s leg) (with_in (told_by s leg.number) later)
      (Packet (named.InR1B2 s.line.size))
      (by_test (λ (t : Server). GoesOn s (with_in t later))
      ((leg.number == s.current.leg) && is_shut s.edge)
      (record s { line = after_tell s.line Current; edge = Told }) s
      (λ e. in_goes s leg later among refl (λ o. o))
      (λ e. in_goes s leg later among refl (λ o. o)))

  b1_goes : (way : Leaving) → PickGoes s (put_b1_by s leg way)
  b1_goes leaving.InR1B1 =
      in_goes s leg (record leg { leaving = leaving.Left }) among refl (λ o. refl)
  b1_goes way = tt

  ack_goes : (ack : Option Ack) → PickGoes s (put_ack_by s ack)
  ack_goes None = tt
  ack_goes (Some ack) = goes_self s

  next_in_goes : PickGoes s (next_in s leg)
  next_in_goes =
      or_goes s (put_in_greeting s leg) _ greeting_goes
      (or_goes s (put_tells s leg) _ (tells_goes leg.tells)
      (or_goes s (put_b1 s leg) (put_ack s leg) (b1_goes leg.leaving) (ack_goes (ack_due s leg))))

put_in_goes : (s : Server) (n : ℕ) (o : Option InLeg) → in_leg n s.ins ≡ o
    → PickGoes s (put_in_by s o)
put_in_goes s n None e = tt
put_in_goes s n (Some leg) e = next_in_goes s leg (in_among s.ins (in_place n s.ins) leg e)

-- on an os leg, by its place
module _ (s : Server) (place : ℕ) where
  with_out_goes : (old leg : OutLeg) → slice_get s.outs place ≡ Some old
      → leg.number ≡ old.number → GoesOn s (with_out s place leg)
  with_out_goes old leg e same =
      out_goes s place old leg (out_among s.outs (Some place) old e) same

  out_greeting_goes : (o : Option OutLeg) → slice_get s.outs place ≡ o
      → PickGoes s (out_greeting_at s place o)
  out_greeting_goes None e = tt
  out_greeting_goes (Some leg) e =
      let greeted : OutLeg = record leg { greeting = greeting.Put } in
      if_goes s (is_due leg.greeting) (with_out s place greeted) (Text greeting_text)
      (with_out_goes leg greeted e refl)

  counts_at_goes : (len : ℕ) (o : Option OutLeg) → slice_get s.outs place ≡ o
      → GoesOn s (counts_at s place len o)
  counts_at_goes len None e = goes_self s
  counts_at_goes len (Some leg) e = with_out_goes leg (counted leg len) e refl

  counts_goes : (len : ℕ) → GoesOn s (counts s place len)
  counts_goes len = counts_at_goes len (slice_get s.outs place) refl

  was_put_goes : (packet : Named) → GoesOn s (was_put s place packet)
  was_put_goes (named.AckTo destination received window cookie) =
      by_test (GoesOn s) (destination == 3) s (counts s place 56) (λ e. goes_self s)
      (λ e. counts_goes 56)
  was_put_goes named.OutR1A9 = counts_goes 24
  was_put_goes packet = counts_goes (length_of packet)

  went_goes : (len : ℕ) (o : Option OutLeg) → slice_get s.outs place ≡ o
      → GoesOn s (record s { outs = went_at s place len o })
  went_goes len None e = goes_self s
  went_goes len (Some leg) e = with_out_goes leg (went leg len) e refl

  pdu_goes : (o : Option ℕ) → PickGoes s (pdu_by s place o)
  pdu_goes None = tt
  pdu_goes (Some len) =
      if_goes s (may_go_at s len (slice_get s.outs place)) (goes s place len)
      (Pdu (first_of s.queue)) (went_goes len (slice_get s.outs place) refl)

  end_goes : PickGoes s (put_end s place)
  end_goes =
      if_goes s (is_end_due s && may_end_at s (slice_get s.outs place))
      (record (counts s place 24) { end_mark = end_mark.Put }) (Packet named.EndB1)
      (counts_goes 24)

waiting_goes : (s : Server) (place : ℕ) (x : Waiting × Option Due)
    → PickGoes s (waiting_by s place x)
waiting_goes s place (waiting, None) = tt
waiting_goes s place (waiting, Some due) =
    was_put_goes (record s { waiting = waiting }) place due.packet

settled_same : (s : Server) → Same s (settled s)
settled_same s = search rules

settled_goes : (s : Server) (pick : Pick) → PickGoes s pick → PickGoes s (settled_pick pick)
settled_goes s None h = tt
settled_goes s (Some (t, message)) h =
    goes_then s t (settled t) h (goes_same t (settled t) (settled_same t))

put_out_goes : (s : Server) (o : Option ℕ) → PickGoes s (put_out_at s o)
put_out_goes s None = tt
put_out_goes s (Some place) =
    or_goes s (put_out_greeting s place) (put_open s place)
    (out_greeting_goes s place (slice_get s.outs place) refl)
    (by_test (PickGoes s) (is_open s.stage) (settled_pick (next_out s place)) None
    (λ e. settled_goes s (next_out s place)
    (or_goes s (put_waiting s place) (put_pdu_or_end s place)
    (by_gate (gate_at s (slice_get s.outs place)))
    (or_goes s (put_pdu s place) (put_end s place) (pdu_goes s place (front_length s.queue))
    (end_goes s place))))
    (λ e. tt))
  where
    by_gate : (o : Option Gate) → PickGoes s (waiting_at s place o)
    by_gate None = tt
    by_gate (Some gate) = waiting_goes s place (taken (lets gate) s.waiting)

pub put_goes : (s : Server) (n : ℕ) (kind : LegKind) → PickGoes s (put_by s n kind)
put_goes s n InServer = put_in_goes s n (in_leg n s.ins) refl
put_goes s n OutServer = put_out_goes s (out_place n s.outs)
put_goes s n ClientIn = tt
put_goes s n ClientOut = tt

-- ---- legs that are drawn and lost

without_in_goes : (s : Server) (place : Option ℕ)
    → Goes (said s) (record (said s) { ins = removed_at s.ins place })
without_in_goes s None = goes_self s
without_in_goes s (Some place) = record {
  used = λ n h. none_removed (is_used n) s.ins place h;
  ins = λ n h. none_removed (has in_number n) s.ins place h;
  outs = λ n h. h;
  distinct = distinct_removed in_number s.ins place;
  newest = omega arith;
}

without_out_goes : (s : Server) (place : Option ℕ)
    → Goes (said s) (record (said s) { outs = removed_at s.outs place })
without_out_goes s None = goes_self s
without_out_goes s (Some place) = record {
  used = λ n h. h;
  ins = λ n h. h;
  outs = λ n h. none_removed (has out_number n) s.outs place h;
  distinct = λ d. d;
  newest = omega arith;
}

lost_goes : (s : Server) (n : ℕ) (o : Option InLeg) → in_leg n s.ins ≡ o
    → GoesOn s (lost_in s n o)
lost_goes s n None e = without_in_goes s (in_place n s.ins)
lost_goes s n (Some leg) e =
    let lost : InLeg = record leg { leaving = leaving.Lost } in
    by_test (GoesOn s) (is_waiting leg.stage && stays leg.leaving) (with_in s lost)
    (without_in s n)
    (λ o. in_goes s leg lost (in_among s.ins (in_place n s.ins) leg e) refl (λ i. refl))
    (λ o. without_in_goes s (in_place n s.ins))

then_settled : (s t : Server) → GoesOn s t → GoesOn s (settled t)
then_settled s t goes = goes_then s t (settled t) goes (goes_same t (settled t) (settled_same t))

pub mark_goes : (s : Server) (n : ℕ) (kind : LegKind) → GoesOn s (mark_by s n kind)
mark_goes s n InServer =
    let leg = in_leg n s.ins in
    then_settled s (lost_in s n leg) (lost_goes s n leg refl)
mark_goes s n OutServer =
    then_settled s (without_out (with_ack_dropped s n) n)
    (without_out_goes s (out_place n s.outs))
mark_goes s n ClientIn = goes_self s
mark_goes s n ClientOut = goes_self s

pub drawn_goes : (s : Server) (n : ℕ) (kind : LegKind) → GoesOn s (drawn_by s n kind)
drawn_goes s n InServer =
    by_test (GoesOn s) (in_is_drawn (in_leg n s.ins)) (settled (without_in s n)) s
    (λ e. then_settled s (without_in s n) (without_in_goes s (in_place n s.ins)))
    (λ e. goes_self s)
drawn_goes s n OutServer = goes_self s
drawn_goes s n ClientIn = goes_self s
drawn_goes s n ClientOut = goes_self s
