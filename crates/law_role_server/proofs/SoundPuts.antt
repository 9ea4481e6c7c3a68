-- what a server puts is fine, and so is what it may put then
use Rattle.law_order.proofs.Vocabulary.{◌≡◌, ℕ, ◌+◌, ◌==◌, ◌&&◌, List, [], ◌∷◌, Some, None, Err, ◌++◌, refl, IfSome, slice_get, find, nat_le, length, AllByRecursion, Option, Result}
use Rattle.rh_sig.specs.declared.named.Named.TheVariants as named
use Rattle.rh_shell.specs.declared.end_role.GiveRefused.TheVariants as give_refused
use Rattle.rh_server.specs.declared.state.EndMark.TheVariants as end_mark
use Rattle.rh_server.specs.declared.state.Greeting.TheVariants as greeting
use Rattle.rh_server.specs.declared.state.Tells.TheVariants as tells
use Rattle.rh_server.specs.declared.state.Leaving.TheVariants as leaving
use Rattle.law_moves.proofs.Vocabulary.{Ack, by_test, pdu_from_none, pdu_fault, IsPdu, PduFault, Cookie, Pipe, IsD, OsD, Named, each_push, due, queue_bytes, total, behind, front_length, LegKind, ClientOut, OutServer, ClientIn, InServer, Current, Due, GiveRefused, first_of, Packet, taken, MayGoOn}
use Rattle.law_role_server.proofs.Vocabulary.{Tells, Leaving, InLeg, OutLeg, Gate, lets, is_ack_of, Server, is_open, is_due, is_shut, is_closing, is_waiting, stays, in_leg, with_in, without_in, without_out, out_place, out_cookie, in_leg_up, up_by, give, give_by, settled, in_is_drawn, drawn_by, lost_in, without_ack_of, with_ack_dropped, mark_by, Pick, or_else, put_by, told_by, put_in_greeting, put_tells, put_tells_by, was_current, put_b1, put_b1_by, ack_due, put_ack}
use Rattle.law_role_server.proofs.Vocabulary.{put_ack_by, put_in_by, out_greeting_at, put_out_greeting, gate_at, counts, counts_at, was_put, waiting_by, waiting_at, put_waiting, may_go_at, pdu_by, put_pdu, may_end_at, is_end_due, put_end, put_pdu_or_end, next_out, settled_pick, put_open, put_out_place, put_out_at, pipe_to}
use Rattle.law_role_server.proofs.Each.{each_found, each_without}
use Rattle.law_role_server.proofs.Putable.{end_b1, conn_b3, in_r1_b1, in_r1_b2, ack}
use Rattle.law_role_server.proofs.Telling.{IsDue, ack_is_due, told_tells, acked_tells}
use Rattle.law_role_server.proofs.Sounds.{IsLeg, MayWait, Sound, queue_is, packets_are, legs_are, leg_found, leg_set, leg_gone, settles}
use Rattle.law_role_server.proofs.Gives.{both}

-- a message that may go on the pipe, and the state behind it
abbrev pub PickSound : Option Pipe → Pick → Type 0
PickSound pipe None = Unit {0}
PickSound pipe (Some pick) = Sound pick.0 × MayGoOn pipe pick.1

or_sound : (pipe : Option Pipe) (a b : Pick) → PickSound pipe a → PickSound pipe b
    → PickSound pipe (or_else a b)
or_sound pipe None b first later = later
or_sound pipe (Some pick) b first later = first

-- ---- on an is leg

-- a window that is still to be told is told
told_sound : (s : Server) (n : ℕ) → Sound s → Sound (told_by s n)
told_sound s n h =
    by_test Sound ((n == s.current.leg) && is_shut s.edge) _ s
    (λ e. record {
      staged = h.staged;
      telling = told_tells s.edge s.line (both (n == s.current.leg) (is_shut s.edge) e).1
          h.telling;
      current = h.current;
      following = h.following;
      legs = h.legs;
      pdus = h.pdus;
      packets = h.packets;
    })
    (λ e. h)

ack_is : (s : Server) (leg : InLeg) → Sound s
    → IfSome (ack_due s leg) (IsDue s.line.current.window)
ack_is s leg h =
    by_test (λ (found : Option Ack). IfSome found (IsDue s.line.current.window)) _
    (due s.line Current) None (λ e. ack_is_due s.line.current.window h.telling.within)
    (λ e. tt)

in_sound : (s : Server) (leg : Option InLeg) → Sound s → IfSome leg IsLeg
    → PickSound (Some IsD) (put_in_by s leg)
in_sound s None h is = tt
in_sound s (Some leg) h is =
    or_sound (Some IsD) (put_in_greeting s leg) _ greets
    (or_sound (Some IsD) (put_tells s leg) _ (tells_by leg.tells)
    (or_sound (Some IsD) (put_b1 s leg) (put_ack s leg) (b1 leg.leaving)
    (acks (ack_due s leg) (ack_is s leg h))))
  where
    greets : PickSound (Some IsD) (put_in_greeting s leg)
    greets = by_test (PickSound (Some IsD)) (is_due leg.greeting) _ None
        (λ e. (leg_set s (record leg { greeting = greeting.Put }) h is, tt)) (λ e. tt)

    tells_by : (t : Tells) → PickSound (Some IsD) (put_tells_by s leg t)
    tells_by tells.Nothing = tt
    tells_by tells.ConnB3 = by_test (PickSound (Some IsD)) (is_open s.stage) _ None
        (λ e. (
          leg_set s (record leg { tells = tells.Nothing }) h is,
          conn_b3 s.line.size h.telling.window,
        )) (λ e. tt)
    tells_by tells.InR1B2 = by_test (PickSound (Some IsD)) (was_current s leg) _ None
        (λ e. (
          leg_set (told_by s leg.number) (record leg { tells = tells.Nothing })
              (told_sound s leg.number h) is,
          in_r1_b2 s.line.size h.telling.window,
        )) (λ e. tt)

    b1 : (l : Leaving) → PickSound (Some IsD) (put_b1_by s leg l)
    b1 leaving.Stays = tt
    b1 leaving.InR1B1 =
        (leg_set s (record leg { leaving = leaving.Left }) h is, in_r1_b1)
    b1 leaving.Left = tt
    b1 leaving.Lost = tt

    acks : (found : Option Ack) → IfSome found (IsDue s.line.current.window)
        → PickSound (Some IsD) (put_ack_by s found)
    acks None due = tt
    acks (Some found) due = (
      record {
        staged = h.staged;
        telling = acked_tells s.edge s.line found due h.telling;
        current = h.current;
        following = h.following;
        legs = h.legs;
        pdus = h.pdus;
        packets = h.packets;
      },
      ack found.received found.available s.current.cookie
          (due.received, due.available, h.current),
    )

-- ---- on an os leg

counts_sound : (s : Server) (place len : ℕ) → Sound s → Sound (counts s place len)
counts_sound s place len h = by (slice_get s.outs place)
  where
    by : (leg : Option OutLeg) → Sound (counts_at s place len leg)
    by None = h
    by (Some leg) = h

put_sound : (s : Server) (place : ℕ) (packet : Named) → Sound s → Sound (was_put s place packet)
put_sound s place (named.AckTo v1 v2 v3 v4) h =
    by_test Sound (v1 == 3) s (counts s place 56) (λ e. h) (λ e. counts_sound s place 56 h)
put_sound s place named.OutR1A9 h = counts_sound s place 24 h
put_sound s place packet h = counts_sound s place _ h

-- the PDUs that go
first_is : (pdus : List (List ℕ)) (len : ℕ) → front_length pdus ≡ Some len
    → AllByRecursion IsPdu pdus → IsPdu (first_of pdus)
first_is [] len e h = absurd (cc)
first_is (pdu ∷ pdus) len e h = h.0

behind_are : (pdus : List (List ℕ)) → AllByRecursion IsPdu pdus
    → AllByRecursion IsPdu (behind pdus)
behind_are [] h = tt
behind_are (pdu ∷ pdus) h = h.1

settles_pick : (pipe : Option Pipe) (pick : Pick) → PickSound pipe pick
    → PickSound pipe (settled_pick pick)
settles_pick pipe None q = tt
settles_pick pipe (Some (t, m)) q = (settles t q.0, q.1)

place_sound : (s : Server) (place : ℕ) → Sound s → PickSound (Some OsD) (put_out_place s place)
place_sound s place h =
    or_sound (Some OsD) (put_out_greeting s place) (put_open s place)
    (greeting_at (slice_get s.outs place))
    (by_test (PickSound (Some OsD)) (is_open s.stage) (settled_pick (next_out s place)) None
    (λ e. settles_pick (Some OsD) (next_out s place)
    (or_sound (Some OsD) (put_waiting s place) (put_pdu_or_end s place)
    (let_by (gate_at s (slice_get s.outs place)))
    (or_sound (Some OsD) (put_pdu s place) (put_end s place) (sends (front_length s.queue) refl)
    ends)))
    (λ e. tt))
  where
    greeting_at : (leg : Option OutLeg) → PickSound (Some OsD) (out_greeting_at s place leg)
    greeting_at None = tt
    greeting_at (Some leg) = by_test (PickSound (Some OsD)) (is_due leg.greeting) _ None
        (λ e. (h, tt)) (λ e. tt)

    found : (gate : Gate) (due : Option Due) → IfSome due MayWait
        → PickSound (Some OsD) (waiting_by s place ((taken (lets gate) s.waiting).0, due))
    found gate None is = tt
    found gate (Some due) is =
        let left = (taken (lets gate) s.waiting).0 in (
          put_sound (record s { waiting = left }) place due.packet
              (packets_are s left h (each_without MayWait (lets gate) s.waiting.due h.packets)),
          is,
        )

    let_by : (gate : Option Gate) → PickSound (Some OsD) (waiting_at s place gate)
    let_by None = tt
    let_by (Some gate) = found gate (find (lets gate) s.waiting.due)
        (each_found MayWait (lets gate) s.waiting.due h.packets)

    sends : (len : Option ℕ) → front_length s.queue ≡ len
        → PickSound (Some OsD) (pdu_by s place len)
    sends None is = tt
    sends (Some len) is = by_test (PickSound (Some OsD)) (may_go_at s len (slice_get s.outs place))
        _ None
        (λ e. (
          queue_is s (behind s.queue) h (behind_are s.queue h.pdus),
          first_is s.queue len is h.pdus,
        )) (λ e. tt)

    ends : PickSound (Some OsD) (put_end s place)
    ends = by_test (PickSound (Some OsD)) (is_end_due s && may_end_at s (slice_get s.outs place))
        (Some (record (counts s place 24) { end_mark = end_mark.Put }, Packet named.EndB1)) None
        (λ e. (counts_sound s place 24 h, end_b1)) (λ e. tt)

out_sound : (s : Server) (place : Option ℕ) → Sound s
    → PickSound (Some OsD) (put_out_at s place)
out_sound s None h = tt
out_sound s (Some place) h = place_sound s place h

pub puts : (s : Server) (n : ℕ) (kind : LegKind) → Sound s
    → PickSound (pipe_to kind) (put_by s n kind)
puts s n InServer h = in_sound s (in_leg n s.ins) h (leg_found s n h)
puts s n OutServer h = out_sound s (out_place n s.outs) h
puts s n ClientIn h = tt
puts s n ClientOut h = tt

-- ---- legs come up, and are finished

pub up_sound : (s : Server) (n : ℕ) (kind : LegKind) → Sound s → Sound (up_by s n kind)
up_sound s n InServer h =
    legs_are s (s.ins ++ in_leg_up n ∷ []) h (each_push IsLeg s.ins (in_leg_up n) h.legs (refl, tt))
up_sound s n OutServer h = h
up_sound s n ClientIn h = h
up_sound s n ClientOut h = h

pub drawn_sound : (s : Server) (n : ℕ) (kind : LegKind) → Sound s → Sound (drawn_by s n kind)
drawn_sound s n InServer h =
    by_test Sound (in_is_drawn (in_leg n s.ins)) (settled (without_in s n)) s
    (λ e. settles (without_in s n) (leg_gone s n h)) (λ e. h)
drawn_sound s n OutServer h = h
drawn_sound s n ClientIn h = h
drawn_sound s n ClientOut h = h

dropped_sound : (s : Server) (n : ℕ) (cookie : Option Cookie) → Sound s
    → Sound (record s { waiting = without_ack_of s.waiting cookie })
dropped_sound s n None h = h
dropped_sound s n (Some cookie) h =
    packets_are s (taken (is_ack_of cookie) s.waiting).0 h
    (each_without MayWait (is_ack_of cookie) s.waiting.due h.packets)

lost_sound : (s : Server) (n : ℕ) (leg : Option InLeg) → Sound s → IfSome leg IsLeg
    → Sound (lost_in s n leg)
lost_sound s n None h is = leg_gone s n h
lost_sound s n (Some leg) h is =
    by_test Sound (is_waiting leg.stage && stays leg.leaving)
    (with_in s (record leg { leaving = leaving.Lost })) (without_in s n)
    (λ e. leg_set s (record leg { leaving = leaving.Lost }) h is) (λ e. leg_gone s n h)

pub mark_sound : (s : Server) (n : ℕ) (kind : LegKind) → Sound s → Sound (mark_by s n kind)
mark_sound s n InServer h =
    settles (lost_in s n (in_leg n s.ins))
    (lost_sound s n (in_leg n s.ins) h (leg_found s n h))
mark_sound s n OutServer h =
    settles (without_out (with_ack_dropped s n) n) (dropped_sound s n (out_cookie n s.outs) h)
mark_sound s n ClientIn h = h
mark_sound s n ClientOut h = h

-- ---- a PDU is given

-- none that is no PDU is accepted
pub give_sound : (s : Server) (pdu : List ℕ) → Sound s → Sound (give s pdu).0
give_sound s pdu h =
    by_test (λ (x : Server × Result (Unit {0}) GiveRefused). Sound x.0) (is_closing s.giving)
    (s, Err give_refused.Closing) (give_by s pdu (pdu_fault pdu)) (λ e. h)
    (λ e. by (pdu_fault pdu) refl)
  where
    by : (fault : Option PduFault) → pdu_fault pdu ≡ fault → Sound (give_by s pdu fault).0
    by (Some fault) is = h
    by None is =
        by_test (λ (x : Server × Result (Unit {0}) GiveRefused). Sound x.0)
        (nat_le (total s.queue + length pdu) queue_bytes) _ _
        (λ e. queue_is s (s.queue ++ pdu ∷ []) h
        (each_push IsPdu s.queue pdu h.pdus (pdu_from_none pdu is))) (λ e. h)
