-- what a server puts leaves the is legs that it keeps
use Rattle.law_order.proofs.Vocabulary.{ℕ, ◌==◌, ◌&&◌, Bool, Some, None, refl, ◌∙◌, slice_get, IfSome, Option}
use Rattle.rh_sig.specs.declared.named.Named.TheVariants as named
use Rattle.rh_server.specs.declared.state.EndMark.TheVariants as end_mark
use Rattle.rh_server.specs.declared.state.Greeting.TheVariants as greeting
use Rattle.rh_server.specs.declared.state.Leaving.TheVariants as leaving
use Rattle.rh_server.specs.declared.state.Tells.TheVariants as tells
use Rattle.law_moves.proofs.Vocabulary.{Ack, by_test, Named, after_tell, front_length, Current, Leg, LegKind, ClientOut, OutServer, ClientIn, InServer, Due, greeting as greeting_text, first_of, Message, Text, Pdu, Packet, Waiting, taken}
use Rattle.law_role_server.proofs.Vocabulary.{Told, InLeg, OutLeg, Leaving, Tells, Server, is_due, is_open, is_shut, in_leg, with_in, out_place, Gate, lets, length_of, Pick, or_else, put, put_by, put_in_by, put_in_greeting, told_by, was_current, put_tells, put_tells_by, put_b1, put_b1_by, put_ack, put_ack_by, ack_due, next_in, put_out, put_out_at, put_open, next_out, out_greeting_at, put_out_greeting, put_waiting, waiting_at, waiting_by, was_put, goes, with_out, counts}
use Rattle.law_role_server.proofs.Vocabulary.{counts_at, may_go_at, may_end_at, is_end_due, gate_at, put_pdu, pdu_by, put_end, put_pdu_or_end, settled_pick}
use Rattle.law_peers_routes.proofs.Upwards.ServerLegs.{Stands, Kept, Same, same_kept, with_kept, found_up, same_settled}

-- ---- on an os leg

abbrev SamePick : Server → Pick → Type 0
SamePick s pick = IfSome pick (λ (put : Server × Message). Same s put.0)

or_same : (s : Server) (a b : Pick) → SamePick s a → SamePick s b → SamePick s (or_else a b)
or_same s None b p q = q
or_same s (Some pick) b p q = p

counts_same : (s : Server) (place len : ℕ) → Same s (counts s place len)
counts_same s place len = by (slice_get s.outs place)
  where
    by : (o : Option OutLeg) → Same s (counts_at s place len o)
    by None = refl
    by (Some leg) = refl

was_same : (s : Server) (place : ℕ) (packet : Named) → Same s (was_put s place packet)
was_same s place (named.AckTo to received window cookie) =
    by_test (Same s) (to == 3) s (counts s place 56) (λ e. refl) (λ e. counts_same s place 56)
was_same s place named.OutR1A9 = counts_same s place 24
was_same s place packet = counts_same s place (length_of packet)

waiting_same : (s : Server) (place : ℕ) (q : Waiting × Option Due)
    → SamePick s (waiting_by s place q)
waiting_same s place (w, None) = tt
waiting_same s place (w, Some due) = was_same (record s { waiting = w }) place due.packet

out_waiting_same : (s : Server) (place : ℕ) → SamePick s (put_waiting s place)
out_waiting_same s place = by (gate_at s (slice_get s.outs place))
  where
    by : (o : Option Gate) → SamePick s (waiting_at s place o)
    by None = tt
    by (Some gate) = waiting_same s place (taken (lets gate) s.waiting)

out_pdu_same : (s : Server) (place : ℕ) → SamePick s (put_pdu s place)
out_pdu_same s place = by (front_length s.queue)
  where
    by : (o : Option ℕ) → SamePick s (pdu_by s place o)
    by None = tt
    by (Some len) =
        by_test (SamePick s) (may_go_at s len (slice_get s.outs place))
        (Some (goes s place len, Pdu (first_of s.queue))) None (λ e. refl) (λ e. tt)

out_end_same : (s : Server) (place : ℕ) → SamePick s (put_end s place)
out_end_same s place =
    by_test (SamePick s) (is_end_due s && may_end_at s (slice_get s.outs place))
    (Some (record (counts s place 24) { end_mark = end_mark.Put }, Packet named.EndB1)) None
    (λ e. counts_same s place 24) (λ e. tt)

settled_same : (s : Server) (pick : Pick) → SamePick s pick → SamePick s (settled_pick pick)
settled_same s None p = tt
settled_same s (Some pick) p = same_settled pick.0 ∙ p

out_greeting_same : (s : Server) (place : ℕ) → SamePick s (put_out_greeting s place)
out_greeting_same s place = by (slice_get s.outs place)
  where
    by : (o : Option OutLeg) → SamePick s (out_greeting_at s place o)
    by None = tt
    by (Some leg) =
        by_test (SamePick s) (is_due leg.greeting)
        (Some (with_out s place (record leg { greeting = greeting.Put }), Text greeting_text)) None
        (λ e. refl) (λ e. tt)

open_same : (s : Server) (place : ℕ) → SamePick s (put_open s place)
open_same s place =
    by_test (SamePick s) (is_open s.stage) (settled_pick (next_out s place)) None
    (λ e. settled_same s (next_out s place)
    (or_same s (put_waiting s place) (put_pdu_or_end s place) (out_waiting_same s place)
    (or_same s (put_pdu s place) (put_end s place) (out_pdu_same s place) (out_end_same s place))))
    (λ e. tt)

out_same : (s : Server) (n : ℕ) → SamePick s (put_out s n)
out_same s n = by (out_place n s.outs)
  where
    by : (o : Option ℕ) → SamePick s (put_out_at s o)
    by None = tt
    by (Some place) =
        or_same s (put_out_greeting s place) (put_open s place) (out_greeting_same s place)
        (open_same s place)

-- ---- on an is leg

abbrev pub PickKept : (ℕ → Bool) → (ℕ → Bool) → ℕ → Pick → Type 0
PickKept u x newest pick = IfSome pick (λ (put : Server × Message). Kept u x newest put.0)

pick_kept : (u x : ℕ → Bool) (newest : ℕ) (s : Server) (pick : Pick) → Kept u x newest s
    → SamePick s pick → PickKept u x newest pick
pick_kept u x newest s None k same = tt
pick_kept u x newest s (Some pick) k same = same_kept u x newest s pick.0 same k

module _ (u x : ℕ → Bool) (newest : ℕ) where
  or_kept : (a b : Pick) → PickKept u x newest a → PickKept u x newest b
      → PickKept u x newest (or_else a b)
  or_kept None b p q = q
  or_kept (Some pick) b p q = p

  tells_kept : (s : Server) (leg : InLeg) (t : Tells) → Stands u x leg → Kept u x newest s
      → PickKept u x newest (put_tells_by s leg t)
  tells_kept s leg tells.Nothing is k = tt
  tells_kept s leg tells.ConnB3 is k =
      by_test (PickKept u x newest) (is_open s.stage)
      (Some (
        with_in s (record leg { tells = tells.Nothing }),
        Packet (named.ConnB3 s.line.size 1),
      )) None
      (λ e. with_kept u x newest s (record leg { tells = tells.Nothing }) is k) (λ e. tt)
  tells_kept s leg tells.InR1B2 is k =
      by_test (PickKept u x newest) (was_current s leg)
      (Some (
        with_in (told_by s leg.number) (record leg { tells = tells.Nothing }),
        Packet (named.InR1B2 s.line.size),
      )) None
      (λ e. with_kept u x newest (told_by s leg.number) (record leg { tells = tells.Nothing }) is
      (by_test (Kept u x newest) ((leg.number == s.current.leg) && is_shut s.edge)
      (record s { line = after_tell s.line Current; edge = Told }) s
      (λ f. record { ins = k.ins; current = k.current; next = k.next; newest = k.newest })
      (λ f. k)))
      (λ e. tt)

  in_kept : (s : Server) (leg : InLeg) → Stands u x leg → Kept u x newest s
      → PickKept u x newest (next_in s leg)
  in_kept s leg is k =
      or_kept (put_in_greeting s leg) (or_else (put_tells s leg) (or_else (put_b1 s leg)
      (put_ack s leg)))
      (by_test (PickKept u x newest) (is_due leg.greeting)
      (Some (with_in s (record leg { greeting = greeting.Put }), Text greeting_text)) None
      (λ e. with_kept u x newest s (record leg { greeting = greeting.Put }) is k) (λ e. tt))
      (or_kept (put_tells s leg) (or_else (put_b1 s leg) (put_ack s leg))
      (tells_kept s leg leg.tells is k)
      (or_kept (put_b1 s leg) (put_ack s leg) (by_leaving leg.leaving) (by_ack (ack_due s leg))))
    where
      by_leaving : (l : Leaving) → PickKept u x newest (put_b1_by s leg l)
      by_leaving leaving.Stays = tt
      by_leaving leaving.InR1B1 =
          with_kept u x newest s (record leg { leaving = leaving.Left }) is k
      by_leaving leaving.Left = tt
      by_leaving leaving.Lost = tt

      by_ack : (o : Option Ack) → PickKept u x newest (put_ack_by s o)
      by_ack None = tt
      by_ack (Some ack) =
          record { ins = k.ins; current = k.current; next = k.next; newest = k.newest }

  pub put_kept : (s : Server) (leg : Leg) → Kept u x newest s → PickKept u x newest (put s leg)
  put_kept s leg k = by leg.kind
    where
      by_leg : (o : Option InLeg) → IfSome o (Stands u x) → PickKept u x newest (put_in_by s o)
      by_leg None is = tt
      by_leg (Some one) is = in_kept s one is k

      by : (kind : LegKind) → PickKept u x newest (put_by s leg.number kind)
      by InServer = by_leg (in_leg leg.number s.ins) (found_up u x newest s leg.number k)
      by OutServer = pick_kept u x newest s (put_out s leg.number) k (out_same s leg.number)
      by ClientIn = tt
      by ClientOut = tt
