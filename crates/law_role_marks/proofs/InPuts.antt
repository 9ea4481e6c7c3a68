-- what a server puts has no leg stay again that it left
use Rattle.law_order.proofs.Vocabulary.{ℕ, ◌==◌, ◌&&◌, Some, None, refl, ◌∙◌, IfSome, Option, slice_get}
use Rattle.rh_sig.specs.declared.named.Named.TheVariants as named
use Rattle.rh_server.specs.declared.state.Greeting.TheVariants as greetings
use Rattle.rh_server.specs.declared.state.Leaving.TheVariants as leaving
use Rattle.rh_server.specs.declared.state.Tells.TheVariants as tells
use Rattle.law_moves.proofs.Vocabulary.{Ack, by_test, after_tell, Current, greeting as greeting_text, Message, Text, Packet}
use Rattle.law_role_server.proofs.Vocabulary.{Told, InLeg, Leaving, OutLeg, Server, Tells, is_due, is_open, is_shut, in_leg, in_place, out_place, with_in, with_out, settled, Pick, or_else, told_by, was_current, put_tells_by, put_tells, put_b1_by, put_b1, ack_due, put_ack_by, put_ack, put_in_by, put_in, put_out, out_greeting_at, put_out_greeting, next_out, settled_pick, put_open, put_out_at}
use Rattle.law_role_server_rows.proofs.InTurn.InPlaces.{Found, found_at}
use Rattle.law_role_server_in.proofs.Puts.{Alone, out_alone, settled_same}
use Rattle.law_role_marks.proofs.InLeaves.{Keeps, look_keeps, set_keeps}

abbrev pub PutKeeps : Server → Pick → Type 0
PutKeeps s pick = IfSome pick (λ (one : Server × Message). Keeps s one.0)

-- ---- on is legs

module _ (s : Server) (x : InLeg) (f : Found s.ins x) where
  abbrev InPuts : Pick → Type 0
  InPuts pick = PutKeeps s pick

  abbrev untold : InLeg
  untold = record x { tells = tells.Nothing }

  ack_put : (o : Option Ack) → InPuts (put_ack_by s o)
  ack_put None = tt
  ack_put (Some a) = λ n left. left

  rest_put : InPuts (or_else (put_b1 s x) (put_ack s x))
  rest_put = by x.leaving
    where
      by : (l : Leaving) → InPuts (or_else (put_b1_by s x l) (put_ack s x))
      by leaving.Stays = ack_put (ack_due s x)
      by leaving.InR1B1 = set_keeps s x (record x { leaving = leaving.Left }) f refl (λ left. refl)
      by leaving.Left = ack_put (ack_due s x)
      by leaving.Lost = ack_put (ack_due s x)

  frames_put : InPuts (or_else (put_tells s x) (or_else (put_b1 s x) (put_ack s x)))
  frames_put = by x.tells
    where
      rest : Pick
      rest = or_else (put_b1 s x) (put_ack s x)

      by : (t : Tells) → InPuts (or_else (put_tells_by s x t) rest)
      by tells.Nothing = rest_put
      by tells.ConnB3 =
          by_test (λ (pick : Pick). InPuts (or_else pick rest)) (is_open s.stage)
          (Some (with_in s untold, Packet (named.ConnB3 s.line.size 1))) None
          (λ e. set_keeps s x untold f refl (λ left. left)) (λ e. rest_put)
      by tells.InR1B2 =
          by_test (λ (pick : Pick). InPuts (or_else pick rest)) (was_current s x)
          (Some (with_in (told_by s x.number) untold, Packet (named.InR1B2 s.line.size))) None
          (λ e. by_test (λ (u : Server). Keeps s (with_in u untold))
          ((x.number == s.current.leg) && is_shut s.edge)
          (record s { line = after_tell s.line Current; edge = Told }) s
          (λ g. set_keeps s x untold f refl (λ left. left))
          (λ g. set_keeps s x untold f refl (λ left. left)))
          (λ e. rest_put)

  leg_puts : InPuts (put_in_by s (Some x))
  leg_puts =
      by_test (λ (pick : Pick). InPuts (or_else pick
      (or_else (put_tells s x) (or_else (put_b1 s x) (put_ack s x)))))
      (is_due x.greeting)
      (Some (with_in s (record x { greeting = greetings.Put }), Text greeting_text)) None
      (λ e. set_keeps s x (record x { greeting = greetings.Put }) f refl (λ left. left))
      (λ e. frames_put)

pub in_puts : (s : Server) (m : ℕ) → PutKeeps s (put_in s m)
in_puts s m = by (in_leg m s.ins) (found_at s.ins (in_place m s.ins))
  where
    by : (o : Option InLeg) → IfSome o (Found s.ins) → PutKeeps s (put_in_by s o)
    by None f = tt
    by (Some x) f = leg_puts s x f

-- ---- on os legs

or_puts : (s : Server) (a b : Pick) → PutKeeps s a → PutKeeps s b → PutKeeps s (or_else a b)
or_puts s None b p q = q
or_puts s (Some pick) b p q = p

alone_puts : (s : Server) (pick : Pick) → Alone s pick → PutKeeps s (settled_pick pick)
alone_puts s None same = tt
alone_puts s (Some one) same =
    look_keeps s (settled one.0) (settled_same one.0 ∙ same)

pub out_puts : (s : Server) (m : ℕ) → PutKeeps s (put_out s m)
out_puts s m = by (out_place m s.outs)
  where
    greets : (place : ℕ) (o : Option OutLeg) → PutKeeps s (out_greeting_at s place o)
    greets place None = tt
    greets place (Some leg) =
        by_test (PutKeeps s) (is_due leg.greeting)
        (Some (with_out s place (record leg { greeting = greetings.Put }), Text greeting_text))
        None (λ e n left. left) (λ e. tt)

    by : (place : Option ℕ) → PutKeeps s (put_out_at s place)
    by None = tt
    by (Some place) =
        or_puts s (put_out_greeting s place) (put_open s place)
        (greets place (slice_get s.outs place))
        (by_test (PutKeeps s) (is_open s.stage) (settled_pick (next_out s place)) None
        (λ e. alone_puts s (next_out s place) (out_alone s place)) (λ e. tt))
