-- each text that a server puts is the greeting, which has bytes
use Rattle.law_order.proofs.Vocabulary.{◌≡◌, ℕ, ◌&&◌, false, Some, None, Option, refl, slice_get}
use Rattle.rh_shell.specs.NearEnds.{is_empty}
use Rattle.rh_server.specs.declared.state.Leaving.TheVariants as leaving
use Rattle.rh_server.specs.declared.state.Tells.TheVariants as tells
use Rattle.law_moves.proofs.Vocabulary.{Ack, Due, Leg, LegKind, ClientOut, OutServer, ClientIn, InServer, Waiting, by_test, front_length, greeting, taken}
use Rattle.law_role_server.proofs.Vocabulary.{Gate, InLeg, Leaving, OutLeg, Pick, Server, Tells, ack_due, gate_at, in_leg, is_due, is_end_due, is_open, lets, may_end_at, may_go_at, next_in, next_out, or_else, out_greeting_at, out_place, pdu_by, put, put_ack, put_ack_by, put_b1, put_b1_by, put_by, put_end, put_in_by, put_in_greeting, put_open, put_out_at, put_out_greeting, put_pdu, put_pdu_or_end, put_tells, put_tells_by, put_waiting, settled_pick, waiting_at, waiting_by, was_current}
use Rattle.law_world_rest.proofs.Texts.Having.{HasTexts, has_if}

greeting_has : is_empty greeting ≡ false
greeting_has = refl

or_has : (first later : Pick) → HasTexts first → HasTexts later → HasTexts (or_else first later)
or_has None later a b = b
or_has (Some pick) later a b = a

module _ (s : Server) where
  -- ---- on an is leg

  tells_has : (leg : InLeg) (t : Tells) → HasTexts (put_tells_by s leg t)
  tells_has leg tells.Nothing = tt
  tells_has leg tells.ConnB3 = has_if (is_open s.stage) _ _ tt
  tells_has leg tells.InR1B2 = has_if (was_current s leg) _ _ tt

  b1_has : (leg : InLeg) (l : Leaving) → HasTexts (put_b1_by s leg l)
  b1_has leg leaving.Stays = tt
  b1_has leg leaving.InR1B1 = tt
  b1_has leg leaving.Left = tt
  b1_has leg leaving.Lost = tt

  ack_has : (ack : Option Ack) → HasTexts (put_ack_by s ack)
  ack_has None = tt
  ack_has (Some ack) = tt

  in_has : (leg : InLeg) → HasTexts (next_in s leg)
  in_has leg =
      or_has (put_in_greeting s leg) _ (has_if (is_due leg.greeting) _ _ greeting_has)
      (or_has (put_tells s leg) _ (tells_has leg leg.tells)
      (or_has (put_b1 s leg) (put_ack s leg) (b1_has leg leg.leaving) (ack_has (ack_due s leg))))

  in_by_has : (o : Option InLeg) → HasTexts (put_in_by s o)
  in_by_has None = tt
  in_by_has (Some leg) = in_has leg

  -- ---- on an os leg

  greets_has : (place : ℕ) (o : Option OutLeg) → HasTexts (out_greeting_at s place o)
  greets_has place None = tt
  greets_has place (Some leg) = has_if (is_due leg.greeting) _ _ greeting_has

  waits_has : (place : ℕ) (x : Waiting × Option Due) → HasTexts (waiting_by s place x)
  waits_has place (waiting, None) = tt
  waits_has place (waiting, Some due) = tt

  waiting_has : (place : ℕ) (o : Option Gate) → HasTexts (waiting_at s place o)
  waiting_has place None = tt
  waiting_has place (Some gate) = waits_has place (taken (lets gate) s.waiting)

  pdu_has : (place : ℕ) (o : Option ℕ) → HasTexts (pdu_by s place o)
  pdu_has place None = tt
  pdu_has place (Some len) = has_if (may_go_at s len (slice_get s.outs place)) _ _ tt

  out_has : (place : ℕ) → HasTexts (next_out s place)
  out_has place =
      or_has (put_waiting s place) (put_pdu_or_end s place)
      (waiting_has place (gate_at s (slice_get s.outs place)))
      (or_has (put_pdu s place) (put_end s place) (pdu_has place (front_length s.queue))
      (has_if (is_end_due s && may_end_at s (slice_get s.outs place)) _ _ tt))

  settled_has : (pick : Pick) → HasTexts pick → HasTexts (settled_pick pick)
  settled_has None has = tt
  settled_has (Some pick) has = has

  open_has : (place : ℕ) → HasTexts (put_open s place)
  open_has place =
      by_test HasTexts (is_open s.stage) (settled_pick (next_out s place)) None
      (λ is. settled_has (next_out s place) (out_has place)) (λ is. tt)

  out_at_has : (o : Option ℕ) → HasTexts (put_out_at s o)
  out_at_has None = tt
  out_at_has (Some place) =
      or_has (put_out_greeting s place) (put_open s place)
      (greets_has place (slice_get s.outs place)) (open_has place)

  -- ---- on a leg

  pub server_has : (leg : Leg) → HasTexts (put s leg)
  server_has leg = by leg.number leg.kind
    where
      by : (n : ℕ) (kind : LegKind) → HasTexts (put_by s n kind)
      by n InServer = in_by_has (in_leg n s.ins)
      by n OutServer = out_at_has (out_place n s.outs)
      by n ClientIn = tt
      by n ClientOut = tt
