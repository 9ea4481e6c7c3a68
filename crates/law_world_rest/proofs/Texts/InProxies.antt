-- the text that an in proxy puts is the answer to an echo request, which has bytes
use Rattle.law_order.proofs.Vocabulary.{◌≡◌, ℕ, ◌==◌, ◌&&◌, false, not, if◌then◌else◌, List, [], ◌∷◌, length, Some, None, Option, refl}
use Rattle.rh_line.specs.Lines as line
use Rattle.rh_shell.specs.NearEnds.{is_empty}
use Rattle.rh_inproxy.specs.declared.state.Handover.TheVariants as handover
use Rattle.rh_inproxy.specs.declared.state.Joining.TheVariants as joining
use Rattle.rh_inproxy.specs.declared.state.Opening.TheVariants as opening
use Rattle.rh_inproxy.specs.declared.state.Successor.TheVariants as successor
use Rattle.rh_inproxy.specs.declared.state.Work.TheVariants as work
use Rattle.rh_inproxy.specs.Opening.{echo_answer}
use Rattle.law_moves.proofs.Vocabulary.{Ack, Cookie, Due, Leg, Which, Current, Next, by_test, may_send}
use Rattle.law_role_inproxy.proofs.Vocabulary.{Handover, InProxy, Opening, Pick, Successor, Work, ack_by, ack_due, current_ack, echo_by, first_by, is_absent, is_client_leg, is_server_leg, mark_by, next, next_ack, next_pdu, or_else, put, put_acks, put_behind, put_control, put_early, put_echo, put_end, put_first, put_in_r1_a6, put_in_r2_a2, put_mark, put_pdu, put_ping, put_stream, put_waiting, settled_pick, told_by, waiting_by}
use Rattle.law_world_rest.proofs.Texts.Having.{HasTexts, has_if}

echo_has : is_empty echo_answer ≡ false
unfolding echo_answer
echo_has = refl

or_has : (first later : Pick) → HasTexts first → HasTexts later → HasTexts (or_else first later)
or_has None later a b = b
or_has (Some pick) later a b = a

module _ (s : InProxy) where
  -- ---- on a ci leg

  echoes_has : (w : Work) (n : ℕ) → HasTexts (echo_by s w n)
  echoes_has (work.EchoDue asked_on) n = has_if (asked_on == n) _ _ echo_has
  echoes_has w n = tt

  -- ---- on the is leg

  first_has : (o : Opening) → HasTexts (first_by s o)
  first_has (opening.Announces opener) = tt
  first_has o = tt

  told_has : (o : Successor) → HasTexts (told_by s o)
  told_has (successor.Joined leg (joining.TellsServer behind)) = has_if (behind == 0) _ _ tt
  told_has o = tt

  waiting_has : (dues : List Due) → HasTexts (waiting_by s dues)
  waiting_has [] = tt
  waiting_has (due ∷ dues) = tt

  ack_has : (which : Which) (cookie : Cookie) (ack : Option Ack)
      → HasTexts (ack_by s which cookie ack)
  ack_has which cookie None = tt
  ack_has which cookie (Some ack) = tt

  next_ack_has : (o : Successor) → HasTexts (next_ack s o)
  next_ack_has (successor.Joined leg stage) = ack_has Next leg.cookie (ack_due s Next)
  next_ack_has o = tt

  pdu_has : (pdus : List (List ℕ)) → HasTexts (next_pdu s pdus)
  pdu_has [] = tt
  pdu_has (pdu ∷ pdus) = has_if (may_send s.window (length pdu)) _ _ tt

  mark_has : (h : Handover) → HasTexts (mark_by s h)
  mark_has (handover.Came cookie) = tt
  mark_has h = tt

  handover_has : HasTexts (put_in_r1_a6 s)
  handover_has =
      by_test HasTexts (is_absent s.successor && line.is_empty s.line.current.pdus)
      (mark_by s s.handover) None (λ is. mark_has s.handover) (λ is. tt)

  control_has : HasTexts (put_control s)
  control_has =
      or_has (put_early s) (put_acks s)
      (or_has (put_first s) _ (first_has s.opening)
      (or_has (put_in_r2_a2 s) (put_waiting s) (told_has s.successor)
      (waiting_has s.waiting.due)))
      (or_has (current_ack s) (next_ack s s.successor)
      (ack_has Current s.current.cookie (ack_due s Current)) (next_ack_has s.successor))

  stream_has : HasTexts (put_stream s)
  stream_has =
      or_has (put_pdu s) (put_behind s) (pdu_has s.line.current.pdus)
      (or_has (put_mark s) (put_ping s)
      (or_has (put_end s) (put_in_r1_a6 s)
      (has_if (s.line.current.ended && not s.end_put && line.is_empty s.line.current.pdus) _ _ tt)
      handover_has)
      (has_if s.ping_due _ _ tt))

  settled_has : (pick : Pick) → HasTexts pick → HasTexts (settled_pick pick)
  settled_has None has = tt
  settled_has (Some pick) has = has

  -- ---- on a leg

  pub in_has : (leg : Leg) → HasTexts (put s leg)
  in_has leg =
      by_test HasTexts (is_client_leg leg) (put_echo s leg.number)
      (if is_server_leg s leg then settled_pick (next s) else None)
      (λ is. echoes_has s.work leg.number)
      (λ is. by_test HasTexts (is_server_leg s leg) (settled_pick (next s)) None
      (λ its. settled_has (next s) (or_has (put_control s) (put_stream s) control_has stream_has))
      (λ its. tt))
