-- each text that an out proxy puts is a response or the answer to an echo request, which have bytes
use Rattle.law_order.proofs.Vocabulary.{◌≡◌, ◌&&◌, ◌+◌, false, if◌then◌else◌, nat_le, List, [], ◌∷◌, length, Some, None, Option, refl}
use Rattle.rh_shell.specs.NearEnds.{is_empty}
use Rattle.rh_outproxy.specs.declared.state.Answer.TheVariants as answers
use Rattle.rh_outproxy.specs.Putting.{out_response}
use Rattle.law_moves.proofs.Vocabulary.{Ack, Cookie, Due, Leg, Named, PING_LEN, by_test, is_empty as is_none, may_send, response_text}
use Rattle.law_role_outproxy.proofs.Vocabulary.{Answer, OutProxy, Pick, ack_by, ack_due, answer_by, echo_text, first_by, first_packet, is_co, is_due, is_os, is_ping_due, is_server_first, joined, next_co, next_os, or_else, pdu_by, ping_room, put, put_ack, put_answer, put_end, put_first, put_handover, put_mark, put_pdu, put_ping, put_waiting, waiting_by}
use Rattle.law_world_rest.proofs.Texts.Having.{HasTexts, has_if}

echo_has : is_empty echo_text ≡ false
unfolding response_text
echo_has = refl

response_has : (s : OutProxy) → is_empty (out_response s) ≡ false
unfolding response_text
response_has s = refl

or_has : (first later : Pick) → HasTexts first → HasTexts later → HasTexts (or_else first later)
or_has None later a b = b
or_has (Some pick) later a b = a

module _ (s : OutProxy) where
  -- ---- to the client

  answer_has : (a : Answer) → HasTexts (answer_by a s)
  answer_has answers.Awaited = tt
  answer_has answers.EchoDue = echo_has
  answer_has answers.EchoPut = tt
  answer_has answers.EchoDrawn = tt
  answer_has answers.ResponseDue = response_has s
  answer_has answers.TimeoutDue = tt
  answer_has answers.Put = tt

  waiting_has : (dues : List Due) → HasTexts (waiting_by s dues)
  waiting_has [] = tt
  waiting_has (due ∷ dues) = tt

  pdu_has : (pdus : List (List _)) → HasTexts (pdu_by s pdus)
  pdu_has [] = tt
  pdu_has (pdu ∷ pdus) = has_if (may_send s.window (length pdu)) _ _ tt

  client_has : HasTexts (next_co s)
  client_has =
      or_has (put_answer s) _ (answer_has s.answer)
      (or_has (put_waiting s) _ (waiting_has s.waiting.due)
      (or_has (put_pdu s) _ (pdu_has s.line.current.pdus)
      (or_has (put_mark s) (put_ping s)
      (or_has (put_end s) (put_handover s)
      (has_if (is_none s.line.current.pdus && is_due s.end) _ _ tt)
      (has_if (is_none s.line.current.pdus && is_due s.handover) _ _ tt))
      (has_if (is_ping_due s.ping && nat_le (s.pinged + PING_LEN) ping_room) _ _ tt))))

  -- ---- to the server

  first_has : (packet : Option Named) → HasTexts (first_by s packet)
  first_has None = tt
  first_has (Some packet) = tt

  ack_has : (cookie : Option Cookie) (ack : Option Ack) → HasTexts (ack_by s cookie ack)
  ack_has None ack = tt
  ack_has (Some cookie) None = tt
  ack_has (Some cookie) (Some ack) = tt

  server_has : HasTexts (next_os s)
  server_has =
      or_has (put_first s) (put_ack s)
      (by_test HasTexts (is_server_first s.server) (first_by s (first_packet s s.channel)) None
      (λ is. first_has (first_packet s s.channel)) (λ is. tt))
      (ack_has (joined s.channel) (ack_due s))

  -- ---- on a leg

  pub out_has : (leg : Leg) → HasTexts (put s leg)
  out_has leg =
      by_test HasTexts (is_co s leg) (next_co s) (if is_os s leg then next_os s else None)
      (λ is. client_has)
      (λ is. by_test HasTexts (is_os s leg) (next_os s) None (λ its. server_has) (λ its. tt))
