use Rattle.law_world_bodies.proofs.ClientMoves.{keeps_length}
use Rattle.law_world_bodies.proofs.clients.what_a_client_puts_keeps_its_lengths.Goals as goal

pub returns : goal.returns
returns c = record {
  sized = λ config moves allowed.
      keeps_length config moves allowed
      (c.a_client_begins_with_a_request.ensures config moves allowed);
  each = λ config moves allowed is sizes cookies.
      keeps_length config moves allowed
      (c.a_client_begins_with_a_request.ensures config moves allowed)
      (c.what_a_client_puts_reads_back.ensures config moves is sizes cookies).may_go;
}
