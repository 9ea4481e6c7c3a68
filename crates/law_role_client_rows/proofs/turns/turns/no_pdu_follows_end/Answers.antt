use Rattle.law_role_client.proofs.Vocabulary.{client_moved}
use Rattle.law_role_client_rows.proofs.InTurn.Standing.{ends_once, ends_all}
use Rattle.law_role_client_rows.proofs.turns.turns.no_pdu_follows_end.Goals as goal

pub returns : goal.returns
returns c = record {
  once = λ config moves.
      ends_once (client_moved config moves).passage.put
      (c.a_client_writes_in_turn.ensures config moves);
  all = λ config moves.
      ends_all (client_moved config moves).passage.put
      (c.a_client_writes_in_turn.ensures config moves);
}
