use Rattle.law_role_client.proofs.Vocabulary.{client_moved}
use Rattle.law_role_client_rows.proofs.InTurn.Standing.{ends_by_in_r1_a5}
use Rattle.law_role_client_rows.proofs.turns.turns.nothing_follows_in_r1_a5.Goals as goal

pub returns : goal.returns
returns c = λ config moves.
    ends_by_in_r1_a5 (client_moved config moves).passage.put
    (c.a_client_writes_in_turn.ensures config moves)
