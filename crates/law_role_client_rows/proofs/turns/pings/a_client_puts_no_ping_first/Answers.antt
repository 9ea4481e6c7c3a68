use Rattle.law_role_client.proofs.Vocabulary.{client_moved}
use Rattle.law_role_client_rows.proofs.InTurn.NoPing.{begins_without_ping}
use Rattle.law_role_client_rows.proofs.turns.pings.a_client_puts_no_ping_first.Goals as goal

pub returns : goal.returns
returns c = λ config moves allowed.
    begins_without_ping (client_moved config moves).passage.put
    (c.a_client_asks_once.ensures config moves allowed)
