use Rattle.law_role_server_rows.proofs.InTurn.InMoves.{answers_in_order}
use Rattle.law_role_server_rows.proofs.turns.in_legs.a_server_answers_in_proxies_in_order.Goals as goal

pub returns : goal.returns
returns c = answers_in_order
