use Rattle.law_role_client_rows.proofs.InTurn.Begun.{asks_once}
use Rattle.law_role_client_rows.proofs.turns.asking.a_client_asks_once.Goals as goal

pub returns : goal.returns
returns c = λ config moves allowed.
    asks_once config moves
    (c.a_client_opens_in_channels_in_order.ensures config moves allowed)
    (c.a_client_opens_out_channels_in_order.ensures config moves allowed)
