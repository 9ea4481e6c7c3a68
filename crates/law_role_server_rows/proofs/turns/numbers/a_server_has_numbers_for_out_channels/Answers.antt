use Rattle.law_role_server_rows.proofs.InTurn.Room.{has_numbers}
use Rattle.law_role_server_rows.proofs.turns.numbers.a_server_has_numbers_for_out_channels.Goals as goal

pub returns : goal.returns
returns c = λ window moves.
    has_numbers window moves
    (c.a_server_replaces_out_channels_one_by_one.ensures.counts window moves)
