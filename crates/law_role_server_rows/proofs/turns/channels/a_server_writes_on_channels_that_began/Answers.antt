use Rattle.law_moves.proofs.Vocabulary.{all_end_moved, end_started}
use Rattle.law_role_server.proofs.Vocabulary.{acts, first, rules}
use Rattle.law_role_server_rows.proofs.InTurn.OnTurn.{writes_on_begun}
use Rattle.law_role_server_rows.proofs.turns.channels.a_server_writes_on_channels_that_began.Goals as goal

pub returns : goal.returns
returns c = λ window moves.
    writes_on_begun (all_end_moved rules acts (end_started (first window)) moves).passage
    (c.a_server_writes_in_turn.ensures window moves)
    (c.a_server_greets_first.ensures window moves)
