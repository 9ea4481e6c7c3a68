use Rattle.std.proofs.Common.{◌≡◌}
use Rattle.rh_turn.proofs.board.Board.wait.Given as goal

abbrev pub invariant-loop : goal.invariant-loop
invariant-loop g l =
    record { table : l.token.table_id ≡ l.fn.token.table_id; me : l.token.me ≡ l.fn.token.me }
