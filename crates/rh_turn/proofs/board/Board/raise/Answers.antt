use Rattle.std.proofs.Common.{arith}
use Rattle.rh_turn.proofs.Turning.{raise_allows}
use Rattle.rh_turn.proofs.board.Board.raise.Goals as goal

pub fetch_add-requires : goal.fetch_add-requires
fetch_add-requires g c = (
  c.requires.table,
  omega arith,
  raise_allows g.M.Machine.next _ _ _ _ _ c.requires.entered c.requires.some_part
      c.requires.state,
)
