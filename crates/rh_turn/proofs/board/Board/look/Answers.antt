use Rattle.std.proofs.Common.{arith}
use Rattle.rh_turn.proofs.Turning.{look_allows}
use Rattle.rh_turn.proofs.board.Board.look.Goals as goal

pub load-requires : goal.load-requires
load-requires g c = (
  c.requires.table,
  omega arith,
  look_allows g.M.Machine.next _ _ _ _ _ g.C.Call.first c.requires.first c.requires.waiting.0
      c.requires.some_part,
)
