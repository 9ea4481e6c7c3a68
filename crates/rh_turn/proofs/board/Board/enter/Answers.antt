use Rattle.std.proofs.Common.{arith}
use Rattle.rh_turn.proofs.Turning.{enter_allows}
use Rattle.rh_turn.proofs.board.Board.enter.Goals as goal

pub fetch_add-requires : goal.fetch_add-requires
fetch_add-requires g c = (
  c.requires.table,
  omega arith,
  enter_allows g.M.Machine.next _ _ _ _ _ g.C.Call.event c.args.event.now c.requires.event
      c.requires.holding c.requires.some_part,
)
