use Rattle.rh_turn.proofs.Ending.{closes}
use Rattle.rh_turn.proofs.board.Board.close.Goals as goal

pub unreachable-requires : goal.unreachable-requires
unreachable-requires g c =
    let home = (closes g.M.Machine.next _ _ _ _ _ _ c.requires.at_rest.is_idle c.requires.parts
    c.close_with-closed.ensures.values.2).0 in cc

pub returns : goal.returns
returns g c =
    let ends = closes g.M.Machine.next _ _ _ _ _ _ c.requires.at_rest.is_idle c.requires.parts
    c.close_with-closed.ensures.values.2 in
    let home = ends.0 in
    record { state = cc; mine = ends.1 }
