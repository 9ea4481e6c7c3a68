use Rattle.std.proofs.Common.{arith}
use Rattle.rh_turn.proofs.Sharing.{split_allows}
use Rattle.rh_turn.proofs.board.Board.split.Goals as goal

pub split_seat-requires : goal.split_seat-requires
split_seat-requires g c =
    let key = c.args.self.now.table.shared.key in
    let token = c.args.token.now in (
      c.requires.table,
      omega arith,
      split_allows g.M.Machine.next key.first.value key.seats token.id token.me.0
          c.requires.at_rest.is_idle c.requires.parts,
    )
