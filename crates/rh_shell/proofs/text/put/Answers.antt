use Rattle.rh_shell.proofs.PutPieces.{put_behind}
use Rattle.rh_shell.proofs.text.put.Goals as goal

pub returns-clause-bytes : goal.returns-clause-bytes
returns-clause-bytes c =
    put_behind c.args.held c.min-count.result _ c.args.room.now c.copy_from_slice.new.self
    c.args.piece.now c.requires c.min-count.ensures c.copy_from_slice.ensures.after
