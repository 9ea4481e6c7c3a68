use Rattle.rh_record.proofs.LineLaws.{direct_piece, no_direct}
use Rattle.rh_record.proofs.reading.read_piece.Goals as goal

pub returns-in_err-count-in-Some : goal.returns-in_err-count-in-Some
returns-in_err-count-in-Some c =
    rw c.from_residual.ensures (no_direct c.args.text.now _ _ c.in-Some.ensures
    c.in_err-count-in-Some.ensures)

pub returns-in_ok-count-in-Some : goal.returns-in_ok-count-in-Some
returns-in_ok-count-in-Some c =
    direct_piece c.args.text.now _ _ _ c.in-Some.ensures c.in_ok-count-in-Some.ensures
