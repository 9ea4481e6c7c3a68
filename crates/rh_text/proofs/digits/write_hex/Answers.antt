use Rattle.std.proofs.Common.{length, ◌≡◌, arith, subst}
use Rattle.std.proofs.lemmas.Bool.Decides.{nat_tests}
use Rattle.std.proofs.lemmas.Result.{err_from_is_err_and}
use Rattle.rh_text.proofs.HexDigits.{hex_cut, hex_none}
use Rattle.rh_text.proofs.Appending.{IsWritten, written_more, written_part, written_all}
use Rattle.rh_text.proofs.digits.write_hex.Goals as goal

pub returns-in_err-write_piece : goal.returns-in_err-write_piece
returns-in_err-write_piece c =
    let cut = hex_cut _ c.split_at.result.0.now c.split_at.result.1.now
    c.split_at.ensures.by_index.0 in
    let p = err_from_is_err_and c.from_residual.result c.from_residual.ensures.1 in
    rw p.1 (written_part _ _ _ _ _ _ _ p.0 cut c.in_err-write_piece.ensures c.pieces.invariant)

pub pieces-preserved : goal.pieces-preserved
pieces-preserved c =
    let cut = hex_cut _ c.split_at.result.0.now c.split_at.result.1.now
    c.split_at.ensures.by_index.0 in
    written_more _ _ _ _ _ _ _ cut c.in_ok-write_piece.ensures c.pieces.invariant

pub returns : goal.returns
returns c =
    let none : length c.pieces.rest.now ≡ 0 =
    grind (arith, nat_tests, c.is_empty.ensures, c.pieces-test.false) in
    let left = subst (IsWritten _ _ _) (hex_none c.pieces.rest.now none) c.pieces.invariant in
    written_all _ _ _ left
