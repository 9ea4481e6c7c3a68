use Rattle.std.proofs.lemmas.Result.{err_from_is_err_and}
use Rattle.rh_text.proofs.Appending.{writes_both, writes_one}
use Rattle.rh_text.proofs.writing.write_behind.Goals as goal

pub returns-in_err-push_utf8 : goal.returns-in_err-push_utf8
returns-in_err-push_utf8 c =
    let p = err_from_is_err_and c.from_residual.result c.from_residual.ensures.1 in
    rw p.1 (writes_one _ _ p.0 _ _ c.in_err-push_utf8.ensures)

pub returns : goal.returns
returns c = writes_both _ _ _ _ _ _ c.in_ok-push_utf8.ensures c.write_part.ensures
