use Rattle.std.proofs.lemmas.Result.{err_from_is_err_and}
use Rattle.rh_text.proofs.Appending.{writes_both, writes_one}
use Rattle.rh_made.proofs.writing.write_summary.Goals as goal

pub returns-in_err-write_report : goal.returns-in_err-write_report
returns-in_err-write_report c =
    let p = err_from_is_err_and c.from_residual.result c.from_residual.ensures.1 in
    rw p.1 (writes_one _ _ p.0 _ _ c.in_err-write_report.ensures)

pub returns : goal.returns
returns c = writes_both _ _ _ _ _ _ c.in_ok-write_report.ensures c.write_parts.ensures
