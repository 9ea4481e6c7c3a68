use Rattle.std.proofs.Common.{◌++◌}
use Rattle.std.specs.Fmt.{decimal}
use Rattle.std.proofs.lemmas.Result.{err_from_is_err_and}
use Rattle.rh_text.proofs.Appending.{writes_one, writes_both}
use Rattle.rh_line.specs.Texts.{cause_leg, cause_name, cause_number, leg_text, more_fields, word}
use Rattle.rh_line.proofs.texts.write_cause.Goals as goal

pub returns-in_err-write_start : goal.returns-in_err-write_start
returns-in_err-write_start c =
    let p = err_from_is_err_and c.from_residual.result c.from_residual.ensures.1 in
    rw p.1 (writes_one _ (more_fields c.args.cause.now) p.0 _ _ c.in_err-write_start.ensures)

pub returns : goal.returns
returns c =
    let cause = c.args.cause.now in
    writes_both
    (decimal (cause_number cause) ++ word (cause_name cause) ++ word (leg_text (cause_leg cause)))
    (more_fields cause) c.write_more.result _ _ _ c.in_ok-write_start.ensures c.write_more.ensures
