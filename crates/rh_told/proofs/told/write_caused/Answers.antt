use Rattle.std.proofs.Common.{◌++◌, codes, string_bytes}
use Rattle.std.proofs.lemmas.Result.{err_from_is_err_and}
use Rattle.rh_line.specs.Texts.{cause_text}
use Rattle.rh_text.proofs.Appending.{writes_one}
use Rattle.rh_record.proofs.Reports.{second_failed, third_done}
use Rattle.rh_told.proofs.told.write_caused.Goals as goal

pub returns-in_err-push : goal.returns-in_err-push
returns-in_err-push c =
    let p = err_from_is_err_and c.from_residual.result c.from_residual.ensures.1 in
    rw p.1 (writes_one c.args.words.now (cause_text c.args.cause.now ++ codes "\n") p.0
    (string_bytes c.args.out.now) (string_bytes c.push.new.out) c.in_err-push.ensures)

pub returns-in_err-write_cause : goal.returns-in_err-write_cause
returns-in_err-write_cause c =
    let residual = c.from_residual-in_err-write_cause in
    let p = err_from_is_err_and residual.result residual.ensures.1 in
    rw p.1 (second_failed c.args.words.now (cause_text c.args.cause.now) (codes "\n") p.0
    (string_bytes c.args.out.now) (string_bytes c.push.new.out)
    (string_bytes c.write_cause.new.out)
    c.in_ok-push.ensures c.in_err-write_cause.ensures)

pub returns : goal.returns
returns c =
    third_done c.args.words.now (cause_text c.args.cause.now) (codes "\n") c.push-2.result
    (string_bytes c.args.out.now) (string_bytes c.push.new.out)
    (string_bytes c.write_cause.new.out) (string_bytes c.push-2.new.out)
    c.in_ok-push.ensures c.in_ok-write_cause.ensures c.push-2.ensures
