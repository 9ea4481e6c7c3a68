use Rattle.std.proofs.Common.{◌++◌, [], ◌∷◌, codes, string_bytes}
use Rattle.std.proofs.lemmas.Result.{err_from_is_err_and}
use Rattle.rh_text.proofs.Appending.{writes_both, writes_one}
use Rattle.std.specs.Fmt.{decimal}
use Rattle.rh_record.specs.Report.{report_text}
use Rattle.rh_story.proofs.lines.write_reported.Goals as goal

pub returns-in_err-write_parts : goal.returns-in_err-write_parts
returns-in_err-write_parts c =
    let p = err_from_is_err_and c.from_residual.result c.from_residual.ensures.1 in
    rw p.1 (writes_one (decimal c.args.moment ++ codes " ")
    (report_text (c.args.answer.now ∷ [])) p.0 (string_bytes c.args.out.now)
    (string_bytes c.write_parts.new.out) c.in_err-write_parts.ensures)

pub returns : goal.returns
returns c =
    writes_both (decimal c.args.moment ++ codes " ")
    (report_text (c.args.answer.now ∷ [])) c.write_answer.result
    (string_bytes c.args.out.now) (string_bytes c.write_parts.new.out)
    (string_bytes c.write_answer.new.out)
    c.in_ok-write_parts.ensures c.write_answer.ensures
