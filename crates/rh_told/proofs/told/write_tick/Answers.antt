use Rattle.std.proofs.Common.{◌++◌, codes, string_bytes}
use Rattle.std.specs.Fmt.{decimal}
use Rattle.std.proofs.lemmas.Result.{err_from_is_err_and}
use Rattle.rh_text.proofs.Appending.{writes_one}
use Rattle.rh_told.specs.Answers as seen
use Rattle.rh_told.proofs.told.write_tick.Goals as goal

pub returns-in_err-write_parts : goal.returns-in_err-write_parts
returns-in_err-write_parts c =
    let p = err_from_is_err_and c.from_residual.result c.from_residual.ensures.1 in
    rw p.1 (writes_one (codes "tick " ++ decimal c.args.now) (seen.verdict_text c.args.verdict.now)
    p.0 (string_bytes c.args.out.now) (string_bytes c.write_parts.new.out)
    c.in_err-write_parts.ensures)
