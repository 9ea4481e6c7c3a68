use Rattle.std.proofs.Common.{codes, string_bytes}
use Rattle.std.proofs.lemmas.Result.{err_from_is_err_and}
use Rattle.rh_text.proofs.Appending.{writes_one}
use Rattle.rh_told.specs.Answers as seen
use Rattle.rh_told.proofs.told.write_target.Goals as goal

pub returns-in_err-push-in-Some : goal.returns-in_err-push-in-Some
returns-in_err-push-in-Some c =
    let p = err_from_is_err_and c.from_residual.result c.from_residual.ensures.1 in
    rw c.in-Some.is (rw p.1
    (writes_one (codes "target ") (seen.server_text c.in-Some.target) p.0
    (string_bytes c.args.out.now) (string_bytes c.push-in-Some.new.out)
    c.in_err-push-in-Some.ensures))
