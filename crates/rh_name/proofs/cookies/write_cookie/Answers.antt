use Rattle.std.proofs.Common.{string_bytes}
use Rattle.std.proofs.lemmas.Result.{err_from_is_err_and}
use Rattle.rh_text.proofs.Appending.{writes_both, writes_one}
use Rattle.rh_name.specs.Fields.{id_text}
use Rattle.rh_name.proofs.cookies.write_cookie.Goals as goal

pub returns-in_err-push : goal.returns-in_err-push
returns-in_err-push c =
    let p = err_from_is_err_and c.from_residual.result c.from_residual.ensures.1 in
    rw p.1 (writes_one c.args.word.now (id_text c.args.cookie.0) p.0
    (string_bytes c.args.out.now) (string_bytes c.push.new.out) c.in_err-push.ensures)

pub returns : goal.returns
returns c =
    writes_both c.args.word.now (id_text c.args.cookie.0) c.write_id.result
    (string_bytes c.args.out.now) (string_bytes c.push.new.out)
    (string_bytes c.write_id.new.out) c.in_ok-push.ensures c.write_id.ensures
