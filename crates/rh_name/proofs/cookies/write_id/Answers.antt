use Rattle.std.proofs.Common.{string_bytes}
use Rattle.std.proofs.lemmas.Result.{err_from_is_err_and}
use Rattle.rh_name.proofs.Parts.{id_both, id_one}
use Rattle.rh_name.proofs.cookies.write_id.Goals as goal

pub returns-in_err-write_plain : goal.returns-in_err-write_plain
returns-in_err-write_plain c =
    let p = err_from_is_err_and c.from_residual.result c.from_residual.ensures.1 in
    rw p.1 (id_one c.args.cookie.0 p.0 (string_bytes c.args.out.now)
    (string_bytes c.write_plain.new.out) c.in_err-write_plain.ensures)

pub returns : goal.returns
returns c =
    id_both c.args.cookie.0 c.write_guid.result (string_bytes c.args.out.now)
    (string_bytes c.write_plain.new.out) (string_bytes c.write_guid.new.out)
    c.in_ok-write_plain.ensures c.write_guid.ensures
