use Rattle.std.proofs.Common.{string_bytes}
use Rattle.std.proofs.lemmas.Result.{err_from_is_err_and}
use Rattle.rh_text.proofs.Appending.{writes_one}
use Rattle.rh_name.specs.Fields.{address_text}
use Rattle.rh_name.proofs.fields.write_address.Goals as goal

pub returns-in_err-push : goal.returns-in_err-push
returns-in_err-push c =
    let p = err_from_is_err_and c.from_residual.result c.from_residual.ensures.1 in
    rw p.1 (writes_one c.args.word.now (address_text c.args.address.now) p.0
    (string_bytes c.args.out.now) (string_bytes c.push.new.out) c.in_err-push.ensures)
