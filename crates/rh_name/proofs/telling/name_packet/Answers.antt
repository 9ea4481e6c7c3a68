use Rattle.std.proofs.Common.{◌∷◌, [], string_bytes}
use Rattle.std.proofs.lemmas.Result.{err_from_is_err_and}
use Rattle.rh_text.proofs.Appending.{writes_one}
use Rattle.rh_name.specs.Telling.{told}
use Rattle.rh_name.proofs.telling.name_packet.Goals as goal

pub returns-in_err-write_named : goal.returns-in_err-write_named
returns-in_err-write_named c =
    let p = err_from_is_err_and c.from_residual.result c.from_residual.ensures.1 in
    rw p.1 (writes_one (told c.args.pipe c.args.bytes.now) (10 ∷ []) p.0
    (string_bytes c.args.out.now) (string_bytes c.write_named.new.out)
    c.in_err-write_named.ensures)
