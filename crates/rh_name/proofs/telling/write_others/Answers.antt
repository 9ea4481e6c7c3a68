use Rattle.std.proofs.Common.{string_bytes}
use Rattle.std.proofs.lemmas.Result.{err_from_is_err_and}
use Rattle.rh_text.proofs.Appending.{written_part}
use Rattle.rh_name.specs.Telling.{others_text}
use Rattle.rh_name.proofs.Others.{others_from}
use Rattle.rh_name.proofs.telling.write_others.Goals as goal

pub returns-in_err-write_parts : goal.returns-in_err-write_parts
returns-in_err-write_parts c =
    let p = err_from_is_err_and c.from_residual.result c.from_residual.ensures.1 in
    let cut = others_from c.args.names.now c.names.name-index _ c.names-test.true in
    let name = rw c.name_word.ensures at c.in_err-write_parts.ensures in
    rw p.1 (written_part (others_text c.args.names.now) (string_bytes c.args.out.now)
    (string_bytes c.names.out) _ _ _ _ p.0 cut name c.names.invariant)
