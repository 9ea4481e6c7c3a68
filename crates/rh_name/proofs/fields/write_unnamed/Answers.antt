use Rattle.std.proofs.Common.{◌++◌, codes, string_bytes}
use Rattle.std.proofs.lemmas.Result.{err_from_is_err_and}
use Rattle.rh_show.specs.Shown.{flags_text}
use Rattle.rh_text.proofs.Appending.{writes_one}
use Rattle.rh_name.specs.Fields.{commands_text}
use Rattle.rh_name.proofs.fields.write_unnamed.Goals as goal

pub returns-in_err-write_flags : goal.returns-in_err-write_flags
returns-in_err-write_flags c =
    let p = err_from_is_err_and c.from_residual.result c.from_residual.ensures.1 in
    let front = rw c.flags.ensures at c.in_err-write_flags.ensures in
    rw p.1 (writes_one (codes "unnamed " ++ flags_text c.args.packet.now.flags)
    (commands_text c.args.packet.now.commands) p.0 (string_bytes c.args.out.now)
    (string_bytes c.write_flags.new.out) front)
