use Rattle.std.proofs.Common.{string_bytes, ap}
use Rattle.std.proofs.lemmas.Result.{err_from_is_err_and}
use Rattle.rh_rts.specs.Showing.{shown}
use Rattle.rh_text.proofs.Appending.{written_part}
use Rattle.rh_name.specs.Fields.{command_text, commands_text}
use Rattle.rh_name.proofs.fields.write_commands.Goals as goal

pub returns-in_err-write_command : goal.returns-in_err-write_command
returns-in_err-write_command c =
    let p = err_from_is_err_and c.from_residual.result c.from_residual.ensures.1 in
    rw p.1 (written_part (commands_text c.args.packet.now.commands) (string_bytes c.args.out.now)
    (string_bytes c.loop-command.out) _ _ (command_text (shown c.in-Some.command))
    (commands_text c.next.new.self) p.0 (ap commands_text c.in-Some.ensures.steps)
    c.in_err-write_command.ensures c.loop-command.invariant)
