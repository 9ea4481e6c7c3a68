use Rattle.std.proofs.Common.{◌++◌, string_bytes, codes, ap}
use Rattle.std.proofs.lemmas.Result.{err_from_is_err_and}
use Rattle.rh_rts.specs.Showing.{shown}
use Rattle.rh_text.proofs.Appending.{writes_one, written_part}
use Rattle.rh_show.specs.Shown.{command_text, commands_text, flags_text, packet_text}
use Rattle.rh_show.proofs.commands.write_packet.Goals as goal

pub returns-in_err-write_flags : goal.returns-in_err-write_flags
returns-in_err-write_flags c =
    let p = err_from_is_err_and c.from_residual.result c.from_residual.ensures.1 in
    let front = rw c.flags.ensures at c.in_err-write_flags.ensures in
    rw p.1 (writes_one (codes "rts " ++ flags_text c.args.packet.now.flags)
    (commands_text c.args.packet.now.commands) p.0 _ _ front)

pub returns-in_err-write_command : goal.returns-in_err-write_command
returns-in_err-write_command c =
    let residual = c.from_residual-in_err-write_command in
    let p = err_from_is_err_and residual.result residual.ensures.1 in
    rw p.1 (written_part (packet_text c.args.packet.now) (string_bytes c.args.out.now)
    (string_bytes c.loop-command.out) _ _ (codes " " ++ command_text (shown c.in-Some.command))
    (commands_text c.next.new.self) p.0 (ap commands_text c.in-Some.ensures.steps)
    c.in_err-write_command.ensures c.loop-command.invariant)
