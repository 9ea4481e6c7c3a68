use Rattle.std.proofs.Common.{arith}
use Rattle.rh_rts.specs.Packets.{Parts}
use Rattle.rh_rts.proofs.Encoded.{whole_packet, count_fits}
use Rattle.rh_rts.proofs.encoding.write.Goals as goal

pub overflow_cast-need : goal.overflow_cast-need
overflow_cast-need c = omega (arith, c.requires.length, c.requires.sound.length)

pub overflow_cast-commands : goal.overflow_cast-commands
overflow_cast-commands c =
    let p : Parts = record { flags = c.args.flags; commands = c.args.commands.now } in
    omega (arith, count_fits p c.requires.sound)

pub returns : goal.returns
returns c =
    let p : Parts = record { flags = c.args.flags; commands = c.args.commands.now } in
    let header = c.put_header-at in
    whole_packet p c.args.room.now header.new.room c.put_commands.new.room c.args.need header.result
    c.put_commands.result c.requires.length header.ensures.bytes header.ensures.place
    c.put_commands.ensures.bytes c.put_commands.ensures.place (omega (arith, c.if-need-room.false))
