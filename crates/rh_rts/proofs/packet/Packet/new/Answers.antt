use Rattle.rh_rts.specs.Packets.{parts}
use Rattle.rh_rts.proofs.Making.{is_sound}
use Rattle.rh_rts.proofs.packet.Packet.new.Goals as goal

pub of-requires-clause-sound : goal.of-requires-clause-sound
of-requires-clause-sound c =
    rw c.in_ok-commands.ensures
    (is_sound (parts c.args.flags c.args.commands.now) c.in_ok-length.ensures.size
    c.in_ok-length.ensures.verdict)
