use Rattle.std.proofs.Common.{◌≡◌, ◌+◌, ◌<◌, ◌^◌, drop, length}
use Rattle.rh_rts.specs.Commands.{spellings, HaveSizes}
use Rattle.rh_rts.specs.Packets.{as_told}
use Rattle.rh_rts.proofs.packet.length_of.Given as goal

abbrev pub invariant-loop-command : goal.invariant-loop-command
invariant-loop-command l = (HaveSizes (drop l.command-index l.commands) → HaveSizes l.commands)
    × (l.sum < 2 ^ 64)
    × (as_told (l.sum + length (spellings (drop l.command-index l.commands))) ≡ as_told
    (20 + length (spellings l.commands)))
