use Rattle.std.proofs.Common.{◌≡◌, ◌+◌, drop, length}
use Rattle.rh_rts.specs.Commands.{spellings, AreCommands}
use Rattle.rh_rts.specs.Writing.{over}
use Rattle.rh_rts.proofs.encoding.put_commands.Given as goal

abbrev pub invariant-loop-command : goal.invariant-loop-command
invariant-loop-command l =
    (over l.room l.place (spellings (drop l.command-index l.commands)) ≡ over l.initial.room l.at
    (spellings l.commands))
    × (l.place + length (spellings (drop l.command-index l.commands)) ≡ l.at + length
    (spellings l.commands))
    × AreCommands (drop l.command-index l.commands)
