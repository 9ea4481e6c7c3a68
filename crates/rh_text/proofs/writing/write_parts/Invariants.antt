-- the parts before a place are appended or gathered, and those from it on are left
use Rattle.std.proofs.Common.{◌≤◌, drop, take, length, string_bytes}
use Rattle.rh_text.specs.Writing.{parts_text}
use Rattle.rh_text.proofs.Appending.{IsGathered}
use Rattle.rh_text.proofs.writing.write_parts.Given as goal

abbrev pub invariant-loop-part : goal.invariant-loop-part
invariant-loop-part l =
    IsGathered (parts_text l.parts) (string_bytes l.fn.out) (string_bytes l.out)
    (take l.held l.room) (parts_text (drop l.part-index l.parts))
    × (l.held ≤ length l.room)
