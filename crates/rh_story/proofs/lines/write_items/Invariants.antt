-- the items so far are written, and those of the other bytes are left
use Rattle.std.proofs.Common.{string_bytes}
use Rattle.rh_story.proofs.LineTexts.{Walk}
use Rattle.rh_story.proofs.lines.write_items.Given as goal

abbrev pub invariant-bytes : goal.invariant-bytes
invariant-bytes l =
    Walk l.manner.moment l.manner.hex l.stream.leg l.stream.dir l.fn.held.items l.bytes
    (string_bytes l.fn.out) l.held.items (string_bytes l.out) l.byte-index
