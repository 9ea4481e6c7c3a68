-- the names of the frames so far are written, and those of the others are left
use Rattle.std.proofs.Common.{length, string_bytes}
use Rattle.rh_text.proofs.Appending.{IsWritten}
use Rattle.rh_pdu.specs.Cut.{frames_of}
use Rattle.rh_told.specs.Names.{names_among, names_text}
use Rattle.rh_told.proofs.names.write_names.Given as goal

abbrev pub invariant-frames : goal.invariant-frames
invariant-frames l =
    IsWritten (names_among l.pipe l.bytes) (string_bytes l.fn.out) (string_bytes l.out)
    (names_text l.pipe (frames_of l.rest))

abbrev pub decreases-frames : goal.decreases-frames
decreases-frames l = length l.rest
