-- the digits of a front are written, and those of the rest are left
use Rattle.std.proofs.Common.{length, string_bytes}
use Rattle.hex.specs.Hex.{encode_lower}
use Rattle.rh_text.proofs.Appending.{IsWritten}
use Rattle.rh_text.proofs.digits.write_hex.Given as goal

abbrev pub invariant-pieces : goal.invariant-pieces
invariant-pieces l =
    IsWritten (encode_lower l.bytes) (string_bytes l.fn.out) (string_bytes l.out)
    (encode_lower l.rest)

abbrev pub decreases-pieces : goal.decreases-pieces
decreases-pieces l = length l.rest
