-- the pairs before a place are decoded, and those behind it are left
use Rattle.std.proofs.Common.{◌≡◌, ◌*◌, take, drop}
use Rattle.hex.specs.Hex.{decode_pairs}
use Rattle.hex.proofs.Pairs.{prepend}
use Rattle.rh_text.proofs.digits.decode_whole.Given as goal

abbrev pub invariant-bytes : goal.invariant-bytes
invariant-bytes l =
    decode_pairs 0 l.text ≡ prepend (take l.i l.room)
    (decode_pairs (2 * l.i) (drop (2 * l.i) l.text))
