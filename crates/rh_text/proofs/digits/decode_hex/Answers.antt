use Rattle.std.proofs.Common.{length, arith}
use Rattle.std.proofs.lemmas.Bool.Decides.{nat_tests}
use Rattle.rh_text.proofs.HexReading.{hex_size}
use Rattle.rh_text.proofs.digits.decode_hex.Goals as goal

pub returns-then-count-eq0-clause-bytes : goal.returns-then-count-eq0-clause-bytes
returns-then-count-eq0-clause-bytes c = λ bytes h.
    let size = hex_size (length c.args.room.now) c.args.text.now bytes h in
    grind (arith, nat_tests, c.then-count-eq0.either, size.0, size.1, size.2)
