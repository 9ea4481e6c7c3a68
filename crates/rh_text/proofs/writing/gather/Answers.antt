use Rattle.std.proofs.Common.{IsUtf8, subst, sym}
use Rattle.std.proofs.lemmas.Str.{IsUtf8-from_ascii}
use Rattle.rh_text.specs.Writing.{part_text}
use Rattle.rh_text.proofs.HexDigits.{hex_ascii}
use Rattle.rh_text.proofs.writing.gather.Goals as goal

pub returns-in-Hex-clause-utf8 : goal.returns-in-Hex-clause-utf8
returns-in-Hex-clause-utf8 c =
    let digits = IsUtf8-from_ascii _ (hex_ascii c.in-Hex.bytes.now) in
    subst (λ part. IsUtf8 (part_text part)) (sym c.in-Hex.is) digits
