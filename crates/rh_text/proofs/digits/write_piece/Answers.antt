use Rattle.rh_text.proofs.HexDigits.{hex_ascii}
use Rattle.rh_text.proofs.digits.write_piece.Goals as goal

pub push_ascii-requires : goal.push_ascii-requires
push_ascii-requires c = rw c.in-Ok.ensures.written (hex_ascii c.args.piece.now)
