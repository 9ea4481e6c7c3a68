-- lines whose bytes stand elsewhere
use Rattle.std.specs.Prelude.{List, map}
use Rattle.rh_audit.specs.declared.seen.Seen.{Seen}
use Rattle.rh_audit.specs.declared.pieces.Piece.{Piece}

abbrev pub seen_of : Piece → Seen
seen_of piece = record { tag = piece.tag; pipe = piece.pipe; bytes = piece.bytes.now }

abbrev pub all_seen : List Piece → List Seen
all_seen pieces = map seen_of pieces
