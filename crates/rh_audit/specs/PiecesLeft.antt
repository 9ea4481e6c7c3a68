-- the bytes of a pipe that are left in lines
use Rattle.std.specs.Prelude.{ℕ, List, length}
use Rattle.rh_sig.specs.declared.name.Pipe.{Pipe}
use Rattle.rh_audit.specs.declared.pieces.Piece.{Piece}
use Rattle.rh_audit.specs.Captures.{carried}
use Rattle.rh_audit.specs.Pieces.{all_seen}

-- how many lines are left, and the bytes of the pipe in them
pub record PiecesLeft : Type 0 where
  pub lines : ℕ
  pub bytes : List ℕ

abbrev pub left_in : Pipe → List Piece → PiecesLeft
left_in pipe lines = record { lines = length lines; bytes = carried pipe (all_seen lines) }
