-- the lines of one tag at the front of lines
use Rattle.std.specs.Prelude.{◌≡◌, ◌++◌, List, ◌∷◌}
use Rattle.std.specs.List.{AllByRecursion}
use Rattle.rh_audit.specs.declared.pieces.Piece.{Piece}
use Rattle.rh_audit.specs.declared.seen.Seen.{Seen}
use Rattle.rh_audit.specs.declared.sorting.Run.{Run}
use Rattle.rh_audit.specs.Pieces.{all_seen}
use Rattle.rh_audit.specs.Pipes.{kind_of}
use Rattle.rh_audit.specs.Tags.{HasOther}

pub record IsFirstRun (lines : List Piece) (run : Run) (behind : List Piece) : Type 0 where
  pub first : Piece
  pub later : List Piece
  pub begins : run.lines.now ≡ first ∷ later
  pub joined : lines ≡ first ∷ (later ++ behind)
  pub tag : run.tag ≡ first.tag
  pub kind : run.kind ≡ kind_of first.pipe
  pub same : AllByRecursion (λ (line : Seen). line.tag ≡ first.tag) (all_seen later)
  pub other : HasOther first.tag (all_seen behind)
