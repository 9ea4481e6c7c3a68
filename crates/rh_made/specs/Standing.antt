-- lines that may stand one after the other (profile)
use Rattle.std.specs.Prelude.{List, [], ◌∷◌}
use Rattle.rh_record.specs.declared.line.Line.{Line}
use Rattle.rh_record.specs.declared.place.Place.{Place}
use Rattle.rh_record.specs.Places.{MayEnd, MayFollow, next}

-- from a place on, each line may stand where it does, and the last of them may be the last
abbrev pub MayStand : Place → List Line → Type 0
MayStand place [] = MayEnd place
MayStand place (line ∷ lines) = MayFollow place line × MayStand (next place line) lines
