-- a text is one recording of roles at most
use Rattle.std.proofs.Common.{◌≡◌, ℕ, List, []}
use Rattle.rh_record.specs.declared.line.Line.{Line}
use Rattle.rh_record.specs.declared.place.Place.{Place}
use Rattle.rh_record.specs.Readings.{no_empty, one_line_at}
use Rattle.rh_capture.specs.Recordings.{StandsInRoles}

pub one_line : (place : Place) (text : List ℕ) (a b : Line) → StandsInRoles place text a
    → StandsInRoles place text b → a ≡ b
one_line place text a b h k = one_line_at place text a b h.stands k.stands

pub none_empty : (place : Place) (line : Line) → StandsInRoles place [] line → ⊥
none_empty place line h = no_empty place line h.stands
