-- recordings of roles (profile)
use Rattle.std.specs.Prelude.{ℕ, List, Bool, true, false, IsTrue}
use Rattle.rh_text.specs.Lines.{Rules}
use Rattle.rh_record.specs.declared.line.Line.{Line}
use Rattle.rh_record.specs.declared.place.Place.{Place}
use Rattle.rh_record.specs.declared.place.Place.TheVariants.{Header, Direct, Settings, Roles}
use Rattle.rh_record.specs.Places.{MayEnd, Stands, next}

-- a place in a recording of roles, or before the first line
abbrev pub is_of_roles : Place → Bool
is_of_roles Header = true
is_of_roles Direct = false
is_of_roles (Settings keys) = true
is_of_roles Roles = true

-- the text is this line at this place, and it begins no other recording
pub record StandsInRoles (place : Place) (text : List ℕ) (line : Line) : Type 0 where
  pub stands : Stands place text line
  pub of_roles : IsTrue (is_of_roles (next place line))

abbrev pub roles_recording : Rules Place Line
roles_recording = record { Spells = StandsInRoles; next = next; first = Header; MayEnd = MayEnd }
