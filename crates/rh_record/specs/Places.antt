-- which line may stand where (profile)
use Rattle.std.specs.Prelude.{ℕ, List, [], ◌∷◌, Bool, true, false, not, IsTrue, get_or, slice_set}
use Rattle.rh_record.specs.declared.line.Key.{Key}
use Rattle.rh_record.specs.declared.line.Key.TheVariants as keys
use Rattle.rh_record.specs.declared.line.Line.{Line}
use Rattle.rh_record.specs.declared.line.Line.TheVariants.{First, Set}
use Rattle.rh_record.specs.declared.line.RecordKind.{RecordKind}
use Rattle.rh_record.specs.declared.line.RecordKind.TheVariants as kinds
use Rattle.rh_record.specs.declared.place.Keys.{Keys}
use Rattle.rh_record.specs.declared.place.Place.{Place}
use Rattle.rh_record.specs.declared.place.Place.TheVariants.{Header, Direct, Settings, Roles}
use Rattle.rh_text.specs.Lines.{Rules}
use Rattle.rh_record.specs.Recording.{IsLine, fits}

-- ---- the keys that were set

-- the place of a key in the order of the keys
abbrev pub key_place : Key → ℕ
key_place keys.Cwin = 0
key_place keys.Iwin = 1
key_place keys.Owin = 2
key_place keys.Swin = 3
key_place keys.Ilife = 4
key_place keys.Olife = 5
key_place keys.Itime = 6
key_place keys.Otime = 7
key_place keys.Keep = 8
key_place keys.Same = 9

-- none was set
abbrev pub no_keys : Keys
no_keys = record {
  set = false ∷ false ∷ false ∷ false ∷ false ∷ false ∷ false ∷ false ∷ false ∷ false ∷ [];
}

-- whether a key was set
abbrev pub has : Keys → Key → Bool
has set key = get_or set.set (key_place key) false

-- a key is set
abbrev pub with_key : Keys → Key → Keys
with_key set key = record { set = slice_set set.set (key_place key) true }

-- ---- places

-- what a line at a place may be
abbrev pub kind_of : Place → RecordKind
kind_of Header = kinds.Header
kind_of Direct = kinds.Direct
kind_of (Settings _) = kinds.Roles
kind_of Roles = kinds.Roles

-- whether a line may stand at a place: each key is set once, and before all else
abbrev pub may_stand : Place → Line → Bool
may_stand (Settings keys) (Set key _) = not (has keys key)
may_stand Roles (Set _ _) = false
may_stand _ _ = true

-- the place behind a line
abbrev pub next : Place → Line → Place
next Header (First true) = Settings no_keys
next Header _ = Direct
next Direct _ = Direct
next (Settings keys) (Set key _) = Settings (with_key keys key)
next (Settings _) _ = Roles
next Roles _ = Roles

-- a line may stand at a place
abbrev pub MayFollow : Place → Line → Type 0
MayFollow place line = IsTrue (fits (kind_of place) line) × IsTrue (may_stand place line)

-- the text is this line at this place
pub record Stands (place : Place) (text : List ℕ) (line : Line) : Type 0 where
  pub line_of : IsLine (kind_of place) text line
  pub standing : IsTrue (may_stand place line)

-- a recording may end behind its first line
abbrev pub MayEnd : Place → Type 0
MayEnd Header = ⊥
MayEnd _ = Unit {0}

-- a recording of either form: a first line, in a recording of roles settings, and then other lines
abbrev pub recording : Rules Place Line
recording = record { Spells = Stands; next = next; first = Header; MayEnd = MayEnd }
