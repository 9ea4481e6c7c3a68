-- the streams of bytes of a recording: one for each leg and direction (profile)
use Rattle.std.specs.Prelude.{ℕ, List, [], ◌∷◌, map, codes, if◌then◌else◌, Some, None}
use Rattle.std.specs.BTreeMap.{insert_entry}
use Rattle.std.specs.declared.option.Option.{Option}
use Rattle.std.specs.Cmp.Lexicographic.{slice_cmp}
use Rattle.std.specs.Ordering.{is_eq, nat_cmp}
use Rattle.rh_text.specs.declared.ends.Dir.{Dir}
use Rattle.rh_text.specs.declared.ends.Dir.TheVariants.{U, D}
use Rattle.rh_line.specs.declared.leg.Leg.{Leg}
use Rattle.rh_line.specs.declared.leg.LegKind.{LegKind}
use Rattle.rh_line.specs.declared.leg.LegKind.TheVariants.{ClientOut, OutServer, ClientIn, InServer}
use Rattle.rh_sig.specs.declared.name.Pipe.{Pipe}
use Rattle.rh_sig.specs.declared.name.Pipe.TheVariants.{CiU, IsU, IsD, CoU, CoD, OsU, OsD}

-- ---- names

-- the pipe of a kind of leg and a direction; an in proxy answers its client by no packet
abbrev pub pipe_on : LegKind → Dir → Option Pipe
pipe_on ClientOut U = Some CoU
pipe_on ClientOut D = Some CoD
pipe_on OutServer U = Some OsU
pipe_on OutServer D = Some OsD
pipe_on ClientIn U = Some CiU
pipe_on ClientIn D = None
pipe_on InServer U = Some IsU
pipe_on InServer D = Some IsD

-- that of a stream; on the leg of a direct recording no packet stands
abbrev pub pipe_of : Option Leg → Dir → Option Pipe
pipe_of None dir = None
pipe_of (Some leg) dir = pipe_on leg.kind dir

-- from which node to which a leg goes, towards the server and towards the client
abbrev pub way_up : LegKind → List ℕ
way_up ClientOut = codes "c>o"
way_up OutServer = codes "o>s"
way_up ClientIn = codes "c>i"
way_up InServer = codes "i>s"

abbrev pub way_down : LegKind → List ℕ
way_down ClientOut = codes "o>c"
way_down OutServer = codes "s>o"
way_down ClientIn = codes "i>c"
way_down InServer = codes "s>i"

-- and a stream
abbrev pub way_word : Option Leg → Dir → List ℕ
way_word None U = codes "c>s"
way_word None D = codes "s>c"
way_word (Some leg) U = way_up leg.kind
way_word (Some leg) D = way_down leg.kind

-- ---- keys

abbrev pub kind_place : LegKind → ℕ
kind_place ClientOut = 1
kind_place OutServer = 2
kind_place ClientIn = 3
kind_place InServer = 4

abbrev pub dir_place : Dir → ℕ
dir_place U = 0
dir_place D = 1

-- a stream as its kind of leg, its number and its direction
abbrev pub key_of : Option Leg → Dir → List ℕ
key_of None dir = 0 ∷ 0 ∷ dir_place dir ∷ []
key_of (Some leg) dir = kind_place leg.kind ∷ leg.number ∷ dir_place dir ∷ []

-- ---- what is held of each

-- the bytes that are held of a stream, by its key
abbrev pub held_of : List (List ℕ × List ℕ) → List ℕ → List ℕ
held_of [] key = []
held_of (e ∷ entries) key =
    if is_eq (slice_cmp nat_cmp key e.0) then e.1 else held_of entries key

-- these bytes are held of one stream, and of the others what was; they stand in the keys' order
abbrev pub with_held : List (List ℕ × List ℕ) → List ℕ → List ℕ → List (List ℕ × List ℕ)
with_held entries key bytes = insert_entry (slice_cmp nat_cmp) entries key bytes

-- the bytes in a place, or none
abbrev pub bytes_in : {V : Type 0} → (V → List ℕ) → Option V → List ℕ
bytes_in bytes None = []
bytes_in bytes (Some v) = bytes v

-- the keys, and the bytes that stand at them in another form
abbrev pub seen_as : {V : Type 0} → (V → List ℕ) → List (List ℕ × V) → List (List ℕ × List ℕ)
seen_as {V} bytes entries = map (λ (e : List ℕ × V). (e.0, bytes e.1)) entries
