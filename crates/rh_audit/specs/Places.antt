-- the places of RPC PDUs in a stream
use Rattle.std.specs.Prelude.{◌≡◌, ℕ, ◌+◌, ◌≤◌, List, [], ◌∷◌, drop, take, map, ⊤}
use Rattle.std.specs.Coded.{×_prop, Unit-prop, le_prop}
use Rattle.rh_sig.specs.declared.name.Pipe.{Pipe}
use Rattle.rh_audit.specs.declared.place.Place.{Place}
use Rattle.rh_audit.specs.declared.seen.Seen.{Seen}
use Rattle.rh_audit.specs.Captures.{carried}
use Rattle.rh_audit.specs.Chains.{pdus_in}

-- what stands at a place of a stream: so many of its bytes, behind so many others
abbrev pub bytes_at : List ℕ → Place → List ℕ
bytes_at bytes place = take place.len (drop place.at bytes)

abbrev pub all_at : List ℕ → List Place → List (List ℕ)
all_at bytes places = map (bytes_at bytes) places

-- the first is from here on, and each other one from the end of the one before it on
abbrev pub AreBehind : ℕ → List Place → Type 0
AreBehind from [] = ⊤
AreBehind from (place ∷ places) = (from ≤ place.at) × AreBehind (place.at + place.len) places

pub behind_prop : (from : ℕ) (places : List Place) → IsProp (AreBehind from places)
behind_prop from [] = Unit-prop
behind_prop from (place ∷ places) = ×_prop le_prop (behind_prop (place.at + place.len) places)

-- what stands at these places are the RPC PDUs of a pipe in lines: all of them, in order
abbrev pub AreIn : Pipe → List Seen → List Place → Type 0
AreIn pipe lines places = all_at (carried pipe lines) places ≡ pdus_in pipe lines

pub record ArePlaces (pipe : Pipe) (lines : List Seen) (places : List Place) : Type 0 where
  pub rising : AreBehind 0 places
  pub are : AreIn pipe lines places
