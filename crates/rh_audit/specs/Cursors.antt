-- what is left of the bytes of a stream behind a place, and the PDU that ends there
use Rattle.std.specs.Prelude.{ℕ, ◌+◌, ◌-◌, List, drop, take, map}
use Rattle.rh_audit.specs.declared.place.Place.{Place}

pub record CursorLeft : Type 0 where
  pub at : ℕ
  pub bytes : List ℕ
  pub pdu : List ℕ

-- what stands at a place of the stream
abbrev pub left_at : ℕ → List ℕ → Place → List ℕ
left_at at bytes place = take place.len (drop (place.at - at) bytes)

abbrev pub all_left_at : ℕ → List ℕ → List Place → List (List ℕ)
all_left_at at bytes places = map (left_at at bytes) places

-- the PDU at the place was found, and what is behind it is left
abbrev pub behind : Place → CursorLeft → CursorLeft
behind place s = record {
  at = place.at + place.len;
  bytes = drop place.len (drop (place.at - s.at) s.bytes);
  pdu = left_at s.at s.bytes place;
}
