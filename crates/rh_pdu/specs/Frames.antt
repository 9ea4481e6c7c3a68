-- frames of a stream, and PDUs
use Rattle.std.specs.Prelude.{ℕ, ◌≡◌, ◌≢◌, ◌<◌, ◌≤◌, ◌++◌, List, length, take, slice_index, None}
use Rattle.std.specs.List.{concat, AllByRecursion}
use Rattle.rh_pdu.specs.declared.header.TheConstants.{PTYPE_AT}
use Rattle.rh_pdu.specs.Header.{header_length, rts, frag_of, head_fault}

-- a header that breaks no rule, and as many bytes as it says
pub record IsFrame (bytes : List ℕ) : Type 0 where
  pub long : header_length ≤ length bytes
  pub head : head_fault bytes ≡ None
  pub whole : length bytes ≡ frag_of bytes

-- a frame that is no rts PDU
pub record IsPdu (bytes : List ℕ) : Type 0 where
  pub frame : IsFrame bytes
  pub not_rts : slice_index bytes PTYPE_AT ≢ rts

-- the bytes are these frames, one after the other, and then a rest of which no prefix is a frame
pub record Framed (bytes : List ℕ) (frames : List (List ℕ)) (rest : List ℕ) : Type 0 where
  pub joined : bytes ≡ concat frames ++ rest
  pub each : AllByRecursion IsFrame frames
  pub unfinished : (k : ℕ) → k ≤ length rest → IsFrame (take k rest) → ⊥

-- the header of the rest is whole, and breaks a rule
pub record IsBad (rest : List ℕ) : Type 0 where
  pub long : header_length ≤ length rest
  pub head : head_fault rest ≢ None

-- the header of the rest, once it is whole, breaks no rule, and its frame is not whole
abbrev pub IsUnfinished : List ℕ → Type 0
IsUnfinished rest =
    header_length ≤ length rest → (head_fault rest ≡ None) × (length rest < frag_of rest)
