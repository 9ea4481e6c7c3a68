-- the Content-Length of a head (RFC 9112 sections 5 and 6.2; the ranges are this profile's)
use Rattle.std.specs.Prelude.{◌≡◌, ◌≢◌, ◌≤◌, ◌⊎◌, ◌||◌, ◌&&◌, ◌==◌, nat_le, ℕ, Bool, true, false, List, [], ◌∷◌, IsTrue, codes, if◌then◌else◌}
use Rattle.std.specs.Str.{bytes_eq, str_to_ascii_lowercase}
use Rattle.rh_keep.specs.Lifetimes.{is_lifetime}
use Rattle.rh_http.specs.declared.lengths.TheConstants.{GREATEST_ECHO, OPENS_OUT, REPLACES_OUT, GREATEST_RESPONSE, SUCCESS}
use Rattle.rh_http.specs.Numbers.{IsLengthText}

-- the names and the values of a head's fields, without the blanks round a value
abbrev pub Fields : Type 0
Fields = List (List ℕ × List ℕ)

-- a field's name is the same in either case
abbrev pub is_content_length : List ℕ → Bool
is_content_length name = bytes_eq (str_to_ascii_lowercase name) (codes "content-length")

-- the values of the fields with that name
abbrev pub lengths_of : Fields → List (List ℕ)
lengths_of [] = []
lengths_of (field ∷ fields) =
    if is_content_length field.0 then field.1 ∷ lengths_of fields else lengths_of fields

-- the field is there once, and spells this number of bytes
abbrev pub HasLength : Fields → ℕ → Type 0
HasLength fields n = (text : List ℕ) × (lengths_of fields ≡ text ∷ []) × IsLengthText text n

-- ---- requests

-- the most bytes of an echo request
abbrev pub greatest_echo : ℕ
greatest_echo = GREATEST_ECHO

-- the lengths of a request that opens a channel: the lifetime of an IN channel, or the bytes of the
-- packets that open an OUT channel or replace one
abbrev pub opens : Bool → ℕ → Bool
opens true n = is_lifetime n
opens false n = n == OPENS_OUT || n == REPLACES_OUT

-- it is an echo request, or opens a channel
abbrev pub may_ask : Bool → ℕ → Bool
may_ask inbound n = nat_le n greatest_echo || opens inbound n

-- the length of a request for an IN channel (true) or an OUT channel
abbrev pub AsksLength : Bool → Fields → ℕ → Type 0
AsksLength inbound fields n = HasLength fields n × IsTrue (may_ask inbound n)

-- ---- responses

-- the status of success
abbrev pub success : ℕ
success = SUCCESS

-- the greatest lifetime of an OUT channel, and the bytes for Pings
abbrev pub greatest_response : ℕ
greatest_response = GREATEST_RESPONSE

-- the length of a response; where its status isn't 200 and the field isn't there, 0
abbrev pub TellsLength : ℕ → Fields → ℕ → Type 0
TellsLength status fields n =
    (HasLength fields n × (n ≤ greatest_response))
    ⊎ ((status ≢ success) × (lengths_of fields ≡ []) × (n ≡ 0))
